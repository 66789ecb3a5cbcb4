-- An event of a cluster in code is an action of the model.
use Rattle.full_laws.specs.FullActions.{Admits, Delivers, FullAction, Grants, Sends, Updates}
use Rattle.full_cluster.specs.declared.events.FullEvent.{FullEvent}
use Rattle.full_cluster.specs.declared.events.FullEvent.TheVariants as told

-- the model's action
abbrev pub action_of : FullEvent → FullAction
action_of (told.Admit machine vertex) = Admits machine.0 vertex.0
action_of (told.Grant machine vertex) = Grants machine.0 vertex.0
action_of (told.Send from to) = Sends from.0 to.0
action_of (told.Deliver from to) = Delivers from.0 to.0
action_of (told.Update scope) = Updates scope
