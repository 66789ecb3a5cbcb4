-- What is on the links of a cluster: between machines, and behind the last of them from the coordinator and to it.
pub use Rattle.cluster_step.specs.clusters.Links.{LinkView, link_between, told_on}
use Rattle.std.specs.Prelude.{List, [], ⊤, ℕ, ◌∷◌}
use Rattle.cluster_laws.specs.cluster_model.Calls.{Report}
use Rattle.coordinator.specs.machine_api.Promises.{MessageView, TellsReport}

-- the messages on the link from p to q
abbrev pub messages_on : List (List LinkView) → ℕ → ℕ → List MessageView
messages_on links p q = (link_between links p q).messages

-- the messages are these reports, one by one
abbrev pub AreReports : List MessageView → List Report → Type 0
AreReports [] [] = ⊤
AreReports [] (report ∷ reports) = ⊥
AreReports (m ∷ messages) [] = ⊥
AreReports (m ∷ messages) (report ∷ reports) = TellsReport m report × AreReports messages reports
