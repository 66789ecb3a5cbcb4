-- A machine that has updated a vertex that was found, with its pipe as it is told.
use Rattle.std.proofs.Common.{◌≡◌, ℕ, ◌+◌, true, sym, subst}
use Rattle.gl_base.specs.declared.entries.Entry.TheVariants.{Go}
use Rattle.gl_base.specs.declared.numbers.Vertex.{Vertex}
use Rattle.partition.specs.declared.machine_numbers.keeping.Numbers.{Numbers}
use Rattle.machine_core.specs.declared.machine_parts.cores.Core.{Core}
use Rattle.machine_core.specs.machine_parts.Order.{IsOrderly, KnowsPlaces}
use Rattle.machine_core.specs.machine_parts.Parts.{PipeView, is_own, part_of}
use Rattle.machine_core.specs.machine_parts.Settings.{SameSettings}
use Rattle.machine_core.specs.machine_at_once.Inner.Making.{HasMadeHere}
use Rattle.machine_core.proofs.machine_at_once.Machines.{made_orderly, made_part, made_places, made_settled}
use Rattle.update_api.specs.Updates.{Update}
use Rattle.snapshot_machines.specs.saving.Updates.{HasUpdatedFound, at_once, entry_at_once}

module _ (p : Update) (m : Core) (new : Numbers) (v : Vertex) (ticket : ℕ) (is : IsOrderly m) (own : is_own m.numbers.local v.0 ≡ true) (made : HasMadeHere p m.numbers new v (Go m.numbers.local.me v ticket))
    (pipe : PipeView) (passed : pipe ≡ record m.pipe { serial = m.pipe.serial + 1 }) where
  abbrev found : Core
  found = record m { numbers = new; pipe = pipe }

  pub found_orderly : IsOrderly found
  found_orderly = subst (λ (q : PipeView). IsOrderly (record m { numbers = new; pipe = q })) (sym passed) (made_orderly p m new v ticket own made is)

  pub found_settled : SameSettings m found
  found_settled = subst (λ (q : PipeView). SameSettings m (record m { numbers = new; pipe = q })) (sym passed) (made_settled p m new v ticket own made is)

  pub found_places : KnowsPlaces m → KnowsPlaces found
  found_places knows = subst (λ (q : PipeView). KnowsPlaces (record m { numbers = new; pipe = q })) (sym passed) (made_places p m new v ticket own made is knows)

  pub found_updated : HasUpdatedFound p m found v ticket
  found_updated st setting part program =
      subst (λ (q : PipeView). part_of (record m { numbers = new; pipe = q }) ≡ at_once st m.numbers.local.me.0 v.0 (entry_at_once m.numbers.local.me.0 v.0 ticket) (part_of m)) (sym passed)
      (made_part p m new v ticket own made st part program)
