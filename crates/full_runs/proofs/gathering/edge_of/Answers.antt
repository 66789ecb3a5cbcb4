use Rattle.std.proofs.Common.{◌≡◌, ℕ, ◌==◌, ◌||◌, ◌∙◌, Bool, Option, true, unwrap_or, refl, sym, ap, eq-eqb}
use Rattle.cluster_laws.specs.cluster_core.Copies.{from_owner, to_owner}
use Rattle.full_laws.specs.Items.{AnEdge, keeps}
use Rattle.full_runs.proofs.ReadLemmas.{begins_at, begins_low, edge_low_here, no_owner_beyond, owner_here}
use Rattle.full_runs.proofs.gathering.edge_of.Goals as goal

pub owner_of-requires : goal.owner_of-requires
owner_of-requires c =
    let ends = c.ends-ends.ensures in
    begins_low c.args.division.now.graph.now c.args.division.now.built c.args.e.0 c.ends-ends.result.0.0 ends.0 c.requires ends.1 ends.2

pub returns-in-Some : goal.returns-in-Some
returns-in-Some c = λ st p w divided are.
    let a = c.owner_of.result.0 in
    let e = c.args.e.0 in
    let ends = c.ends-ends.ensures in
    let from = begins_at st c.args.division.now e c.ends-ends.result.0.0 ends.0 divided ends.1 ends.2 in
    let own : a ≡ from_owner st e = owner_here st c.args.division.now c.ends-ends.result.0.0 a divided c.owner_of.ensures ∙ ap st.owner (sym from) in
    let seat = c.in-Some.ensures.some st p w are in
    let b = c.in-Some.machine.now.me.0 in
    let keep : keeps st b (AnEdge e) ≡ true = ap (λ (x : Bool). x || (to_owner st e == b)) (eq-eqb (from_owner st e) b (sym own ∙ sym seat.me)) in
    let read = c.edge.ensures st (w.part a) seat.is (edge_low_here st c.args.division.now e divided c.requires) keep in
    c.unwrap_or.ensures ∙ ap (λ (n : Option ℕ). unwrap_or n 0) read ∙ ap (λ (k : ℕ). (w.part k).number (AnEdge e)) own

pub returns-in-None : goal.returns-in-None
returns-in-None c = λ st p w divided are.
    let ends = c.ends-ends.ensures in
    let low = begins_low c.args.division.now.graph.now c.args.division.now.built c.args.e.0 c.ends-ends.result.0.0 ends.0 c.requires ends.1 ends.2 in
    absurd (no_owner_beyond st c.args.division.now c.ends-ends.result.0.0 c.owner_of.result.0 divided low c.owner_of.ensures (c.in-None.ensures.none st p w are refl))
