use Rattle.std.proofs.Common.{◌≡◌, ℕ, ◌∙◌, refl, ap}
use Rattle.full_runs.proofs.ReadLemmas.{low_here, no_owner_beyond, owner_here}
use Rattle.full_runs.proofs.gathering.is_own_task.Goals as goal

pub returns-in-Some : goal.returns-in-Some
returns-in-Some c = λ st p w divided are.
    let a = c.owner_of.result.0 in
    let v = c.args.v.0 in
    let own : a ≡ st.owner v = owner_here st c.args.division.now v a divided c.owner_of.ensures in
    let seat = c.in-Some.ensures.some st p w are in
    c.is_task.ensures st (w.part a) seat.is (low_here st c.args.division.now v divided c.requires) ∙ ap (λ (b : ℕ). (w.part b).task v) own

pub returns-in-None : goal.returns-in-None
returns-in-None c = λ st p w divided are.
    absurd (no_owner_beyond st c.args.division.now c.args.v.0 c.owner_of.result.0 divided c.requires c.owner_of.ensures (c.in-None.ensures.none st p w are refl))
