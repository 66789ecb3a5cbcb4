use Rattle.std.proofs.Common.{◌≡◌, ℕ, ◌∙◌, Option, true, unwrap_or, refl, sym, ap, eq-eqb}
use Rattle.full_laws.specs.Items.{AVertex, keeps}
use Rattle.full_runs.proofs.ReadLemmas.{low_here, no_owner_beyond, owner_here}
use Rattle.full_runs.proofs.gathering.number_of.Goals as goal

pub returns-in-Some : goal.returns-in-Some
returns-in-Some c = λ st p w divided are.
    let a = c.owner_of.result.0 in
    let v = c.args.v.0 in
    let own : a ≡ st.owner v = owner_here st c.args.division.now v a divided c.owner_of.ensures in
    let seat = c.in-Some.ensures.some st p w are in
    let keep : keeps st c.in-Some.machine.now.me.0 (AVertex v) ≡ true = eq-eqb (st.owner v) c.in-Some.machine.now.me.0 (sym own ∙ sym seat.me) in
    let read = c.number.ensures st (w.part a) seat.is (low_here st c.args.division.now v divided c.requires) keep in
    c.unwrap_or.ensures ∙ ap (λ (n : Option ℕ). unwrap_or n 0) read ∙ ap (λ (b : ℕ). (w.part b).number (AVertex v)) own

pub returns-in-None : goal.returns-in-None
returns-in-None c = λ st p w divided are.
    absurd (no_owner_beyond st c.args.division.now c.args.v.0 c.owner_of.result.0 divided c.requires c.owner_of.ensures (c.in-None.ensures.none st p w are refl))
