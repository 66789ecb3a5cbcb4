-- Where each own vertex has the mark of the newest snapshot that a machine knows, no vertex is seeded.
use Rattle.std.proofs.Common.{◌≡◌, ℕ, zero, suc, ◌+◌, ◌<◌, ◌≤◌, ◌==◌, ◌&&◌, Bool, true, false, if◌then◌else◌, Option, Some, None, refl, ap, ◌∙◌, arith, inl, inr}
use Rattle.std.specs.Prelude.{nat_lt}
use Rattle.std.proofs.lemmas.Bool.{cases_Bool}
use Rattle.gl_base.specs.declared.scopes.Datum.{Datum}
use Rattle.graph_core.specs.DataGraph.{size}
use Rattle.cluster_laws.specs.cluster_core.Effects.{first_unmarked, seed_if}
use Rattle.cluster_laws.specs.cluster_core.Ranges.{first_passing}
use Rattle.partition.specs.declared.machine_numbers.keeping.Numbers.{Numbers}
use Rattle.machine_core.specs.machine_parts.Parts.{Part, is_own, datum_here}
use Rattle.machine_core.specs.machine_parts.Order.{AreNumbersInOrder}
use Rattle.machine_core.specs.machine_parts.Settings.{Setting, IsLocalOf}

none_first : (test : ℕ → Bool) (k many : ℕ) → ((x : ℕ) → k ≤ x → x < k + many → test x ≡ false) → first_passing test k many ≡ None
unfolding first_passing
none_first test k zero fails = refl
none_first test k (suc many) fails =
    ap (λ (b : Bool). if b then Some k else first_passing test (suc k) many) (fails k (omega arith) (omega arith))
    ∙ none_first test (suc k) many (λ x from below. fails x (omega arith) (omega arith))

pub seed_none : (o : Option ℕ) → seed_if o None ≡ None
seed_none None = refl
seed_none (Some v) = refl

pub not_below : (a b : ℕ) → b ≤ a → nat_lt a b ≡ false
not_below a b up = grind (arith, up)

below : (a b : ℕ) → a < b → nat_lt a b ≡ true
below a b low = grind (arith, low)

pub no_seed : (st : Setting) (n : Numbers) (base : ℕ) (part : Part) → IsLocalOf st n.local → AreNumbersInOrder n base → part.datum ≡ datum_here n → part.known ≡ base → first_unmarked st n.local.me.0 part ≡ None
no_seed st n base part is numbers data_is known =
    let a = n.local.me.0 in
    let test : ℕ → Bool = λ v. st.owner v == a && nat_lt (part.datum v).mark part.known in
    none_first test 0 (size st.graph) (λ v from low. elim (cases_Bool (st.owner v == a)) [
      | inl mine ↦
          let inside : nat_lt v (size st.graph) ≡ true = below v (size st.graph) (omega arith) in
          let own : is_own n.local v ≡ true = is.own v ∙ ap (λ (b : Bool). b && st.owner v == a) inside ∙ mine in
          let marked : base ≤ (datum_here n v).mark = numbers.marks v own in
          let late : nat_lt (part.datum v).mark part.known ≡ false =
          ap (λ (f : ℕ → Datum). nat_lt (f v).mark part.known) data_is ∙ ap (λ (k : ℕ). nat_lt (datum_here n v).mark k) known ∙ not_below (datum_here n v).mark base marked in
          ap (λ (b : Bool). b && nat_lt (part.datum v).mark part.known) mine ∙ late
      | inr other ↦ ap (λ (b : Bool). b && nat_lt (part.datum v).mark part.known) other
    ])
