-- What a cut keeps and leaves out.
use Rattle.std.proofs.Common.{◌≡◌, ◌<◌, ℕ, suc, pred, ◌+◌, ◌==◌, Bool, true, false, if◌then◌else◌, List, [], ◌∷◌, ◌++◌, length, IsPermutation, refl, subst, arith}
use Rattle.std.specs.List.{AllByRecursion}
use Rattle.std.proofs.lemmas.List.Sorted.{IsPermutation-cons, IsPermutation-middle, IsPermutation-refl, IsPermutation-trans}
use Rattle.gl_base.specs.declared.entries.Entry.{Entry}
use Rattle.gl_base.specs.declared.entries.Entry.TheVariants.{Go, Restart}
use Rattle.cluster_laws.specs.cluster_core.Ranges.{set_at}
use Rattle.call_laws.specs.attempts.Beginnings.{last_of, left_out, nothing}
use Rattle.cluster_laws.specs.cluster_cuts.Goings.{AreUpdatesFrom}
use Rattle.cluster_laws.specs.cluster_model.ByTicket.{StandByTicket}
use Rattle.cluster_laws.specs.cluster_core.Cuts.{cut_of}
use Rattle.cluster_laws.specs.cluster_core.Replays.{ticket_of}
use Rattle.call_laws.proofs.attempts.Standing.{le_suc_of, stand_lower, suc_more}

-- what holds of both holds of either
pub either : {X : Type 0} (P : X → Type 0) (b : Bool) (x y : X) → P x → P y → P (if b then x else y)
either P true x y one other = one
either P false x y one other = other

either_two : {X : Type 0} (P : X → X → Type 0) (b : Bool) (x y x' y' : X) → P x x' → P y y' → P (if b then x else y) (if b then x' else y')
either_two P true x y x' y' one other = one
either_two P false x y x' y' one other = other

-- what is left of the counts behind an update of v that the cut has
abbrev pub one_less : (ℕ → ℕ) → ℕ → ℕ → ℕ
one_less count v = set_at count v (pred (count v))

pub stand_cut : (count : ℕ → ℕ) (low : ℕ) (order : List Entry) (high : ℕ) → StandByTicket low order high → StandByTicket low (cut_of count order) high
stand_cut count low [] high stand = stand
stand_cut count low (Restart ticket ∷ order) high stand = (stand.0, stand_cut count ticket order high stand.1)
stand_cut count low (Go m v t ∷ order) high stand =
    either (λ (es : List Entry). StandByTicket low es high) (count v.0 == 0) (cut_of count order) (Go m v t ∷ cut_of (one_less count v.0) order)
    (stand_lower low (suc t) (cut_of count order) high (le_suc_of low t stand.0) (stand_cut count (suc t) order high stand.1))
    (stand.0, stand_cut (one_less count v.0) (suc t) order high stand.1)

pub stand_left : (count : ℕ → ℕ) (low : ℕ) (order : List Entry) (high : ℕ) → StandByTicket low order high → StandByTicket low (left_out count order) high
stand_left count low [] high stand = stand
stand_left count low (Restart ticket ∷ order) high stand = stand_lower low ticket (left_out count order) high stand.0 (stand_left count ticket order high stand.1)
stand_left count low (Go m v t ∷ order) high stand =
    either (λ (es : List Entry). StandByTicket low es high) (count v.0 == 0) (Go m v t ∷ left_out count order) (left_out (one_less count v.0) order)
    (stand.0, stand_left count (suc t) order high stand.1)
    (stand_lower low (suc t) (left_out (one_less count v.0) order) high (le_suc_of low t stand.0) (stand_left (one_less count v.0) (suc t) order high stand.1))

pub all_cut : (P : Entry → Type 0) (count : ℕ → ℕ) (order : List Entry) → AllByRecursion P order → AllByRecursion P (cut_of count order)
all_cut P count [] all = tt
all_cut P count (Restart ticket ∷ order) all = (all.0, all_cut P count order all.1)
all_cut P count (Go m v t ∷ order) all =
    either (AllByRecursion P) (count v.0 == 0) (cut_of count order) (Go m v t ∷ cut_of (one_less count v.0) order)
    (all_cut P count order all.1) (all.0, all_cut P (one_less count v.0) order all.1)

pub all_left : (P : Entry → Type 0) (count : ℕ → ℕ) (order : List Entry) → AllByRecursion P order → AllByRecursion P (left_out count order)
all_left P count [] all = tt
all_left P count (Restart ticket ∷ order) all = all_left P count order all.1
all_left P count (Go m v t ∷ order) all =
    either (AllByRecursion P) (count v.0 == 0) (Go m v t ∷ left_out count order) (left_out (one_less count v.0) order)
    (all.0, all_left P count order all.1) (all_left P (one_less count v.0) order all.1)

pub cut_none : (next : ℕ) (made : List Entry) → AreUpdatesFrom next made → cut_of nothing made ≡ []
cut_none next [] tickets = refl
cut_none next (Restart ticket ∷ made) tickets = absurd tickets
cut_none next (Go m v t ∷ made) tickets = cut_none (suc next) made tickets.1

pub last_holds : (P : (ℕ → ℕ) → Type 0) (count : ℕ → ℕ) (counts : List (ℕ → ℕ)) → P count → AllByRecursion P counts → P (last_of count counts)
last_holds P count [] here all = here
last_holds P count (later ∷ counts) here all = last_holds P later counts all.0 all.1

-- a cut and what it leaves out are together the updates
pub cut_and_left : (count : ℕ → ℕ) (next : ℕ) (made : List Entry) → AreUpdatesFrom next made → IsPermutation (cut_of count made ++ left_out count made) made
cut_and_left count next [] tickets = IsPermutation-refl []
cut_and_left count next (Restart ticket ∷ made) tickets = absurd tickets
cut_and_left count next (Go m v t ∷ made) tickets =
    let e : Entry = Go m v t in
    either_two (λ (one other : List Entry). IsPermutation (one ++ other) (e ∷ made)) (count v.0 == 0)
    (cut_of count made) (e ∷ cut_of (one_less count v.0) made) (e ∷ left_out count made) (left_out (one_less count v.0) made)
    (IsPermutation-trans (cut_of count made ++ e ∷ left_out count made) (e ∷ (cut_of count made ++ left_out count made)) (e ∷ made)
    (IsPermutation-middle (cut_of count made) e (left_out count made))
    (IsPermutation-cons e (cut_of count made ++ left_out count made) made (cut_and_left count (suc next) made tickets.1)))
    (IsPermutation-cons e (cut_of (one_less count v.0) made ++ left_out (one_less count v.0) made) made (cut_and_left (one_less count v.0) (suc next) made tickets.1))

first_below : (next t n : ℕ) → t ≡ next → t < next + suc n
first_below next t n same = omega arith

-- updates with tickets one by one are below the next one
pub made_below : (next : ℕ) (made : List Entry) → AreUpdatesFrom next made → AllByRecursion (λ entry. ticket_of entry < next + length made) made
made_below next [] tickets = tt
made_below next (Restart ticket ∷ made) tickets = absurd tickets
made_below next (Go m v t ∷ made) tickets = (
  first_below next t (length made) tickets.0,
  subst (λ (n : ℕ). AllByRecursion (λ entry. ticket_of entry < n) made) (suc_more next (length made)) (made_below (suc next) made tickets.1),
)
