-- Lists of entries by ticket.
use Rattle.std.proofs.Common.{◌≡◌, ◌≤◌, ℕ, zero, suc, ◌+◌, List, [], ◌∷◌, ◌++◌, length, sym, subst, le_refl, le_trans, arith}
use Rattle.std.specs.List.{AllByRecursion}
use Rattle.gl_base.specs.declared.entries.Entry.{Entry}
use Rattle.gl_base.specs.declared.entries.Entry.TheVariants.{Go, Restart}
use Rattle.cluster_laws.specs.cluster_cuts.Goings.{AreUpdatesFrom}
use Rattle.cluster_laws.specs.cluster_model.ByTicket.{StandByTicket, restarts}

pub all_front : {X : Type 0} (P : X → Type 0) (xs ys : List X) → AllByRecursion P (xs ++ ys) → AllByRecursion P xs
all_front P [] ys all = tt
all_front P (x ∷ xs) ys all = (all.0, all_front P xs ys all.1)

pub all_back : {X : Type 0} (P : X → Type 0) (xs ys : List X) → AllByRecursion P (xs ++ ys) → AllByRecursion P ys
all_back P [] ys all = all
all_back P (x ∷ xs) ys all = all_back P xs ys all.1

pub all_weaker : {X : Type 0} (P Q : X → Type 0) → ((x : X) → P x → Q x) → (xs : List X) → AllByRecursion P xs → AllByRecursion Q xs
all_weaker P Q so [] all = tt
all_weaker P Q so (x ∷ xs) all = (so x all.0, all_weaker P Q so xs all.1)

pub all_both : {X : Type 0} (P Q R : X → Type 0) → ((x : X) → P x → Q x → R x) → (xs : List X) → AllByRecursion P xs → AllByRecursion Q xs → AllByRecursion R xs
all_both P Q R so [] one other = tt
all_both P Q R so (x ∷ xs) one other = (so x one.0 other.0, all_both P Q R so xs one.1 other.1)

pub le_suc_of : (low ticket : ℕ) → low ≤ ticket → low ≤ suc ticket
le_suc_of low ticket is = omega arith

pub stand_within : (low : ℕ) (order : List Entry) (high : ℕ) → StandByTicket low order high → low ≤ high
stand_within low [] high stand = stand
stand_within low (Go machine vertex ticket ∷ order) high stand = le_trans (le_suc_of low ticket stand.0) (stand_within (suc ticket) order high stand.1)
stand_within low (Restart ticket ∷ order) high stand = le_trans stand.0 (stand_within ticket order high stand.1)

pub stand_lower : (lower low : ℕ) (order : List Entry) (high : ℕ) → lower ≤ low → StandByTicket low order high → StandByTicket lower order high
stand_lower lower low [] high down stand = le_trans down stand
stand_lower lower low (Go machine vertex ticket ∷ order) high down stand = (le_trans down stand.0, stand.1)
stand_lower lower low (Restart ticket ∷ order) high down stand = (le_trans down stand.0, stand.1)

pub stand_higher : (low : ℕ) (order : List Entry) (high higher : ℕ) → high ≤ higher → StandByTicket low order high → StandByTicket low order higher
stand_higher low [] high higher up stand = le_trans stand up
stand_higher low (Go machine vertex ticket ∷ order) high higher up stand = (stand.0, stand_higher (suc ticket) order high higher up stand.1)
stand_higher low (Restart ticket ∷ order) high higher up stand = (stand.0, stand_higher ticket order high higher up stand.1)

pub stand_append : (low : ℕ) (order : List Entry) (middle : ℕ) (more : List Entry) (high : ℕ) → StandByTicket low order middle → StandByTicket middle more high → StandByTicket low (order ++ more) high
stand_append low [] middle more high stand then = stand_lower low middle more high stand then
stand_append low (Go machine vertex ticket ∷ order) middle more high stand then = (stand.0, stand_append (suc ticket) order middle more high stand.1 then)
stand_append low (Restart ticket ∷ order) middle more high stand then = (stand.0, stand_append ticket order middle more high stand.1 then)

none_more : (n : ℕ) → n ≤ n + 0
none_more n = omega arith

pub suc_more : (next n : ℕ) → suc next + n ≡ next + suc n
suc_more next n = omega arith

pub stand_made : (next : ℕ) (made : List Entry) → AreUpdatesFrom next made → StandByTicket next made (next + length made)
stand_made next [] tickets = none_more next
stand_made next (Restart ticket ∷ made) tickets = absurd tickets
stand_made next (Go machine vertex ticket ∷ made) tickets = (
  subst (λ (n : ℕ). next ≤ n) (sym tickets.0) (le_refl next),
  subst (λ (n : ℕ). StandByTicket (suc n) made (next + suc (length made))) (sym tickets.0)
      (subst (λ (n : ℕ). StandByTicket (suc next) made n) (suc_more next (length made)) (stand_made (suc next) made tickets.1)),
)

pub stand_restarts : (n ticket : ℕ) → StandByTicket ticket (restarts n ticket) ticket
stand_restarts zero ticket = le_refl ticket
stand_restarts (suc n) ticket = (le_refl ticket, stand_restarts n ticket)
