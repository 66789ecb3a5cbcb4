-- What the sections of a snapshot bring together, and what all snapshots do.
use Rattle.std.proofs.Common.{◌≡◌, ◌≢◌, ◌⊎◌, ℕ, zero, suc, ◌<◌, ◌≤◌, true, false, List, [], ◌∷◌, ◌++◌, IsPermutation, refl, sym, ◌∙◌, ap, ap₂, subst, subst₂, ⊎_elim, le_refl, lt_trans, lt-suc_self, append_assoc, append-nil, arith}
use Rattle.std.specs.List.{AllByRecursion}
use Rattle.std.proofs.lemmas.Bool.{cases_eq, cases_order}
use Rattle.std.proofs.lemmas.List.Sorted.{IsPermutation-append_left, IsPermutation-append_right, IsPermutation-cons, IsPermutation-middle, IsPermutation-refl, IsPermutation-trans}
use Rattle.gl_base.specs.declared.entries.Entry.{Entry}
use Rattle.gl_base.specs.declared.entries.Entry.TheVariants.{Go, Restart}
use Rattle.cluster_laws.specs.cluster_core.Replays.{is_of}
use Rattle.cluster_laws.specs.cluster_core.Settings.{IsSetting, Setting}
use Rattle.cluster_laws.specs.cluster_model.Events.{entries_below, entries_in_all}
use Rattle.cluster_laws.specs.cluster_model.Leading.{Snapshot}
use Rattle.whole_laws.specs.cluster_whole.Logged.{Logged, entries_to, is_up_to}
use Rattle.whole_laws.specs.cluster_records.Listed.{entries_at, is_first_in}
use Rattle.whole_laws.specs.cluster_records.Recorded.{GoOnByNumber, HasNewUpdates, IsOwnUpdate, IsSinceBase}
use Rattle.whole_laws.proofs.cluster_records.Filtering.{in_no, in_other, in_yes, nothing_up_to, other_entry, own_entry, passing-cons_in, passing-cons_out, up_to_no, up_to_yes}

-- the updates of the first so many machines that snapshot k is the first to have, machine by machine
abbrev gathered : ℕ → ℕ → List Logged → List Entry
gathered zero k logged = []
gathered (suc a) k logged = gathered a k logged ++ entries_at a k logged

-- one of the first so many machines made it
abbrev pub IsMadeBelow : ℕ → Logged → Type 0
IsMadeBelow n l = (a : ℕ) × (a < n) × (is_of a l.entry ≡ true) × ((b : ℕ) → b ≢ a → is_of b l.entry ≡ false)

from : {xs ys us vs : List Entry} → xs ≡ us → ys ≡ vs → IsPermutation us vs → IsPermutation xs ys
from left right same = subst₂ IsPermutation (sym left) (sym right) same

none_gathered : (n k : ℕ) → gathered n k [] ≡ []
none_gathered zero k = refl
none_gathered (suc a) k = ap (λ (es : List Entry). es ++ []) (none_gathered a k)

-- of another snapshot, or of a machine further on
skips : (n k : ℕ) (l : Logged) (ls : List Logged) → ((a : ℕ) → a < n → is_first_in a k l ≡ false) → gathered n k (l ∷ ls) ≡ gathered n k ls
skips zero k l ls none = refl
skips (suc a) k l ls none =
    ap₂ (λ (xs ys : List Entry). xs ++ ys) (skips a k l ls (λ b low. none b (lt_trans low (lt-suc_self a)))) (passing-cons_out (is_first_in a k) l ls (none a (lt-suc_self a)))

none_below : (a : ℕ) → a < 0 → ⊥
none_below a low = omega arith

below : (a b : ℕ) → a < suc b → a ≢ b → a < b
below a b low off =
    ⊎_elim (λ (same : a ≡ b). absurd (off same)) (λ (more : (a < b) ⊎ (b < a)). ⊎_elim (λ (less : a < b). less) (λ (high : b < a). absurd (not_two a b low high)) more) (cases_order a b)
  where
    not_two : (a b : ℕ) → a < suc b → b < a → ⊥
    not_two a b low high = omega arith

not_less : (a b : ℕ) → b < a → b ≡ a → ⊥
not_less a b low same = omega arith

takes : (n k a : ℕ) (l : Logged) (ls : List Logged) → l.number ≡ k → is_of a l.entry ≡ true → ((b : ℕ) → b ≢ a → is_of b l.entry ≡ false) → a < n →
    IsPermutation (gathered n k (l ∷ ls)) (l.entry ∷ gathered n k ls)
takes zero k a l ls number own others low = absurd (none_below a low)
takes (suc n) k a l ls number own others low =
    ⊎_elim
    (λ (at : a ≡ n).
    from
    (ap₂ (λ (xs ys : List Entry). xs ++ ys)
    (skips n k l ls (λ b less. in_other b k l (others b (λ same. not_less n b less (same ∙ at)))))
    (passing-cons_in (is_first_in n k) l ls (in_yes n k l (subst (λ (b : ℕ). is_of b l.entry ≡ true) at own) number)))
    refl
    (IsPermutation-middle (gathered n k ls) l.entry (entries_at n k ls)))
    (λ (off : a ≢ n).
    from
    (ap (λ (es : List Entry). gathered n k (l ∷ ls) ++ es) (passing-cons_out (is_first_in n k) l ls (in_other n k l (others n (λ same. off (sym same))))))
    refl
    (IsPermutation-append_left (entries_at n k ls) (gathered n k (l ∷ ls)) (l.entry ∷ gathered n k ls) (takes n k a l ls number own others (below a n low off))))
    (cases_eq a n)

le_up : (n k : ℕ) → n < suc k → n ≤ k
le_up n k low = omega arith

le_more : (n k : ℕ) → n < suc k → n ≤ suc k
le_more n k low = omega arith

lower : (n k : ℕ) → n < k → n ≡ k → ⊥
lower n k less same = omega arith

higher : (n k : ℕ) → k < n → n ≡ k → ⊥
higher n k less same = omega arith

above : (n k : ℕ) → n ≡ suc k → k < n
above n k same = omega arith

above_more : (n k : ℕ) → suc k < n → k < n
above_more n k high = omega arith

-- what snapshot k has, and what the next one is the first to have, is what the next one has
new_gathered : (n k : ℕ) (ls : List Logged) → AllByRecursion (IsMadeBelow n) ls → IsPermutation (entries_to k ls ++ gathered n (suc k) ls) (entries_to (suc k) ls)
new_gathered n k [] all = from (none_gathered n (suc k)) refl (IsPermutation-refl [])
new_gathered n k (l ∷ ls) all =
    let rest = new_gathered n k ls all.1 in
    let made = all.0 in
    ⊎_elim
    (λ (now : l.number ≡ suc k).
    from
    (ap (λ (es : List Entry). es ++ gathered n (suc k) (l ∷ ls)) (passing-cons_out (is_up_to k) l ls (up_to_no k l (above l.number k now))))
    (passing-cons_in (is_up_to (suc k)) l ls (up_to_yes (suc k) l (subst (λ (m : ℕ). m ≤ suc k) (sym now) (le_refl (suc k)))))
    (IsPermutation-trans (entries_to k ls ++ gathered n (suc k) (l ∷ ls)) (entries_to k ls ++ l.entry ∷ gathered n (suc k) ls) (l.entry ∷ entries_to (suc k) ls)
    (IsPermutation-append_right (entries_to k ls) (gathered n (suc k) (l ∷ ls)) (l.entry ∷ gathered n (suc k) ls) (takes n (suc k) made.0 l ls now made.2 made.3 made.1))
    (IsPermutation-trans (entries_to k ls ++ l.entry ∷ gathered n (suc k) ls) (l.entry ∷ (entries_to k ls ++ gathered n (suc k) ls)) (l.entry ∷ entries_to (suc k) ls)
    (IsPermutation-middle (entries_to k ls) l.entry (gathered n (suc k) ls))
    (IsPermutation-cons l.entry (entries_to k ls ++ gathered n (suc k) ls) (entries_to (suc k) ls) rest))))
    (λ (other : (l.number < suc k) ⊎ (suc k < l.number)). ⊎_elim
    (λ (old : l.number < suc k).
    from
    (ap₂ (λ (xs ys : List Entry). xs ++ ys) (passing-cons_in (is_up_to k) l ls (up_to_yes k l (le_up l.number k old)))
    (skips n (suc k) l ls (λ a low. in_no a (suc k) l (lower l.number (suc k) old))))
    (passing-cons_in (is_up_to (suc k)) l ls (up_to_yes (suc k) l (le_more l.number k old)))
    (IsPermutation-cons l.entry (entries_to k ls ++ gathered n (suc k) ls) (entries_to (suc k) ls) rest))
    (λ (later : suc k < l.number).
    from
    (ap₂ (λ (xs ys : List Entry). xs ++ ys) (passing-cons_out (is_up_to k) l ls (up_to_no k l (above_more l.number k later)))
    (skips n (suc k) l ls (λ a low. in_no a (suc k) l (higher l.number (suc k) later))))
    (passing-cons_out (is_up_to (suc k)) l ls (up_to_no (suc k) l later))
    rest)
    other)
    (cases_order l.number (suc k))

-- the sections of a snapshot, machine by machine
below_gathered : (n : ℕ) (snapshot : Snapshot) (logged : List Logged) → ((a : ℕ) → a < n → (snapshot.sections a).entries ≡ entries_at a snapshot.number logged) → entries_below n snapshot ≡ gathered n snapshot.number logged
below_gathered zero snapshot logged has = refl
below_gathered (suc a) snapshot logged has =
    ap₂ (λ (xs ys : List Entry). xs ++ ys) (below_gathered a snapshot logged (λ b low. has b (lt_trans low (lt-suc_self a)))) (has a (lt-suc_self a))

module _ (st : Setting) (is : IsSetting st) where
  made_below : (l : Logged) (entry : Entry) → l.entry ≡ entry → IsOwnUpdate st entry → IsMadeBelow st.machines l
  made_below l (Go machine vertex ticket) same own = (
    machine.0,
    subst (λ (a : ℕ). a < st.machines) own.1 (is.owner vertex.0 own.0),
    ap (is_of machine.0) same ∙ own_entry machine.0 machine vertex ticket refl,
    λ b off. ap (is_of b) same ∙ other_entry b machine vertex ticket (λ at. off (sym at)),
  )
  made_below l (Restart ticket) same own = absurd own

  pub all_made : (logged : List Logged) → AllByRecursion (IsSinceBase st) logged → AllByRecursion (IsMadeBelow st.machines) logged
  all_made [] all = tt
  all_made (l ∷ logged) all = (made_below l l.entry refl all.0.1, all_made logged all.1)

  pub all_since : (logged : List Logged) → AllByRecursion (IsSinceBase st) logged → AllByRecursion (λ l. st.base < l.number) logged
  all_since [] all = tt
  all_since (l ∷ logged) all = (all.0.0, all_since logged all.1)

  module _ (logged : List Logged) (since : AllByRecursion (IsSinceBase st) logged) where
    -- what the snapshot before has, and what one more brings
    pub one_gathered : (low : ℕ) (snapshot : Snapshot) → snapshot.number ≡ suc low → HasNewUpdates st logged snapshot → IsPermutation (entries_to low logged ++ entries_below st.machines snapshot) (entries_to (suc low) logged)
    one_gathered low snapshot number has =
        from (ap (λ (es : List Entry). entries_to low logged ++ es) (below_gathered st.machines snapshot logged has ∙ ap (λ (k : ℕ). gathered st.machines k logged) number)) refl
        (new_gathered st.machines low logged (all_made logged since))

    pub more_gathered : (low high : ℕ) (snapshots : List Snapshot) → GoOnByNumber low snapshots high → AllByRecursion (HasNewUpdates st logged) snapshots → IsPermutation (entries_to low logged ++ entries_in_all st snapshots) (entries_to high logged)
    more_gathered low high [] numbered has = from (append-nil (entries_to low logged)) (ap (λ (k : ℕ). entries_to k logged) numbered) (IsPermutation-refl (entries_to low logged))
    more_gathered low high (snapshot ∷ snapshots) numbered has =
        let rest : List Entry = entries_in_all st snapshots in
        let own : List Entry = entries_below st.machines snapshot in
        from (sym (append_assoc (entries_to low logged) own rest)) refl
        (IsPermutation-trans ((entries_to low logged ++ own) ++ rest) (entries_to (suc low) logged ++ rest) (entries_to high logged)
        (IsPermutation-append_left rest (entries_to low logged ++ own) (entries_to (suc low) logged) (one_gathered low snapshot numbered.0 has.0))
        (more_gathered (suc low) high snapshots numbered.1 has.1))

    -- the entries of all snapshots are the updates that the last one has, each once
    pub all_gathered : (high : ℕ) (snapshots : List Snapshot) → GoOnByNumber st.base snapshots high → AllByRecursion (HasNewUpdates st logged) snapshots → IsPermutation (entries_in_all st snapshots) (entries_to high logged)
    all_gathered high snapshots numbered has =
        subst (λ (es : List Entry). IsPermutation (es ++ entries_in_all st snapshots) (entries_to high logged)) (nothing_up_to st.base logged (all_since logged since)) (more_gathered st.base high snapshots numbered has)
