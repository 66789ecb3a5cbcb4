-- What each thing that a machine does leaves of its lists before and behind the marks.
use Rattle.std.proofs.Common.{◌≡◌, ◌≢◌, ◌⊎◌, ℕ, suc, ◌<◌, ◌≤◌, max, nat_lt, Bool, true, false, if◌then◌else◌, List, [], ◌∷◌, ◌++◌, sym, ◌∙◌, ap, subst, ⊎_elim, le_refl, arith}
use Rattle.std.specs.List.{AllByRecursion}
use Rattle.std.proofs.lemmas.Bool.{cond-false, cond-true, le-ltb, lt-ltb}
use Rattle.gl_base.specs.declared.entries.Entry.{Entry}
use Rattle.graph_core.proofs.HalvesLaws.{each-append}
use Rattle.cluster_laws.specs.cluster_core.Replays.{is_of}
use Rattle.cluster_laws.specs.cluster_model.Machines.{Machine}
use Rattle.cluster_laws.specs.cluster_model.Working.{before_at, behind_at}
use Rattle.whole_laws.specs.cluster_whole.Logged.{Logged}
use Rattle.whole_laws.specs.cluster_records.Listed.{IsListed, IsNextAtMost, entries_at, is_first_in}
use Rattle.whole_laws.proofs.cluster_records.Filtering.{in_no, in_other, in_yes, next_weaker, none_later, passing-more_in, passing-more_out}

max_low : (n k : ℕ) → k ≤ n → max n k ≡ n
max_low n k low = omega arith

max_high : (n k : ℕ) → n < k → max n k ≡ k
max_high n k high = omega arith

up_to_suc : (n : ℕ) → n ≤ suc n
up_to_suc n = omega arith

below_suc : (n k : ℕ) → n ≤ k → n < suc k
below_suc n k low = omega arith

suc_other : (n : ℕ) → suc n ≢ n
suc_other n is = omega arith

absurd_own : (b : Bool) → b ≡ false → b ≡ true → ⊥
absurd_own true is own = cc
absurd_own false is own = cc

-- the entries for a snapshot, as long as its section isn't sent
abbrev if_unsent : ℕ → ℕ → List Entry → List Entry
if_unsent sent known entries = if nat_lt sent known then entries else []

module _ (a : ℕ) (m : Machine) (logged : List Logged) (listed : IsListed a m logged) where
  -- nothing that the lists go by changes
  pub same_listed : (new : Machine) → new.before ≡ m.before → new.behind ≡ m.behind → new.part.known ≡ m.part.known → new.part.sent ≡ m.part.sent → IsListed a new logged
  same_listed new before behind known sent =
      record {
        before = before ∙ listed.before ∙ (λ i. if_unsent (sym sent i) (sym known i) (entries_at a (sym known i) logged));
        behind = behind ∙ listed.behind ∙ ap (λ (k : ℕ). entries_at a (suc k) logged) (sym known);
        next = subst (λ (k : ℕ). AllByRecursion (IsNextAtMost a k) logged) (sym known) listed.next;
      }

  -- it is told of snapshot k, which it knows or which is the next one
  pub told_listed : (k : ℕ) (new : Machine) → new.before ≡ before_at k m → new.behind ≡ behind_at k m → new.part.known ≡ max m.part.known k → new.part.sent ≡ m.part.sent →
      (k ≤ m.part.known) ⊎ ((k ≡ suc m.part.known) × (m.part.sent ≡ m.part.known)) → IsListed a new logged
  told_listed k new before behind known sent is =
      ⊎_elim
      (λ (old : k ≤ m.part.known).
      let none : nat_lt m.part.known k ≡ false = le-ltb m.part.known k old in
      same_listed new (before ∙ cond-false (nat_lt m.part.known k) (m.before ++ m.behind) m.before none) (behind ∙ cond-false (nat_lt m.part.known k) [] m.behind none)
      (known ∙ max_low m.part.known k old) sent)
      (λ (newer : (k ≡ suc m.part.known) × (m.part.sent ≡ m.part.known)).
      let high : m.part.known < k = subst (λ (n : ℕ). m.part.known < n) (sym newer.0) (below_suc m.part.known m.part.known (le_refl m.part.known)) in
      let yes_newer : nat_lt m.part.known k ≡ true = lt-ltb m.part.known k high in
      let now : new.part.known ≡ suc m.part.known = known ∙ max_high m.part.known k high ∙ newer.0 in
      let empty : m.before ≡ [] = listed.before ∙ cond-false (nat_lt m.part.sent m.part.known) (entries_at a m.part.known logged) []
      (le-ltb m.part.sent m.part.known (subst (λ (n : ℕ). m.part.known ≤ n) (sym newer.1) (le_refl m.part.known))) in
      let unsent : nat_lt new.part.sent new.part.known ≡ true =
      lt-ltb new.part.sent new.part.known (subst (λ (n : ℕ). n < new.part.known) (sym (sent ∙ newer.1)) (subst (λ (n : ℕ). m.part.known < n) (sym now) (below_suc m.part.known m.part.known (le_refl m.part.known)))) in
      record {
        before = before ∙ cond-true (nat_lt m.part.known k) (m.before ++ m.behind) m.before yes_newer ∙ ap (λ (es : List Entry). es ++ m.behind) empty ∙ listed.behind
            ∙ ap (λ (n : ℕ). entries_at a n logged) (sym now) ∙ sym (cond-true (nat_lt new.part.sent new.part.known) (entries_at a new.part.known logged) [] unsent);
        behind = behind ∙ cond-true (nat_lt m.part.known k) [] m.behind yes_newer
            ∙ sym (ap (λ (n : ℕ). entries_at a (suc n) logged) now ∙ none_later a m.part.known (suc (suc m.part.known)) logged (le_refl (suc (suc m.part.known))) listed.next);
        next = subst (λ (n : ℕ). AllByRecursion (IsNextAtMost a n) logged) (sym now) (next_weaker a m.part.known (suc m.part.known) logged (up_to_suc m.part.known) listed.next);
      })
      is

  -- it sends its section
  pub section_listed : (new : Machine) → new.before ≡ [] → new.behind ≡ m.behind → new.part.known ≡ m.part.known → new.part.sent ≡ m.part.known → IsListed a new logged
  section_listed new before behind known sent =
      record {
        before = before ∙ sym (cond-false (nat_lt new.part.sent new.part.known) (entries_at a new.part.known logged) []
            (le-ltb new.part.sent new.part.known (subst (λ (n : ℕ). n ≤ new.part.sent) (sym known) (subst (λ (n : ℕ). m.part.known ≤ n) (sym sent) (le_refl m.part.known)))));
        behind = behind ∙ listed.behind ∙ ap (λ (k : ℕ). entries_at a (suc k) logged) (sym known);
        next = subst (λ (k : ℕ). AllByRecursion (IsNextAtMost a k) logged) (sym known) listed.next;
      }

  -- an update of another machine
  pub other_logged : (l : Logged) → is_of a l.entry ≡ false → IsListed a m (logged ++ l ∷ [])
  other_logged l other =
      record {
        before = listed.before ∙ sym (ap (λ (es : List Entry). if_unsent m.part.sent m.part.known es) (passing-more_out (is_first_in a m.part.known) logged l (in_other a m.part.known l other)));
        behind = listed.behind ∙ sym (passing-more_out (is_first_in a (suc m.part.known)) logged l (in_other a (suc m.part.known) l other));
        next = each-append (IsNextAtMost a m.part.known) logged (l ∷ []) listed.next (λ own. absurd (absurd_own (is_of a l.entry) other own), tt);
      }

  -- it makes an update of a vertex without the mark of the snapshot that it knows, whose section isn't sent
  pub before_logged : (new : Machine) (l : Logged) → is_of a l.entry ≡ true → l.number ≡ m.part.known → m.part.sent < m.part.known →
      new.before ≡ m.before ++ l.entry ∷ [] → new.behind ≡ m.behind → new.part.known ≡ m.part.known → new.part.sent ≡ m.part.sent → IsListed a new (logged ++ l ∷ [])
  before_logged new l own number unsent before behind known sent =
      let now : nat_lt m.part.sent m.part.known ≡ true = lt-ltb m.part.sent m.part.known unsent in
      record {
        before = before ∙ ap (λ (es : List Entry). es ++ l.entry ∷ []) (listed.before ∙ cond-true (nat_lt m.part.sent m.part.known) (entries_at a m.part.known logged) [] now)
            ∙ sym (passing-more_in (is_first_in a m.part.known) logged l (in_yes a m.part.known l own number))
            ∙ sym (cond-true (nat_lt m.part.sent m.part.known) (entries_at a m.part.known (logged ++ l ∷ [])) [] now)
            ∙ (λ i. if_unsent (sym sent i) (sym known i) (entries_at a (sym known i) (logged ++ l ∷ [])));
        behind = behind ∙ listed.behind
            ∙ sym (passing-more_out (is_first_in a (suc m.part.known)) logged l (in_no a (suc m.part.known) l (λ is. suc_other m.part.known (sym is ∙ number))))
            ∙ ap (λ (k : ℕ). entries_at a (suc k) (logged ++ l ∷ [])) (sym known);
        next = subst (λ (k : ℕ). AllByRecursion (IsNextAtMost a k) (logged ++ l ∷ [])) (sym known)
            (each-append (IsNextAtMost a m.part.known) logged (l ∷ []) listed.next (λ is. subst (λ (n : ℕ). n ≤ suc m.part.known) (sym number) (up_to_suc m.part.known), tt));
      }

  -- or of one that has the mark
  pub behind_logged : (new : Machine) (l : Logged) → is_of a l.entry ≡ true → l.number ≡ suc m.part.known →
      new.before ≡ m.before → new.behind ≡ m.behind ++ l.entry ∷ [] → new.part.known ≡ m.part.known → new.part.sent ≡ m.part.sent → IsListed a new (logged ++ l ∷ [])
  behind_logged new l own number before behind known sent =
      record {
        before = before ∙ listed.before
            ∙ ap (λ (es : List Entry). if_unsent m.part.sent m.part.known es) (sym (passing-more_out (is_first_in a m.part.known) logged l (in_no a m.part.known l (λ is. suc_other m.part.known (sym number ∙ is)))))
            ∙ (λ i. if_unsent (sym sent i) (sym known i) (entries_at a (sym known i) (logged ++ l ∷ [])));
        behind = behind ∙ ap (λ (es : List Entry). es ++ l.entry ∷ []) listed.behind
            ∙ sym (passing-more_in (is_first_in a (suc m.part.known)) logged l (in_yes a (suc m.part.known) l own number))
            ∙ ap (λ (k : ℕ). entries_at a (suc k) (logged ++ l ∷ [])) (sym known);
        next = subst (λ (k : ℕ). AllByRecursion (IsNextAtMost a k) (logged ++ l ∷ [])) (sym known)
            (each-append (IsNextAtMost a m.part.known) logged (l ∷ []) listed.next (λ is. subst (λ (n : ℕ). n ≤ suc m.part.known) (sym number) (le_refl (suc m.part.known)), tt));
      }
