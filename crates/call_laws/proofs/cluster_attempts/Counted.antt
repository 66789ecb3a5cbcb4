-- What the snapshots of an attempt have are cuts of its updates, one after another.
use Rattle.std.proofs.Common.{◌≡◌, ◌≤◌, Bool, true, false, ℕ, suc, ◌==◌, if◌then◌else◌, List, [], ◌∷◌, map, refl, sym, ap, ◌∙◌, subst, ⊎_elim, le_refl, arith}
use Rattle.std.specs.List.{AllByRecursion}
use Rattle.std.proofs.lemmas.Bool.{cases_Bool, le-leb, leb-true}
use Rattle.gl_base.specs.declared.entries.Entry.{Entry}
use Rattle.gl_base.specs.declared.entries.Entry.TheVariants.{Go, Restart}
use Rattle.cluster_laws.specs.cluster_core.Settings.{Setting}
use Rattle.cluster_laws.specs.cluster_model.Leading.{Snapshot}
use Rattle.whole_laws.specs.cluster_whole.Logged.{Logged, all_entries, entries_to, is_up_to}
use Rattle.whole_laws.specs.cluster_records.Recorded.{GoOnByNumber, IsGoodSnapshot}
use Rattle.whole_laws.proofs.cluster_records.Filtering.{passing-cons_in, passing-cons_out}
use Rattle.call_laws.specs.attempts.Beginnings.{last_of}
use Rattle.cluster_laws.specs.cluster_runs.Attempts.{AreRising}
use Rattle.cluster_laws.specs.cluster_cuts.Goings.{AreUpdatesFrom}
use Rattle.cluster_laws.specs.cluster_core.Cuts.{Begins, cut_of, updates_at, updates_of}
use Rattle.call_laws.specs.cluster_attempts.CallsSoFar.{count_to, counts_of}
use Rattle.call_laws.proofs.cluster_attempts.Picking.{cut_picked, picked}

-- which of the updates snapshot k has
abbrev marks_of : ℕ → List Logged → List Bool
marks_of k logged = map (is_up_to k) logged

picked_if : (b : Bool) (bs : List Bool) (e : Entry) (es : List Entry) → picked (b ∷ bs) (e ∷ es) ≡ (if b then e ∷ picked bs es else picked bs es)
picked_if true bs e es = refl
picked_if false bs e es = refl

entries_picked : (k : ℕ) (logged : List Logged) → entries_to k logged ≡ picked (marks_of k logged) (all_entries logged)
entries_picked k [] = refl
entries_picked k (l ∷ logged) =
    ⊎_elim
    (λ (is : is_up_to k l ≡ true).
    passing-cons_in (is_up_to k) l logged is ∙ ap (λ (es : List Entry). l.entry ∷ es) (entries_picked k logged)
    ∙ sym (picked_if (is_up_to k l) (marks_of k logged) l.entry (all_entries logged)
    ∙ ap (λ (b : Bool). if b then l.entry ∷ picked (marks_of k logged) (all_entries logged) else picked (marks_of k logged) (all_entries logged)) is))
    (λ (not : is_up_to k l ≡ false).
    passing-cons_out (is_up_to k) l logged not ∙ entries_picked k logged
    ∙ sym (picked_if (is_up_to k l) (marks_of k logged) l.entry (all_entries logged)
    ∙ ap (λ (b : Bool). if b then l.entry ∷ picked (marks_of k logged) (all_entries logged) else picked (marks_of k logged) (all_entries logged)) not))
    (cases_Bool (is_up_to k l))

-- of each vertex the snapshot has the first updates
abbrev pub HasFirst : List Logged → ℕ → Type 0
HasFirst logged k = (v : ℕ) → Begins (updates_at v (entries_to k logged)) (updates_at v (all_entries logged))

pub cut_is : (k : ℕ) (logged : List Logged) (next : ℕ) → AreUpdatesFrom next (all_entries logged) → HasFirst logged k → cut_of (count_to logged k) (all_entries logged) ≡ entries_to k logged
cut_is k logged next tickets first =
    ap (λ (es : List Entry). cut_of (λ v. updates_of v es) (all_entries logged)) (entries_picked k logged)
    ∙ cut_picked (marks_of k logged) (all_entries logged) next tickets
    (λ v. subst (λ (es : List Entry). Begins (updates_at v es) (updates_at v (all_entries logged))) (entries_picked k logged) (first v))
    ∙ sym (entries_picked k logged)

-- ---- they rise

suc_both : (n k : ℕ) → n ≤ k → suc n ≤ suc k
suc_both n k is = omega arith

le_suc_of : (n k : ℕ) → n ≤ k → n ≤ suc k
le_suc_of n k is = omega arith

if_both : (b : Bool) (n k : ℕ) → n ≤ k → (if b then suc n else n) ≤ (if b then suc k else k)
if_both true n k is = suc_both n k is
if_both false n k is = is

if_more : (b : Bool) (n k : ℕ) → n ≤ k → n ≤ (if b then suc k else k)
if_more true n k is = le_suc_of n k is
if_more false n k is = is

both_more : (v : ℕ) (e : Entry) (xs ys : List Entry) → updates_of v xs ≤ updates_of v ys → updates_of v (e ∷ xs) ≤ updates_of v (e ∷ ys)
both_more v (Restart ticket) xs ys is = is
both_more v (Go m u t) xs ys is = if_both (u.0 == v) (updates_of v xs) (updates_of v ys) is

one_more : (v : ℕ) (e : Entry) (xs ys : List Entry) → updates_of v xs ≤ updates_of v ys → updates_of v xs ≤ updates_of v (e ∷ ys)
one_more v (Restart ticket) xs ys is = is
one_more v (Go m u t) xs ys is = if_more (u.0 == v) (updates_of v xs) (updates_of v ys) is

pub count_rises : (k : ℕ) (logged : List Logged) (v : ℕ) → count_to logged k v ≤ count_to logged (suc k) v
count_rises k [] v = le_refl 0
count_rises k (l ∷ logged) v =
    ⊎_elim
    (λ (is : is_up_to k l ≡ true).
    subst₂_le (updates_of v (entries_to k (l ∷ logged))) (updates_of v (l.entry ∷ entries_to k logged)) (updates_of v (entries_to (suc k) (l ∷ logged))) (updates_of v (l.entry ∷ entries_to (suc k) logged))
    (ap (updates_of v) (passing-cons_in (is_up_to k) l logged is))
    (ap (updates_of v) (passing-cons_in (is_up_to (suc k)) l logged (le-leb l.number (suc k) (le_suc_of l.number k (leb-true l.number k is)))))
    (both_more v l.entry (entries_to k logged) (entries_to (suc k) logged) (count_rises k logged v)))
    (λ (not : is_up_to k l ≡ false).
    subst (λ (n : ℕ). n ≤ updates_of v (entries_to (suc k) (l ∷ logged))) (sym (ap (updates_of v) (passing-cons_out (is_up_to k) l logged not)))
    (⊎_elim
    (λ (now : is_up_to (suc k) l ≡ true).
    subst (λ (n : ℕ). updates_of v (entries_to k logged) ≤ n) (sym (ap (updates_of v) (passing-cons_in (is_up_to (suc k)) l logged now)))
    (one_more v l.entry (entries_to k logged) (entries_to (suc k) logged) (count_rises k logged v)))
    (λ (later : is_up_to (suc k) l ≡ false).
    subst (λ (n : ℕ). updates_of v (entries_to k logged) ≤ n) (sym (ap (updates_of v) (passing-cons_out (is_up_to (suc k)) l logged later)))
    (count_rises k logged v))
    (cases_Bool (is_up_to (suc k) l))))
    (cases_Bool (is_up_to k l))
  where
    subst₂_le : (x a y b : ℕ) → x ≡ a → y ≡ b → a ≤ b → x ≤ y
    subst₂_le x a y b one other low = omega arith

pub counts_rise : (logged : List Logged) (low high : ℕ) (snapshots : List Snapshot) → GoOnByNumber low snapshots high → AreRising (count_to logged low) (counts_of logged snapshots)
counts_rise logged low high [] numbered = tt
counts_rise logged low high (snapshot ∷ snapshots) numbered =
    let is : count_to logged snapshot.number ≡ count_to logged (suc low) = ap (count_to logged) numbered.0 in (
      λ v. subst (λ (count : ℕ → ℕ). count_to logged low v ≤ count v) (sym is) (count_rises low logged v),
      subst (λ (count : ℕ → ℕ). AreRising count (counts_of logged snapshots)) (sym is) (counts_rise logged (suc low) high snapshots numbered.1),
    )

pub last_count : (logged : List Logged) (low high : ℕ) (snapshots : List Snapshot) → GoOnByNumber low snapshots high → last_of (count_to logged low) (counts_of logged snapshots) ≡ count_to logged high
last_count logged low high [] numbered = ap (count_to logged) (sym numbered)
last_count logged low high (snapshot ∷ snapshots) numbered =
    ap (λ (count : ℕ → ℕ). last_of count (counts_of logged snapshots)) (ap (count_to logged) numbered.0) ∙ last_count logged (suc low) high snapshots numbered.1

pub last_first : (st : Setting) (logged : List Logged) (low high : ℕ) (snapshots : List Snapshot) → GoOnByNumber low snapshots high → AllByRecursion (IsGoodSnapshot st logged) snapshots → HasFirst logged low → HasFirst logged high
last_first st logged low high [] numbered good first = subst (HasFirst logged) (sym numbered) first
last_first st logged low high (snapshot ∷ snapshots) numbered good first = last_first st logged (suc low) high snapshots numbered.1 good.1 (subst (HasFirst logged) numbered.0 good.0.first)
