-- Each step goes on with the updates that are logged for snapshots.
use Rattle.std.proofs.Common.{◌≡◌, ◌⊎◌, ℕ, suc, ◌<◌, ◌≤◌, Bool, true, false, if◌then◌else◌, List, [], ◌∷◌, ◌++◌, filter, map, refl, sym, ◌∙◌, ap, subst, ⊎_elim, le_trans, le_antisymm, le-leb, leb-true, append-nil, arith}
use Rattle.std.specs.List.{AllByRecursion}
use Rattle.std.proofs.lemmas.Bool.{cases_lt, false_from_ne_true}
use Rattle.gl_base.specs.declared.entries.Entry.{Entry}
use Rattle.gl_base.specs.declared.entries.Entry.TheVariants.{Go}
use Rattle.graph_core.proofs.HalvesLaws.{each-append}
use Rattle.cluster_laws.specs.cluster_core.Cuts.{cut_of}
use Rattle.cluster_laws.specs.cluster_core.Marks.{mark_of}
use Rattle.cluster_laws.specs.cluster_core.Settings.{IsSetting, Setting}
use Rattle.cluster_laws.specs.cluster_core.Snapshots.{IsConsistent}
use Rattle.cluster_laws.specs.cluster_core.Worlds.{World}
use Rattle.cluster_laws.specs.cluster_cuts.Goings.{BeginsOne, IsOneStep, StaysSo, UpdatesOne}
use Rattle.whole_laws.specs.cluster_whole.Logged.{IsLogged, Logged, all_entries, entries_to, entry_of, is_up_to}

-- ---- one update more

abbrev kept_if : (Logged → Bool) → List Logged → List Entry
kept_if test logged = map entry_of (filter test logged)

map_more : (xs ys : List Logged) → map entry_of (xs ++ ys) ≡ map entry_of xs ++ map entry_of ys
map_more [] ys = refl
map_more (x ∷ xs) ys = ap (λ (es : List Entry). entry_of x ∷ es) (map_more xs ys)

filter_cons : (test : Logged → Bool) (x : Logged) (xs : List Logged) → filter test (x ∷ xs) ≡ (if test x then x ∷ filter test xs else filter test xs)
filter_cons test x xs = refl

step_in : (b : Bool) (x : Logged) (xs ys : List Logged) (more : List Entry) → map entry_of ys ≡ map entry_of xs ++ more → map entry_of (if b then x ∷ ys else ys) ≡ map entry_of (if b then x ∷ xs else xs) ++ more
step_in true x xs ys more is = ap (λ (es : List Entry). entry_of x ∷ es) is
step_in false x xs ys more is = is

by_truth : (l : Logged) (b : Bool) → map entry_of (if b then l ∷ [] else []) ≡ (if b then entry_of l ∷ [] else [])
by_truth l true = refl
by_truth l false = refl

one_if : (test : Logged → Bool) (l : Logged) (b : Bool) → test l ≡ b → map entry_of (filter test (l ∷ [])) ≡ (if b then entry_of l ∷ [] else [])
one_if test l b is = ap (λ (x : Bool). map entry_of (if x then l ∷ [] else [])) is ∙ by_truth l b

passing : (test : Logged → Bool) (logged : List Logged) (l : Logged) (b : Bool) → test l ≡ b → kept_if test (logged ++ l ∷ []) ≡ kept_if test logged ++ (if b then entry_of l ∷ [] else [])
passing test [] l b is = one_if test l b is
passing test (x ∷ logged) l b is = step_in (test x) x (filter test logged) (filter test (logged ++ l ∷ [])) (if b then entry_of l ∷ [] else []) (passing test logged l b is)

up_to_yes : (k : ℕ) (l : Logged) → l.number ≤ k → is_up_to k l ≡ true
up_to_yes k l low = le-leb l.number k low

not_both : (n k : ℕ) → n ≤ k → k < n → ⊥
not_both n k low high = omega arith

up_to_no : (k : ℕ) (l : Logged) → k < l.number → is_up_to k l ≡ false
up_to_no k l high = false_from_ne_true (is_up_to k l) (λ is. not_both l.number k (leb-true l.number k is) high)

all_pass : (k : ℕ) (x : Logged) (b : Bool) (xs ys : List Logged) → b ≡ true → map entry_of ys ≡ map entry_of xs → map entry_of (if b then x ∷ ys else ys) ≡ entry_of x ∷ map entry_of xs
all_pass k x b xs ys is same = ap (λ (c : Bool). map entry_of (if c then x ∷ ys else ys)) is ∙ ap (λ (es : List Entry). entry_of x ∷ es) same

all_up_to : (k : ℕ) (logged : List Logged) → AllByRecursion (λ l. l.number ≤ k) logged → entries_to k logged ≡ all_entries logged
all_up_to k [] all = refl
all_up_to k (l ∷ logged) all = all_pass k l (is_up_to k l) logged (filter (is_up_to k) logged) (up_to_yes k l all.0) (all_up_to k logged all.1)

le_up : (n k : ℕ) → n ≤ k → n ≤ suc k
le_up n k low = omega arith

all_later : (k : ℕ) (logged : List Logged) → AllByRecursion (λ l. l.number ≤ k) logged → AllByRecursion (λ l. l.number ≤ suc k) logged
all_later k [] all = tt
all_later k (l ∷ logged) all = (le_up l.number k all.0, all_later k logged all.1)

above : (n k : ℕ) → n ≤ k → n < suc k
above n k low = omega arith

suc_low : (n k : ℕ) → n ≤ k → suc n ≤ suc k
suc_low n k low = omega arith

-- ---- a step

module _ (st : Setting) (is : IsSetting st) (w : World) (kept : IsConsistent st w) (new : World) (logged : List Logged) (was : IsLogged st w kept logged) where
  abbrev Goes : IsConsistent st new → Type 0
  Goes next = (more : List Logged) × AllByRecursion (λ l. w.acknowledged < l.number) more × IsLogged st new next (logged ++ more)

  stays : (next : IsConsistent st new) → StaysSo st w kept new next → Goes next
  stays next same = (
    [],
    tt,
    subst (IsLogged st new next) (sym (append-nil logged)) (record {
      order = same.order ∙ was.order;
      cut = λ begun. (λ i. cut_of (same.count i) (same.order i)) ∙ was.cut (subst (λ (n : ℕ). st.base < n) same.begun begun) ∙ ap (λ (n : ℕ). entries_to n logged) (sym same.begun);
      low = subst (λ (n : ℕ). AllByRecursion (λ l. l.number ≤ suc n) logged) (sym same.begun) was.low;
    }),
  )

  updates : (next : IsConsistent st new) → UpdatesOne st w kept new next → Goes next
  updates next one =
      let entry : Entry = Go one.machine (record { 0 = one.vertex }) w.next in
      let l : Logged = record { entry = entry; number = suc (mark_of st w one.vertex) } in
      let mark_low : mark_of st w one.vertex ≤ w.begun = le_trans (kept.marks.marks one.vertex one.within).1 (kept.marks.known (st.owner one.vertex) (is.owner one.vertex one.within)).1 in (
        l ∷ [],
        (above w.acknowledged (mark_of st w one.vertex) (kept.marks.marks one.vertex one.within).0, tt),
        record {
          order = one.order ∙ ap (λ (es : List Entry). es ++ entry ∷ []) was.order ∙ sym (map_more logged (l ∷ []));
          cut = λ begun.
              let under : st.base < w.begun = subst (λ (n : ℕ). st.base < n) one.begun begun in
              ⊎_elim
              (λ (less : mark_of st w one.vertex < w.begun).
              (one.inside under less).1 ∙ ap (λ (es : List Entry). es ++ entry ∷ []) (was.cut under) ∙ sym (passing (is_up_to w.begun) logged l true (up_to_yes w.begun l less)))
              (λ (high : w.begun ≤ mark_of st w one.vertex).
              (one.outside under (le_antisymm mark_low high)).1 ∙ was.cut under ∙ sym (append-nil (entries_to w.begun logged)) ∙ sym (passing (is_up_to w.begun) logged l false (up_to_no w.begun l (suc_low w.begun (mark_of st w one.vertex) high))))
              (cases_lt (mark_of st w one.vertex) w.begun)
              ∙ ap (λ (n : ℕ). entries_to n (logged ++ l ∷ [])) (sym one.begun);
          low = subst (λ (n : ℕ). AllByRecursion (λ l. l.number ≤ suc n) (logged ++ l ∷ [])) (sym one.begun)
              (each-append (λ l. l.number ≤ suc w.begun) logged (l ∷ []) was.low (suc_low (mark_of st w one.vertex) w.begun mark_low, tt));
        },
      )

  begins : (next : IsConsistent st new) → BeginsOne st w kept new next → Goes next
  begins next one = (
    [],
    tt,
    subst (IsLogged st new next) (sym (append-nil logged)) (record {
      order = one.order ∙ was.order;
      cut = λ begun. one.whole ∙ one.order ∙ was.order ∙ sym (all_up_to (suc w.begun) logged was.low) ∙ ap (λ (n : ℕ). entries_to n logged) (sym one.begun);
      low = subst (λ (n : ℕ). AllByRecursion (λ l. l.number ≤ suc n) logged) (sym one.begun) (all_later (suc w.begun) logged was.low);
    }),
  )

  pub step_logs : (one : IsOneStep st w kept new) → (more : List Logged) × AllByRecursion (λ l. w.acknowledged < l.number) more × IsLogged st new one.next (logged ++ more)
  step_logs one =
      ⊎_elim
      (λ (same : StaysSo st w kept new one.next). stays one.next same)
      (λ (other : UpdatesOne st w kept new one.next ⊎ BeginsOne st w kept new one.next).
      ⊎_elim (λ (u : UpdatesOne st w kept new one.next). updates one.next u) (λ (b : BeginsOne st w kept new one.next). begins one.next b) other)
      one.how
