-- Which of the logged updates pass a test, and one more of them.
use Rattle.std.proofs.Common.{◌≡◌, ◌≢◌, ℕ, suc, ◌<◌, ◌≤◌, ◌==◌, Bool, true, false, if◌then◌else◌, List, [], ◌∷◌, ◌++◌, filter, map, refl, ◌∙◌, ap, append-nil, le-leb, leb-true, arith}
use Rattle.std.specs.List.{AllByRecursion}
use Rattle.std.proofs.lemmas.Bool.{and_from, and_left, and_parts, and_right, eq-eqb, eqb-true, false_from_ne_true, ne_eqb}
use Rattle.std.proofs.lemmas.List.{map-append}
use Rattle.std.proofs.lemmas.List.Elements.{filter-append}
use Rattle.gl_base.specs.declared.entries.Entry.{Entry}
use Rattle.gl_base.specs.declared.entries.Entry.TheVariants.{Go}
use Rattle.gl_base.specs.declared.numbers.MachineNo.{MachineNo}
use Rattle.gl_base.specs.declared.numbers.Vertex.{Vertex}
use Rattle.cluster_laws.specs.cluster_core.Replays.{is_of}
use Rattle.whole_laws.specs.cluster_whole.Logged.{Logged, all_entries, entries_to, entry_of, is_up_to}
use Rattle.whole_laws.specs.cluster_records.Listed.{IsNextAtMost, entries_at, is_first_in}

-- the entries of those that pass
abbrev pub passing : (Logged → Bool) → List Logged → List Entry
passing test logged = map entry_of (filter test logged)

pub passing-append : (test : Logged → Bool) (xs ys : List Logged) → passing test (xs ++ ys) ≡ passing test xs ++ passing test ys
passing-append test xs ys = ap (map entry_of) (filter-append test xs ys) ∙ map-append entry_of (filter test xs) (filter test ys)

pub passing-cons_in : (test : Logged → Bool) (l : Logged) (ls : List Logged) → test l ≡ true → passing test (l ∷ ls) ≡ l.entry ∷ passing test ls
passing-cons_in test l ls is = ap (λ (b : Bool). map entry_of (if b then l ∷ filter test ls else filter test ls)) is

pub passing-cons_out : (test : Logged → Bool) (l : Logged) (ls : List Logged) → test l ≡ false → passing test (l ∷ ls) ≡ passing test ls
passing-cons_out test l ls is = ap (λ (b : Bool). map entry_of (if b then l ∷ filter test ls else filter test ls)) is

pub passing-more_in : (test : Logged → Bool) (logged : List Logged) (l : Logged) → test l ≡ true → passing test (logged ++ l ∷ []) ≡ passing test logged ++ l.entry ∷ []
passing-more_in test logged l is = passing-append test logged (l ∷ []) ∙ ap (λ (es : List Entry). passing test logged ++ es) (passing-cons_in test l [] is)

pub passing-more_out : (test : Logged → Bool) (logged : List Logged) (l : Logged) → test l ≡ false → passing test (logged ++ l ∷ []) ≡ passing test logged
passing-more_out test logged l is =
    passing-append test logged (l ∷ []) ∙ ap (λ (es : List Entry). passing test logged ++ es) (passing-cons_out test l [] is) ∙ append-nil (passing test logged)

pub passing-none : (test : Logged → Bool) (logged : List Logged) → AllByRecursion (λ l. test l ≡ false) logged → passing test logged ≡ []
passing-none test [] all = refl
passing-none test (l ∷ logged) all = passing-cons_out test l logged all.0 ∙ passing-none test logged all.1

pub passing-none_more : (test : Logged → Bool) (logged more : List Logged) → AllByRecursion (λ l. test l ≡ false) more → passing test (logged ++ more) ≡ passing test logged
passing-none_more test logged more none =
    passing-append test logged more ∙ ap (λ (es : List Entry). passing test logged ++ es) (passing-none test more none) ∙ append-nil (passing test logged)

pub all-more : (logged more : List Logged) → all_entries (logged ++ more) ≡ all_entries logged ++ all_entries more
all-more logged more = map-append entry_of logged more

-- ---- of a snapshot

not_both : (n k : ℕ) → n ≤ k → k < n → ⊥
not_both n k low high = omega arith

pub up_to_yes : (k : ℕ) (l : Logged) → l.number ≤ k → is_up_to k l ≡ true
up_to_yes k l low = le-leb l.number k low

pub up_to_no : (k : ℕ) (l : Logged) → k < l.number → is_up_to k l ≡ false
up_to_no k l high = false_from_ne_true (is_up_to k l) (λ is. not_both l.number k (leb-true l.number k is) high)

pub all_up_to : (k : ℕ) (logged : List Logged) → AllByRecursion (λ l. l.number ≤ k) logged → entries_to k logged ≡ all_entries logged
all_up_to k [] all = refl
all_up_to k (l ∷ logged) all =
    passing-cons_in (is_up_to k) l logged (up_to_yes k l all.0) ∙ ap (λ (es : List Entry). l.entry ∷ es) (all_up_to k logged all.1)

none_up_to : (k : ℕ) (logged : List Logged) → AllByRecursion (λ l. k < l.number) logged → AllByRecursion (λ l. is_up_to k l ≡ false) logged
none_up_to k [] all = tt
none_up_to k (l ∷ logged) all = (up_to_no k l all.0, none_up_to k logged all.1)

-- none is of this snapshot or of one before
pub nothing_up_to : (k : ℕ) (logged : List Logged) → AllByRecursion (λ l. k < l.number) logged → entries_to k logged ≡ []
nothing_up_to k logged all = passing-none (is_up_to k) logged (none_up_to k logged all)

-- what is logged later is of later snapshots
pub later_kept : (k : ℕ) (logged more : List Logged) → AllByRecursion (λ l. k < l.number) more → entries_to k (logged ++ more) ≡ entries_to k logged
later_kept k logged more all = passing-none_more (is_up_to k) logged more (none_up_to k more all)

-- ---- of a machine and a snapshot

pub in_yes : (a k : ℕ) (l : Logged) → is_of a l.entry ≡ true → l.number ≡ k → is_first_in a k l ≡ true
in_yes a k l own is = and_from (is_of a l.entry) (l.number == k) own (eq-eqb l.number k is)

pub in_no : (a k : ℕ) (l : Logged) → l.number ≢ k → is_first_in a k l ≡ false
in_no a k l other = and_right (is_of a l.entry) (l.number == k) (ne_eqb l.number k other)

pub in_other : (a k : ℕ) (l : Logged) → is_of a l.entry ≡ false → is_first_in a k l ≡ false
in_other a k l other = and_left (is_of a l.entry) (l.number == k) other

too_high : (n k j : ℕ) → n ≤ suc k → suc k < j → n ≡ j → ⊥
too_high n k j low high is = omega arith

-- an update of a machine is of no later snapshot than the next one
pub none_later : (a k j : ℕ) (logged : List Logged) → suc k < j → AllByRecursion (IsNextAtMost a k) logged → entries_at a j logged ≡ []
none_later a k j [] high all = refl
none_later a k j (l ∷ logged) high all =
    passing-cons_out (is_first_in a j) l logged
    (false_from_ne_true (is_first_in a j l) (λ is. let both = and_parts (is_of a l.entry) (l.number == j) is in too_high l.number k j (all.0 both.0) high (eqb-true l.number j both.1)))
    ∙ none_later a k j logged high all.1

le_next : (n k j : ℕ) → n ≤ suc k → k ≤ j → n ≤ suc j
le_next n k j low up = omega arith

pub next_weaker : (a k j : ℕ) (logged : List Logged) → k ≤ j → AllByRecursion (IsNextAtMost a k) logged → AllByRecursion (IsNextAtMost a j) logged
next_weaker a k j [] up all = tt
next_weaker a k j (l ∷ logged) up all = (λ own. le_next l.number k j (all.0 own) up, next_weaker a k j logged up all.1)

-- ---- whose update it is

pub own_entry : (a : ℕ) (machine : MachineNo) (vertex : Vertex) (ticket : ℕ) → machine.0 ≡ a → is_of a (Go machine vertex ticket) ≡ true
own_entry a machine vertex ticket is = eq-eqb machine.0 a is

pub other_entry : (a : ℕ) (machine : MachineNo) (vertex : Vertex) (ticket : ℕ) → machine.0 ≢ a → is_of a (Go machine vertex ticket) ≡ false
other_entry a machine vertex ticket off = ne_eqb machine.0 a off
