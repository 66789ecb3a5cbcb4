-- What a machine counts as outside is its updates that the newest snapshot which it knows to be acknowledged doesn't have.
use Rattle.std.proofs.Common.{◌≡◌, ◌≢◌, ◌⊎◌, ℕ, zero, suc, ◌+◌, ◌<◌, ◌≤◌, nat_lt, true, false, List, [], ◌∷◌, ◌++◌, length, sum_by, refl, sym, ◌∙◌, ap, ap₂, subst, ⊎_elim, le_refl, length-append, zero-add, arith}
use Rattle.std.specs.List.{AllByRecursion}
use Rattle.std.proofs.lemmas.Bool.{and_from, and_left, and_parts, and_right, cases_Bool, cases_lt, cases_order, cond-false, cond-true, false_from_ne_true, le-ltb, lt-ltb, ltb-true}
use Rattle.std.proofs.lemmas.List.Sums.{sum_by-cons}
use Rattle.gl_base.specs.declared.entries.Entry.{Entry}
use Rattle.cluster_laws.specs.cluster_core.Replays.{is_of}
use Rattle.cluster_laws.specs.cluster_model.Machines.{Machine, outside}
use Rattle.whole_laws.specs.cluster_whole.Logged.{Logged}
use Rattle.whole_laws.specs.cluster_records.Listed.{IsListed, IsNextAtMost, entries_at, is_first_in}
use Rattle.whole_laws.specs.cluster_records.Wanting.{entries_outside, is_outside, sizes_from}
use Rattle.whole_laws.proofs.cluster_records.Filtering.{in_no, in_other, in_yes, passing-cons_in, passing-cons_out, passing-more_in, passing-more_out, passing-none}

pub out_yes : (a k : ℕ) (l : Logged) → is_of a l.entry ≡ true → k < l.number → is_outside a k l ≡ true
out_yes a k l own high = and_from (is_of a l.entry) (nat_lt k l.number) own (lt-ltb k l.number high)

pub out_no : (a k : ℕ) (l : Logged) → l.number ≤ k → is_outside a k l ≡ false
out_no a k l low = and_right (is_of a l.entry) (nat_lt k l.number) (le-ltb k l.number low)

out_other : (a k : ℕ) (l : Logged) → is_of a l.entry ≡ false → is_outside a k l ≡ false
out_other a k l other = and_left (is_of a l.entry) (nat_lt k l.number) other

-- how many
abbrev pub many_outside : ℕ → ℕ → List Logged → ℕ
many_outside a k logged = length (entries_outside a k logged)

abbrev many_at : ℕ → ℕ → List Logged → ℕ
many_at a k logged = length (entries_at a k logged)

out_in : (a k : ℕ) (l : Logged) (ls : List Logged) → is_outside a k l ≡ true → many_outside a k (l ∷ ls) ≡ suc (many_outside a k ls)
out_in a k l ls is = ap (λ (es : List Entry). length es) (passing-cons_in (is_outside a k) l ls is)

out_out : (a k : ℕ) (l : Logged) (ls : List Logged) → is_outside a k l ≡ false → many_outside a k (l ∷ ls) ≡ many_outside a k ls
out_out a k l ls is = ap (λ (es : List Entry). length es) (passing-cons_out (is_outside a k) l ls is)

at_in : (a k : ℕ) (l : Logged) (ls : List Logged) → is_first_in a k l ≡ true → many_at a k (l ∷ ls) ≡ suc (many_at a k ls)
at_in a k l ls is = ap (λ (es : List Entry). length es) (passing-cons_in (is_first_in a k) l ls is)

at_out : (a k : ℕ) (l : Logged) (ls : List Logged) → is_first_in a k l ≡ false → many_at a k (l ∷ ls) ≡ many_at a k ls
at_out a k l ls is = ap (λ (es : List Entry). length es) (passing-cons_out (is_first_in a k) l ls is)

sum_first : (x y z u v w : ℕ) → x ≡ suc u → y ≡ suc v → z ≡ w → u ≡ v + w → x ≡ y + z
sum_first x y z u v w one two three is = omega arith

sum_second : (x y z u v w : ℕ) → x ≡ suc u → y ≡ v → z ≡ suc w → u ≡ v + w → x ≡ y + z
sum_second x y z u v w one two three is = omega arith

sum_none : (x y z u v w : ℕ) → x ≡ u → y ≡ v → z ≡ w → u ≡ v + w → x ≡ y + z
sum_none x y z u v w one two three is = omega arith

at_most : (n k : ℕ) → n ≡ suc k → n ≤ suc k
at_most n k is = omega arith

higher_by : (n k : ℕ) → n ≡ suc k → k < n
higher_by n k is = omega arith

not_at : (n k : ℕ) → n < suc k → n ≡ suc k → ⊥
not_at n k low is = omega arith

not_at_high : (n k : ℕ) → suc k < n → n ≡ suc k → ⊥
not_at_high n k high is = omega arith

low_one : (n k : ℕ) → n < suc k → n ≤ k
low_one n k low = omega arith

low_more : (n k : ℕ) → n < suc k → n ≤ suc k
low_more n k low = omega arith

high_more : (n k : ℕ) → suc k < n → k < n
high_more n k high = omega arith

-- those of the next snapshot, and those outside that too
outside_split : (a k : ℕ) (ls : List Logged) → many_outside a k ls ≡ many_at a (suc k) ls + many_outside a (suc k) ls
outside_split a k [] = refl
outside_split a k (l ∷ ls) =
    let rest = outside_split a k ls in
    let x : ℕ = many_outside a k (l ∷ ls) in
    let y : ℕ = many_at a (suc k) (l ∷ ls) in
    let z : ℕ = many_outside a (suc k) (l ∷ ls) in
    let u : ℕ = many_outside a k ls in
    let v : ℕ = many_at a (suc k) ls in
    let w : ℕ = many_outside a (suc k) ls in
    ⊎_elim
    (λ (own : is_of a l.entry ≡ true). ⊎_elim
    (λ (at : l.number ≡ suc k).
    sum_first x y z u v w (out_in a k l ls (out_yes a k l own (higher_by l.number k at))) (at_in a (suc k) l ls (in_yes a (suc k) l own at)) (out_out a (suc k) l ls (out_no a (suc k) l (at_most l.number k at))) rest)
    (λ (off : (l.number < suc k) ⊎ (suc k < l.number)). ⊎_elim
    (λ (low : l.number < suc k).
    sum_none x y z u v w (out_out a k l ls (out_no a k l (low_one l.number k low))) (at_out a (suc k) l ls (in_no a (suc k) l (not_at l.number k low))) (out_out a (suc k) l ls (out_no a (suc k) l (low_more l.number k low))) rest)
    (λ (high : suc k < l.number).
    sum_second x y z u v w (out_in a k l ls (out_yes a k l own (high_more l.number k high))) (at_out a (suc k) l ls (in_no a (suc k) l (not_at_high l.number k high))) (out_in a (suc k) l ls (out_yes a (suc k) l own high)) rest)
    off)
    (cases_order l.number (suc k)))
    (λ (other : is_of a l.entry ≡ false).
    sum_none x y z u v w (out_out a k l ls (out_other a k l other)) (at_out a (suc k) l ls (in_other a (suc k) l other)) (out_out a (suc k) l ls (out_other a (suc k) l other)) rest)
    (cases_Bool (is_of a l.entry))

plus_suc : (k n : ℕ) → suc k + n ≡ k + suc n
plus_suc k n = omega arith

zero_plus : (k : ℕ) → k ≡ k + 0
zero_plus k = omega arith

add_sizes : (f s r t : ℕ) → f ≡ s + r → (u : ℕ) → r ≡ u + t → f ≡ s + u + t
add_sizes f s r t one u two = omega arith

-- the sizes of sections, and what is outside the last of them
pub sizes_split : (a k many : ℕ) (ls : List Logged) → many_outside a k ls ≡ sum_by (λ n. n) (sizes_from a (suc k) many ls) + many_outside a (k + many) ls
sizes_split a k zero ls = ap (λ (n : ℕ). many_outside a n ls) (zero_plus k) ∙ sym (zero-add (many_outside a (k + 0) ls))
sizes_split a k (suc many) ls =
    let rest : many_outside a (suc k) ls ≡ sum_by (λ n. n) (sizes_from a (suc (suc k)) many ls) + many_outside a (k + suc many) ls =
    sizes_split a (suc k) many ls ∙ ap (λ (n : ℕ). sum_by (λ n. n) (sizes_from a (suc (suc k)) many ls) + many_outside a n ls) (plus_suc k many) in
    add_sizes (many_outside a k ls) (many_at a (suc k) ls) (many_outside a (suc k) ls) (many_outside a (k + suc many) ls) (outside_split a k ls) (sum_by (λ n. n) (sizes_from a (suc (suc k)) many ls)) rest
    ∙ ap (λ (n : ℕ). n + many_outside a (k + suc many) ls) (sym (sum_by-cons (λ (n : ℕ). n) (many_at a (suc k) ls) (sizes_from a (suc (suc k)) many ls)))

not_out : (n k : ℕ) → n ≤ suc k → suc k < n → ⊥
not_out n k low high = omega arith

none_out : (a k : ℕ) (ls : List Logged) → AllByRecursion (IsNextAtMost a k) ls → AllByRecursion (λ l. is_outside a (suc k) l ≡ false) ls
none_out a k [] all = tt
none_out a k (l ∷ ls) all = (
  false_from_ne_true (is_outside a (suc k) l) (λ is. let both = and_parts (is_of a l.entry) (nat_lt (suc k) l.number) is in not_out l.number k (all.0 both.0) (ltb-true (suc k) l.number both.1)),
  none_out a k ls all.1,
)

plus_none : (n m : ℕ) → m ≡ 0 → n + m ≡ n
plus_none n m none = omega arith

same_number : (n k : ℕ) → n ≤ k → k ≤ n → n ≡ k
same_number n k one two = omega arith

next_number : (n k : ℕ) → n < k → k ≤ suc n → k ≡ suc n
next_number n k one two = omega arith

three : (u r before behind : ℕ) → r ≡ before + behind → u + r ≡ u + before + behind
three u r before behind is = omega arith

pub outside_is : (a : ℕ) (m : Machine) (logged : List Logged) → IsListed a m logged → (known_low : m.part.sent ≤ m.part.known) → m.part.known ≤ suc m.part.sent → (many : ℕ) → m.part.sent ≡ m.acknowledged + many →
    m.unsure ≡ sizes_from a (suc m.acknowledged) many logged → outside m ≡ many_outside a m.acknowledged logged
outside_is a m logged listed low few many sent unsure =
    let last : many_outside a (suc m.part.known) logged ≡ 0 = ap (λ (es : List Entry). length es) (passing-none (is_outside a (suc m.part.known)) logged (none_out a m.part.known logged listed.next)) in
    let behind : many_outside a m.part.known logged ≡ length m.behind =
    outside_split a m.part.known logged ∙ plus_none (many_at a (suc m.part.known) logged) (many_outside a (suc m.part.known) logged) last ∙ ap (λ (es : List Entry). length es) (sym listed.behind) in
    let both : many_outside a m.part.sent logged ≡ length m.before + length m.behind =
    ⊎_elim
    (λ (less : m.part.sent < m.part.known).
    let next : m.part.known ≡ suc m.part.sent = next_number m.part.sent m.part.known less few in
    outside_split a m.part.sent logged
    ∙ ap₂ (λ (x y : ℕ). x + y)
    (ap (λ (n : ℕ). many_at a n logged) (sym next) ∙ ap (λ (es : List Entry). length es) (sym (listed.before ∙ cond-true (nat_lt m.part.sent m.part.known) (entries_at a m.part.known logged) [] (lt-ltb m.part.sent m.part.known less))))
    (ap (λ (n : ℕ). many_outside a n logged) (sym next) ∙ behind))
    (λ (all : m.part.known ≤ m.part.sent).
    ap (λ (n : ℕ). many_outside a n logged) (same_number m.part.sent m.part.known low all) ∙ behind ∙ sym (zero-add (length m.behind))
    ∙ ap (λ (es : List Entry). length es + length m.behind) (sym (listed.before ∙ cond-false (nat_lt m.part.sent m.part.known) (entries_at a m.part.known logged) [] (le-ltb m.part.sent m.part.known all))))
    (cases_lt m.part.sent m.part.known) in
    ap (λ (ns : List ℕ). sum_by (λ n. n) ns + length m.before + length m.behind) unsure
    ∙ sym (three (sum_by (λ n. n) (sizes_from a (suc m.acknowledged) many logged)) (many_outside a m.part.sent logged) (length m.before) (length m.behind) both)
    ∙ sym (sizes_split a m.acknowledged many logged ∙ ap (λ (n : ℕ). sum_by (λ n. n) (sizes_from a (suc m.acknowledged) many logged) + many_outside a n logged) (sym sent))

-- ---- one update more

le_more : (n k : ℕ) → k ≡ suc n → n ≤ k
le_more n k is = omega arith

le_same : (n k : ℕ) → k ≡ n → n ≤ k
le_same n k is = omega arith

-- no fewer are outside
pub outside_more : (a k : ℕ) (logged : List Logged) (l : Logged) → many_outside a k logged ≤ many_outside a k (logged ++ l ∷ [])
outside_more a k logged l =
    ⊎_elim
    (λ (is : is_outside a k l ≡ true). subst (λ (es : List Entry). many_outside a k logged ≤ length es) (sym (passing-more_in (is_outside a k) logged l is)) (long_more (entries_outside a k logged) l.entry))
    (λ (is : is_outside a k l ≡ false). subst (λ (es : List Entry). many_outside a k logged ≤ length es) (sym (passing-more_out (is_outside a k) logged l is)) (le_refl (many_outside a k logged)))
    (cases_Bool (is_outside a k l))
  where
    up_one : (n : ℕ) → n ≤ n + 1
    up_one n = omega arith

    long_more : (es : List Entry) (e : Entry) → length es ≤ length (es ++ e ∷ [])
    long_more es e = subst (λ (n : ℕ). length es ≤ n) (sym (length-append es (e ∷ []))) (up_one (length es))

in_range : (k many n : ℕ) → k + suc many ≤ n → n ≢ k
in_range k many n high is = omega arith

-- the sizes of sections stay where the update is of a later snapshot, or of another machine
pub sizes_kept : (a k many : ℕ) (logged : List Logged) (l : Logged) → ((j : ℕ) → j < k + many → is_first_in a j l ≡ false) → sizes_from a k many (logged ++ l ∷ []) ≡ sizes_from a k many logged
sizes_kept a k zero logged l none = refl
sizes_kept a k (suc many) logged l none =
    ap₂ (λ (n : ℕ) (ns : List ℕ). n ∷ ns)
    (ap (λ (es : List Entry). length es) (passing-more_out (is_first_in a k) logged l (none k (here k many))))
    (sizes_kept a (suc k) many logged l (λ j low. none j (subst (λ (n : ℕ). j < n) (plus_suc k many) low)))
  where
    here : (k many : ℕ) → k < k + suc many
    here k many = omega arith

-- one section more
pub sizes_push : (a k many : ℕ) (logged : List Logged) → sizes_from a k (suc many) logged ≡ sizes_from a k many logged ++ length (entries_at a (k + many) logged) ∷ []
sizes_push a k zero logged = ap (λ (n : ℕ). length (entries_at a n logged) ∷ []) (zero_plus k)
sizes_push a k (suc many) logged =
    ap (λ (ns : List ℕ). length (entries_at a k logged) ∷ ns) (sizes_push a (suc k) many logged ∙ ap (λ (n : ℕ). sizes_from a (suc k) many logged ++ length (entries_at a n logged) ∷ []) (plus_suc k many))
