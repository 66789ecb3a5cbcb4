-- Entries that are looked at one by one.
use Rattle.std.proofs.Common.{◌≡◌, ℕ, suc, ◌+◌, ◌-◌, ◌*◌, ◌<◌, List, [], ◌∷◌, ◌++◌, Option, None, Some, ap, ◌∙◌, sym, arith, append_assoc}
use Rattle.gl_base.specs.declared.entries.Entry.{Entry}
use Rattle.store.specs.store_format.StoredOrders.{entry_at, entries_from}
use Rattle.std.specs.Option.{option_or}
use Rattle.store.specs.declared.store_format.header.Header.{Header}
use Rattle.store.specs.store_format.Entries.{rank_at, entry_fault, entries_fault}

-- behind an entry without a fault, those that follow it are looked at
pub entries_fault-next : (header : Header) (number least count i : ℕ) (body : List ℕ) (found : ℕ) → i < count → entry_fault header number least body (8 + 16 * i) ≡ None → found ≡ rank_at body (8 + 16 * i)
    → entries_fault header number least (count - i) body (8 + 16 * i) ≡ entries_fault header number found (count - (i + 1)) body (8 + 16 * (i + 1))
entries_fault-next header number least count i body found more none is =
    let left : count - i ≡ suc (count - (i + 1)) = omega arith in
    let place : 8 + 16 * i + 16 ≡ 8 + 16 * (i + 1) = omega arith in
    ap (λ (k : ℕ). entries_fault header number least k body (8 + 16 * i)) left
    ∙ ap (λ (o : Option ℕ). option_or o (entries_fault header number (rank_at body (8 + 16 * i)) (count - (i + 1)) body (8 + 16 * i + 16))) none
    ∙ ap (λ (r : ℕ). entries_fault header number r (count - (i + 1)) body (8 + 16 * i + 16)) (sym is)
    ∙ ap (entries_fault header number found (count - (i + 1)) body) place

-- the fault of the next entry is the first
pub entries_fault-here : (header : Header) (number least count i : ℕ) (body : List ℕ) (place : ℕ) → i < count → entry_fault header number least body (8 + 16 * i) ≡ Some place
    → entries_fault header number least (count - i) body (8 + 16 * i) ≡ Some place
entries_fault-here header number least count i body place more fault =
    let left : count - i ≡ suc (count - (i + 1)) = omega arith in
    ap (λ (k : ℕ). entries_fault header number least k body (8 + 16 * i)) left
    ∙ ap (λ (o : Option ℕ). option_or o (entries_fault header number (rank_at body (8 + 16 * i)) (count - (i + 1)) body (8 + 16 * i + 16))) fault

-- an entry more of a body
pub entries_next : (items more : List Entry) (entry : Entry) (count i : ℕ) (body : List ℕ) → i < count → entry ≡ entry_at body (8 + 16 * i) → more ≡ items ++ entry ∷ []
    → more ++ entries_from (count - (i + 1)) body (8 + 16 * (i + 1)) ≡ items ++ entries_from (count - i) body (8 + 16 * i)
entries_next items more entry count i body inside is added =
    let left : count - i ≡ suc (count - (i + 1)) = omega arith in
    let place : 8 + 16 * i + 16 ≡ 8 + 16 * (i + 1) = omega arith in
    ap (λ (l : List Entry). l ++ entries_from (count - (i + 1)) body (8 + 16 * (i + 1))) added
    ∙ append_assoc items (entry ∷ []) (entries_from (count - (i + 1)) body (8 + 16 * (i + 1)))
    ∙ ap (λ (e : Entry). items ++ (e ∷ entries_from (count - (i + 1)) body (8 + 16 * (i + 1)))) is
    ∙ ap (λ (a : ℕ). items ++ (entry_at body (8 + 16 * i) ∷ entries_from (count - (i + 1)) body a)) (sym place)
    ∙ ap (λ (k : ℕ). items ++ entries_from k body (8 + 16 * i)) (sym left)
