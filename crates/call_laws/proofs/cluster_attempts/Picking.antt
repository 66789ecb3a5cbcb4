-- A part of a list of updates that has of each vertex the first ones is the cut with these counts.
use Rattle.std.proofs.Common.{◌≡◌, ◌≢◌, ◌≤◌, Bool, true, false, ℕ, suc, pred, ◌==◌, List, [], ◌∷◌, ◌++◌, refl, sym, ap, ◌∙◌, subst, subst₂, ⊎_elim, le_refl, arith}
use Rattle.std.specs.List.{AllByRecursion}
use Rattle.std.proofs.lemmas.Bool.{cases_eq, cond-false, cond-true, eq-eqb, ne_eqb}
use Rattle.gl_base.specs.declared.entries.Entry.{Entry}
use Rattle.gl_base.specs.declared.entries.Entry.TheVariants.{Go, Restart}
use Rattle.gl_base.specs.declared.numbers.MachineNo.{MachineNo}
use Rattle.gl_base.specs.declared.numbers.Vertex.{Vertex}
use Rattle.cluster_laws.proofs.cluster_core.Basics.{set_at-here, set_at-there}
use Rattle.cluster_laws.specs.cluster_cuts.Goings.{AreUpdatesFrom}
use Rattle.cluster_laws.specs.cluster_core.Cuts.{Begins, cut_of, updates_at, updates_of}
use Rattle.cluster_laws.specs.cluster_core.Replays.{ticket_of}
use Rattle.call_laws.proofs.attempts.Cutting.{cut_none, either, one_less}

-- the entries that are marked
abbrev pub picked : List Bool → List Entry → List Entry
picked [] es = []
picked (b ∷ bs) [] = []
picked (true ∷ bs) (e ∷ es) = e ∷ picked bs es
picked (false ∷ bs) (e ∷ es) = picked bs es

pub all_picked : (P : Entry → Type 0) (bs : List Bool) (es : List Entry) → AllByRecursion P es → AllByRecursion P (picked bs es)
all_picked P [] es all = tt
all_picked P (b ∷ bs) [] all = tt
all_picked P (true ∷ bs) (e ∷ es) all = (all.0, all_picked P bs es all.1)
all_picked P (false ∷ bs) (e ∷ es) all = all_picked P bs es all.1

all_at : (P : Entry → Type 0) (v : ℕ) (es : List Entry) → AllByRecursion P es → AllByRecursion P (updates_at v es)
all_at P v [] all = tt
all_at P v (Restart ticket ∷ es) all = all_at P v es all.1
all_at P v (Go m u t ∷ es) all = either (AllByRecursion P) (u.0 == v) (Go m u t ∷ updates_at v es) (updates_at v es) (all.0, all_at P v es all.1) (all_at P v es all.1)

not_cons : (x : Entry) (xs : List Entry) → x ∷ xs ≡ [] → ⊥
not_cons x xs is = cc

tail_same : (x : Entry) (xs ys : List Entry) → x ∷ xs ≡ x ∷ ys → xs ≡ ys
tail_same x xs ys is = cc

head_same : (x y : Entry) (xs ys : List Entry) → x ∷ xs ≡ y ∷ ys → x ≡ y
head_same x y xs ys is = cc

at_here : (v : ℕ) (m : MachineNo) (u : Vertex) (t : ℕ) (es : List Entry) → u.0 ≡ v → updates_at v (Go m u t ∷ es) ≡ Go m u t ∷ updates_at v es
at_here v m u t es same = cond-true (u.0 == v) (Go m u t ∷ updates_at v es) (updates_at v es) (eq-eqb u.0 v same)

at_there : (v : ℕ) (m : MachineNo) (u : Vertex) (t : ℕ) (es : List Entry) → u.0 ≢ v → updates_at v (Go m u t ∷ es) ≡ updates_at v es
at_there v m u t es other = cond-false (u.0 == v) (Go m u t ∷ updates_at v es) (updates_at v es) (ne_eqb u.0 v other)

of_here : (v : ℕ) (m : MachineNo) (u : Vertex) (t : ℕ) (es : List Entry) → u.0 ≡ v → updates_of v (Go m u t ∷ es) ≡ suc (updates_of v es)
of_here v m u t es same = cond-true (u.0 == v) (suc (updates_of v es)) (updates_of v es) (eq-eqb u.0 v same)

of_there : (v : ℕ) (m : MachineNo) (u : Vertex) (t : ℕ) (es : List Entry) → u.0 ≢ v → updates_of v (Go m u t ∷ es) ≡ updates_of v es
of_there v m u t es other = cond-false (u.0 == v) (suc (updates_of v es)) (updates_of v es) (ne_eqb u.0 v other)

none_of : (v : ℕ) (es : List Entry) → updates_at v es ≡ [] → updates_of v es ≡ 0
none_of v [] none = refl
none_of v (Restart ticket ∷ es) none = none_of v es none
none_of v (Go m u t ∷ es) none =
    ⊎_elim
    (λ (same : u.0 ≡ v). absurd (not_cons (Go m u t) (updates_at v es) (sym (at_here v m u t es same) ∙ none)))
    (λ (other : u.0 ≢ v). of_there v m u t es other ∙ none_of v es (sym (at_there v m u t es other) ∙ none))
    (cases_eq u.0 v)

up_one : (n t : ℕ) → suc n ≤ t → n ≤ t
up_one n t is = omega arith

tickets_high : (next : ℕ) (es : List Entry) → AreUpdatesFrom next es → AllByRecursion (λ e. next ≤ ticket_of e) es
tickets_high next [] tickets = tt
tickets_high next (Restart ticket ∷ es) tickets = absurd tickets
tickets_high next (Go m u t ∷ es) tickets = (subst (λ (n : ℕ). next ≤ n) (sym tickets.0) (le_refl next), weaker es (tickets_high (suc next) es tickets.1))
  where
    weaker : (xs : List Entry) → AllByRecursion (λ e. suc next ≤ ticket_of e) xs → AllByRecursion (λ e. next ≤ ticket_of e) xs
    weaker [] all = tt
    weaker (x ∷ xs) all = (up_one next (ticket_of x) all.0, weaker xs all.1)

not_itself : (next t : ℕ) → t ≡ next → suc next ≤ t → ⊥
not_itself next t same up = omega arith

-- an update that is not picked has none of its vertex picked behind it
none_behind : (next : ℕ) (m : MachineNo) (u : Vertex) (t : ℕ) (es front : List Entry) → t ≡ next → AllByRecursion (λ e. suc next ≤ ticket_of e) front →
    Begins front (Go m u t ∷ es) → front ≡ []
none_behind next m u t es [] same high begins = refl
none_behind next m u t es (y ∷ front) same high begins =
    absurd (not_itself next t same (subst (λ (e : Entry). suc next ≤ ticket_of e) (sym (head_same (Go m u t) y es (front ++ begins.0) begins.1)) high.0))

suc_not : (n : ℕ) → suc n ≢ 0
suc_not n is = omega arith

pub cut_picked : (bs : List Bool) (es : List Entry) (next : ℕ) → AreUpdatesFrom next es → ((v : ℕ) → Begins (updates_at v (picked bs es)) (updates_at v es)) →
    cut_of (λ v. updates_of v (picked bs es)) es ≡ picked bs es
cut_picked [] es next tickets begins = cut_none next es tickets
cut_picked (b ∷ bs) [] next tickets begins = refl
cut_picked (b ∷ bs) (Restart ticket ∷ es) next tickets begins = absurd tickets
cut_picked (true ∷ bs) (Go m u t ∷ es) next tickets begins =
    let front : List Entry = picked bs es in
    let count : ℕ → ℕ = λ v. updates_of v (Go m u t ∷ front) in
    let own : count u.0 ≡ suc (updates_of u.0 front) = of_here u.0 m u t front refl in
    let left : (v : ℕ) → one_less count u.0 v ≡ updates_of v front =
    λ v. ⊎_elim
    (λ (same : u.0 ≡ v). set_at-here (λ (n : ℕ). n) count u.0 (pred (count u.0)) v (sym same) ∙ ap pred own ∙ ap (λ (x : ℕ). updates_of x front) same)
    (λ (other : u.0 ≢ v). set_at-there (λ (n : ℕ). n) count u.0 (pred (count u.0)) v (λ at. other (sym at)) ∙ of_there v m u t front other)
    (cases_eq u.0 v) in
    cond-false (count u.0 == 0) (cut_of count es) (Go m u t ∷ cut_of (one_less count u.0) es) (ne_eqb (count u.0) 0 (λ none. suc_not (updates_of u.0 front) (sym own ∙ none)))
    ∙ ap (λ (c : ℕ → ℕ). Go m u t ∷ cut_of c es) (λ i. λ v. left v i)
    ∙ ap (λ (xs : List Entry). Go m u t ∷ xs)
    (cut_picked bs es (suc next) tickets.1
    (λ v. ⊎_elim
    (λ (same : u.0 ≡ v). (
      (begins v).0,
      tail_same (Go m u t) (updates_at v es) (updates_at v front ++ (begins v).0)
          (sym (at_here v m u t es same) ∙ (begins v).1 ∙ ap (λ (xs : List Entry). xs ++ (begins v).0) (at_here v m u t front same)),
    ))
    (λ (other : u.0 ≢ v). subst₂ Begins (at_there v m u t front other) (at_there v m u t es other) (begins v))
    (cases_eq u.0 v)))
cut_picked (false ∷ bs) (Go m u t ∷ es) next tickets begins =
    let front : List Entry = picked bs es in
    let count : ℕ → ℕ = λ v. updates_of v front in
    let high : AllByRecursion (λ e. suc next ≤ ticket_of e) (updates_at u.0 front) =
    all_at (λ e. suc next ≤ ticket_of e) u.0 front (all_picked (λ e. suc next ≤ ticket_of e) bs es (tickets_high (suc next) es tickets.1)) in
    let none : updates_at u.0 front ≡ [] =
    none_behind next m u t (updates_at u.0 es) (updates_at u.0 front) tickets.0 high (subst (Begins (updates_at u.0 front)) (at_here u.0 m u t es refl) (begins u.0)) in
    cond-true (count u.0 == 0) (cut_of count es) (Go m u t ∷ cut_of (one_less count u.0) es) (eq-eqb (count u.0) 0 (none_of u.0 front none))
    ∙ cut_picked bs es (suc next) tickets.1
    (λ v. ⊎_elim
    (λ (same : u.0 ≡ v). subst (λ (xs : List Entry). Begins xs (updates_at v es)) (sym (ap (λ (x : ℕ). updates_at x front) (sym same) ∙ none)) (updates_at v es, refl))
    (λ (other : u.0 ≢ v). subst (Begins (updates_at v front)) (at_there v m u t es other) (begins v))
    (cases_eq u.0 v))
