-- The numbers with which all machines begin.
use Rattle.std.proofs.Common.{◌≡◌, ◌<◌, ℕ, ◌∷◌, ◌++◌, ◌∙◌, Option, List, [], length, get_or, sym, subst, inl, inr, arith}
use Rattle.std.proofs.lemmas.Bool.{cases_lt}
use Rattle.std.proofs.lemmas.List.{get_or_push, length-append}
use Rattle.std.proofs.Math.ListN.{get_or-append}
use Rattle.gl_base.specs.declared.snapshots.Base.{Base}
use Rattle.partition.specs.declared.machine_numbers.keeping.Numbers.{Numbers}
use Rattle.placement.specs.graphs.Placed.{AreUnsetParts, IsUnsetPart, LocalView, Setting}
use Rattle.placement.specs.graphs.Beginnings.{EachMachineStarts, AreFirstNumbers, AreFreshTasks, BeginsAt, BeginsWith, CanEachMachineStart, CanBegin, IsReadyPart}

-- each machine of the first ones begins as the run does
abbrev pub BeginSoFar : List LocalView → Base → Option ℕ → List Numbers → Type 0
BeginSoFar parts base window all =
    (st : Setting) → AreUnsetParts st parts → BeginsWith st base → (a : ℕ) (d : Numbers) → a < length all → BeginsAt st a window (get_or all a d)

-- a part by its place
part_at : (st : Setting) (parts : List LocalView) (k : ℕ) (l : LocalView) → AreUnsetParts st parts → k < length parts → l ≡ get_or parts k l → IsUnsetPart st k l
part_at st parts k l are low at = subst (IsUnsetPart st k) (sym at) (are.each k l (subst (λ (n : ℕ). k < n) are.count low))

pub can_begin : (parts : List LocalView) (base : Base) (k : ℕ) (l : LocalView) → CanEachMachineStart parts base → k < length parts → l ≡ get_or parts k l → CanBegin l base
can_begin parts base k l can low at =
    let part = part_at can.st parts k l can.are_parts low at in
    record {
      st = can.st;
      graph = can.graph;
      part = subst (λ (a : ℕ). IsUnsetPart can.st a l) (sym part.machine) part;
      numbers = can.numbers;
    }

-- one machine more
pub begins_more : (parts : List LocalView) (base : Base) (window : Option ℕ) (all : List Numbers) (k : ℕ) (l : LocalView) (n : Numbers) →
    length all ≡ k → k < length parts → l ≡ get_or parts k l →
    ((st : Setting) → IsUnsetPart st l.me.0 l → BeginsWith st base → AreFirstNumbers st l.me.0 n) → ((st : Setting) → IsUnsetPart st l.me.0 l → IsReadyPart st l.me.0 n) → AreFreshTasks window n.tasks →
    BeginSoFar parts base window all → BeginSoFar parts base window (all ++ n ∷ [])
begins_more parts base window all k l n count low at numbers ready fresh so_far = λ st are begins a d below.
    elim (cases_lt a k) [
      | inl before ↦
          let inside : a < length all = subst (λ (m : ℕ). a < m) (sym count) before in
          subst (BeginsAt st a window) (sym (get_or-append all (n ∷ []) d a inside)) (so_far st are begins a d inside)
      | inr past ↦
          let last : a ≡ k = omega (arith, length-append all (n ∷ []), count, below) in
          let part = part_at st parts k l are low at in
          let mine : IsUnsetPart st l.me.0 l = subst (λ (m : ℕ). IsUnsetPart st m l) (sym part.machine) part in
          let here : BeginsAt st k window n =
          record {
            numbers = subst (λ (m : ℕ). AreFirstNumbers st m n) part.machine (numbers st mine begins);
            part = subst (λ (m : ℕ). IsReadyPart st m n) part.machine (ready st mine);
            fresh = fresh;
          } in
          subst (λ (m : ℕ). BeginsAt st m window (get_or (all ++ n ∷ []) m d)) (sym last)
          (subst (BeginsAt st k window) (sym (get_or_push all n d k count)) here)
    ]

pub all_begin : (parts : List LocalView) (base : Base) (window : Option ℕ) (all : List Numbers) → length all ≡ length parts → BeginSoFar parts base window all →
    (st : Setting) → AreUnsetParts st parts → BeginsWith st base → EachMachineStarts st window all
all_begin parts base window all many so_far st are begins =
    record {
      count = many ∙ are.count;
      each = λ a d low. so_far st are begins a d (subst (λ (n : ℕ). a < n) (sym (many ∙ are.count)) low);
    }
