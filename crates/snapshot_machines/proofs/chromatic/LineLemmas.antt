-- Who stands in line behind each call.
use Rattle.std.proofs.Common.{◌≡◌, ◌≢◌, ◌⊎◌, ℕ, zero, suc, ◌<◌, ◌==◌, ◌&&◌, ◌||◌, not, Bool, true, false, true≢false, Option, None, Some, List, [], ◌∷◌, length, get_or, refl, sym, ap, ◌∙◌, subst, arith, inl, inr}
use Rattle.std.proofs.Math.Bool.{or-true}
use Rattle.std.proofs.lemmas.Bool.{and_from, and_parts, cases_eq, eq-eqb, eqb-true, ne_eqb, or_cases}
use Rattle.std.proofs.lemmas.Option.{get_or_from_slice_get, slice_get_within}
use Rattle.gl_base.specs.declared.numbers.Vertex.{Vertex}
use Rattle.cluster_laws.specs.cluster_core.Effects.{is_at}
use Rattle.cluster_laws.proofs.cluster_core.Basics.{same_truth}
use Rattle.partition.specs.declared.machine_numbers.keeping.Numbers.{Numbers}
use Rattle.partition.specs.machine_numbers.Views.{LocalView, is_flagged, is_in_update, place_at}
use Rattle.machine_core.proofs.machine_scopes.HeldLemmas.{stands_in}
use Rattle.machine_core.specs.color_parts.Enlisting.{HasEnlisted, is_such, is_free_such}
use Rattle.machine_core.specs.declared.color_parts.enlisting.Which.{Which}
use Rattle.machine_core.specs.declared.color_parts.enlisting.Which.TheVariants.{All, Pending}
use Rattle.machine_core.specs.color_parts.Parts.{LinesView, TasksView, is_in_line}
use Rattle.snapshot_machines.specs.chromatic.Inner.Keeping.{AreJustInLine, HasDueInLine}

-- ---- who is due

pub due_parts : (which : Which) (t : TasksView) (k : ℕ) → is_free_such which t k ≡ true → (is_such which t k ≡ true) × (is_flagged t.admitted k ≡ false)
due_parts which t k due =
    let both = and_parts (is_such which t k) (not (is_flagged t.admitted k)) due in
    (both.0, clear (is_flagged t.admitted k) both.1)
  where
    clear : (b : Bool) → not b ≡ true → b ≡ false
    clear true is = sym is
    clear false is = refl

pub due_from : (which : Which) (t : TasksView) (k : ℕ) → is_such which t k ≡ true → is_flagged t.admitted k ≡ false → is_free_such which t k ≡ true
due_from which t k flag clear = and_from (is_such which t k) (not (is_flagged t.admitted k)) flag (ap not clear)

-- ---- who stands where

-- at each of so many places stands a vertex, and at none two
pub record StandApart (l : LocalView) (count : ℕ) : Type 0 where
  pub stands : (k : ℕ) → k < count → (v : Vertex) × (place_at l v.0 ≡ Some k)
  pub apart : (x y k : ℕ) → place_at l x ≡ Some k → place_at l y ≡ Some k → x ≡ y

other_place : (l : LocalView) (count : ℕ) → StandApart l count → (u v : Vertex) (k p : ℕ) → place_at l u.0 ≡ Some k → place_at l v.0 ≡ Some p → k ≢ p → u.0 ≢ v.0
other_place l count who u v k p here there off same = off (some_is k p (sym here ∙ ap (place_at l) same ∙ there))
  where
    some_is : (a b : ℕ) → Some a ≡ Some b → a ≡ b
    some_is a b e = cc

-- ---- those that are named

-- these are so too now: they stood in line where they were not admitted, before they were so
module _ (which : Which) (n : Numbers) (t : TasksView) (old new : LinesView) (ws : List Vertex) (who : StandApart n.local (length n.tasks.task)) (many : length t.task ≡ length n.tasks.task) (flags : t.admitted ≡ n.tasks.admitted)
    (flag : (k : ℕ) (v : Vertex) → place_at n.local v.0 ≡ Some k → is_such which t k ≡ (is_in_update ws v.0 || is_such which n.tasks k)) (was : AreJustInLine which n.tasks old) (enlisted : HasEnlisted All n old new ws (length ws)) where
  admitted : (k : ℕ) → is_flagged t.admitted k ≡ is_flagged n.tasks.admitted k
  admitted k = ap (λ (fs : List Bool). is_flagged fs k) flags

  named : (i k : ℕ) (v : Vertex) → i < length ws → ((d : Vertex) → place_at n.local (get_or ws i d).0 ≡ Some k) → place_at n.local v.0 ≡ Some k → is_in_update ws v.0 ≡ true
  named i k v low here at =
      let same : (get_or ws i v).0 ≡ v.0 = who.apart (get_or ws i v).0 v.0 k (here v) at in
      named_at ws i v low same
    where
      named_at : (ws : List Vertex) (i : ℕ) (v : Vertex) → i < length ws → (get_or ws i v).0 ≡ v.0 → is_in_update ws v.0 ≡ true
      named_at [] i v low same = absurd (omega arith)
      named_at (w ∷ ws) zero v low same = ap (λ (b : Bool). b || is_in_update ws v.0) (eq-eqb w.0 v.0 same)
      named_at (w ∷ ws) (suc i) v low same = ap (λ (b : Bool). w.0 == v.0 || b) (named_at ws i v (omega arith) same) ∙ or-true (w.0 == v.0)

  sound : (k : ℕ) → k < length t.task → is_in_line new k ≡ true → is_free_such which t k ≡ true
  sound k low now =
      let v = who.stands k (omega (arith, low, many)) in
      elim (enlisted.free k now) [
        | inl stood ↦
            let parts = due_parts which n.tasks k (sym (was k (omega (arith, low, many))) ∙ stood) in
            due_from which t k (flag k v.0 v.1 ∙ ap (λ (b : Bool). is_in_update ws v.0.0 || b) parts.0 ∙ or-true (is_in_update ws v.0.0)) (admitted k ∙ parts.1)
        | inr both ↦
            let among = both.0 in
            due_from which t k
            (flag k v.0 v.1 ∙ ap (λ (b : Bool). b || is_such which n.tasks k) (named among.index k v.0 among.below among.here v.1))
            (admitted k ∙ (due_parts All n.tasks k both.1).1)
      ]

  complete : (k : ℕ) → k < length t.task → is_free_such which t k ≡ true → is_in_line new k ≡ true
  complete k low due =
      let inside : k < length n.tasks.task = omega (arith, low, many) in
      let v = who.stands k inside in
      let parts = due_parts which t k due in
      let clear : is_flagged n.tasks.admitted k ≡ false = sym (admitted k) ∙ parts.1 in
      elim (or_cases (is_in_update ws v.0.0) (is_such which n.tasks k) (sym (flag k v.0 v.1) ∙ parts.0)) [
        | inl named_one ↦
            let at = stands_in ws v.0.0 named_one in
            let same : get_or ws at.0 v.0 ≡ record { 0 = v.0.0 } = get_or_from_slice_get ws at.0 (record { 0 = v.0.0 }) v.0 at.1 in
            enlisted.each at.0 k v.0 (slice_get_within ws at.0 (record { 0 = v.0.0 }) at.1) (ap (λ (w : Vertex). place_at n.local w.0) same ∙ v.1) inside (due_from All n.tasks k refl clear)
        | inr flagged ↦ enlisted.kept k (was k inside ∙ due_from which n.tasks k flagged clear)
      ]

  pub named_in_line : AreJustInLine which t new
  named_in_line k low = same_truth (is_in_line new k) (is_free_such which t k) (sound k low) (complete k low)

-- ---- at a vertex that is admitted no more

-- its place, and who was admitted is so still but for it
pub record HasLeft (l : LocalView) (old new : TasksView) (v : Vertex) : Type 0 where
  pub place : ℕ
  pub at : place_at l v.0 ≡ Some place
  pub was : is_flagged old.admitted place ≡ true
  pub many : length new.task ≡ length old.task
  pub clear : is_flagged new.admitted place ≡ false
  pub others : (k : ℕ) → k ≢ place → is_flagged new.admitted k ≡ is_flagged old.admitted k

module _ (which : Which) (l : LocalView) (t u : TasksView) (v : Vertex) (who : StandApart l (length t.task)) (left : HasLeft l t u v) where
  -- who was due was another one
  pub due_other : (k : ℕ) → is_free_such which t k ≡ true → k ≢ left.place
  due_other k due same = true≢false (sym left.was ∙ ap (is_flagged t.admitted) (sym same) ∙ (due_parts which t k due).1)

  pub still_clear : (k : ℕ) → is_free_such which t k ≡ true → is_flagged u.admitted k ≡ false
  still_clear k due = left.others k (due_other k due) ∙ (due_parts which t k due).1

  pub was_clear : (k : ℕ) → k ≢ left.place → is_free_such which u k ≡ true → is_flagged t.admitted k ≡ false
  was_clear k off due = sym (left.others k off) ∙ (due_parts which u k due).1

-- where the vertex isn't so before and after, and the others are so as they were, the same ones stand in line
pub left_in_line : (which : Which) (l : LocalView) (t u : TasksView) (v : Vertex) (lines : LinesView) (left : HasLeft l t u v) → ((k : ℕ) → is_such which u k ≡ is_such which t k) → is_such which t left.place ≡ false
    → AreJustInLine which t lines → AreJustInLine which u lines
left_in_line which l t u v lines left flag none was k low =
    let many = left.many in
    was k (omega (arith, low, many)) ∙ elim (cases_eq k left.place) [
      | inl same ↦
          let before : is_such which t k ≡ false = ap (is_such which t) same ∙ none in
          ap (λ (b : Bool). b && not (is_flagged t.admitted k)) before ∙ sym (ap (λ (b : Bool). b && not (is_flagged u.admitted k)) (flag k ∙ before))
      | inr other ↦ ap (λ (b : Bool). b && not (is_flagged t.admitted k)) (sym (flag k)) ∙ ap (λ (b : Bool). is_such which u k && not b) (sym (left.others k other))
    ]

-- where the others are so as they were, and the vertex came to stand in line if it is so
pub back_in_line : (which : Which) (l : LocalView) (t u : TasksView) (v : Vertex) (old new : LinesView) → StandApart l (length t.task) → (left : HasLeft l t u v) → ((k : ℕ) → k < length t.task → is_such which u k ≡ is_such which t k)
    → AreJustInLine which t old → ((k : ℕ) → is_in_line old k ≡ true → is_in_line new k ≡ true)
    → ((k : ℕ) → is_in_line new k ≡ true → (is_in_line old k ≡ true) ⊎ ((place_at l v.0 ≡ Some k) × (is_free_such which u k ≡ true)))
    → ((k : ℕ) → place_at l v.0 ≡ Some k → k < length u.task → is_free_such which u k ≡ true → is_in_line new k ≡ true) → AreJustInLine which u new
back_in_line which l t u v old new who left flag was kept free there k low =
    let many = left.many in
    let inside : k < length t.task = omega (arith, low, many) in
    same_truth (is_in_line new k) (is_free_such which u k)
    (λ now. elim (free k now) [
      | inl stood ↦
          let due : is_free_such which t k ≡ true = sym (was k inside) ∙ stood in
          due_from which u k (flag k inside ∙ (due_parts which t k due).0) (still_clear which l t u v who left k due)
      | inr both ↦ both.1
    ])
    (λ due. elim (cases_eq k left.place) [
      | inl same ↦ there k (left.at ∙ ap Some (sym same)) low due
      | inr other ↦ kept k (was k inside ∙ due_from which t k (sym (flag k inside) ∙ (due_parts which u k due).0) (was_clear which l t u v who left k other due))
    ])

-- ---- those along the sides

-- the vertices stand at the places of those that come to be so
abbrev pub AreAmong : List Vertex → ℕ → (ℕ → Bool) → Type 0
AreAmong ends many new_ones = (u : ℕ) → new_ones u ≡ true → (i : ℕ) × (i < many) × ((d : Vertex) → (get_or ends i d).0 ≡ u)

module _ (which : Which) (n : Numbers) (t : TasksView) (v : Vertex) (old new : LinesView) (ends : List Vertex) (many_ends : ℕ) (fresh : ℕ → Bool) (who : StandApart n.local (length t.task)) (left : HasLeft n.local t n.tasks v)
    (among : AreAmong ends many_ends fresh) (was : AreJustInLine which t old) (enlisted : HasEnlisted which n old new ends many_ends) where
  -- who comes to be so stands in line where it is not admitted
  pub fresh_stands : (k : ℕ) (u : Vertex) → place_at n.local u.0 ≡ Some k → k < length n.tasks.task → fresh u.0 ≡ true → is_free_such which n.tasks k ≡ true → is_in_line new k ≡ true
  fresh_stands k u at low is_so due =
      let one = among u.0 is_so in
      enlisted.each one.0 k u one.1 (ap (place_at n.local) (one.2 u) ∙ at) low due

  -- who was so stands there still
  pub old_stands : (k : ℕ) (u : Vertex) → place_at n.local u.0 ≡ Some k → k < length n.tasks.task → (is_such which t k && not (u.0 == v.0)) ≡ true → is_free_such which n.tasks k ≡ true → is_in_line new k ≡ true
  old_stands k u at low both due =
      let many = left.many in
      let parts = and_parts (is_such which t k) (not (u.0 == v.0)) both in
      let off : k ≢ left.place = λ same. true≢false (sym (eq-eqb u.0 v.0 (who.apart u.0 v.0 k at (left.at ∙ ap Some (sym same)))) ∙ clear (u.0 == v.0) parts.1) in
      enlisted.kept k (was k (omega (arith, low, many)) ∙ due_from which t k parts.0 (was_clear which n.local t n.tasks v who left k off due))
    where
      clear : (b : Bool) → not b ≡ true → b ≡ false
      clear true is = sym is
      clear false is = refl

  -- who stands there is due
  pub near_sound : ((k : ℕ) (u : Vertex) → place_at n.local u.0 ≡ Some k → (is_such which t k && not (u.0 == v.0)) ≡ true → is_such which n.tasks k ≡ true) → (k : ℕ) → k < length n.tasks.task → is_in_line new k ≡ true → is_free_such which n.tasks k ≡ true
  near_sound stays k low now =
      let many = left.many in
      elim (enlisted.free k now) [
        | inl stood ↦
            let inside : k < length t.task = omega (arith, low, many) in
            let due : is_free_such which t k ≡ true = sym (was k inside) ∙ stood in
            let u = who.stands k inside in
            let off : u.0.0 ≢ v.0 = other_place n.local (length t.task) who u.0 v k left.place u.1 left.at (due_other which n.local t n.tasks v who left k due) in
            due_from which n.tasks k
            (stays k u.0 u.1 (and_from (is_such which t k) (not (u.0.0 == v.0)) (due_parts which t k due).0 (ap not (ne_eqb u.0.0 v.0 off))))
            (still_clear which n.local t n.tasks v who left k due)
        | inr both ↦ both.1
      ]

  pub near_in_line : ((k : ℕ) (u : Vertex) → place_at n.local u.0 ≡ Some k → is_such which n.tasks k ≡ (fresh u.0 || (is_such which t k && not (u.0 == v.0)))) → AreJustInLine which n.tasks new
  near_in_line flag k low =
      let many = left.many in
      same_truth (is_in_line new k) (is_free_such which n.tasks k)
      (near_sound (λ j u at both. flag j u at ∙ ap (λ (b : Bool). fresh u.0 || b) both ∙ or-true (fresh u.0)) k low)
      (λ due.
      let u = who.stands k (omega (arith, low, many)) in
      elim (or_cases (fresh u.0.0) (is_such which t k && not (u.0.0 == v.0)) (sym (flag k u.0 u.1) ∙ (due_parts which n.tasks k due).0)) [
        | inl is_so ↦ fresh_stands k u.0 u.1 low is_so due
        | inr both ↦ old_stands k u.0 u.1 low both due
      ])

-- ---- the one that is seeded

-- Pending are those that were meanwhile and, where nobody was, one more. Who was so meanwhile stands in line, and so does one who is due, where
-- there is one.
module _ (l : LocalView) (t : TasksView) (mid new : LinesView) (seed : Option ℕ) (meanwhile : ℕ → Bool) (who : StandApart l (length t.task)) (flag : (k : ℕ) (u : Vertex) → place_at l u.0 ≡ Some k → is_such Pending t k ≡ (is_at seed u.0 || meanwhile u.0))
    (alone : (k : ℕ) (u : Vertex) (s : ℕ) → place_at l u.0 ≡ Some k → k < length t.task → seed ≡ Some s → meanwhile u.0 ≡ false)
    (sound : (k : ℕ) → k < length t.task → is_in_line mid k ≡ true → is_free_such Pending t k ≡ true)
    (complete : (k : ℕ) (u : Vertex) → place_at l u.0 ≡ Some k → k < length t.task → meanwhile u.0 ≡ true → is_free_such Pending t k ≡ true → is_in_line mid k ≡ true)
    (kept : (k : ℕ) → is_in_line mid k ≡ true → is_in_line new k ≡ true)
    (due : (k : ℕ) → is_in_line new k ≡ true → (is_in_line mid k ≡ true) ⊎ (is_free_such Pending t k ≡ true))
    (first : (k : ℕ) → is_free_such Pending t k ≡ true → HasDueInLine t new) where
  seeded : (o : Option ℕ) (u : ℕ) → is_at o u ≡ true → o ≡ Some u
  seeded None u is = absurd (true≢false (sym is))
  seeded (Some s) u is = ap Some (eqb-true s u is)

  some_is : (a b : ℕ) → Some a ≡ Some b → a ≡ b
  some_is a b e = cc

  seed_stands : (k : ℕ) (u : Vertex) → place_at l u.0 ≡ Some k → is_at seed u.0 ≡ true → is_free_such Pending t k ≡ true → is_in_line new k ≡ true
  seed_stands k u at is_so now =
      let one = first k now in
      let w = who.stands one.place one.within in
      let is : seed ≡ Some u.0 = seeded seed u.0 is_so in
      elim (or_cases (is_at seed w.0.0) (meanwhile w.0.0) (sym (flag one.place w.0 w.1) ∙ (due_parts Pending t one.place one.due).0)) [
        | inl other ↦
            let same : w.0.0 ≡ u.0 = some_is w.0.0 u.0 (sym (seeded seed w.0.0 other) ∙ is) in
            let places : one.place ≡ k = some_is one.place k (sym w.1 ∙ ap (place_at l) same ∙ at) in
            subst (λ (j : ℕ). is_in_line new j ≡ true) places one.stands
        | inr more ↦ absurd (true≢false (sym more ∙ alone one.place w.0 u.0 w.1 one.within is))
      ]

  pub seed_in_line : AreJustInLine Pending t new
  seed_in_line k low =
      same_truth (is_in_line new k) (is_free_such Pending t k)
      (λ now. elim (due k now) [ inl stood ↦ sound k low stood | inr is ↦ is ])
      (λ is.
      let u = who.stands k low in
      elim (or_cases (is_at seed u.0.0) (meanwhile u.0.0) (sym (flag k u.0 u.1) ∙ (due_parts Pending t k is).0)) [
        | inl is_so ↦ seed_stands k u.0 u.1 is_so is
        | inr is_so ↦ kept k (complete k u.0 u.1 low is_so is)
      ])
