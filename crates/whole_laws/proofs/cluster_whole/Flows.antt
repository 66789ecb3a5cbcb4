-- Sums over the machines, and how many messages are under way as parts and links change.
use Rattle.std.proofs.Common.{◌≡◌, ◌≢◌, ◌⊎◌, ℕ, zero, suc, ◌+◌, ◌-◌, ◌<◌, ◌≤◌, List, [], ◌∷◌, ◌++◌, length, refl, sym, ◌∙◌, ap, subst, ⊎_elim, inl, inr, le_antisymm, le_refl, ne_of_lt, length-append, arith}
use Rattle.std.proofs.lemmas.Bool.{cases_eq, cases_lt}
use Rattle.cluster_laws.specs.cluster_core.Messages.{Message}
use Rattle.cluster_laws.specs.cluster_core.Parts.{Part}
use Rattle.cluster_laws.specs.cluster_core.Ranges.{set_at}
use Rattle.cluster_laws.specs.cluster_core.Settings.{Setting}
use Rattle.cluster_laws.specs.cluster_core.Worlds.{World, way}
use Rattle.cluster_laws.proofs.cluster_core.Basics.{set_at-other, set_at-same}
use Rattle.cluster_laws.specs.cluster_model.Machines.{gained}
use Rattle.cluster_laws.specs.cluster_model.Totals.{total, total_from}
use Rattle.whole_laws.specs.cluster_whole.Steps.{messages_between}

start_low : (k many : ℕ) → k < k + suc many
start_low k many = omega arith

next_low : (k a : ℕ) → suc k ≤ a → k ≤ a
next_low k a low = omega arith

next_high : (k many a : ℕ) → a < suc k + many → a < k + suc many
next_high k many a low = omega arith

sum_two : (h f g hs fs gs : ℕ) → h ≡ f + g → hs ≡ fs + gs → h + hs ≡ f + fs + (g + gs)
sum_two h f g hs fs gs one rest = omega arith

no_sum : (f fs : ℕ) → f ≡ 0 → fs ≡ 0 → f + fs ≡ 0
no_sum f fs one rest = omega arith

not_between : (k a : ℕ) → k ≤ a → a < k + 0 → ⊥
not_between k a low high = omega arith

first_none : (f fs : ℕ) → f + fs ≡ 0 → f ≡ 0
first_none f fs none = omega arith

rest_none : (f fs : ℕ) → f + fs ≡ 0 → fs ≡ 0
rest_none f fs none = omega arith

above : (k a : ℕ) → k ≤ a → a ≢ k → suc k ≤ a
above k a low off = ⊎_elim (λ (less : k < a). less) (λ (high : a ≤ k). absurd (off (le_antisymm high low))) (cases_lt k a)

next_back : (k many a : ℕ) → a < k + suc many → a < suc k + many
next_back k many a high = omega arith

sum_below_two : (f g fs gs : ℕ) → f ≤ g → fs ≤ gs → f + fs ≤ g + gs
sum_below_two f g fs gs one rest = omega arith

more_first : (g f gs fs more : ℕ) → g ≡ f + more → gs ≡ fs → g + gs ≡ f + fs + more
more_first g f gs fs more one rest = omega arith

more_rest : (g f gs fs more : ℕ) → g ≡ f → gs ≡ fs + more → g + gs ≡ f + fs + more
more_rest g f gs fs more one rest = omega arith

zero_is_low : (n : ℕ) → 0 ≤ n
zero_is_low n = omega arith

pub below_all : (a n : ℕ) → a < n → a < 0 + n
below_all a n low = omega arith

grown : (link old new : ℕ) → old ≤ new → link + new ≡ link + old + (new - old)
grown link old new longer = omega arith

nothing_left : (n : ℕ) → n - n ≡ 0
nothing_left n = omega arith

one_longer : (n : ℕ) → suc n ≡ n + 1
one_longer n = omega arith

suc_not : (n : ℕ) → suc n ≡ 0 → ⊥
suc_not n is = omega arith

pub total_from-same : (k many : ℕ) (f g : ℕ → ℕ) → ((a : ℕ) → k ≤ a → a < k + many → g a ≡ f a) → total_from k many g ≡ total_from k many f
unfolding total_from
total_from-same k zero f g same = refl
total_from-same k (suc many) f g same =
    λ i. same k (le_refl k) (start_low k many) i + total_from-same (suc k) many f g (λ a low high. same a (next_low k a low) (next_high k many a high)) i

pub total_from-added : (k many : ℕ) (f g h : ℕ → ℕ) → ((a : ℕ) → k ≤ a → a < k + many → h a ≡ f a + g a) → total_from k many h ≡ total_from k many f + total_from k many g
unfolding total_from
total_from-added k zero f g h is = omega arith
total_from-added k (suc many) f g h is =
    sum_two (h k) (f k) (g k) (total_from (suc k) many h) (total_from (suc k) many f) (total_from (suc k) many g)
    (is k (le_refl k) (start_low k many)) (total_from-added (suc k) many f g h (λ a low high. is a (next_low k a low) (next_high k many a high)))

pub total_from-none : (k many : ℕ) (f : ℕ → ℕ) → ((a : ℕ) → f a ≡ 0) → total_from k many f ≡ 0
unfolding total_from
total_from-none k zero f none = refl
total_from-none k (suc many) f none = no_sum (f k) (total_from (suc k) many f) (none k) (total_from-none (suc k) many f none)

pub total_from-all_none : (k many : ℕ) (f : ℕ → ℕ) → total_from k many f ≡ 0 → (a : ℕ) → k ≤ a → a < k + many → f a ≡ 0
unfolding total_from
total_from-all_none k zero f none a low high = absurd (not_between k a low high)
total_from-all_none k (suc many) f none a low high =
    ⊎_elim
    (λ (at : a ≡ k). ap f at ∙ first_none (f k) (total_from (suc k) many f) none)
    (λ (off : a ≢ k). total_from-all_none (suc k) many f (rest_none (f k) (total_from (suc k) many f) none) a (above k a low off) (next_back k many a high))
    (cases_eq a k)

pub total_from-below : (k many : ℕ) (f g : ℕ → ℕ) → ((a : ℕ) → k ≤ a → a < k + many → f a ≤ g a) → total_from k many f ≤ total_from k many g
unfolding total_from
total_from-below k zero f g low = le_refl 0
total_from-below k (suc many) f g low =
    sum_below_two (f k) (g k) (total_from (suc k) many f) (total_from (suc k) many g) (low k (le_refl k) (start_low k many))
    (total_from-below (suc k) many f g (λ a from to. low a (next_low k a from) (next_high k many a to)))

-- one term changes by so much
pub total_from-more : (k many : ℕ) (f g : ℕ → ℕ) (a more : ℕ) → k ≤ a → a < k + many → g a ≡ f a + more → ((b : ℕ) → b ≢ a → g b ≡ f b) → total_from k many g ≡ total_from k many f + more
unfolding total_from
total_from-more k zero f g a more low high here there = absurd (not_between k a low high)
total_from-more k (suc many) f g a more low high here there =
    ⊎_elim
    (λ (at : a ≡ k).
    let rest : total_from (suc k) many g ≡ total_from (suc k) many f = total_from-same (suc k) many f g (λ b from to. there b (λ is. ne_of_lt from (sym (is ∙ at)))) in
    more_first (g k) (f k) (total_from (suc k) many g) (total_from (suc k) many f) more (subst (λ (j : ℕ). g j ≡ f j + more) at here) rest)
    (λ (off : a ≢ k).
    more_rest (g k) (f k) (total_from (suc k) many g) (total_from (suc k) many f) more (there k (λ is. off (sym is)))
    (total_from-more (suc k) many f g a more (above k a low off) (next_back k many a high) here there))
    (cases_eq a k)

module _ (st : Setting) (w : World) where
  -- a part is set that has longer outboxes
  pub part_flows : (a : ℕ) (new : Part) → a < st.machines → ((q : ℕ) → length ((w.part a).out q) ≤ length (new.out q)) →
      messages_between st (record w { part = set_at w.part a new }) ≡ messages_between st w + gained st (w.part a) new
  part_flows a new low longer =
      total_from-more 0 st.machines (λ p. total st.machines (λ q. length (way w p q))) (λ p. total st.machines (λ q. length (w.link p q ++ (set_at w.part a new p).out q))) a (gained st (w.part a) new) (zero_is_low a) (below_all a st.machines low)
      (total_from-added 0 st.machines (λ q. length (way w a q)) (λ q. length (new.out q) - length ((w.part a).out q)) (λ q. length (w.link a q ++ (set_at w.part a new a).out q))
      (λ q from to.
      ap (λ (part : Part). length (w.link a q ++ part.out q)) (set_at-same w.part a new) ∙ length-append (w.link a q) (new.out q)
      ∙ grown (length (w.link a q)) (length ((w.part a).out q)) (length (new.out q)) (longer q)
      ∙ ap (λ (n : ℕ). n + (length (new.out q) - length ((w.part a).out q))) (sym (length-append (w.link a q) ((w.part a).out q)))))
      (λ b off. total_from-same 0 st.machines (λ q. length (way w b q)) (λ q. length (w.link b q ++ (set_at w.part a new b).out q)) (λ q from to. ap (λ (part : Part). length (w.link b q ++ part.out q)) (set_at-other w.part a new b off)))

  -- an outbox that doesn't grow gains nothing
  pub gained_none : (old new : Part) → new.out ≡ old.out → gained st old new ≡ 0
  gained_none old new same = total_from-none 0 st.machines (λ q. length (new.out q) - length (old.out q)) (λ q. ap (λ (out : ℕ → List Message). length (out q) - length (old.out q)) same ∙ nothing_left (length (old.out q)))

-- every way is as before, but for one, which loses its first message
pub taken_flows : (st : Setting) (old new : World) (p q : ℕ) → p < st.machines → q < st.machines → (m : Message) → way old p q ≡ m ∷ way new p q →
    ((p' q' : ℕ) → (p' ≢ p) ⊎ (q' ≢ q) → way new p' q' ≡ way old p' q') → messages_between st old ≡ messages_between st new + 1
taken_flows st old new p q p_low q_low m here there =
    total_from-more 0 st.machines (λ a. total st.machines (λ b. length (way new a b))) (λ a. total st.machines (λ b. length (way old a b))) p 1 (zero_is_low p) (below_all p st.machines p_low)
    (total_from-more 0 st.machines (λ b. length (way new p b)) (λ b. length (way old p b)) q 1 (zero_is_low q) (below_all q st.machines q_low)
    (ap (λ (ms : List Message). length ms) here ∙ one_longer (length (way new p q)))
    (λ b off. ap (λ (ms : List Message). length ms) (sym (there p b (inr off)))))
    (λ a off. total_from-same 0 st.machines (λ b. length (way new a b)) (λ b. length (way old a b)) (λ b from to. ap (λ (ms : List Message). length ms) (sym (there a b (inl off)))))

pub same_flows : (st : Setting) (old new : World) → ((p q : ℕ) → way new p q ≡ way old p q) → messages_between st new ≡ messages_between st old
same_flows st old new same =
    total_from-same 0 st.machines (λ a. total st.machines (λ b. length (way old a b))) (λ a. total st.machines (λ b. length (way new a b)))
    (λ a from to. total_from-same 0 st.machines (λ b. length (way old a b)) (λ b. length (way new a b)) (λ b low high. ap (λ (ms : List Message). length ms) (same a b)))

none_of_length : (ms : List Message) → length ms ≡ 0 → ms ≡ []
none_of_length [] is = refl
none_of_length (m ∷ ms) is = absurd (suc_not (length ms) is)

-- where nothing is under way each way is empty
pub nothing_under_way : (st : Setting) (w : World) → messages_between st w ≡ 0 → (p q : ℕ) → p < st.machines → q < st.machines → way w p q ≡ []
nothing_under_way st w none p q p_low q_low =
    none_of_length (way w p q)
    (total_from-all_none 0 st.machines (λ b. length (way w p b))
    (total_from-all_none 0 st.machines (λ a. total st.machines (λ b. length (way w a b))) none p (zero_is_low p) (below_all p st.machines p_low))
    q (zero_is_low q) (below_all q st.machines q_low))
