-- What a seat has found on links, over several steps.
use Rattle.std.proofs.Common.{None, Option, Some, [], ap, inl, inr, length, refl, subst, ⊎_elim, ◌<◌, ◌≡◌, ◌≢◌, ◌≤◌, ◌∙◌, ℕ}
use Rattle.std.specs.Prelude.{Err, IfNone, IfOk, IfSome, Ok, OnErr, OnOk, Result}
use Rattle.link_tables.proofs.Seeing.{seen_read, seen_sees, seen_then, then_seen}
use Rattle.link_tables.specs.Seats.{saw, sight}
use Rattle.wire_board.specs.Led.{IsBare}
use Rattle.link_tables.specs.declared.words.LinkWord.TheVariants.{Bare, Out}
use Rattle.wire_board.specs.Sights.{FoundBare, FoundNothing, FoundWord, HadQueue, HasLooked, HasSeen, LinkView, Sat, Seated, Sees}
use Rattle.wire_board.specs.declared.passing.Heard.{Heard}
use Rattle.wire_board.specs.declared.passing.Heard.TheVariants.{Applied, Busy, Empty}

module _ {M : Type 0} (a b c : Sat (Seated M) LinkView) (i : ℕ) where
  pub looked_then : HasLooked a b i → Sees b c → HasLooked a c i
  looked_then looked sees = (looked.0, seen_then a b c _ looked.1 sees)

  pub then_looked : Sees a b → HasLooked b c i → HasLooked a c i
  then_looked sees looked = (looked.0, then_seen a b c _ sees looked.1)

  pub looked_sees : HasLooked a b i → Sees a b
  looked_sees looked = seen_sees a b _ looked.1

  pub then_had : (q : LinkView) → Sees a b → HadQueue b c i q → HadQueue a c i q
  then_had q sees had = (had.0, then_seen a b c _ sees had.1)

  pub found_nothing_then : FoundNothing a b i → Sees b c → FoundNothing a c i
  found_nothing_then found sees =
      ⊎_elim
      (λ (bare : FoundBare a b i).
      inl
      (⊎_elim (λ (word : FoundWord a b i Bare). inl (seen_then a b c _ word sees))
      (λ (had : (queue : LinkView) × IsBare queue × HadQueue a b i queue). inr (had.0, had.1, (had.2.0, seen_then a b c _ had.2.1 sees))) bare))
      (λ (out : FoundWord a b i Out). inr (seen_then a b c _ out sees))
      found

  pub then_found_nothing : Sees a b → FoundNothing b c i → FoundNothing a c i
  then_found_nothing sees found =
      ⊎_elim
      (λ (bare : FoundBare b c i).
      inl
      (⊎_elim (λ (word : FoundWord b c i Bare). inl (then_seen a b c _ sees word))
      (λ (had : (queue : LinkView) × IsBare queue × HadQueue b c i queue). inr (had.0, had.1, (had.2.0, then_seen a b c _ sees had.2.1))) bare))
      (λ (out : FoundWord b c i Out). inr (then_seen a b c _ sees out))
      found

  -- what a call of hear tells where nothing was applied
  pub heard_nothing : {E : Type 0} (X : Type 0) (r : Result Heard E) (how : Heard) → IfOk r (λ h. h ≡ Empty → X × FoundBare a b i) → IfOk r (λ h. h ≡ Busy → X × FoundWord a b i Out) → r ≡ Ok how → how ≢ Applied → FoundNothing a b i
  heard_nothing X r Applied empty busy is not = absurd (not refl)
  heard_nothing {E} X r Empty empty busy is not = let e : Empty ≡ Empty → X × FoundBare a b i = subst (λ (z : Result Heard E). IfOk z (λ h. h ≡ Empty → X × FoundBare a b i)) is empty in inl (e refl).1
  heard_nothing {E} X r Busy empty busy is not = let e : Busy ≡ Busy → X × FoundWord a b i Out = subst (λ (z : Result Heard E). IfOk z (λ h. h ≡ Busy → X × FoundWord a b i Out)) is busy in inr (e refl).1

pub bare_then : (q r : LinkView) → q ≡ r → r.messages ≡ [] → IsBare q
bare_then q r same none = ap (λ (l : LinkView). length l.messages) same ∙ ap length none

-- an answer that comes only so
pub if_ok_to : {A E : Type 0} (r : Result A E) (P Q : A → Type 0) → ((x : A) → P x → Q x) → IfOk r P → IfOk r Q
if_ok_to (Ok x) P Q f p = f x p
if_ok_to (Err e) P Q f p = tt

-- ---- the next ticket is read

module _ {M : Type 0} (a b : Sat (Seated M) LinkView) (word top : ℕ) where
  pub ticket_seen : (r : Option ℕ) → IfSome r (λ ticket. (ticket < top) × (b ≡ (saw a.0 word ticket, a.1))) → IfNone r ((next : ℕ) × (top ≤ next) × (b ≡ (saw a.0 word next, a.1))) → Sees a b
  ticket_seen (Some ticket) next spent = seen_sees a b _ (seen_read a b word ticket next.1)
  ticket_seen None next spent = seen_sees a b _ (seen_read a b word spent.0 spent.2)

  pub none_seen : (r : Option ℕ) → IfNone r ((next : ℕ) × (top ≤ next) × (b ≡ (saw a.0 word next, a.1))) → IfNone r ((next : ℕ) × (top ≤ next) × HasSeen a b (sight word next None))
  none_seen (Some ticket) spent = tt
  none_seen None spent = (spent.0, spent.1, seen_read a b word spent.0 spent.2)

pub at_ok : {X E A : Type 0} (r : Result X E) → A → OnOk r A
at_ok (Ok x) a = a
at_ok (Err e) a = tt

pub at_err : {X E A : Type 0} (r : Result X E) → A → OnErr r A
at_err (Ok x) a = tt
at_err (Err e) a = a

pub on_ok_to : {A E X Y : Type 0} (r : Result A E) → (X → Y) → OnOk r X → OnOk r Y
on_ok_to (Ok x) f p = f p
on_ok_to (Err e) f p = tt
