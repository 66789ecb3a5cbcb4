-- How a machine's seat stands after each step.
use Rattle.std.proofs.Common.{List, None, Some, [], ap, false, inl, inr, length, refl, sym, true, ◌++◌, ◌==◌, ◌∙◌, ◌∷◌, ◌≡◌, ◌≢◌, ◌⊎◌, ℕ}
use Rattle.std.proofs.lemmas.Bool.{eqb-true}
use Rattle.std.specs.Prelude.{Err, IsTrue, Ok, OnErr, Result, ◌↔◌}
use Rattle.cluster_laws.specs.cluster_core.Actions.{HasFirst}
use Rattle.cluster_laws.specs.cluster_core.Messages.{Message}
use Rattle.link_tables.proofs.Standing.{holds_another, holds_taken, rests_changed, rests_given, rests_on, same_queue}
use Rattle.link_tables.specs.Seats.{HoldsLink, Rests, Sat, saw, view, with_first}
use Rattle.link_tables.specs.declared.views.Sight.{Sight}
use Rattle.link_tables.specs.declared.words.LinkWord.{LinkWord}
use Rattle.link_tables.specs.declared.words.LinkWord.TheVariants.{Bare, Laden, Out}
use Rattle.wire_board.proofs.Seating.{come_nowhere}
use Rattle.wire_board.specs.Seats.{HasTakenLink, LinkView, Machine, Member, Node, Seated, Setting, Sits, Standing, at_rest}
use Rattle.wire_board.specs.Led.{Learns}
use Rattle.wire_board.specs.Standings.{HasComeTo}

pub word_cases : (v w : LinkWord) → (v ≡ w) ⊎ (v ≢ w)
word_cases Bare Bare = inl refl
word_cases Bare Laden = inr (λ e. cc)
word_cases Bare Out = inr (λ e. cc)
word_cases Laden Bare = inr (λ e. cc)
word_cases Laden Laden = inl refl
word_cases Laden Out = inr (λ e. cc)
word_cases Out Bare = inr (λ e. cc)
word_cases Out Laden = inr (λ e. cc)
word_cases Out Out = inl refl

module _ {M : Type 0} (represents : Setting → ℕ → Machine → M → Type 0) (member : Member M) where
  pub sits_read : (me me' : Sat (Seated M) LinkView) (word number : ℕ) → Sits represents member me → me' ≡ (saw me.0 word number, me.1) → Sits represents member me'
  sits_read me me' word number s is =
      record { was = s.was; rests = rests_on me me' (Node s.was) [] word number s.rests is; number = s.number; peers = s.peers; come = s.come }

  pub sits_given : (me me' : Sat (Seated M) LinkView) (p : Seated M) (i : ℕ) (q r : LinkView) (seen : List (Sight LinkView)) → HoldsLink me p [] i q r
      → me' ≡ (view (with_first (Node (at_rest member)) me.0.parts) None me.0.raised seen, []) → Sits represents member me'
  sits_given me me' p i q r seen h is =
      record { was = at_rest member; rests = rests_given me me' p (Node (at_rest member)) [] i q r seen h is; number = refl; peers = refl; come = come_nowhere represents member }

  -- its first part is another, from which it has come
  pub sits_changed : (me me' : Sat (Seated M) LinkView) (p : Seated M) (x : Standing M) (seen : List (Sight LinkView)) → Rests me p [] → me' ≡ (view (with_first (Node x) me.0.parts) None me.0.raised seen, [])
      → member.number ≡ x.member.number → member.peers ≡ x.member.peers → HasComeTo represents x member.machine → Sits represents member me'
  sits_changed me me' p x seen r is number peers come =
      record { was = x; rests = rests_changed me me' p (Node x) [] seen r is; number = number; peers = peers; come = come }

  pub has_taken : (me me' : Sat (Seated M) LinkView) (p : Seated M) (i : ℕ) (q : LinkView) (seen : List (Sight LinkView)) → Rests me p []
      → me' ≡ (view (with_first (Node (at_rest member)) me.0.parts) (Some (i, q)) me.0.raised seen, (i, q) ∷ []) → Learns represents (Node (at_rest member)) i q → HasTakenLink represents member i me'
  has_taken me me' p i q seen r is learns = record { queue = q; holds = holds_taken me me' p (Node (at_rest member)) [] i q seen r is; learns = learns }

  -- what is put into the link that the seat has taken, and what was there
  module _ (me me' : Sat (Seated M) LinkView) (i : ℕ) (new was : LinkView) (t : HasTakenLink represents member i me) (is : me' ≡ (me.0, (i, new) ∷ [])) (there : me.1 ≡ (i, was) ∷ []) where
    pub holds_now : HoldsLink me' (Node (at_rest member)) [] i t.queue new
    holds_now = holds_another me me' (Node (at_rest member)) [] i t.queue t.queue new t.holds is

    pub queue_is : t.queue ≡ was
    queue_is = same_queue i t.queue was (sym t.holds.slots ∙ there)

-- what is so of an error
pub at_err : {X E A : Type 0} (r : Result X E) → A → OnErr r A
at_err (Ok x) a = tt
at_err (Err e) a = a

-- ---- outboxes

pub none_first : (out : List Message) → IsTrue false ↔ HasFirst out → out ≡ []
none_first [] is = refl
none_first (m ∷ out) is = let yes : IsTrue false = is.1 (record { message = m; behind = out; first = refl }) in absurd (cc)

pub some_first : (out : List Message) → IsTrue true ↔ HasFirst out → out ≢ []
some_first out is none = let has = is.0 refl in let first = has.first in cc

pub not_empty : {A : Type 0} (all more : List A) → (length all == 0) ≡ false → all ≡ more ++ [] → more ≢ []
not_empty {A} all more some is none =
    let e : all ≡ [] = is ∙ ap (λ (l : List A). l ++ []) none in
    let zero : (length all == 0) ≡ true = ap (λ (l : List A). length l == 0) e in
    cc

pub no_length : {A : Type 0} (all : List A) → (length all == 0) ≡ true → length all ≡ 0
no_length all is = eqb-true (length all) 0 is
