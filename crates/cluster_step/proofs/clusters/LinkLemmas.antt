-- One link is written; and links with nothing on them.
use Rattle.std.proofs.Common.{◌≡◌, ◌≢◌, ℕ, zero, suc, ◌<◌, ◌==◌, Bool, not, true≢false, List, [], ◌∷◌, length, map, set, get_or, sym, refl, ap, ◌∙◌, subst, ⊎_elim, arith, get_or-set_same, get_or-set_other, length-set}
use Rattle.std.proofs.lemmas.Bool.{cases_eq, ne_eqb}
use Rattle.std.proofs.lemmas.List.{get_or-map, get_or_default, length-map, map-set}
use Rattle.std.specs.List.{All}
use Rattle.std.specs.Prelude.{IsTrue, ◌↔◌}
use Rattle.cluster_laws.specs.cluster_core.Actions.{HasFirst}
use Rattle.cluster_laws.specs.cluster_core.Messages.{Message}
use Rattle.cluster_step.specs.clusters.Inner.Writing.{with_link_between, HasLinkBetween}
use Rattle.cluster_step.specs.clusters.Links.{LinkView, MessageView, empty_link, link_between, message_read, told_on}
use Rattle.cluster_step.specs.clusters.Inner.Writing.{HaveLinks}

-- a row of links is read as `items` says
module _ {R : Type 0} (rows : List R) (items : R → List LinkView) (old : List (List LinkView)) (view : map items rows ≡ old) (p q : ℕ) (has : HasLinkBetween old p q) where
  low : p < length rows
  low = subst (λ n. p < n) (length-map rows items) (subst (λ (l : List (List LinkView)). p < length l) (sym view) has.from)

  row_is : (row : R) → row ≡ get_or rows p row → items row ≡ get_or old p []
  row_is row is = ap items is ∙ sym (get_or-map items rows p row [] low) ∙ ap (λ (l : List (List LinkView)). get_or l p []) view

  pub row_long : (row : R) → row ≡ get_or rows p row → q < length (items row)
  row_long row is = subst (λ (l : List LinkView). q < length l) (sym (row_is row is)) has.to

  -- what stands there
  pub link_was : (row : R) (link : LinkView) → row ≡ get_or rows p row → link ≡ get_or (items row) q link → link ≡ link_between old p q
  link_was row link is at =
      at ∙ get_or_default (items row) q link empty_link (row_long row is) ∙ ap (λ (l : List LinkView). get_or l q empty_link) (row_is row is)

  written : (row new : R) (link : LinkView) → row ≡ get_or rows p row → items new ≡ set (items row) q link → map items (set rows p new) ≡ with_link_between old p q link
  written row new link is made =
      map-set items rows p new
      ∙ ap (λ (l : List (List LinkView)). set l p (items new)) view
      ∙ ap (set old p) (made ∙ ap (λ (l : List LinkView). set l q link) (row_is row is))

  with_link-here : (link : LinkView) → link_between (with_link_between old p q link) p q ≡ link
  with_link-here link =
      ap (λ (l : List LinkView). get_or l q empty_link) (get_or-set_same old p (set (get_or old p []) q link) [] has.from)
      ∙ get_or-set_same (get_or old p []) q link empty_link has.to

  -- what stands there after a write
  pub link_here : (row new : R) (link : LinkView) → row ≡ get_or rows p row → items new ≡ set (items row) q link → link_between (map items (set rows p new)) p q ≡ link
  link_here row new link is made = ap (λ (l : List (List LinkView)). link_between l p q) (written row new link is made) ∙ with_link-here link

  pub links_rest : (row new : R) (link : LinkView) → row ≡ get_or rows p row → items new ≡ set (items row) q link →
      map items (set rows p new) ≡ with_link_between old p q (link_between (map items (set rows p new)) p q)
  links_rest row new link is made = written row new link is made ∙ ap (with_link_between old p q) (sym (link_here row new link is made))

-- ---- nothing on them

none_in_row : (row : List LinkView) → All (λ (link : LinkView). link.messages ≡ []) row → (q : ℕ) → (get_or row q empty_link).messages ≡ []
none_in_row [] none q = refl
none_in_row (link ∷ row) none zero = none 0 link (omega arith)
none_in_row (link ∷ row) none (suc q) = none_in_row row (λ k d within. none (suc k) d (omega arith)) q

pub none_on : (links : List (List LinkView)) → All (λ (row : List LinkView). All (λ (link : LinkView). link.messages ≡ []) row) links → (p q : ℕ) → (link_between links p q).messages ≡ []
none_on [] none p q = refl
none_on (row ∷ links) none zero q = none_in_row row (none 0 row (omega arith)) q
none_on (row ∷ links) none (suc p) q = none_on links (λ k d within. none (suc k) d (omega arith)) p q

pub columns_at : (links : List (List LinkView)) (n : ℕ) → length links ≡ n → All (λ (row : List LinkView). length row ≡ n) links → (p : ℕ) → p < n → length (get_or links p []) ≡ n
columns_at links n rows columns p low = columns p [] (subst (λ k. p < k) (sym rows) low)

pub nothing_told : (links : List (List LinkView)) → ((p q : ℕ) → (link_between links p q).messages ≡ []) → (p q : ℕ) → told_on links p q ≡ []
nothing_told links none p q = ap (map message_read) (none p q)

pub have_links : (links : List (List LinkView)) (n m : ℕ) → n ≡ m → length links ≡ n → ((p : ℕ) → p < n → length (get_or links p []) ≡ n) → HaveLinks links m
have_links links n m same rows columns =
    let have : HaveLinks links n = record { rows = rows; columns = columns } in
    subst (HaveLinks links) same have

-- ---- the first of them

pub first_read : (messages : List MessageView) (none : Bool) → none ≡ (length messages == 0) → IsTrue (not none) ↔ HasFirst (map message_read messages)
first_read [] none is = (λ some. absurd (true≢false (sym some ∙ ap not is)), λ has. absurd (nothing has.message has.behind has.first))
  where
    nothing : (m : Message) (behind : List Message) → [] ≡ m ∷ behind → ⊥
    nothing m behind same = cc
first_read (m ∷ messages) none is = (λ some. record { message = message_read m; behind = map message_read messages; first = refl }, λ has. ap not (is ∙ ne_eqb (suc (length messages)) 0 (λ (same : suc (length messages) ≡ 0). omega arith)))

pub first_told : (links : List (List LinkView)) (p q : ℕ) (none : Bool) → none ≡ (length (link_between links p q).messages == 0) → IsTrue (not none) ↔ HasFirst (told_on links p q)
first_told links p q none is = first_read (link_between links p q).messages none is

-- ---- links stay where one is written

module _ (old : List (List LinkView)) (p q : ℕ) (has : HasLinkBetween old p q) (new : List (List LinkView)) (rest : new ≡ with_link_between old p q (link_between new p q)) where
  pub links_stay : (n : ℕ) → HaveLinks old n → HaveLinks new n
  links_stay n have =
      record {
        rows = ap length rest ∙ length-set old p (set (get_or old p []) q (link_between new p q)) ∙ have.rows;
        columns = λ i low.
            ap (λ (l : List (List LinkView)). length (get_or l i [])) rest
            ∙ ⊎_elim
            (λ (at : i ≡ p).
            ap (λ (k : ℕ). length (get_or (set old p (set (get_or old p []) q (link_between new p q))) k [])) at
            ∙ ap length (get_or-set_same old p (set (get_or old p []) q (link_between new p q)) [] has.from)
            ∙ length-set (get_or old p []) q (link_between new p q)
            ∙ ap (λ (k : ℕ). length (get_or old k [])) (sym at) ∙ have.columns i low)
            (λ (off : i ≢ p). ap length (get_or-set_other old p i (set (get_or old p []) q (link_between new p q)) [] off) ∙ have.columns i low)
            (cases_eq i p);
      }

pub has_link : (links : List (List LinkView)) (n p q : ℕ) → HaveLinks links n → p < n → q < n → HasLinkBetween links p q
has_link links n p q have low_p low_q =
    record { from = subst (λ k. p < k) (sym have.rows) low_p; to = subst (λ k. q < k) (sym (have.columns p low_p)) low_q }

pub has_stays : (old : List (List LinkView)) (p q : ℕ) → HasLinkBetween old p q → (new : List (List LinkView)) → new ≡ with_link_between old p q (link_between new p q) → HasLinkBetween new p q
has_stays old p q has new rest =
    let row : List LinkView = set (get_or old p []) q (link_between new p q) in
    record {
      from = subst (λ k. p < k) (sym (ap length rest ∙ length-set old p row)) has.from;
      to = subst (λ k. q < k)
          (sym (ap (λ (l : List (List LinkView)). length (get_or l p [])) rest ∙ ap length (get_or-set_same old p row [] has.from) ∙ length-set (get_or old p []) q (link_between new p q)))
          has.to;
    }
