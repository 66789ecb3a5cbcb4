-- What a machine hears and learns, where its part is another one that looks alike.
use Rattle.std.proofs.Common.{◌≡◌, ℕ, suc, zero, ◌+◌, ◌<◌, ◌≤◌, ◌==◌, ◌&&◌, ◌||◌, Bool, true, false, Option, Some, length, if◌then◌else◌, refl, sym, ap, ap₂, ◌∙◌, subst, arith}
use Rattle.std.specs.Prelude.{nat_lt}
use Rattle.std.proofs.lemmas.Bool.{eqb-true}
use Rattle.gl_base.specs.declared.scopes.Datum.{Datum}
use Rattle.gl_base.specs.declared.scopes.ScopeId.{ScopeId}
use Rattle.graph_core.specs.DataGraph.{size}
use Rattle.cluster_laws.specs.cluster_core.Effects.{admitted, begins, datum_after, edge_after, first_pending, first_unmarked, granted, is_at, knows, learns, part_seeded, received, seed_if}
use Rattle.cluster_laws.specs.cluster_core.Messages.{Ask, Done, Message, News, Ready}
use Rattle.cluster_laws.specs.cluster_core.Parts.{Part}
use Rattle.cluster_laws.specs.cluster_core.Ranges.{first_passing}
use Rattle.cluster_laws.specs.cluster_core.Scopes.{takes_part}
use Rattle.cluster_laws.specs.cluster_core.Settings.{IsSetting, Setting}
use Rattle.cluster_laws.proofs.cluster_core.Nearness.{owner_takes_part, scoped_itself}
use Rattle.cluster_laws.specs.known_parts.Alike.{LooksAlike, with_copies}
use Rattle.cluster_laws.proofs.known_parts.ApartLemmas.{admit_apart, grant_apart, on_apart}

-- ---- parts that look alike

-- these data and numbers of edges are those of the part, where the machine looks
pub record AreSeen (st : Setting) (a : ℕ) (d : ℕ → Datum) (n : ℕ → ℕ) (part : Part) : Type 0 where
  pub vertices : (v : ℕ) → v < size st.graph → takes_part st v a ≡ true → d v ≡ part.datum v
  pub edges : (e : ℕ) → e < length st.graph.edges → n e ≡ part.edge e

-- a part with such numbers looks alike
pub alike_with : (st : Setting) (a : ℕ) (d : ℕ → Datum) (n : ℕ → ℕ) (one other : Part) → one ≡ with_copies d n other → AreSeen st a d n other → LooksAlike st a one other
alike_with st a d n one other is seen =
    subst (λ (p : Part). LooksAlike st a p other) (sym is) (record { rest = refl; vertices = seen.vertices; edges = seen.edges })

pub seen_of : (st : Setting) (a : ℕ) (one other : Part) → LooksAlike st a one other → AreSeen st a one.datum one.edge other
seen_of st a one other alike = record { vertices = alike.vertices; edges = alike.edges }

-- it is enough to show what becomes of such parts
pub alike_by : (st : Setting) (a : ℕ) (make : Part → Part) (one other : Part)
    → ((d : ℕ → Datum) (n : ℕ → ℕ) → AreSeen st a d n other → LooksAlike st a (make (with_copies d n other)) (make other))
    → LooksAlike st a one other → LooksAlike st a (make one) (make other)
alike_by st a make one other kept alike =
    subst (λ (p : Part). LooksAlike st a (make p) (make other)) (sym alike.rest) (kept one.datum one.edge (seen_of st a one other alike))

-- what goes apart from numbers leaves them alike
apart_alike : (st : Setting) (a : ℕ) (make : Part → Part) → ((d : ℕ → Datum) (n : ℕ → ℕ) (part : Part) → make (with_copies d n part) ≡ with_copies d n (make part))
    → (one other : Part) → LooksAlike st a one other → LooksAlike st a (make one) (make other)
apart_alike st a make apart one other alike =
    let kept : make other ≡ with_copies other.datum other.edge (make other) = apart other.datum other.edge other in
    alike_by st a make one other
    (λ d n seen. alike_with st a d n (make (with_copies d n other)) (make other) (apart d n other) (record {
      vertices = λ v low part. seen.vertices v low part ∙ ap (λ (p : Part). p.datum v) (sym kept);
      edges = λ e low. seen.edges e low ∙ ap (λ (p : Part). p.edge e) (sym kept);
    }))
    alike

pub admit_alike : (st : Setting) (a v : ℕ) (one other : Part) → LooksAlike st a one other → LooksAlike st a (admitted st a v one) (admitted st a v other)
admit_alike st a v one other alike = apart_alike st a (admitted st a v) (λ d n part. admit_apart d n st a v part) one other alike

pub grant_alike : (st : Setting) (a x : ℕ) (one other : Part) → LooksAlike st a one other → LooksAlike st a (granted st a x one) (granted st a x other)
grant_alike st a x one other alike = apart_alike st a (granted st a x) (λ d n part. grant_apart d n st a x part) one other alike

-- ---- the first unmarked vertex

-- two tests that agree on a range pass the same number of it first
pub first_same : (one other : ℕ → Bool) (k many : ℕ) → ((x : ℕ) → k ≤ x → x < k + many → one x ≡ other x) → first_passing one k many ≡ first_passing other k many
unfolding first_passing
first_same one other k zero same = refl
first_same one other k (suc many) same =
    ap₂ (λ (b : Bool) (o : Option ℕ). if b then Some k else o) (same k (omega arith) (omega arith)) (first_same one other (suc k) many (λ x low high. same x (omega arith) (omega arith)))

pub and_where : (b : Bool) (x y : Bool) → (b ≡ true → x ≡ y) → (b && x) ≡ (b && y)
and_where true x y so = so refl
and_where false x y so = refl

module _ (st : Setting) (a : ℕ) (is : IsSetting st) where
  -- a machine looks at its own vertices
  pub own_seen : (d : ℕ → Datum) (n : ℕ → ℕ) (part : Part) → AreSeen st a d n part → (v : ℕ) → v < size st.graph → st.owner v ≡ a → d v ≡ part.datum v
  own_seen d n part seen v low own = seen.vertices v low (subst (λ (b : ℕ). takes_part st v b ≡ true) own (owner_takes_part st is v v low (scoped_itself st is v)))

  unmarked_same : (d : ℕ → Datum) (n : ℕ → ℕ) (part : Part) → AreSeen st a d n part → first_unmarked st a (with_copies d n part) ≡ first_unmarked st a part
  unmarked_same d n part seen =
      first_same (λ v. st.owner v == a && nat_lt (d v).mark part.known) (λ v. st.owner v == a && nat_lt (part.datum v).mark part.known) 0 (size st.graph)
      (λ v low high. and_where (st.owner v == a) (nat_lt (d v).mark part.known) (nat_lt (part.datum v).mark part.known)
      (λ own. ap (λ (x : Datum). nat_lt x.mark part.known) (own_seen d n part seen v (omega (arith, high)) (eqb-true (st.owner v) a own))))

  seeded_with : (d : ℕ → Datum) (n : ℕ → ℕ) (part : Part) → AreSeen st a d n part → part_seeded st a (with_copies d n part) ≡ with_copies d n (part_seeded st a part)
  seeded_with d n part seen =
      ap (λ (o : Option ℕ). record (with_copies d n part) { pending = λ u. is_at (seed_if (first_pending st part) o) u || part.pending u }) (unmarked_same d n part seen)

  pub seeded_alike : (one other : Part) → LooksAlike st a one other → LooksAlike st a (part_seeded st a one) (part_seeded st a other)
  seeded_alike one other alike =
      alike_by st a (part_seeded st a) one other
      (λ d n seen. alike_with st a d n (part_seeded st a (with_copies d n other)) (part_seeded st a other) (seeded_with d n other seen) (record { vertices = seen.vertices; edges = seen.edges }))
      alike

  knows_alike : (k : ℕ) (one other : Part) → LooksAlike st a one other → LooksAlike st a (knows k one) (knows k other)
  knows_alike k one other alike = apart_alike st a (knows k) (λ d n part. refl) one other alike

  pub begin_alike : (k : ℕ) (one other : Part) → LooksAlike st a one other → LooksAlike st a (begins st a k one) (begins st a k other)
  begin_alike k one other alike = seeded_alike (knows k one) (knows k other) (knows_alike k one other alike)

  -- ---- what comes

  learn_alike : (s : ScopeId) (news : News) (one other : Part) → LooksAlike st a one other → LooksAlike st a (learns s news one) (learns s news other)
  learn_alike s news one other alike =
      alike_by st a (learns s news) one other
      (λ d n seen. alike_with st a (λ v. datum_after news v (d v)) (λ e. edge_after (news.edges e) (n e)) (learns s news (with_copies d n other)) (learns s news other) refl (record {
        vertices = λ v low part. ap (datum_after news v) (seen.vertices v low part);
        edges = λ e low. ap (edge_after (news.edges e)) (seen.edges e low);
      }))
      alike

  pub receive_alike : (message : Message) (one other : Part) → LooksAlike st a one other → LooksAlike st a (received st a message one) (received st a message other)
  receive_alike (Ask s v rest) one other alike = apart_alike st a (received st a (Ask s v rest)) (λ d n part. on_apart d n st a s v 0 rest part) one other alike
  receive_alike (Ready s) one other alike = apart_alike st a (received st a (Ready s)) (λ d n part. refl) one other alike
  receive_alike (Done s news) one other alike = learn_alike s news (begins st a news.number one) (begins st a news.number other) (begin_alike news.number one other alike)
