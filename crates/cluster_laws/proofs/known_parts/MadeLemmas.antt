-- Updates and snapshot updates of an own vertex, where the part is another one that looks alike.
use Rattle.std.proofs.Common.{◌≡◌, ◌≢◌, ℕ, suc, ◌<◌, ◌≤◌, ◌==◌, ◌&&◌, ◌||◌, ◌++◌, ◌∷◌, [], Bool, true, false, not, Some, None, List, length, if◌then◌else◌, refl, sym, ap, ap₂, ◌∙◌, subst, ⊎_elim, true≢false}
use Rattle.std.specs.Prelude.{nat_lt}
use Rattle.std.specs.List.{AllByRecursion}
use Rattle.std.proofs.lemmas.Bool.{and_parts, cases_lt, eq-eqb, eqb-true, false_from_ne_true, or_cases}
use Rattle.std.proofs.lemmas.List.{get_or_past}
use Rattle.gl_base.specs.declared.entries.Entry.{Entry}
use Rattle.gl_base.specs.declared.scopes.Datum.{Datum}
use Rattle.gl_base.specs.declared.scopes.ScopeId.{ScopeId}
use Rattle.graph_core.specs.DataGraph.{DataEdge, size}
use Rattle.graph_core.specs.Halves.{DataHalf, halves_of}
use Rattle.graph_core.proofs.HalvesLaws.{IsHalfAt, each-weaker, halves_are}
use Rattle.update_api.specs.Near.{Near}
use Rattle.seq_run.specs.States.{after_update, near_of, new_number, wakes}
use Rattle.cluster_laws.specs.cluster_core.Effects.{ends, is_end, is_left, is_shared, mark_news, marked, marked_datum, news_for, number_if, other_end, pends_for, renewed, save, saves_edge, tell, told_datum, told_edge, updated}
use Rattle.cluster_laws.specs.cluster_core.Messages.{Done, Message, News}
use Rattle.cluster_laws.specs.cluster_core.Parts.{Part, lent}
use Rattle.cluster_laws.specs.cluster_core.Ranges.{first_passing, set_at}
use Rattle.cluster_laws.specs.cluster_core.Scopes.{takes_part}
use Rattle.cluster_laws.specs.cluster_core.Settings.{IsSetting, Setting, is_near, nth_edge}
use Rattle.cluster_laws.proofs.cluster_core.Nearness.{near_other, near_turned, near_within, owner_takes_part, scoped_near}
use Rattle.cluster_laws.proofs.cluster_numbers.EdgeEnds.{edge_after-same, ends_near, half_between, new_number-same, wakes-same}
use Rattle.cluster_laws.specs.known_parts.Alike.{LooksAlike, with_copies}
use Rattle.cluster_laws.proofs.known_parts.SeenLemmas.{AreSeen, alike_by, alike_with, and_where, own_seen, seeded_alike}

-- what lies near along a half, with this number at its other end and this mark
abbrev near_with : DataHalf → ℕ → ℕ → Near
near_with h number mark = record { number = number; mark = mark; weight = h.weight; out = h.out; into = h.into }

module _ (st : Setting) (a v : ℕ) (is : IsSetting st) (low : v < size st.graph) (own : st.owner v ≡ a) (d : ℕ → Datum) (n : ℕ → ℕ) (part : Part) (seen : AreSeen st a d n part) where
  abbrev one : Part
  one = with_copies d n part

  -- ---- what is lent is the same

  here_same : d v ≡ part.datum v
  here_same = own_seen st a is d n part seen v low own

  near_seen : (u : ℕ) → is_near st v u ≡ true → d u ≡ part.datum u
  near_seen u near =
      let inside = (near_within st is v u near).0 in
      seen.vertices u inside (subst (λ (b : ℕ). takes_part st u b ≡ true) own (owner_takes_part st is u v inside (scoped_near st is u v (near_turned st u v ∙ near))))

  lent_same : AllByRecursion (λ h. near_of (lent one) h ≡ near_of (lent part) h) (halves_of st.graph v)
  lent_same =
      each-weaker (IsHalfAt st.graph is.graph v) (λ h. near_of (lent one) h ≡ near_of (lent part) h)
      (λ h half.
      let between = half_between st is v h half in
      ap₂ (near_with h)
      (ap (λ (x : Datum). x.value) (near_seen h.other (ends_near st is h.edge v h.other between.0 between.1))) (seen.edges h.edge between.0))
      (halves_of st.graph v) (halves_are st.graph is.graph v)

  own_lent : (lent one).vertex v ≡ (lent part).vertex v
  own_lent = ap (λ (x : Datum). x.value) here_same

  number_same : new_number st.graph st.program (lent one) v ≡ new_number st.graph st.program (lent part) v
  number_same = new_number-same st.graph st.program (lent one) (lent part) v own_lent lent_same

  woken_same : (u : ℕ) → wakes st.graph st.program (lent one) v u ≡ wakes st.graph st.program (lent part) v u
  woken_same u = wakes-same st.graph st.program (lent one) (lent part) v own_lent lent_same u

  edge_same : (e : ℕ) → e < length st.graph.edges → (after_update st.graph st.program (lent one) v).edge e ≡ (after_update st.graph st.program (lent part) v).edge e
  edge_same e inside = edge_after-same st.graph st.program (lent one) (lent part) v e own_lent lent_same (seen.edges e inside)

  -- ---- what is told is the same

  abbrev no_edge : DataEdge
  no_edge = record { from = 0; to = 0; weight = 0 }

  past_shared : (q : ℕ) → q ≢ a → is_shared st v q no_edge ≡ false
  past_shared q other = false_from_ne_true (is_shared st v q no_edge) (λ yes.
      let both : (0 == v && st.owner 0 == q) ≡ true = ⊎_elim (λ x. x) (λ x. x) (or_cases (0 == v && st.owner 0 == q) (0 == v && st.owner 0 == q) yes) in
      let parts = and_parts (0 == v) (st.owner 0 == q) both in
      other (sym (eqb-true (st.owner 0) q parts.1) ∙ ap st.owner (eqb-true 0 v parts.0) ∙ own))

  told_same : (q : ℕ) → q ≢ a → (e : ℕ) → told_edge (is_shared st v q (nth_edge st e)) (n e) ((after_update st.graph st.program (lent one) v).edge e)
      ≡ told_edge (is_shared st v q (nth_edge st e)) (part.edge e) ((after_update st.graph st.program (lent part) v).edge e)
  told_same q other e = ⊎_elim
      (λ (inside : e < length st.graph.edges). ap₂ (told_edge (is_shared st v q (nth_edge st e))) (seen.edges e inside) (edge_same e inside))
      (λ (past : length st.graph.edges ≤ e).
      let none : is_shared st v q (nth_edge st e) ≡ false = ap (is_shared st v q) (get_or_past st.graph.edges e no_edge past) ∙ past_shared q other in
      ap (λ (b : Bool). told_edge b (n e) ((after_update st.graph st.program (lent one) v).edge e)) none
      ∙ sym (ap (λ (b : Bool). told_edge b (part.edge e) ((after_update st.graph st.program (lent part) v).edge e)) none))
      (cases_lt e (length st.graph.edges))

  news_same : (q : ℕ) → q ≢ a → news_for st one v q ≡ news_for st part v q
  news_same q other =
      let edges = told_same q other in
      let datum = ap₂ told_datum here_same number_same in
      λ i. record {
        centre = v;
        datum = datum i;
        edges = λ e. edges e i;
        wakes = λ u. st.owner u == q && woken_same u i;
        pends = λ u. false;
        number = 0;
      }

  tell_same : (s : ScopeId) (x y : ℕ → News) (out : ℕ → List Message) → ((q : ℕ) → q ≢ a → x q ≡ y q) → (q : ℕ) → tell st a v s x out q ≡ tell st a v s y out q
  tell_same s x y out same q = by (q == a) refl
    where
      by : (b : Bool) → (q == a) ≡ b → tell st a v s x out q ≡ tell st a v s y out q
      by true at = ap (λ (c : Bool). if takes_part st v q && not c then out q ++ Done s (x q) ∷ [] else out q) at
          ∙ none (takes_part st v q)
          ∙ sym (ap (λ (c : Bool). if takes_part st v q && not c then out q ++ Done s (y q) ∷ [] else out q) at)
        where
          none : (c : Bool) → (if c && false then out q ++ Done s (x q) ∷ [] else out q) ≡ (if c && false then out q ++ Done s (y q) ∷ [] else out q)
          none true = refl
          none false = refl
      by false off = ap (λ (news : News). if takes_part st v q && not (q == a) then out q ++ Done s news ∷ [] else out q) (same q (λ at. true≢false (sym (eq-eqb q a at) ∙ off)))

  -- ---- an update

  updated_with : (s : ScopeId) (entry : Entry) → updated st a s v entry one ≡ with_copies (set_at d v (renewed (d v) (new_number st.graph st.program (lent one) v))) (after_update st.graph st.program (lent one) v).edge (updated st a s v entry part)
  updated_with s entry =
      let out = tell_same s (news_for st one v) (news_for st part v) part.out news_same in
      λ i. record (updated st a s v entry one) {
        task = λ u. (st.owner u == a && woken_same u i) || (part.task u && not (u == v));
        out = λ q. out q i;
      }

  pub update_seen : (s : ScopeId) (entry : Entry) → LooksAlike st a (updated st a s v entry one) (updated st a s v entry part)
  update_seen s entry =
      alike_with st a (set_at d v (renewed (d v) (new_number st.graph st.program (lent one) v))) (after_update st.graph st.program (lent one) v).edge
      (updated st a s v entry one) (updated st a s v entry part) (updated_with s entry) (record {
        vertices = λ u inside takes. ap₂ (λ (x : Datum) (y : Datum). if u == v then x else y) (ap₂ renewed here_same number_same) (seen.vertices u inside takes);
        edges = edge_same;
      })

  -- ---- a snapshot update

  left_same : (u : ℕ) → is_left st one v u ≡ is_left st part v u
  left_same u = and_where (is_near st v u) (nat_lt (d u).mark part.known) (nat_lt (part.datum u).mark part.known) (λ near. ap (λ (x : Datum). nat_lt x.mark part.known) (near_seen u near))

  pends_same : (q u : ℕ) → pends_for st one v q u ≡ pends_for st part v q u
  pends_same q u = ap (λ (b : Bool). st.owner u == q && b) (left_same u)

  mark_same : marked_datum one v ≡ marked_datum part v
  mark_same = λ i. record { value = (here_same i).value; version = suc (here_same i).version; mark = part.known }

  mark_told : (q : ℕ) → mark_news st one v q ≡ mark_news st part v q
  mark_told q = λ i. record {
    centre = v;
    datum = Some (mark_same i);
    edges = λ e. None;
    wakes = λ u. false;
    pends = λ u. pends_same q u i;
    number = number_if (first_passing (λ u. pends_same q u i) 0 (size st.graph)) part.known;
  }

  -- an edge that is saved is one of the graph
  saved_inside : (e : ℕ) → saves_edge st part v e ≡ true → e < length st.graph.edges
  saved_inside e saves = ⊎_elim
      (λ (inside : e < length st.graph.edges). inside)
      (λ (past : length st.graph.edges ≤ e).
      let none : nth_edge st e ≡ no_edge = get_or_past st.graph.edges e no_edge past in
      let at : (is_end no_edge v && is_left st part v (other_end no_edge v)) ≡ true = ap (λ (x : DataEdge). is_end x v && is_left st part v (other_end x v)) (sym none) ∙ saves in
      let parts = and_parts (is_end no_edge v) (is_left st part v (other_end no_edge v)) at in
      let zero_is : no_edge.from ≡ v = eqb-true 0 v (⊎_elim (λ x. x) (λ x. x) (or_cases (0 == v) (0 == v) parts.0)) in
      let other : other_end no_edge v ≡ v = same_ends (0 == v) ∙ zero_is in
      let near : is_near st v v ≡ true = subst (λ (x : ℕ). is_near st v x ≡ true) other (and_parts (is_near st v (other_end no_edge v)) (nat_lt (part.datum (other_end no_edge v)).mark part.known) parts.1).0 in
      absurd (true≢false (sym near ∙ near_other st is v)))
      (cases_lt e (length st.graph.edges))
    where
      same_ends : (b : Bool) → (if b then no_edge.to else no_edge.from) ≡ no_edge.from
      same_ends true = refl
      same_ends false = refl

  saved_same : (e : ℕ) → (if saves_edge st one v e then Some (n e) else part.saved.edges e) ≡ (if saves_edge st part v e then Some (part.edge e) else part.saved.edges e)
  saved_same e =
      ap (λ (b : Bool). if is_end (nth_edge st e) v && b then Some (n e) else part.saved.edges e) (left_same (other_end (nth_edge st e) v))
      ∙ by (saves_edge st part v e) refl
    where
      by : (b : Bool) → saves_edge st part v e ≡ b → (if saves_edge st part v e then Some (n e) else part.saved.edges e) ≡ (if saves_edge st part v e then Some (part.edge e) else part.saved.edges e)
      by true at = ap (λ (x : ℕ). if saves_edge st part v e then Some x else part.saved.edges e) (seen.edges e (saved_inside e at))
      by false off = ap (λ (b : Bool). if b then Some (n e) else part.saved.edges e) off ∙ sym (ap (λ (b : Bool). if b then Some (part.edge e) else part.saved.edges e) off)

  save_same : save st one v ≡ save st part v
  save_same = λ i. record {
    vertices = set_at part.saved.vertices v (Some (here_same i).value);
    edges = λ e. saved_same e i;
  }

  -- it but for what becomes pending behind it
  abbrev pub alone : ScopeId → Part → Part
  alone s p =
      ends st a s v (mark_news st p v)
      (record p {
        datum = set_at p.datum v (marked_datum p v);
        pending = λ u. pends_for st p v a u || (p.pending u && not (u == v));
        saved = save st p v;
      })

  alone_with : (s : ScopeId) → alone s one ≡ with_copies (set_at d v (marked_datum one v)) n (alone s part)
  alone_with s =
      let out = tell_same s (mark_news st one v) (mark_news st part v) part.out (λ q other. mark_told q) in
      λ i. record (alone s one) {
        pending = λ u. pends_same a u i || (part.pending u && not (u == v));
        saved = save_same i;
        out = λ q. out q i;
      }

  alone_seen : (s : ScopeId) → LooksAlike st a (alone s one) (alone s part)
  alone_seen s =
      alike_with st a (set_at d v (marked_datum one v)) n (alone s one) (alone s part) (alone_with s) (record {
        vertices = λ u inside takes. ap₂ (λ (x : Datum) (y : Datum). if u == v then x else y) mark_same (seen.vertices u inside takes);
        edges = seen.edges;
      })

  pub mark_seen : (s : ScopeId) → LooksAlike st a (marked st a s v one) (marked st a s v part)
  mark_seen s = seeded_alike st a is (alone s one) (alone s part) (alone_seen s)

pub update_alike : (st : Setting) (a v : ℕ) (s : ScopeId) (entry : Entry) (one other : Part) → IsSetting st → v < size st.graph → st.owner v ≡ a → LooksAlike st a one other
    → LooksAlike st a (updated st a s v entry one) (updated st a s v entry other)
update_alike st a v s entry one other is low own alike =
    alike_by st a (updated st a s v entry) one other (λ d n seen. update_seen st a v is low own d n other seen s entry) alike

pub mark_alike : (st : Setting) (a v : ℕ) (s : ScopeId) (one other : Part) → IsSetting st → v < size st.graph → st.owner v ≡ a → LooksAlike st a one other
    → LooksAlike st a (marked st a s v one) (marked st a s v other)
mark_alike st a v s one other is low own alike = alike_by st a (marked st a s v) one other (λ d n seen. mark_seen st a v is low own d n other seen s) alike
