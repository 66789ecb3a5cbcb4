-- What the messages on a way make of the copies at its end.
use Rattle.std.specs.List.{list_any}
use Rattle.std.specs.Prelude.{Bool, List, [], false, is_some, true, ℕ, ⊤, ◌∷◌, ◌≡◌, ◌≢◌}
use Rattle.gl_base.specs.declared.scopes.Datum.{Datum}
use Rattle.cluster_laws.specs.cluster_core.Effects.{datum_after, edge_after, is_shared}
use Rattle.cluster_laws.specs.cluster_core.Messages.{Ask, Done, Message, News, Ready}
use Rattle.cluster_laws.specs.cluster_core.Settings.{Setting, nth_edge, is_near}

-- the copy of the datum of v, with the messages applied in turn
abbrev pub datum_told : ℕ → List Message → Datum → Datum
datum_told v [] d = d
datum_told v (Ask s c rest ∷ messages) d = datum_told v messages d
datum_told v (Ready s ∷ messages) d = datum_told v messages d
datum_told v (Done s news ∷ messages) d = datum_told v messages (datum_after news v d)

-- the copy of the number of edge e, with the messages applied in turn
abbrev pub edge_told : ℕ → List Message → ℕ → ℕ
edge_told e [] x = x
edge_told e (Ask s c rest ∷ messages) x = edge_told e messages x
edge_told e (Ready s ∷ messages) x = edge_told e messages x
edge_told e (Done s news ∷ messages) x = edge_told e messages (edge_after (news.edges e) x)

-- the message changes the number of edge e
abbrev pub changes_edge : ℕ → Message → Bool
changes_edge e (Ask s c rest) = false
changes_edge e (Ready s) = false
changes_edge e (Done s news) = is_some (news.edges e)

-- one of the messages changes it
abbrev pub edge_changed : ℕ → List Message → Bool
edge_changed e messages = list_any (changes_edge e) messages

-- the message wakes u
abbrev pub wakes_vertex : ℕ → Message → Bool
wakes_vertex u (Ask s c rest) = false
wakes_vertex u (Ready s) = false
wakes_vertex u (Done s news) = news.wakes u

-- one of the messages wakes u
abbrev pub vertex_woken : ℕ → List Message → Bool
vertex_woken u messages = list_any (wakes_vertex u) messages

-- What is told from p to q: of the update of a vertex of p, of edges between that vertex and vertices of q, and of neighbours
-- of that vertex that q owns.
pub record IsNewsFor (st : Setting) (p q : ℕ) (news : News) : Type 0 where
  pub centre : st.owner news.centre ≡ p
  pub apart : p ≢ q
  pub edges : (e : ℕ) → is_some (news.edges e) ≡ true → is_shared st news.centre q (nth_edge st e) ≡ true
  pub wakes : (u : ℕ) → news.wakes u ≡ true → (is_near st news.centre u ≡ true) × (st.owner u ≡ q)
  pub pends : (u : ℕ) → news.pends u ≡ true → (is_near st news.centre u ≡ true) × (st.owner u ≡ q)

-- only news that concern q are told to q
abbrev pub IsToldTo : Setting → ℕ → ℕ → Message → Type 0
IsToldTo st p q (Ask s c rest) = ⊤
IsToldTo st p q (Ready s) = ⊤
IsToldTo st p q (Done s news) = IsNewsFor st p q news
