-- What a machine may rely on when a message comes.
use Rattle.std.specs.Prelude.{List, None, Some, false, is_some, suc, true, ℕ, ◌≡◌, ◌≢◌, ◌⊎◌}
use Rattle.gl_base.specs.declared.scopes.ScopeId.{ScopeId}
use Rattle.cluster_laws.specs.cluster_core.Effects.{is_shared}
use Rattle.cluster_laws.specs.cluster_core.Messages.{Ask, Done, Message, News, Ready}
use Rattle.cluster_laws.specs.cluster_core.Parts.{Part}
use Rattle.cluster_laws.specs.cluster_core.Scopes.{machines_from, mode_at, takes_part}
use Rattle.cluster_laws.specs.cluster_core.Settings.{Setting, nth_edge, is_in_scope}

-- The scope stands nowhere here and holds no lock here. If it was admitted here it is in flight, and this machine takes part in
-- the scope; the rest are the machines of the scope above this one.
pub record MayAsk (st : Setting) (a : ℕ) (part : Part) (s : ScopeId) (v : ℕ) (rest : List ℕ) : Type 0 where
  pub stand : part.stand s ≡ None
  pub holder : (x : ℕ) → st.owner x ≡ a → part.holder x s ≡ None
  pub flight : (s.home.0 ≢ a) ⊎ (part.flight s ≡ Some v)
  pub part_of : takes_part st v a ≡ true
  pub rest_of : rest ≡ machines_from st v (suc a)

-- The scope was admitted here, and is in flight and not ready.
pub record MayBecomeReady (a : ℕ) (part : Part) (s : ScopeId) : Type 0 where
  pub home : s.home.0 ≡ a
  pub vertex : ℕ
  pub flight : part.flight s ≡ Some vertex
  pub ready : part.ready s ≡ false

-- The centre is a vertex of the sender that this machine keeps a copy of; edges and woken vertices concern this machine, and
-- the scope holds its locks here.
pub record MayLearn (st : Setting) (p a : ℕ) (part : Part) (s : ScopeId) (news : News) : Type 0 where
  pub owner : st.owner news.centre ≡ p
  pub copy : p ≢ a
  pub part_of : takes_part st news.centre a ≡ true
  pub edges : (e : ℕ) → is_some (news.edges e) ≡ true → is_shared st news.centre a (nth_edge st e) ≡ true
  pub wakes : (u : ℕ) → news.wakes u ≡ true → st.owner u ≡ a
  pub locks : (x : ℕ) → is_in_scope st news.centre x ≡ true → st.owner x ≡ a → part.holder x s ≡ Some (mode_at news.centre x)

-- machine a may receive the message from p
abbrev pub MayReceive : Setting → ℕ → ℕ → Part → Message → Type 0
MayReceive st p a part (Ask s v rest) = MayAsk st a part s v rest
MayReceive st p a part (Ready s) = MayBecomeReady a part s
MayReceive st p a part (Done s news) = MayLearn st p a part s news
