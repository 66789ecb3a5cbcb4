-- An update of a vertex whose scope lies on one machine, made at once: no lock is taken, no scope is in flight, and no message is sent.
pub use Rattle.cluster_laws.specs.cluster_core.Actions.{Action, Admit, Grant, Update, MayAdmit, draws}
pub use Rattle.cluster_laws.specs.cluster_core.Effects.{next_scope, renewed}
pub use Rattle.cluster_laws.specs.cluster_core.Parts.{Part, lent}
pub use Rattle.cluster_laws.specs.cluster_core.Settings.{Chromatic, Engine, Setting, IsSetting, Locking, is_in_scope}
pub use Rattle.cluster_laws.specs.cluster_core.Worlds.{World, with_part}
use Rattle.std.specs.Prelude.{◌≡◌, ℕ, suc, ◌<◌, ◌==◌, ◌&&◌, ◌||◌, not, true, false, None, List, [], ◌∷◌, ◌++◌, map}
use Rattle.gl_base.specs.declared.entries.Entry.{Entry}
use Rattle.gl_base.specs.declared.entries.Entry.TheVariants.{Go}
use Rattle.gl_base.specs.declared.scopes.ScopeId.{ScopeId}
use Rattle.cluster_laws.specs.cluster_core.Ranges.{all_passing, set_at}
use Rattle.graph_core.specs.DataGraph.{size}
use Rattle.seq_run.specs.States.{after_update, new_number, wakes}

-- ---- when

-- each vertex of the scope of v is machine a's
abbrev pub IsInterior : Setting → ℕ → ℕ → Type 0
IsInterior st a v = (x : ℕ) → is_in_scope st v x ≡ true → st.owner x ≡ a

-- nobody holds the lock of x, and nobody waits for it
pub record HasNoClaim (part : Part) (x : ℕ) : Type 0 where
  pub holder : (s : ScopeId) → part.holder x s ≡ None
  pub queue : part.queue x ≡ []

-- the scope was never seen here
pub record IsUnseen (part : Part) (s : ScopeId) : Type 0 where
  pub flight : part.flight s ≡ None
  pub stand : part.stand s ≡ None
  pub ready : part.ready s ≡ false
  pub holder : (x : ℕ) → part.holder x s ≡ None

-- Machine a may admit a scope of v for an update; that scope is new there, all its vertices are the machine's, and a ticket is left.
-- Where scopes take locks, nobody claims theirs.
pub record MayUpdateAtOnce (st : Setting) (a v : ℕ) (part : Part) (left : ℕ) : Type 0 where
  pub admit : MayAdmit st a v part
  pub task : part.task v ≡ true
  pub not_pending : part.pending v ≡ false
  pub is_new : IsUnseen part (next_scope a part)
  pub interior : IsInterior st a v
  pub unclaimed : st.engine ≡ Locking → (x : ℕ) → is_in_scope st v x ≡ true → HasNoClaim part x
  pub ticket : 0 < left

-- ---- what it does

-- Machine a makes the update of v and logs this entry, and one scope more was admitted.
abbrev pub at_once : Setting → ℕ → ℕ → Entry → Part → Part
at_once st a v entry part =
    record part {
      datum = set_at part.datum v (renewed (part.datum v) (new_number st.graph st.program (lent part) v));
      edge = (after_update st.graph st.program (lent part) v).edge;
      task = λ u. (st.owner u == a && wakes st.graph st.program (lent part) v u) || (part.task u && not (u == v));
      log = part.log ++ entry ∷ [];
      serial = suc part.serial;
    }

-- the entry of the update of v on machine a under this ticket
abbrev pub entry_at_once : ℕ → ℕ → ℕ → Entry
entry_at_once a v ticket = Go (record { 0 = a }) (record { 0 = v }) ticket

-- the whole cluster after it
abbrev pub after_at_once : Setting → World → ℕ → ℕ → World
after_at_once st w a v = draws (with_part w a (at_once st a v (entry_at_once a v w.next) (w.part a)))

-- ---- the actions that it stands for

-- the vertices of machine a in the scope of v, ascending
abbrev pub own_vertices : Setting → ℕ → ℕ → List ℕ
own_vertices st v a = all_passing (λ x. is_in_scope st v x && st.owner x == a) 0 (size st.graph)

-- the locks that a scope of v takes at machine a: with colours none
abbrev pub locks_by : Engine → Setting → ℕ → ℕ → List ℕ
locks_by Locking st v a = own_vertices st v a
locks_by (Chromatic colour colours) st v a = []

abbrev pub locks_at_once : Setting → ℕ → ℕ → List ℕ
locks_at_once st v a = locks_by st.engine st v a

-- a scope of v is admitted, each of its locks is granted in turn, and its update is made
abbrev pub actions_at_once : Setting → ℕ → ℕ → Part → List Action
actions_at_once st a v part = Admit a v ∷ map (Grant a) (locks_at_once st v a) ++ Update (next_scope a part) ∷ []
