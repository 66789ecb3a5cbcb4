-- A held lock has one holder; each scope is in one place and holds just the locks of that place; and what was gathered for it is
-- what the owners have.
use Rattle.std.specs.List.{AllByRecursion}
use Rattle.std.specs.Prelude.{List, None, Option, Some, [], if◌then◌else◌, is_some, length, map, suc, true, ℕ, ⊤, ◌++◌, ◌<◌, ◌∷◌, ◌≡◌, ◌≢◌}
use Rattle.gl_base.specs.declared.scopes.ScopeId.{ScopeId}
use Rattle.graph_core.specs.DataGraph.{size}
use Rattle.cluster_laws.specs.cluster_core.Parts.{Stand}
use Rattle.cluster_laws.specs.cluster_core.Places.{IsStageOf}
use Rattle.cluster_laws.specs.cluster_core.Scopes.{is_scope, machines_from}
use Rattle.cluster_laws.specs.cluster_core.Settings.{Setting, is_in_scope}
use Rattle.cluster_laws.specs.cluster_core.Stages.{Idle, IsAsked, IsDone, IsReady, Sight, Stage, Token, flying, sight_of}
use Rattle.full_laws.specs.FullMessages.{FullMessage, Gather, Give, Home}
use Rattle.full_laws.specs.FullParts.{FullPart, FullStand}
use Rattle.full_laws.specs.FullWorlds.{FullWorld, full_way, number_at}
use Rattle.full_laws.specs.Items.{AVertex}

-- a held lock has one holder
abbrev pub HaveOneHolder : FullWorld → Type 0
HaveOneHolder w = (a x : ℕ) (s t : ScopeId) → (w.part a).holds x s ≡ true → (w.part a).holds x t ≡ true → s ≡ t

-- each lock that is held at a machine is of one of its vertices
abbrev pub HoldTheirOwn : Setting → FullWorld → Type 0
HoldTheirOwn st w = (a x : ℕ) (s : ScopeId) → (w.part a).holds x s ≡ true → st.owner x ≡ a

-- a gift has a number of each vertex whose lock its scope holds here
abbrev pub GivesItsLocks : FullPart → FullMessage → Type 0
GivesItsLocks part (Gather s v rest seen) = ⊤
GivesItsLocks part (Home s seen) = ⊤
GivesItsLocks part (Give s gift) = (x : ℕ) → part.holds x s ≡ true → (n : ℕ) × (gift.numbers (AVertex x) ≡ Some n)

-- each gift has such numbers of the machine to which it goes
abbrev pub GiveTheirLocks : FullWorld → Type 0
GiveTheirLocks w = (p q : ℕ) → AllByRecursion (GivesItsLocks (w.part q)) (full_way w p q)

-- ---- places

-- what a message says of a scope
pub data FullToken : Type 0 where
  IsGathering : (centre : ℕ) → (rest : List ℕ) → FullToken
  IsGoingHome : FullToken
  IsGiven : FullToken

-- what the message says of scope s
abbrev pub full_token_of : ScopeId → FullMessage → List FullToken
full_token_of s (Gather t v rest seen) = if is_scope t s then IsGathering v rest ∷ [] else []
full_token_of s (Home t seen) = if is_scope t s then IsGoingHome ∷ [] else []
full_token_of s (Give t gift) = if is_scope t s then IsGiven ∷ [] else []

-- what the messages say of scope s
abbrev pub full_tokens_of : ScopeId → List FullMessage → List FullToken
full_tokens_of s [] = []
full_tokens_of s (m ∷ messages) = full_token_of s m ++ full_tokens_of s messages

-- the same as of a scope of the locking engine
abbrev pub as_token : Token → FullToken
as_token (IsAsked v rest) = IsGathering v rest
as_token IsReady = IsGoingHome
as_token (IsDone v) = IsGiven

-- how often the scope is among these
abbrev pub times_among : ScopeId → List ScopeId → ℕ
times_among s [] = 0
times_among s (t ∷ scopes) = if is_scope t s then suc (times_among s scopes) else times_among s scopes

-- where a scope stands, without what was gathered
abbrev pub bare_stand : Option FullStand → Option Stand
bare_stand None = None
bare_stand (Some stand) = Some (record { centre = stand.centre; lock = stand.lock; rest = stand.rest })

-- the world shows of the scope just this
pub record ShowsFull (st : Setting) (w : FullWorld) (s : ScopeId) (seen : Sight) : Type 0 where
  pub flight : (w.part s.home.0).flight s ≡ seen.flight
  pub ready : is_some ((w.part s.home.0).ready s) ≡ seen.ready
  pub stand : (a : ℕ) → bare_stand ((w.part a).stand s) ≡ seen.stand a
  pub holds : (x : ℕ) → (w.part (st.owner x)).holds x s ≡ is_some (seen.holder x)
  pub queue : (x : ℕ) → times_among s ((w.part (st.owner x)).queue x) ≡ length (seen.queue x)
  pub tokens : (p q : ℕ) → full_tokens_of s (full_way w p q) ≡ map as_token (seen.tokens p q)

-- Of each scope the stage says where it is, and the cluster shows just that. The stages, and what is seen in each, are those of
-- the locking engine.
pub record AreFullPlaces (st : Setting) (w : FullWorld) (stage : ScopeId → Stage) : Type 0 where
  pub shows : (s : ScopeId) → ShowsFull st w s (sight_of st s (stage s))
  pub stages : (s : ScopeId) → IsStageOf st s (stage s)
  -- only scopes that were admitted are in some place
  pub admitted : (s : ScopeId) → stage s ≢ Idle → s.serial < (w.part s.home.0).serial
  -- no two scopes in flight have one vertex, and each has one that is a task of its home
  pub single : (s t : ScopeId) (v : ℕ) → flying (stage s) ≡ Some v → flying (stage t) ≡ Some v → s ≡ t
  pub tasks : (s : ScopeId) (v : ℕ) → flying (stage s) ≡ Some v → (w.part s.home.0).task v ≡ true

-- ---- what was gathered

-- what a scope is to have gathered: the owners' numbers of the vertices whose locks it holds, and no others
abbrev pub to_gather : Setting → FullWorld → ScopeId → ℕ → Option ℕ
to_gather st w s x = if (w.part (st.owner x)).holds x s then Some (number_at st w x) else None

-- this was gathered for scope s, where `what` says what it is to have gathered
abbrev pub IsSeen : (ScopeId → ℕ → Option ℕ) → ScopeId → (ℕ → Option ℕ) → Type 0
IsSeen what s seen = (x : ℕ) → seen x ≡ what s x

-- the message has what is to be gathered
abbrev pub IsTrueMessage : (ScopeId → ℕ → Option ℕ) → FullMessage → Type 0
IsTrueMessage what (Gather s v rest seen) = IsSeen what s seen
IsTrueMessage what (Home s seen) = IsSeen what s seen
IsTrueMessage what (Give s gift) = ⊤

-- What was gathered for a scope is what it is to have gathered, wherever the scope is.
pub record AreGathered (w : FullWorld) (what : ScopeId → ℕ → Option ℕ) : Type 0 where
  pub messages : (p q : ℕ) → AllByRecursion (IsTrueMessage what) (full_way w p q)
  pub stands : (a : ℕ) (s : ScopeId) (stand : FullStand) → (w.part a).stand s ≡ Some stand → IsSeen what s stand.seen
  pub ready : (s : ScopeId) (seen : ℕ → Option ℕ) → (w.part s.home.0).ready s ≡ Some seen → IsSeen what s seen

-- ---- where a scope stands

-- Scope s waits at machine a for the lock of one of the machine's vertices in its scope. The machines that own others behind it are
-- still to come, and its centre is a vertex of its home.
pub record IsStandingAt (st : Setting) (s : ScopeId) (a : ℕ) (stand : FullStand) : Type 0 where
  pub vertex : stand.centre < size st.graph
  pub home : st.owner stand.centre ≡ s.home.0
  pub inside : is_in_scope st stand.centre stand.lock ≡ true
  pub here : st.owner stand.lock ≡ a
  pub rest : stand.rest ≡ machines_from st stand.centre (suc a)

-- Scope s of centre v comes to machine a for its locks there. It stands nowhere at a yet, its centre is a vertex of its home, and the
-- machines of its scope behind a are still to come.
pub record IsArrivingAt (st : Setting) (w : FullWorld) (s : ScopeId) (a v : ℕ) (rest : List ℕ) : Type 0 where
  pub vertex : v < size st.graph
  pub home : st.owner v ≡ s.home.0
  pub behind : rest ≡ machines_from st v (suc a)
  pub nowhere : (w.part a).stand s ≡ None
