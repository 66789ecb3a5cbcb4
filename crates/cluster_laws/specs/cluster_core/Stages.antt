-- The place of a scope, from its admission to the last machine that learns of its update, and what a cluster shows of it.
use Rattle.std.specs.Prelude.{Bool, List, None, Option, Some, [], false, if◌then◌else◌, suc, true, ℕ, ◌&&◌, ◌++◌, ◌==◌, ◌∷◌, ◌≡◌}
use Rattle.gl_base.specs.declared.scopes.Claim.{Claim}
use Rattle.gl_base.specs.declared.scopes.Mode.{Mode}
use Rattle.gl_base.specs.declared.scopes.ScopeId.{ScopeId}
use Rattle.cluster_laws.specs.cluster_core.Messages.{Ask, Done, Message, Ready}
use Rattle.cluster_laws.specs.cluster_core.Parts.{Stand}
use Rattle.cluster_laws.specs.cluster_core.Scopes.{is_before, is_scope, machines_from, mode_at}
use Rattle.cluster_laws.specs.cluster_core.Settings.{Setting, is_in_scope}
use Rattle.cluster_laws.specs.cluster_core.Worlds.{World, way}

-- where a scope is
pub data Stage : Type 0 where
  -- it was not admitted yet, or it is over
  Idle : Stage
  -- its request is on the way from one machine to the next
  Asks : (centre : ℕ) → (from : ℕ) → (to : ℕ) → Stage
  -- it waits for the lock of a vertex, at the vertex's owner
  Waits : (centre : ℕ) → (lock : ℕ) → Stage
  -- it has all its locks, and word of that is on the way home
  Returns : (centre : ℕ) → (from : ℕ) → Stage
  -- it is ready at home
  Stays : (centre : ℕ) → Stage
  -- its update was made, and word of that is on the way to these machines
  Ends : (centre : ℕ) → (to : ℕ → Bool) → Stage

-- ---- the locks that a scope holds: in canonical order those before its place, all of them, or those at the machines that
-- didn't learn yet of its update

-- the scope holds the lock of x
abbrev pub has_lock : Setting → Stage → ℕ → Bool
has_lock st Idle x = false
has_lock st (Asks v from to) x = is_in_scope st v x && is_before st x to 0
has_lock st (Waits v lock) x = is_in_scope st v x && is_before st x (st.owner lock) lock
has_lock st (Returns v from) x = is_in_scope st v x
has_lock st (Stays v) x = is_in_scope st v x
has_lock st (Ends v to) x = is_in_scope st v x && to (st.owner x)

-- the vertex of the scope
abbrev pub centre_of : Stage → Option ℕ
centre_of Idle = None
centre_of (Asks v from to) = Some v
centre_of (Waits v lock) = Some v
centre_of (Returns v from) = Some v
centre_of (Stays v) = Some v
centre_of (Ends v to) = Some v

-- the same while it is in flight
abbrev pub flying : Stage → Option ℕ
flying Idle = None
flying (Asks v from to) = Some v
flying (Waits v lock) = Some v
flying (Returns v from) = Some v
flying (Stays v) = Some v
flying (Ends v to) = None

-- ---- what is to be seen of it

-- what a message says of a scope
pub data Token : Type 0 where
  IsAsked : (centre : ℕ) → (rest : List ℕ) → Token
  IsReady : Token
  IsDone : (centre : ℕ) → Token

-- what the message says of scope s
abbrev pub token_of : ScopeId → Message → List Token
token_of s (Ask t v rest) = if is_scope t s then IsAsked v rest ∷ [] else []
token_of s (Ready t) = if is_scope t s then IsReady ∷ [] else []
token_of s (Done t news) = if is_scope t s then IsDone news.centre ∷ [] else []

-- what the messages say of scope s
abbrev pub tokens_of : ScopeId → List Message → List Token
tokens_of s [] = []
tokens_of s (m ∷ messages) = token_of s m ++ tokens_of s messages

-- the requests of a scope
abbrev pub claims_of : ScopeId → List Claim → List Claim
claims_of s [] = []
claims_of s (c ∷ claims) = if is_scope c.scope s then c ∷ claims_of s claims else claims_of s claims

-- What is seen of a scope: at its home its centre, and that it is ready; at each machine where it stands; at each lock
-- whether it holds it or waits for it; and on each way what is said of it.
pub record Sight : Type 0 where
  pub flight : Option ℕ
  pub ready : Bool
  pub stand : ℕ → Option Stand
  pub holder : ℕ → Option Mode
  pub queue : ℕ → List Claim
  pub tokens : ℕ → ℕ → List Token

-- x where the test passes
abbrev pub some_if : {X : Type 0} → Bool → X → Option X
some_if test x = if test then Some x else None

-- x alone where the test passes
abbrev pub one_if : {X : Type 0} → Bool → X → List X
one_if test x = if test then x ∷ [] else []

-- it stands nowhere
abbrev pub no_stand : ℕ → Option Stand
no_stand a = None

-- it waits for no lock
abbrev pub no_claim : ℕ → List Claim
no_claim x = []

-- nothing is on the way
abbrev pub no_token : ℕ → ℕ → List Token
no_token p q = []

-- the locks that this test passes are held
abbrev pub held : ℕ → (ℕ → Bool) → ℕ → Option Mode
held v test x = some_if (test x) (mode_at v x)

-- what is seen of a scope in each stage
abbrev pub sight_of : Setting → ScopeId → Stage → Sight
sight_of st s Idle =
    record { flight = None; ready = false; stand = no_stand; holder = λ x. None; queue = no_claim; tokens = no_token }
sight_of st s (Asks v from to) =
    record {
      flight = Some v;
      ready = false;
      stand = no_stand;
      holder = held v (has_lock st (Asks v from to));
      queue = no_claim;
      tokens = λ p q. one_if (p == from && q == to) (IsAsked v (machines_from st v (suc to)));
    }
sight_of st s (Waits v lock) =
    record {
      flight = Some v;
      ready = false;
      stand = λ a. some_if (a == st.owner lock) (record { centre = v; lock = lock; rest = machines_from st v (suc (st.owner lock)) });
      holder = held v (has_lock st (Waits v lock));
      queue = λ x. one_if (x == lock) (record { scope = s; mode = mode_at v lock });
      tokens = no_token;
    }
sight_of st s (Returns v from) =
    record {
      flight = Some v;
      ready = false;
      stand = no_stand;
      holder = held v (has_lock st (Returns v from));
      queue = no_claim;
      tokens = λ p q. one_if (p == from && q == s.home.0) IsReady;
    }
sight_of st s (Stays v) =
    record { flight = Some v; ready = true; stand = no_stand; holder = held v (has_lock st (Stays v)); queue = no_claim; tokens = no_token }
sight_of st s (Ends v to) =
    record {
      flight = None;
      ready = false;
      stand = no_stand;
      holder = held v (has_lock st (Ends v to));
      queue = no_claim;
      tokens = λ p q. one_if (p == s.home.0 && to q) (IsDone v);
    }

-- the world shows of the scope just this
pub record Shows (st : Setting) (w : World) (s : ScopeId) (seen : Sight) : Type 0 where
  pub flight : (w.part s.home.0).flight s ≡ seen.flight
  pub ready : (w.part s.home.0).ready s ≡ seen.ready
  pub stand : (a : ℕ) → (w.part a).stand s ≡ seen.stand a
  pub holder : (x : ℕ) → (w.part (st.owner x)).holder x s ≡ seen.holder x
  pub queue : (x : ℕ) → claims_of s ((w.part (st.owner x)).queue x) ≡ seen.queue x
  pub tokens : (p q : ℕ) → tokens_of s (way w p q) ≡ seen.tokens p q
