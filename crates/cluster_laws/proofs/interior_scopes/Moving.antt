-- Moves are the actions that they stand for, one after another.
use Rattle.std.proofs.Common.{◌≡◌, ℕ, ◌<◌, List, [], ◌∷◌, ◌++◌, refl, sym, ◌∙◌, ap, subst, append_assoc, inr, false}
use Rattle.std.proofs.lemmas.List.{append-nil}
use Rattle.std.proofs.lemmas.Option.{none-some}
use Rattle.graph_core.specs.DataGraph.{size}
use Rattle.cluster_laws.specs.cluster_core.Actions.{Action, IsItsTurn, after}
use Rattle.cluster_laws.specs.cluster_core.Effects.{next_scope}
use Rattle.cluster_laws.specs.cluster_core.Parts.{Part}
use Rattle.cluster_laws.specs.cluster_core.Runs.{IsActionRun, IsStart}
use Rattle.cluster_laws.specs.cluster_core.Settings.{Chromatic, Engine, Locking, Setting, IsSetting}
use Rattle.cluster_laws.specs.cluster_core.Worlds.{World}
use Rattle.cluster_laws.specs.interior_scopes.AtOnce.{IsInterior, MayUpdateAtOnce}
use Rattle.cluster_laws.specs.interior_scopes.Moves.{AreMoves, AtOnce, MayMove, Move, One, actions_of, moved}
use Rattle.cluster_laws.proofs.interior_scopes.Running.{at_once_runs}

-- one run after another
run_then : (st : Setting) (first second : List Action) (old between new : World) → IsActionRun st old first between → IsActionRun st between second new → IsActionRun st old (first ++ second) new
run_then st [] second old between new one other = subst (λ (w : World). IsActionRun st w second new) one other
run_then st (action ∷ first) second old between new one other = (one.0, run_then st first second (after st old action) between new one.1 other)

-- a move is a run
move_runs : (st : Setting) → IsSetting st → (w : World) (move : Move) → MayMove st w move → IsActionRun st w (actions_of st w move) (moved st w move)
move_runs st is w (One action) may = (may, refl)
move_runs st is w (AtOnce a v) may = at_once_runs st is w a v may

pub moves_run : (st : Setting) → IsSetting st → (moves : List Move) (actions : List Action) (old new : World) → AreMoves st old moves actions new → IsActionRun st old actions new
moves_run st is [] actions old new are = subst (λ (list : List Action). IsActionRun st old list new) (sym are.0) are.1
moves_run st is (move ∷ moves) actions old new are =
    subst (λ (list : List Action). IsActionRun st old list new) (sym are.1.1)
    (run_then st (actions_of st old move) are.1.0 old (moved st old move) new (move_runs st is old move are.0) (moves_run st is moves are.1.0 (moved st old move) new are.1.2))

pub moves_end : (st : Setting) (moves : List Move) (actions : List Action) (old between : World) (move : Move) → AreMoves st old moves actions between → MayMove st between move →
    AreMoves st old (moves ++ move ∷ []) (actions ++ actions_of st between move) (moved st between move)
moves_end st [] actions old between move are may = (
  subst (λ (w : World). MayMove st w move) are.1 may,
  (
    [],
    (λ i. are.0 i ++ actions_of st (are.1 i) move) ∙ sym (append-nil (actions_of st old move)),
    (refl, ap (λ (w : World). moved st w move) are.1),
  ),
)
moves_end st (first ∷ moves) actions old between move are may = (
  are.0,
  (
    are.1.0 ++ actions_of st between move,
    ap (λ (list : List Action). list ++ actions_of st between move) are.1.1 ∙ append_assoc (actions_of st old first) are.1.0 (actions_of st between move),
    moves_end st moves are.1.0 (moved st old first) between move are.1.2 may,
  ),
)

pub start_may : (st : Setting) (w : World) (v : ℕ) → IsItsTurn st.engine st.pipeline v (w.part (st.owner v)) → IsStart st w → v < size st.graph → IsInterior st (st.owner v) v →
    (w.part (st.owner v)).pending v ≡ false → 0 < w.left → MayUpdateAtOnce st (st.owner v) v (w.part (st.owner v)) w.left
start_may st w v turn start within interior quiet left =
    let a = st.owner v in
    let s = next_scope a (w.part a) in
    record {
      admit = record {
        vertex = within;
        owned = refl;
        due = inr (start.tasks v within);
        fresh = λ t flies. none-some v (sym (start.flights a t) ∙ flies);
        turn = turn;
      };
      task = start.tasks v within;
      not_pending = quiet;
      is_new = record { flight = start.flights a s; stand = start.stands a s; ready = start.ready a s; holder = λ x. start.holders a x s };
      interior = interior;
      unclaimed = λ locking x scoped. record { holder = start.holders a x; queue = start.queues a x };
      ticket = left;
    }

-- with locks fewer scopes than may be are in flight as a cluster starts
pub locked_turn : (st : Setting) (w : World) (v : ℕ) → st.engine ≡ Locking → IsStart st w → 0 < st.pipeline → IsItsTurn st.engine st.pipeline v (w.part (st.owner v))
locked_turn st w v locking start room =
    let a = st.owner v in
    subst (λ (e : Engine). IsItsTurn e st.pipeline v (w.part a)) (sym locking) (subst (λ (n : ℕ). n < st.pipeline) (sym (start.flying a)) room)

-- with colours the machine is in the step of the vertex's colour
pub stepped_turn : (st : Setting) (part : Part) (v : ℕ) (colour : ℕ → ℕ) (colours : ℕ) → st.engine ≡ Chromatic colour colours → part.colour ≡ colour v → part.closed ≡ false → IsItsTurn st.engine st.pipeline v part
stepped_turn st part v colour colours steps same goes_on = subst (λ (e : Engine). IsItsTurn e st.pipeline v part) (sym steps) (sym same, goes_on)
