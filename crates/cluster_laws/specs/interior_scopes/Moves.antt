-- Actions and updates at once, mixed in any order.
use Rattle.std.specs.Prelude.{◌≡◌, ℕ, List, [], ◌∷◌, ◌++◌}
use Rattle.cluster_laws.specs.cluster_core.Actions.{MayHappen, after}
use Rattle.cluster_laws.specs.interior_scopes.AtOnce.{Action, MayUpdateAtOnce, Setting, World, actions_at_once, after_at_once}

-- one action, or the update of a machine's vertex at once
pub data Move : Type 0 where
  One : (action : Action) → Move
  AtOnce : (machine : ℕ) → (vertex : ℕ) → Move

-- the guard of each
abbrev pub MayMove : Setting → World → Move → Type 0
MayMove st w (One action) = MayHappen st w action
MayMove st w (AtOnce a v) = MayUpdateAtOnce st a v (w.part a) w.left

-- the effect of each
abbrev pub moved : Setting → World → Move → World
moved st w (One action) = after st w action
moved st w (AtOnce a v) = after_at_once st w a v

-- the actions that it stands for
abbrev pub actions_of : Setting → World → Move → List Action
actions_of st w (One action) = action ∷ []
actions_of st w (AtOnce a v) = actions_at_once st a v (w.part a)

-- these moves, one after another, lead from one world to another and stand for these actions
abbrev pub AreMoves : Setting → World → List Move → List Action → World → Type 0
AreMoves st old [] actions new = (actions ≡ []) × (new ≡ old)
AreMoves st old (move ∷ moves) actions new =
    MayMove st old move
    × ((rest : List Action) × (actions ≡ actions_of st old move ++ rest) × AreMoves st (moved st old move) moves rest new)
