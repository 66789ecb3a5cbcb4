-- Four vertices in a line on four machines, which are matched: the scope of vertex 1 waits while that of vertex 3 is on its way.
use Rattle.std.specs.Prelude.{List, None, [], false, nat_lt, ℕ, ◌&&◌, ◌==◌, ◌∷◌}
use Rattle.gl_base.specs.declared.scopes.ScopeId.{ScopeId}
use Rattle.update_api.specs.Updates.{update_of_components}
use Rattle.seq_run.specs.States.{start_state}
use Rattle.cluster_laws.specs.cluster_core.Settings.{Locking, Setting}
use Rattle.full_scope.specs.FullStates.{full_start}
use Rattle.prog_match.specs.MatchingExamples.{four_in_line}
use Rattle.prog_match.specs.Pairs.{update_of_pairs}
use Rattle.full_laws.specs.FullActions.{Admits, Delivers, FullAction, Grants, Sends, Updates, after_action}
use Rattle.full_laws.specs.FullParts.{FullPart}
use Rattle.full_laws.specs.FullWorlds.{FullWorld}
use Rattle.full_laws.specs.Items.{number_in}

-- one vertex on each machine; the program of the setting is not used
abbrev pub each_on_its_own : Setting
each_on_its_own =
    record {
      graph = four_in_line;
      program = update_of_components;
      owner = λ v. v;
      machines = 4;
      pipeline = 1;
      engine = Locking;
      stored = false;
      window = 0;
      start = start_state four_in_line update_of_components;
      base = 0;
    }

-- each vertex is unmatched and a task, and nothing is under way
abbrev pub unmatched_part : ℕ → FullPart
unmatched_part a =
    record {
      number = number_in (full_start four_in_line update_of_pairs);
      task = λ u. u == a && nat_lt u 4;
      log = [];
      serial = 0;
      flying = 0;
      flight = λ s. None;
      stand = λ s. None;
      ready = λ s. None;
      holds = λ x s. false;
      queue = λ x. [];
      out = λ q. [];
    }

abbrev pub all_unmatched : FullWorld
all_unmatched = record { part = unmatched_part; link = λ p q. []; next = 0; left = 4 }

-- these actions, one after another
abbrev pub after_these : FullWorld → List FullAction → FullWorld
after_these w [] = w
after_these w (action ∷ actions) = after_these (after_action each_on_its_own update_of_pairs w action) actions

-- the scopes of vertex 3 and of vertex 1
abbrev pub of_third : ScopeId
of_third = record { home = record { 0 = 2 }; serial = 0 }

abbrev pub of_first : ScopeId
of_first = record { home = record { 0 = 0 }; serial = 0 }

-- the scope of vertex 3 takes the locks of vertices 2 and 3, and waits for that of vertex 4; the scope of vertex 1 takes its own and
-- waits for that of vertex 2
abbrev pub both_set_out : List FullAction
both_set_out =
    Admits 2 2 ∷ Sends 2 1 ∷ Delivers 2 1 ∷ Grants 1 1 ∷ Sends 1 2 ∷ Delivers 1 2 ∷ Grants 2 2 ∷ Sends 2 3 ∷ Delivers 2 3
    ∷ Admits 0 0 ∷ Grants 0 0 ∷ Sends 0 1 ∷ Delivers 0 1 ∷ []

abbrev pub while_both_wait : FullWorld
while_both_wait = after_these all_unmatched both_set_out

-- the scope of vertex 3 has its last lock and comes home, its update is made, and machine 1 takes what it is given
abbrev pub third_updates : List FullAction
third_updates = Grants 3 3 ∷ Sends 3 2 ∷ Delivers 3 2 ∷ Updates of_third ∷ Sends 2 1 ∷ Delivers 2 1 ∷ []

abbrev pub once_given : FullWorld
once_given = after_these while_both_wait third_updates

-- the scope of vertex 1 has its lock and comes home, and its update changes nothing; machine 1 takes what it is given
abbrev pub first_updates : List FullAction
first_updates = Grants 1 1 ∷ Sends 1 0 ∷ Delivers 1 0 ∷ Updates of_first ∷ Sends 0 1 ∷ Delivers 0 1 ∷ []

abbrev pub two_updated : FullWorld
two_updated = after_these once_given first_updates

-- ---- a machine that grants what is held

-- machine 1 grants the lock of vertex 2 to the scope of vertex 1, though that of vertex 3 holds it
abbrev pub with_shared_lock : FullWorld
with_shared_lock = after_action each_on_its_own update_of_pairs while_both_wait (Grants 1 1)

-- then both scopes come home, and both updates are made
abbrev pub both_update : List FullAction
both_update = Sends 1 0 ∷ Delivers 1 0 ∷ Updates of_first ∷ Grants 3 3 ∷ Sends 3 2 ∷ Delivers 3 2 ∷ Updates of_third ∷ []

abbrev pub both_updated : FullWorld
both_updated = after_these with_shared_lock both_update
