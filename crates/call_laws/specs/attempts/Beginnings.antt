-- Where an attempt goes on from, what its last snapshot holds, and where the next attempt begins.
use Rattle.std.specs.List.{AllByRecursion}
use Rattle.std.specs.Prelude.{List, [], if◌then◌else◌, length, pred, ℕ, ◌++◌, ◌+◌, ◌==◌, ◌∷◌, ◌≡◌, ◌≤◌}
use Rattle.gl_base.specs.declared.entries.Entry.{Entry}
use Rattle.gl_base.specs.declared.entries.Entry.TheVariants.{Go, Restart}
use Rattle.cluster_laws.specs.cluster_runs.Attempts.{Attempt, Beginning, Shared, done_with, made_by}
use Rattle.cluster_laws.specs.cluster_cuts.Goings.{IsByOwner}
use Rattle.cluster_laws.specs.cluster_model.ByTicket.{StandByTicket, restarts}
use Rattle.cluster_laws.specs.cluster_core.Cuts.{cut_of}
use Rattle.cluster_laws.specs.cluster_core.Ranges.{set_at}
use Rattle.seq_run.specs.Orders.{IsValidOrder, all_tasks, tasks_after}

-- the updates that the cut with these counts leaves out
abbrev pub left_out : (ℕ → ℕ) → List Entry → List Entry
left_out count [] = []
left_out count (Restart ticket ∷ order) = left_out count order
left_out count (Go machine vertex ticket ∷ order) =
    if count vertex.0 == 0
    then Go machine vertex ticket ∷ left_out count order
    else left_out (set_at count vertex.0 (pred (count vertex.0))) order

-- no update of any vertex
abbrev pub nothing : ℕ → ℕ
nothing v = 0

-- the last counts, or these where there are none
abbrev pub last_of : (ℕ → ℕ) → List (ℕ → ℕ) → ℕ → ℕ
last_of count [] = count
last_of count (later ∷ counts) = last_of later counts

-- of the updates that an attempt made: those that its last acknowledged snapshot has
abbrev pub held_updates : Attempt → List Entry
held_updates a = cut_of (last_of nothing a.kept) a.made

-- and the others
abbrev pub unheld_updates : Attempt → List Entry
unheld_updates a = left_out (last_of nothing a.kept) a.made

-- the order that an attempt leads to
abbrev pub order_after : Beginning → Attempt → List Entry
order_after b a = b.front ++ a.made

-- the order of a snapshot with these counts that was acknowledged in it
abbrev pub snapshot_order : Beginning → Attempt → (ℕ → ℕ) → List Entry
snapshot_order b a count = b.front ++ cut_of count a.made

-- Where the next attempt begins after this one failed: behind what the last snapshot has there is a restart for each failure that was
-- reached, with the ticket that comes next; and tickets and counts go on.
abbrev pub again : Beginning → Attempt → Beginning
again b a =
    record {
      front = b.front ++ (held_updates a ++ restarts a.struck (b.next + length a.made));
      next = b.next + length a.made;
      done = done_with b a.made;
    }

-- An attempt may begin here: the order so far is valid and by ticket, its updates are by owners, and every vertex is a task.
pub record IsBeginning (shared : Shared) (b : Beginning) : Type 0 where
  pub valid : IsValidOrder shared.graph shared.program b.front
  pub tasks : tasks_after shared.graph shared.program b.front ≡ all_tasks shared.graph
  pub by_ticket : StandByTicket 0 b.front b.next
  pub owners : AllByRecursion (IsByOwner shared.owner) b.front

-- at most so many updates of each machine are outside the last snapshot as the attempt ends
abbrev pub KeepsWindow : ℕ → Attempt → Type 0
KeepsWindow window a = (m : ℕ) → made_by (unheld_updates a) m ≤ window
