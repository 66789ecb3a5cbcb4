-- The order of a call, as it is put together.
use Rattle.std.specs.Prelude.{List, ℕ, ◌++◌, ◌≡◌}
use Rattle.std.specs.declared.alloc.Global.{Global}
use Rattle.std.specs.declared.vec.Vec.{Vec}
use Rattle.engine_runs.specs.finish.Gathered.{TraceView, InEachTrace, IsMerge, Machine, Setting, all_logged, machine_logs}
use Rattle.gl_base.specs.declared.entries.Entry.{Entry}

-- Behind this order stand the updates of all machines in the newest attempt, merged.
pub record HasMergedBehind {M : Type 0} (represents : Setting → ℕ → Machine → M → Type 0) (v : TraceView M) (front : List Entry) (order : Vec Entry Global) : Type 0 where
  pub merged : List Entry
  pub behind : order.items ≡ front ++ merged
  pub merges : InEachTrace represents v (λ st o events c. IsMerge (all_logged (machine_logs st.machines c)) merged)
