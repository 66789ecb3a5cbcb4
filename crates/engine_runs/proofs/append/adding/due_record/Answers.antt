-- Behind the order that the store has.
use Rattle.std.proofs.Common.{◌≡◌, ◌∙◌, List, sym, subst}
use Rattle.std.specs.List.{AllByRecursion}
use Rattle.gl_base.specs.declared.entries.Entry.{Entry}
use Rattle.recovery.specs.restarts.Missing.{is_restart}
use Rattle.std.specs.Prelude.{true, ◌++◌, filter}
use Rattle.engine_runs.proofs.append.Lacking.{begins_filtered, lacking}
use Rattle.whole_laws.specs.cluster_records.Recorded.{snapshot_due}
use Rattle.engine_runs.proofs.append.adding.due_record.Goals as goal

pub missing_restarts-requires : goal.missing_restarts-requires
missing_restarts-requires g c =
    begins_filtered c.args.restarts.now.stored.items c.args.restarts.now.front.items c.deref.result.now c.deref-2.result.now c.deref.ensures.value c.deref-2.ensures.value c.requires

pub returns-clause-made : goal.returns-clause-made
returns-clause-made g c = λ st o events own is.
    let its = c.in_ok-saved.ensures.is st o events own is in
    let missing : List Entry = c.in_ok-missing.missing.items in
    record {
      number = c.in_ok-record_behind.ensures.number ∙ its.number;
      behind = λ before order stored_is front_is. c.in_ok-record_behind.ensures.behind st before order (snapshot_due own.coordinator) its
          (subst (AllByRecursion (λ entry. is_restart entry ≡ true)) (sym c.deref-3.ensures.value) c.in_ok-missing.ensures.alone)
          (subst (λ (es : List Entry). filter is_restart before ++ es ≡ filter is_restart order) (sym c.deref-3.ensures.value)
          (lacking c.deref.result.now c.deref-2.result.now missing before order c.in_ok-missing.ensures.lacks (c.deref.ensures.value ∙ stored_is) (c.deref-2.ensures.value ∙ front_is)));
      in_turn = c.in_ok-record_behind.ensures.in_turn;
    }
