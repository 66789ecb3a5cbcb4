-- What is so of a call with a store as it begins.
use Rattle.std.proofs.Common.{◌≡◌, ◌≤◌, ℕ, ◌∙◌, List, [], ◌++◌, ap, inl, le_refl, length, subst, suc, sym, true}
use Rattle.std.proofs.lemmas.List.{append-nil, get_or_past}
use Rattle.std.specs.declared.alloc.Global.{Global}
use Rattle.std.specs.declared.vec.Vec.{Vec}
use Rattle.recovery.specs.declared.restarts.restarts.Restarts.{Restarts}
use Rattle.std.specs.Prelude.{Bool}
use Rattle.gl_outside.specs.Disk.{DiskState, clock, state_at}
use Rattle.gl_base.specs.declared.entries.Entry.{Entry}
use Rattle.gl_base.specs.declared.jobs.FailureAt.{FailureAt}
use Rattle.engine_runs.specs.declared.start.starting.Started.{Started}
use Rattle.recovery.specs.GoodStores.{IsGoodStore}
use Rattle.store.specs.snap_journal.Formats.{stored_in}
use Rattle.store.specs.snap_journal.Journals.{AllDecodeTo}
use Rattle.engine_runs.proofs.Going.{all_begin}
use Rattle.engine_runs.specs.declared.answers.runs.SnapLine.{SnapLine}
use Rattle.engine_runs.specs.Calls.{AreSnapLines, CallOpening, TraceView, DiskPast, AnyMachine, Header, HoldsGood, IsAnyMachineOf, IsImage, IsKnownAt, IsKnownTrace, JournalState, LeavesOnly, Setting, shared_of, snapshots_in}
use Rattle.engine_runs.specs.Runs.{HasCallBegun}
use Rattle.engine_runs.specs.declared.calls.StoredCall.{StoredCall}
use Rattle.update_api.specs.Updates.{Update}

-- nothing has happened since
leaves_now : (past : DiskPast) (Q : List ℕ → Type 0) → ((image : List ℕ) → IsImage past.now image → Q image) → LeavesOnly past past Q
leaves_now past Q now = record {
  later = le_refl (clock past);
  each = λ image left. now image (subst (λ (s : DiskState). IsImage s image) (last left.0 left.1) left.3);
  before = λ since image low left. inl left;
}
  where
    last : (moment : ℕ) → clock past ≤ moment → state_at past moment ≡ past.now
    last moment low = get_or_past past.before moment past.now low

module _ {D P : Type 0} (meaning : P → Update) (past : D → DiskPast) (call : StoredCall P) (journal after : JournalState D) (resumed : Bool) (budget : ℕ) (st : Setting) (failures : List FailureAt) (same : call.trace.failures ≡ failures)
    (disk : past after.disk ≡ past journal.disk) (header : after.header ≡ journal.header) (good : IsGoodStore (shared_of st failures) journal.header (snapshots_in past journal))
    (represents : AllDecodeTo journal.header (snapshots_in past journal) (past journal.disk)) (lost : call.lost.items ≡ []) (lines : call.snapshots.items ≡ [])
    (o : CallOpening) (resumed_is : o.resumed ≡ resumed) (tickets : o.first.left ≡ budget) (taken : st.stored ≡ true) where
  abbrev bodies : List (List ℕ)
  bodies = snapshots_in past journal

  holds : (image : List ℕ) → IsImage (past journal.disk).now image → HoldsGood (shared_of st call.trace.failures) after.header bodies image
  holds image is =
      subst (λ (h : Header). HoldsGood (shared_of st call.trace.failures) h bodies image) (sym header)
      (subst (λ (fs : List FailureAt). HoldsGood (shared_of st fs) journal.header bodies image) (sym same) (all_begin (shared_of st failures) journal.header bodies (past journal.disk) good represents image is))

  pub begun : IsKnownTrace (IsAnyMachineOf meaning) call.trace journal.header bodies bodies [] call.restarts.stored.items call.restarts.front.items call.order.items st o → HasCallBegun meaning past call journal after resumed budget st
  begun from =
      let known : IsKnownAt meaning call.trace call journal.header bodies bodies st o =
      subst (λ (ls : List Entry). IsKnownTrace (IsAnyMachineOf meaning) call.trace journal.header bodies bodies ls call.restarts.stored.items call.restarts.front.items call.order.items st o) (sym lost) from in
      record {
        opening = o;
        resumed_is = resumed_is;
        tickets = tickets;
        at = record {
          taken = taken;
          added = [];
          known = subst (λ (h : Header). IsKnownAt meaning call.trace call h bodies (bodies ++ []) st o) (sym header)
              (subst (λ (these : List (List ℕ)). IsKnownAt meaning call.trace call journal.header bodies these st o) (sym (append-nil bodies)) known);
          stored = λ ok. ap (λ (h : Header). stored_in h (past after.disk).now.seen) header ∙ ap (λ (p : DiskPast). stored_in journal.header p.now.seen) disk ∙ sym (append-nil bodies);
          lines = subst (λ (ls : List SnapLine). AreSnapLines (shared_of st call.trace.failures) (suc (length bodies)) [] ls) (sym lines) tt;
          any_moment = subst (λ (p : DiskPast). LeavesOnly (past journal.disk) p (HoldsGood (shared_of st call.trace.failures) after.header bodies)) (sym disk) (leaves_now (past journal.disk) (HoldsGood (shared_of st call.trace.failures) after.header bodies) holds);
          at_end = λ image is. subst (λ (these : List (List ℕ)). HoldsGood (shared_of st call.trace.failures) after.header these image) (sym (append-nil bodies))
              (holds image (subst (λ (p : DiskPast). IsImage p.now image) disk is));
        };
      }

-- what is known of the call that has started, by the parts that were taken over
pub from_started : {P : Type 0} (meaning : P → Update) (started : Started P) (call : StoredCall P) (header : Header) (bodies : List (List ℕ)) (st : Setting) (o : CallOpening) → call.trace ≡ started.trace → call.restarts ≡ started.restarts → call.order ≡ started.order →
    IsKnownTrace (IsAnyMachineOf meaning) started.trace header bodies bodies [] started.restarts.stored.items started.restarts.front.items started.order.items st o →
    IsKnownTrace (IsAnyMachineOf meaning) call.trace header bodies bodies [] call.restarts.stored.items call.restarts.front.items call.order.items st o
from_started {P} meaning started call header bodies st o trace restarts order known =
    subst (λ (v : TraceView (AnyMachine P)). IsKnownTrace (IsAnyMachineOf meaning) v header bodies bodies [] call.restarts.stored.items call.restarts.front.items call.order.items st o) (sym trace)
    (subst (λ (r : Restarts). IsKnownTrace (IsAnyMachineOf meaning) started.trace header bodies bodies [] r.stored.items r.front.items call.order.items st o) (sym restarts)
    (subst (λ (es : Vec Entry Global). IsKnownTrace (IsAnyMachineOf meaning) started.trace header bodies bodies [] started.restarts.stored.items started.restarts.front.items es.items st o) (sym order) known))
