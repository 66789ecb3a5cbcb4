-- What a run says at each place where it ends.
use Rattle.std.proofs.Common.{◌≡◌, ◌⊎◌, inl, inr, ℕ, Bool, IsTrue, List, Option, None, Some, IfSome, Ok, Err, take, refl, sym, ap, ◌∙◌, subst, ⊎_elim, arith}
use Rattle.std.specs.Prelude.{Contains}
use Rattle.std.specs.declared.alloc.Global.{Global}
use Rattle.std.specs.declared.vec.Vec.{Vec}
use Rattle.std.specs.Io.KnownBytes.{Appends}
use Rattle.gl_outside.specs.Disk.{DiskPast}
use Rattle.gl_outside.specs.Faults.{Rose}
use Rattle.gl_outside.specs.FilesState.{FilesState, Opened, Written}
use Rattle.gl_outside.specs.Frames.{ChangesSources}
use Rattle.gl_outside.specs.Fronts.{AppendsFront}
use Rattle.graph_text.specs.declared.generate.making.Writing.TheVariants.{WriteFault as WriteFaultAtOut}
use Rattle.job_io.specs.job_config.Fields.{JobFields}
use Rattle.job_io.specs.job_config.Jobs.{JobSayings}
use Rattle.job_io.specs.job_config.Views.{job_view}
use Rattle.job_io.specs.job_files.JobTexts.{DescribeJobGraph, SaysJob}
use Rattle.job_io.specs.job_files.NamesRead.{RunOpens, names_of}
use Rattle.job_io.specs.declared.job_files.jobs.JobVerb.{JobVerb}
use Rattle.job_io.specs.declared.job_files.jobs.JobVerb.TheVariants as verb
use Rattle.engine_runs.specs.declared.answers.runs.StoredEnd.{StoredEnd}
use Rattle.engine_runs.specs.declared.answers.runs.StoredEnd.TheVariants as end
use Rattle.job_io.specs.whole_files.FilesUsed.{OpensInOrder, WritesFiles}
use Rattle.job_io.specs.whole_files.Leaves.{KeepsOrGives}
use Rattle.job_io.proofs.whole_files.TextsRead.{OfRead-two}
use Rattle.engine_cli.specs.declared.running.Prepared.{Prepared}
use Rattle.engine_cli.specs.declared.status.Status.{Status}
use Rattle.engine_cli.specs.declared.status.Status.TheVariants.{Done, Usage, BadJob, BadGraph, BadAtoms, ReadFault, WriteFault, DiskFault, BadStore, BudgetSpent, SnapshotsFull, NoMemory}
use Rattle.engine_cli.specs.Answer.{IsAnswer, Printed}
use Rattle.engine_cli.specs.Inner.Prepares.{ChangesInput, IsOfRun, IsPreparedFrom, unfinished_status}
use Rattle.engine_cli.specs.Inner.Printing.{Prints, printed_of}
use Rattle.engine_cli.specs.JobRuns.{CallLists, MakesRun, RunsOnStore, RunsSo, is_resumed, lists_of_run}
use Rattle.engine_cli.specs.JobStores.{KeepsAllImages, KeepsGoing, RunsOutOnStore, UsesStore}
use Rattle.engine_cli.specs.NamesWritten.{names_for, order_names}
use Rattle.engine_cli.specs.StatusMeanings.{EndsRun, FailsAtOrder, FailsAtOut, LeavesOrder, Moment, PrintsAnswer, StatusMeaning, RunOutcome}
use Rattle.engine_cli.specs.Status.{IsInputRefusal, IsBeforeWriting, IsRefusedInput}
use Rattle.engine_cli.specs.StoreJobs.{HandsStore}
use Rattle.engine_cli.specs.Verbs.{IsRun}
use Rattle.job_io.specs.job_files.Atoms.{OfJobCut}
use Rattle.job_io.proofs.job_files.InputsRead.{of-graph}
use Rattle.job_io.specs.job_stores.NewStores.{IfDisksTold}
use Rattle.engine_cli.proofs.NamesHanded.{hands-no-name, hands-written-names}
use Rattle.engine_cli.proofs.OneGraph.{sound_is_done}
use Rattle.engine_cli.proofs.OneStore.{sound_on_store_is_done}
use Rattle.engine_cli.proofs.Preparing.{same-images}

-- ---- the run that was made

module _ (told : Bool) (asked : JobVerb) (old mid : FilesState) (file : List ℕ) (prepared : Prepared) (is : IsPreparedFrom told asked old mid file prepared) (new : List ℕ → DiskPast) (same : new ≡ mid.pasts) where
  abbrev pub job : JobSayings
  job = job_view prepared.job

  abbrev pub lists : CallLists
  lists = lists_of_run prepared.run

  pub runs-now : RunsSo told asked old new job prepared.graph is.cut prepared.run job.fields.store
  runs-now = subst (λ (p : List ℕ → DiskPast). RunsSo told asked old p job prepared.graph is.cut prepared.run job.fields.store) (sym same) is.runs

  abbrev pub makes : (ending : StoredEnd) → prepared.run.end ≡ ending → (vertices edges : List ℕ) → DescribeJobGraph job.fields vertices edges prepared.graph
      → MakesRun told asked old new job lists ending vertices edges
  makes ending ended vertices edges described =
      record { graph = prepared.graph; graph_is = described; start = is.start; edges_fit = is.edges_fit; cut = is.cut; cut_is = is.cut_is; run = prepared.run; lists_are = refl; ended = ended; runs = runs-now }

  -- how it ended
  pub ends-run : (ending : StoredEnd) → prepared.run.end ≡ ending → EndsRun told asked old new file lists ending
  ends-run ending ended = (
    job,
    is.job,
    (
      is.atoms,
      OfRead-two old.sources.names (old.contents job.fields.vertices) (old.contents job.fields.edges) (λ vertices edges. DescribeJobGraph job.fields vertices edges prepared.graph)
          (MakesRun told asked old new job lists ending) (λ v e described. makes ending ended v e described) is.texts,
    ),
  )

  -- what is printed of one that finished
  pub answers : (report : Bool) (holds : Option (List ℕ) → Printed → Type 0) → prepared.run.end ≡ end.Finished → holds job.fields.order (printed_of report prepared)
      → PrintsAnswer told asked old new file report lists holds
  answers report holds finished kept = (
    printed_of report prepared,
    (
      job,
      is.job,
      (
        kept,
        is.atoms,
        OfRead-two old.sources.names (old.contents job.fields.vertices) (old.contents job.fields.edges) (λ vertices edges. DescribeJobGraph job.fields vertices edges prepared.graph)
            (IsAnswer told asked old new job report lists (printed_of report prepared))
            (λ v e described. record { made = makes end.Finished finished v e described; spelled = refl; reported = refl; listed = refl }) is.texts,
      ),
    ),
  )

  -- memory ran out behind it
  pub runs-out : KeepsAllImages told old new ⊎ RunsOutOnStore told asked old new file
  runs-out = go job.fields.store refl is.runs
    where
      going : (name : List ℕ) → IfDisksTold told old (RunsOnStore (is_resumed asked) job prepared.graph is.cut (old.pasts name) (new name) prepared.run)
          → IfDisksTold told old (KeepsGoing job prepared.graph is.cut (old.pasts name) (new name))
      going name runs = each old.disks.names runs
        where
          each : (names : Option (List (List ℕ))) → IfSome names (λ n. IsTrue told → RunsOnStore (is_resumed asked) job prepared.graph is.cut (old.pasts name) (new name) prepared.run)
              → IfSome names (λ n. IsTrue told → KeepsGoing job prepared.graph is.cut (old.pasts name) (new name))
          each None runs = tt
          each (Some n) runs = λ yes.
              record {
                placed = (runs yes).placed;
                keeps = λ owner front is_for. let goes = (runs yes).goes_on owner front is_for in (goes.snapshots, goes.keeps);
              }

      go : (store : Option (List ℕ)) → job.fields.store ≡ store → RunsSo told asked old mid.pasts job prepared.graph is.cut prepared.run store → KeepsAllImages told old new ⊎ RunsOutOnStore told asked old new file
      go None named runs = inl (same-images told old new (same ∙ is.alone named))
      go (Some name) named runs =
          let now : RunsSo told asked old new job prepared.graph is.cut prepared.run (Some name) = subst (λ (p : List ℕ → DiskPast). RunsSo told asked old p job prepared.graph is.cut prepared.run (Some name)) (sym same) runs in
          inr (job, is.job, (name, named, of-graph old job.fields prepared.graph (λ g. OfJobCut old job.fields g (λ cut. IfDisksTold told old (KeepsGoing job g cut (old.pasts name) (new name)))) is.texts is.start (is.cut, is.cut_is, going name now)))

-- ---- what is printed

-- the moment before printing is that of the call's start, but for what was read
LeavesOrder-since : (order : Option (List ℕ)) (before mid now : Moment) (lines : List ℕ) → mid.files.sinks ≡ before.files.sinks
    → LeavesOrder order mid now lines → LeavesOrder order before now lines
LeavesOrder-since order before mid now lines same h =
    subst (λ (sinks : Opened Written). IfSome order (λ name. IfSome sinks.names (λ told. now.files.contents name ≡ Some lines))) same h

FailsAtOrder-since : (order : Option (List ℕ)) (before mid now : Moment) (printed : Printed) → mid.files.sinks ≡ before.files.sinks
    → mid.held ≡ before.held → mid.files.contents ≡ before.files.contents → FailsAtOrder order mid now printed → FailsAtOrder order before now printed
FailsAtOrder-since order before mid now printed sinks held given h =
    let P : List ℕ → Type 0 = λ bytes. (count : ℕ) × (bytes ≡ take count printed.lines) in
    let M : Opened Written → Type 0 = λ s. KeepsOrGives s.names (mid.files.contents h.name) (now.files.contents h.name) P in
    let G : (List ℕ → Option (List ℕ)) → Type 0 = λ old. KeepsOrGives before.files.sinks.names (old h.name) (now.files.contents h.name) P in
    record {
      name = h.name;
      named = h.named;
      rose = subst (λ (s : Opened Written). Rose s.faults now.files.sinks.faults) sinks h.rose;
      left = subst G given (subst M sinks h.left);
      same = h.same ∙ held;
    }

FailsAtOut-since : (order : Option (List ℕ)) (before mid now : Moment) (printed : Printed) → mid.files.sinks ≡ before.files.sinks → mid.faults ≡ before.faults
    → mid.held ≡ before.held → FailsAtOut order mid now printed → FailsAtOut order before now printed
FailsAtOut-since order before mid now printed sinks faults held h = record {
  rose = subst (λ (count : ℕ). Rose count now.faults) faults h.rose;
  front = subst (λ (old : Option (List ℕ)). AppendsFront old now.held printed.answer) held h.front;
  ordered = LeavesOrder-since order before mid now printed.lines sinks h.ordered;
}

-- What comes before printing leaves alone: what names give, what is written, and `out`.
pub record IsSince (before mid : Moment) : Type 0 where
  pub frame : ChangesInput before.files mid.files
  pub faults : mid.faults ≡ before.faults
  pub held : mid.held ≡ before.held

since-sinks : (before mid : Moment) → IsSince before mid → mid.files.sinks ≡ before.files.sinks
since-sinks before mid since = ap (λ (s : FilesState). s.sinks) since.frame

-- what a run says whose numbers were printed
pub print-says : (told : Bool) (asked : JobVerb) (file : List ℕ) (report : Bool) (prepared : Prepared) (before mid now : Moment) (bytes : Vec ℕ Global)
    → IsPreparedFrom told asked before.files mid.files file prepared → prepared.run.end ≡ end.Finished → IsSince before mid → now.files.pasts ≡ mid.files.pasts
    → Prints (Ok bytes) (job_view prepared.job).fields.order (printed_of report prepared) mid now
    → StatusMeaning told asked file report before now (λ told. bytes.items ≡ told) (lists_of_run prepared.run) Done
print-says told asked file report prepared before mid now bytes is finished since same prints =
    inl (answers told asked before.files mid.files file prepared is now.files.pasts same report
    (λ name printed. Appends before.held now.held printed.answer × (bytes.items ≡ printed.report) × LeavesOrder name before now printed.lines) finished (
      subst (λ (old : Option (List ℕ)). Appends old now.held (printed_of report prepared).answer) since.held prints.1,
      prints.0,
      LeavesOrder-since (job_view prepared.job).fields.order before mid now (printed_of report prepared).lines (since-sinks before mid since) prints.2,
    ))

-- what it says where the order's file or the sink failed
pub print-fails : (told : Bool) (asked : JobVerb) (file : List ℕ) (report : Bool) (prepared : Prepared) (before mid now : Moment) (tells : List ℕ → Type 0)
    → IsPreparedFrom told asked before.files mid.files file prepared → prepared.run.end ≡ end.Finished → IsSince before mid → now.files.pasts ≡ mid.files.pasts
    → Prints (Err WriteFaultAtOut) (job_view prepared.job).fields.order (printed_of report prepared) mid now
    → StatusMeaning told asked file report before now tells (lists_of_run prepared.run) WriteFault
print-fails told asked file report prepared before mid now tells is finished since same prints =
    let order = (job_view prepared.job).fields.order in
    let printed = printed_of report prepared in
    inl (answers told asked before.files mid.files file prepared is now.files.pasts same report (λ name printed. FailsAtOrder name before now printed ⊎ FailsAtOut name before now printed) finished
    (⊎_elim
    (λ first. inl (FailsAtOrder-since order before mid now printed (since-sinks before mid since) since.held (ap (λ (s : FilesState). s.contents) since.frame) first))
    (λ second. inr (FailsAtOut-since order before mid now printed (since-sinks before mid since) since.faults since.held second))
    prints))

-- what a run says that left a task
pub unfinished-says : (told : Bool) (asked : JobVerb) (file : List ℕ) (report : Bool) (before now : Moment) (tells : List ℕ → Type 0) (prepared : Prepared) (status : Status)
    → IsPreparedFrom told asked before.files now.files file prepared → unfinished_status prepared.run.end ≡ Some status → StatusMeaning told asked file report before now tells (lists_of_run prepared.run) status
unfinished-says told asked file report before now tells prepared status is left = inl (go prepared.run.end refl left)
  where
    S : Status → Type 0
    S = RunOutcome told asked file report before now tells (lists_of_run prepared.run)

    same_some : {a b : Status} → Some a ≡ Some b → a ≡ b
    same_some e = cc

    none_is_some : {a : Status} → None ≡ Some a → ⊥
    none_is_some e = cc

    ended : (ending : StoredEnd) → prepared.run.end ≡ ending → EndsRun told asked before.files now.files.pasts file (lists_of_run prepared.run) ending
    ended ending at = ends-run told asked before.files now.files file prepared is now.files.pasts refl ending at

    go : (ending : StoredEnd) → prepared.run.end ≡ ending → unfinished_status ending ≡ Some status → S status
    go end.Finished at left = absurd (none_is_some left)
    go (end.Spent vertex) at left = subst S (same_some left) (ended (end.Spent vertex) at)
    go (end.Full stored length) at left = subst S (same_some left) (ended (end.Full stored length) at)
    go end.DiskFault at left = subst S (same_some left) (is.fault at, ended end.DiskFault at)

-- and its status is none of a refusal before the store was opened
pub unfinished-late : (ending : StoredEnd) (status : Status) → unfinished_status ending ≡ Some status → (IsInputRefusal status → ⊥) × (IsRefusedInput status → ⊥)
unfinished-late ending status left = go ending left
  where
    L : Status → Type 0
    L s = (IsInputRefusal s → ⊥) × (IsRefusedInput s → ⊥)

    same_some : {a b : Status} → Some a ≡ Some b → a ≡ b
    same_some e = cc

    none_is_some : {a : Status} → None ≡ Some a → ⊥
    none_is_some e = cc

    go : (ending : StoredEnd) → unfinished_status ending ≡ Some status → L status
    go end.Finished left = absurd (none_is_some left)
    go (end.Spent vertex) left = subst L (same_some left) (λ early. early, λ refused. refused)
    go (end.Full stored length) left = subst L (same_some left) (λ early. early, λ refused. refused)
    go end.DiskFault left = subst L (same_some left) (λ early. early, λ refused. refused)

-- what is told of an answer may be said in another way
run-told : (told : Bool) (asked : JobVerb) (file : List ℕ) (report : Bool) (before now : Moment) (tells retells : List ℕ → Type 0) (lists : CallLists) (status : Status)
    → (status ≡ Done → (text : List ℕ) → tells text → retells text)
    → RunOutcome told asked file report before now tells lists status → RunOutcome told asked file report before now retells lists status
run-told told asked file report before now tells retells lists Done same says =
    (says.0, (says.1.0, says.1.1, ((says.1.2.0.0, same refl says.0.report says.1.2.0.1, says.1.2.0.2), says.1.2.1, says.1.2.2)))
run-told told asked file report before now tells retells lists (Usage fault) same says = says
run-told told asked file report before now tells retells lists (BadJob fault) same says = says
run-told told asked file report before now tells retells lists (BadGraph fault) same says = says
run-told told asked file report before now tells retells lists (BadAtoms fault) same says = says
run-told told asked file report before now tells retells lists ReadFault same says = says
run-told told asked file report before now tells retells lists WriteFault same says = says
run-told told asked file report before now tells retells lists DiskFault same says = says
run-told told asked file report before now tells retells lists (BadStore fault) same says = says
run-told told asked file report before now tells retells lists (BudgetSpent left) same says = says
run-told told asked file report before now tells retells lists (SnapshotsFull stored length) same says = says
run-told told asked file report before now tells retells lists NoMemory same says = says

-- ---- what a run leaves

-- What came before printing: at most what is read changed, and the job's store.
pub record HasRun (asked : JobVerb) (file : List ℕ) (old new : FilesState) : Type 0 where
  pub frame : ChangesInput old new
  pub handed : RunOpens asked old new file
  pub used : UsesStore asked file old new

-- What a run leaves that ended before it wrote.
pub ends-early : (told : Bool) (asked : JobVerb) (file : List ℕ) (report : Bool) (before now : Moment) (tells : List ℕ → Type 0) (lists : CallLists) (status : Status)
    → StatusMeaning told asked file report before now tells lists status → HasRun asked file before.files now.files
    → (IsInputRefusal status → ChangesSources before.files now.files)
    → (IsRefusedInput status → OpensInOrder before.files.sources.names now.files.sources.names (names_of asked before.files file))
    → IsRun told asked file report before now tells lists status
ends-early told asked file report before now tells lists status says ran early refused =
    let contents = ap (λ (s : FilesState). s.contents) ran.frame in
    record {
      says = says;
      complete = λ sound. sound_is_done told asked file report before now tells lists status says sound;
      complete_on_store = λ sound. sound_on_store_is_done told asked file before now sound report tells lists status says;
      sources = ran.handed;
      refused = refused;
      sinks = hands-no-name asked before.files now.files file (ap (λ (s : FilesState). s.sinks.names) ran.frame);
      early = early;
      unwritten = λ unwritten other. ap (λ (s : FilesState). s.sinks) ran.frame;
      kept = λ unwritten. contents;
      others = λ name apart. ap (λ (c : List ℕ → Option (List ℕ)). c name) contents;
      store = ran.used;
    }

-- a run writes the order's file
written-of-run : (asked : JobVerb) → IsOfRun asked → (job : JobFields) → names_for asked job ≡ order_names job.order
written-of-run verb.Run is job = refl
written-of-run verb.Resume is job = refl
written-of-run verb.Cut is job = absurd is
written-of-run verb.Init is job = absurd is

-- disks are as they were before printing
store-still : (asked : JobVerb) (file : List ℕ) (old mid new : FilesState) → new.pasts ≡ mid.pasts → new.disks ≡ mid.disks → UsesStore asked file old mid → UsesStore asked file old new
store-still asked file old mid new pasts disks used =
    let H : Opened (Option (List ℕ)) → Type 0 = λ d. HandsStore asked old (record mid { disks = d }) file in
    record {
      handed = subst H (sym disks) used.handed;
      others = λ name apart. ap (λ (p : List ℕ → DiskPast). p name) pasts ∙ used.others name apart;
      unless = ⊎_elim (λ left. inl (record { pasts = pasts ∙ left.pasts; disks = disks ∙ left.disks })) (λ names. inr names) used.unless;
      later = omega (arith, used.later, ap (λ (d : Opened (Option (List ℕ))). d.faults) disks);
    }

-- What a run leaves that came to write.
pub ends-late : (told : Bool) (asked : JobVerb) (file : List ℕ) (report : Bool) (before mid now : Moment) (tells : List ℕ → Type 0) (job : JobSayings) (lists : CallLists) (status : Status)
    → IsOfRun asked → StatusMeaning told asked file report before now tells lists status → HasRun asked file before.files mid.files
    → SaysJob asked before.files file job → WritesFiles (order_names job.fields.order) mid.files now.files
    → (IsInputRefusal status → ⊥) → (IsRefusedInput status → ⊥) → (IsBeforeWriting status → status ≡ NoMemory) → (IsBeforeWriting status → now.files.contents ≡ mid.files.contents)
    → IsRun told asked file report before now tells lists status
ends-late told asked file report before mid now tells job lists status of_run says ran says_job wrote late not_refused memory kept =
    let contents = ap (λ (s : FilesState). s.contents) ran.frame in
    let sources : now.files.sources ≡ mid.files.sources = ap (λ (s : FilesState). s.sources) wrote.frame in
    let sinks : mid.files.sinks ≡ before.files.sinks = ap (λ (s : FilesState). s.sinks) ran.frame in
    let Handed : Opened (Option (List ℕ)) → Type 0 = λ s. RunOpens asked before.files (record mid.files { sources = s }) file in
    let names : names_for asked job.fields ≡ order_names job.fields.order = written-of-run asked of_run job.fields in
    let handed : OpensInOrder before.files.sinks.names now.files.sinks.names (order_names job.fields.order) =
    subst (λ (s : Opened Written). OpensInOrder s.names now.files.sinks.names (order_names job.fields.order)) sinks wrote.handed in
    record {
      says = says;
      complete = λ sound. sound_is_done told asked file report before now tells lists status says sound;
      complete_on_store = λ sound. sound_on_store_is_done told asked file before now sound report tells lists status says;
      sources = subst Handed (sym sources) ran.handed;
      refused = λ refused. absurd (not_refused refused);
      sinks = hands-written-names asked before.files now.files file job says_job
          (subst (λ (l : List (List ℕ)). OpensInOrder before.files.sinks.names now.files.sinks.names l) (sym names) handed);
      early = λ early. absurd (late early);
      unwritten = λ unwritten other. absurd (other (memory unwritten));
      kept = λ unwritten. kept unwritten ∙ contents;
      others = λ name apart.
          wrote.others name (λ in_names. apart (job, says_job, subst (λ (l : List (List ℕ)). Contains l name) (sym names) in_names))
          ∙ ap (λ (c : List ℕ → Option (List ℕ)). c name) contents;
      store = store-still asked file before.files mid.files now.files (ap (λ (s : FilesState). s.pasts) wrote.frame) (ap (λ (s : FilesState). s.disks) wrote.frame) ran.used;
    }

-- what is told of an answer may be said in another way
pub run-retold : (told : Bool) (asked : JobVerb) (file : List ℕ) (report : Bool) (before now : Moment) (tells retells : List ℕ → Type 0) (lists : CallLists) (status : Status)
    → (status ≡ Done → (text : List ℕ) → tells text → retells text)
    → IsRun told asked file report before now tells lists status → IsRun told asked file report before now retells lists status
run-retold told asked file report before now tells retells lists status same run =
    record {
      says = ⊎_elim (λ made. inl (run-told told asked file report before now tells retells lists status same made)) (λ refused. inr refused) run.says;
      complete = run.complete;
      complete_on_store = run.complete_on_store;
      sources = run.sources;
      refused = run.refused;
      sinks = run.sinks;
      early = run.early;
      unwritten = run.unwritten;
      kept = run.kept;
      others = run.others;
      store = run.store;
    }

-- a run that left no task finished
pub finished-of : (ending : StoredEnd) → unfinished_status ending ≡ None → ending ≡ end.Finished
finished-of ending none = go ending none
  where
    some_is_none : {a : Status} → Some a ≡ None → ⊥
    some_is_none e = cc

    go : (ending : StoredEnd) → unfinished_status ending ≡ None → ending ≡ end.Finished
    go end.Finished none = refl
    go (end.Spent vertex) none = absurd (some_is_none none)
    go (end.Full stored length) none = absurd (some_is_none none)
    go end.DiskFault none = absurd (some_is_none none)
