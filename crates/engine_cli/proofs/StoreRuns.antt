-- What a run on its store is, over the opening of the store and what it does with it.
use Rattle.std.proofs.Common.{◌≡◌, inl, inr, ℕ, ◌+◌, ◌^◌, ◌≤◌, ◌++◌, Bool, false, true, List, [], length, Result, Ok, sym, ap, ◌∙◌, subst, ⊎_elim, append_assoc}
use Rattle.std.specs.Result.{result_unwrap_or}
use Rattle.graph_atoms.specs.declared.atom_gather.cuts.Cut.{Cut}
use Rattle.gl_base.specs.declared.entries.Entry.{Entry}
use Rattle.gl_outside.specs.Disk.{DiskPast, IsImage, LeavesOnly}
use Rattle.gl_outside.proofs.Fronts.{Rose-later}
use Rattle.graph_core.specs.DataGraph.{DataGraph, IsDataGraph}
use Rattle.job_io.specs.job_config.Jobs.{JobSayings}
use Rattle.job_io.specs.job_files.JobTexts.{HasStart}
use Rattle.job_io.specs.job_stores.JobHeaders.{header_for}
use Rattle.job_io.specs.declared.job_stores.making.StoreError.{StoreError}
use Rattle.job_io.specs.declared.job_stores.making.StoreError.TheVariants as no_store
use Rattle.seq_run.specs.StepBound.{step_bound}
use Rattle.store.specs.snap_journal.Answers.{OpenErrorCause}
use Rattle.store.specs.declared.snap_journal.faults.JournalFault.{JournalFault}
use Rattle.store.specs.declared.snap_journal.faults.JournalFault.TheVariants as journal
use Rattle.store.specs.store_format.Stores.{DecodesTo, stored_in}
use Rattle.store.specs.declared.store_format.faults.StoreFault.{StoreFault}
use Rattle.store.specs.declared.store_format.faults.StoreFault.TheVariants.{BadByte}
use Rattle.store.specs.declared.store_format.header.Header.{Header}
use Rattle.engine_runs.specs.answers.Images.{HoldsGood, IsGoodStore, KeepsGood}
use Rattle.engine_runs.specs.answers.Ends.{RunEndMeaning}
use Rattle.engine_runs.specs.answers.Runs.{IsStoredRun, Shared, lists_of}
use Rattle.engine_runs.specs.declared.answers.runs.StoredEnd.{StoredEnd}
use Rattle.engine_runs.specs.declared.answers.runs.StoredEnd.TheVariants as end
use Rattle.engine_runs.specs.declared.answers.runs.StoredRun.{StoredRun}
use Rattle.update_api.specs.Updates.{Update}
use Rattle.engine_cli.specs.Inner.Storing.{IsStoreKept, IsNotGood, IsNotGoneOnFrom, IsStoreRunFrom, RunOnDiskErrorCause, RunOnJournalErrorCause, RunStoredErrorCause, no_store_of_journal, no_store_of_run}
use Rattle.engine_cli.specs.JobRuns.{AreGoodImages, GoesOnFrom, KeepsStore, RunsOnStore, records_size, shared_by, snapshots_on}
use Rattle.engine_cli.specs.JobStores.{IsNotRunFrom, IsOtherStore, KeepsGoing, KeepsImages}
use Rattle.engine_cli.specs.Plays.{AreResults, RunsByScopes, update_of}
use Rattle.engine_runs.proofs.placement_is_unique.PlacementsMade.{some_placement}
use Rattle.engine_cli.proofs.Bounds.{bound-of}
use Rattle.engine_cli.proofs.DisksLeft.{leaves-more, leaves-twice}
use Rattle.engine_cli.proofs.Results.{results-of}

-- bytes stand for one list of snapshots
pub one_store : (header : Header) (bytes : List ℕ) (a b : List (List ℕ)) → DecodesTo header a bytes → DecodesTo header b bytes → a ≡ b
one_store header bytes a b p q = same_ok (sym p ∙ q)
  where
    same_ok : {x y : List (List ℕ)} → Ok x ≡ (let r : Result (List (List ℕ)) StoreFault = Ok y in r) → x ≡ y
    same_ok e = cc

-- and these are the ones that they have
pub stands_are : (header : Header) (bytes : List ℕ) (bodies : List (List ℕ)) → DecodesTo header bodies bytes → stored_in header bytes ≡ bodies
stands_are header bytes bodies stands = ap (λ (r : Result (List (List ℕ)) StoreFault). result_unwrap_or r []) stands

-- a good store that begins with more begins with less
good-front : (shared : Shared) (header : Header) (front behind : List (List ℕ)) (image : List ℕ) → HoldsGood shared header (front ++ behind) image → HoldsGood shared header front image
good-front shared header front behind image holds =
    let same : front ++ (behind ++ holds.behind) ≡ (front ++ behind) ++ holds.behind = sym (append_assoc front behind holds.behind) in
    record {
      behind = behind ++ holds.behind;
      stands = subst (λ (b : List (List ℕ)). DecodesTo header b image) (sym same) holds.stands;
      good = subst (IsGoodStore shared header) (sym same) holds.good;
    }

-- a run that finished has the results of its algorithm
pub stored-results : (job : JobSayings) (g : DataGraph) (owner : ℕ → ℕ) (count : ℕ) (kept : List Entry) (resumed : Bool) (snapshots : List (List Entry)) (run : StoredRun)
    → IsDataGraph g → HasStart job.fields.algorithm job.fields.source g → RunsByScopes job.fields.algorithm g
    → IsStoredRun true (shared_by job g owner) job.fields.machines job.fields.window job.fields.budget count kept resumed snapshots run
    → run.end ≡ end.Finished → AreResults job.fields.algorithm job.fields.source g run.numbers.items
stored-results job g owner count kept resumed snapshots run is start edges ran finished =
    let E : StoredEnd → Type 0 = λ e. RunEndMeaning true (shared_by job g owner) job.fields.machines job.fields.window job.fields.budget count kept snapshots ran.unanswered (lists_of run) e in
    let ends : E end.Finished = subst E finished ran.ends in
    results-of job.fields.algorithm job.fields.source g run.order.items run.numbers.items is start edges ran.is.in_turn.valid ran.numbers_are ends.finished

-- The store was opened, on a disk that reads as it did, and whatever a crash left of it as the call began was left since.
module _ (job : JobSayings) (g : DataGraph) (cut : Cut) (old mid new : DiskPast) (bodies : List (List ℕ)) (seen : IsImage old.now old.now.seen) (stands : DecodesTo (header_for job.fields g) bodies old.now.seen)
    (opened : LeavesOnly old mid (IsImage old.now)) where
  abbrev pub header : Header
  header = header_for job.fields g

  -- the snapshots that it was found to have begin with those of every image, and are a good store
  front-opened : (shared : Shared) (front : List (List ℕ)) → AreGoodImages shared header front old
      → (behind : List (List ℕ)) × (bodies ≡ front ++ behind) × IsGoodStore shared header bodies
  front-opened shared front good =
      let holds : HoldsGood shared header front old.now.seen = good old.now.seen seen in
      let same : bodies ≡ front ++ holds.behind = one_store header old.now.seen bodies (front ++ holds.behind) stands holds.stands in
      (holds.behind, same, subst (IsGoodStore shared header) (sym same) holds.good)

  -- what the opening and the run leave together
  keeps-store : (shared : Shared) (front : List (List ℕ)) (snapshots : List (List Entry)) → AreGoodImages shared header front old
      → KeepsGood shared header bodies snapshots mid new → KeepsStore shared header front bodies snapshots old new
  keeps-store shared front snapshots good keeps =
      let found = front-opened shared front good in
      let H : List (List ℕ) → List ℕ → Type 0 = λ b image. HoldsGood shared header b image in
      record {
        added = keeps.added;
        orders = keeps.orders;
        any_moment = leaves-twice old mid new (H front) (leaves-more old mid (IsImage old.now) (H front) good opened)
            (leaves-more mid new (H bodies) (H front)
            (λ image holds. good-front shared header front found.0 image (subst (λ (b : List (List ℕ)). HoldsGood shared header b image) found.1 holds)) keeps.any_moment);
        at_end = keeps.at_end;
      }

  abbrev pub program : Update
  program = update_of job.fields.algorithm job.fields.source

  -- the run is one on its store
  pub runs-on-store : (resumed : Bool) (run : StoredRun) → IsDataGraph g → HasStart job.fields.algorithm job.fields.source g → RunsByScopes job.fields.algorithm g → (resumed ≡ false → length bodies ≡ 0)
      → IsStoreRunFrom job g cut program header resumed bodies mid new run → RunsOnStore resumed job g cut old new run
  runs-on-store resumed run is start edges fresh from =
      let same : bodies ≡ snapshots_on job g old = sym (stands_are header old.now.seen bodies stands) in
      record {
        stands = subst (λ (b : List (List ℕ)). DecodesTo header b old.now.seen) same stands;
        fresh = subst (λ (b : List (List ℕ)). resumed ≡ false → length b ≡ 0) same fresh;
        placed = from.placed;
        goes_on = λ owner front is_for.
            let shared = shared_by job g owner in
            let found = front-opened shared front is_for.images in
            let went = from.goes_on owner is_for.placed found.2 in
            let G : List (List ℕ) → Type 0 = λ b. GoesOnFrom job shared resumed header front b old new run in
            subst G same (record {
              snapshots = went.0;
              is = went.1;
              keeps = keeps-store shared front went.0 is_for.images went.2;
              results = stored-results job g owner _ _ resumed went.0 run is start edges went.1;
              enough = from.enough owner is_for.placed found.2 (step_bound g job.fields.algorithm) (λ order valid. bound-of job.fields.algorithm job.fields.source g order is start edges valid);
              roomy = from.roomy owner is_for.placed found.2;
            });
        machines = λ owner front is_for. from.machines owner is_for.placed (front-opened (shared_by job g owner) front is_for.images).2;
        full = from.full;
      }

  -- memory ran out
  keeps-going : 1 ≤ job.fields.machines → IsStoreKept job g cut program header bodies mid new → KeepsGoing job g cut old new
  keeps-going some kept =
      record {
        placed = some_placement g cut job.fields.machines some;
        keeps = λ owner front is_for.
            let same : bodies ≡ snapshots_on job g old = sym (stands_are header old.now.seen bodies stands) in
            let shared = shared_by job g owner in
            let found = front-opened shared front is_for.images in
            let went = kept owner is_for.placed found.2 in
            let K : List (List ℕ) → Type 0 = λ b. KeepsStore shared header front b went.0 old new in
            (went.0, subst K same (keeps-store shared front went.0 is_for.images went.1));
      }

  -- the store is none that calls leave
  other-store : 1 ≤ job.fields.machines → IsNotGood job g cut program header bodies → IsOtherStore job g cut old
  other-store some not =
      record {
        placed = some_placement g cut job.fields.machines some;
        other = λ owner front is_for short.
            let same : snapshots_on job g old ≡ bodies = stands_are header old.now.seen bodies stands in
            not owner is_for.placed (front-opened (shared_by job g owner) front is_for.images).2 (subst (λ (b : List (List ℕ)). 65 + records_size b ≤ 2 ^ 30) same short);
      }

  -- a disk that the run left as it was opened
  unchanged : new ≡ mid → KeepsImages old new
  unchanged same = subst (λ (p : DiskPast). KeepsImages old p) (sym same) opened

  -- and no run came from it
  not-run-from : (resumed : Bool) (fault : StoreFault) → 1 ≤ job.fields.machines → IsNotGoneOnFrom resumed job g cut program header bodies mid new fault → IsNotRunFrom resumed job g cut old new fault
  not-run-from resumed fault some is =
      let same : bodies ≡ snapshots_on job g old = sym (stands_are header old.now.seen bodies stands) in
      record {
        stands = subst (λ (b : List (List ℕ)). DecodesTo header b old.now.seen) same stands;
        fresh = subst (λ (b : List (List ℕ)). resumed ≡ false → length b ≡ 0) same is.fresh;
        other = other-store some is.other;
        place = subst (λ (b : List (List ℕ)). fault ≡ BadByte (65 + records_size b)) same is.place;
        kept = ⊎_elim (λ still. inl (unchanged still)) (λ kept. inr (keeps-going some kept)) is.kept;
      }

-- why there is no run, where the store was opened
pub not-on-disk : (told : Type 0) (resumed : Bool) (job : JobSayings) (g : DataGraph) (cut : Cut) (old mid new : DiskPast) (bodies : List (List ℕ)) (before between now : ℕ) (why : StoreError)
    → 1 ≤ job.fields.machines → (told → IsImage old.now old.now.seen) → (told → DecodesTo (header_for job.fields g) bodies old.now.seen) → (told → LeavesOnly old mid (IsImage old.now)) → before ≤ between
    → RunOnJournalErrorCause told resumed job g cut (update_of job.fields.algorithm job.fields.source) (header_for job.fields g) bodies mid new between now why → RunOnDiskErrorCause told resumed job g cut old new before now why
not-on-disk told resumed job g cut old mid new bodies before between now (no_store.BadStore fault) some seen stands opened later refused = λ is.
    ⊎_elim
    (λ said. inl (inr (said.0, record { snapshots = bodies; stands = stands is; some = said.1; told = said.2 }), unchanged job g cut old mid new bodies (seen is) (stands is) (opened is) said.3))
    (λ not. inr (not-run-from job g cut old mid new bodies (seen is) (stands is) (opened is) resumed fault some not))
    (refused is)
not-on-disk told resumed job g cut old mid new bodies before between now no_store.DiskFault some seen stands opened later refused = (
  Rose-later before between now later refused.0,
  λ is. unchanged job g cut old mid new bodies (seen is) (stands is) (opened is) (refused.1 is),
)
not-on-disk told resumed job g cut old mid new bodies before between now no_store.NoMemory some seen stands opened later refused = λ is.
    ⊎_elim (λ same. inl (unchanged job g cut old mid new bodies (seen is) (stands is) (opened is) same))
    (λ kept. inr (keeps-going job g cut old mid new bodies (seen is) (stands is) (opened is) some kept)) (refused is)

-- why there is none, where it was not
pub not-opened : (told : Type 0) (resumed : Bool) (job : JobSayings) (g : DataGraph) (cut : Cut) (old new : DiskPast) (before now : ℕ) (fault : JournalFault)
    → OpenErrorCause told (header_for job.fields g) old.now.seen before now fault → (told → LeavesOnly old new (IsImage old.now)) → RunOnDiskErrorCause told resumed job g cut old new before now (no_store_of_journal fault)
not-opened told resumed job g cut old new before now journal.DiskFault refused left = (refused, left)
not-opened told resumed job g cut old new before now (journal.BadStore fault) refused left = λ is. inl (inl (refused is), left is)
not-opened told resumed job g cut old new before now (journal.Full stored length) refused left = absurd refused
not-opened told resumed job g cut old new before now journal.Failed refused left = absurd refused
not-opened told resumed job g cut old new before now journal.NoMemory refused left = λ is. inl (left is)

-- why there is none, where the run could not begin or go on, or wanted memory
pub not-stored : (told : Type 0) (resumed : Bool) (job : JobSayings) (g : DataGraph) (cut : Cut) (header : Header) (bodies : List (List ℕ)) (old new : DiskPast) (before now : ℕ) (fault : JournalFault) (long : ℕ)
    → (told → long ≡ 65 + records_size bodies) → (told → resumed ≡ false → length bodies ≡ 0)
    → RunStoredErrorCause told job g cut (update_of job.fields.algorithm job.fields.source) header bodies old new before now fault
    → RunOnJournalErrorCause told resumed job g cut (update_of job.fields.algorithm job.fields.source) header bodies old new before now (no_store_of_run fault long)
not-stored told resumed job g cut header bodies old new before now journal.DiskFault long measured fresh refused = refused
not-stored told resumed job g cut header bodies old new before now (journal.BadStore fault) long measured fresh refused = λ is.
    inr (record { fresh = fresh is; other = (refused is).0; place = ap (λ (n : ℕ). BadByte n) (measured is); kept = (refused is).1 })
not-stored told resumed job g cut header bodies old new before now (journal.Full stored bytes) long measured fresh refused = absurd refused
not-stored told resumed job g cut header bodies old new before now journal.Failed long measured fresh refused = absurd refused
not-stored told resumed job g cut header bodies old new before now journal.NoMemory long measured fresh refused = refused

-- the same of another name of the header
pub run-of-header : (job : JobSayings) (g : DataGraph) (cut : Cut) (p : Update) (one other : Header) (resumed : Bool) (bodies : List (List ℕ)) (old new : DiskPast) (run : StoredRun) → one ≡ other
    → IsStoreRunFrom job g cut p one resumed bodies old new run → IsStoreRunFrom job g cut p other resumed bodies old new run
run-of-header job g cut p one other resumed bodies old new run same from =
    subst (λ (h : Header). IsStoreRunFrom job g cut p h resumed bodies old new run) same from

pub why-of-header : (told : Type 0) (resumed : Bool) (job : JobSayings) (g : DataGraph) (cut : Cut) (p : Update) (one other : Header) (bodies : List (List ℕ)) (old new : DiskPast) (before now : ℕ) (why : StoreError) → one ≡ other
    → RunOnJournalErrorCause told resumed job g cut p one bodies old new before now why → RunOnJournalErrorCause told resumed job g cut p other bodies old new before now why
why-of-header told resumed job g cut p one other bodies old new before now why same is =
    subst (λ (h : Header). RunOnJournalErrorCause told resumed job g cut p h bodies old new before now why) same is
