-- What `cut` leaves at each place where it ends.
use Rattle.std.proofs.Common.{◌≡◌, ◌+◌, ◌⊎◌, inl, inr, ℕ, List, Option, Some, Err, sym, ap, ◌∙◌, subst, ⊎_elim}
use Rattle.std.specs.Prelude.{Contains}
use Rattle.gl_outside.specs.Faults.{Rose}
use Rattle.gl_outside.specs.FilesState.{FilesState, Opened, Written}
use Rattle.graph_text.specs.declared.generate.making.Writing.{Writing}
use Rattle.graph_text.specs.declared.generate.making.Writing.TheVariants as out
use Rattle.job_io.specs.job_config.Views.{job_view}
use Rattle.job_io.specs.declared.job_words.words.Words.{Words}
use Rattle.job_io.specs.declared.job_words.words.Words.TheVariants.{Cut}
use Rattle.gl_base.specs.declared.names.Name.{Name}
use Rattle.job_io.specs.whole_files.AtomNames.{cut_name, cut_names}
use Rattle.job_io.specs.whole_files.FilesUsed.{OpensInOrder, ReadsFiles, WritesFiles}
use Rattle.job_io.specs.whole_files.InTurn.{LeavesFiles, LeavesFronts}
use Rattle.job_io.specs.graph_files.Cuts.{OfCut}
use Rattle.job_io.specs.graph_files.Made.{IsFault}
use Rattle.job_io.specs.declared.job_files.inputs.Input.{Input}
use Rattle.job_io.specs.declared.job_files.inputs.NoInput.{NoInput}
use Rattle.job_io.specs.declared.job_files.inputs.NoInput.TheVariants as why
use Rattle.job_io.specs.declared.job_files.jobs.JobVerb.TheVariants as verb
use Rattle.job_io.specs.job_files.Inputs.{IsInput, IsInputFrom}
use Rattle.job_io.specs.job_files.NamesRead.{names_of}
use Rattle.job_io.proofs.job_files.InputsRead.{of-graph}
use Rattle.engine_cli.specs.CutJobs.{Cuts, LeavesCutFronts, OfCutJob}
use Rattle.engine_cli.specs.NamesWritten.{names_at}
use Rattle.engine_cli.specs.StatusMeanings.{IsReadable}
use Rattle.engine_cli.specs.Status.{IsInputRefusal, IsDoneOrNoMemory, status_of_no_input, status_of_writing}
use Rattle.engine_cli.specs.Verbs.{IsCutting}
use Rattle.engine_cli.specs.declared.status.Status.{Status}
use Rattle.engine_cli.specs.declared.status.Status.TheVariants.{Done}
use Rattle.engine_cli.proofs.NamesHanded.{hands-no-name, hands-written-names}
use Rattle.engine_cli.proofs.OneGraph.{no_bad_graph, no_bad_job}

-- no job or graph was read
unread-says : (old new : FilesState) (file : List ℕ) (cause : NoInput) → IsInput verb.Cut old new.sources.faults file (Err cause) → Cuts file old new (status_of_no_input cause)
unread-says old new file (why.BadJob fault) is = is
unread-says old new file (why.BadGraph fault) is = is
unread-says old new file (why.BadAtoms fault) is = absurd is
unread-says old new file why.ReadFault is = is
unread-says old new file why.NoMemory is = tt

unread-complete : (old new : FilesState) (file : List ℕ) (cause : NoInput) → IsInput verb.Cut old new.sources.faults file (Err cause)
    → IsReadable verb.Cut old file → (Rose old.sources.faults new.sources.faults → ⊥) → IsDoneOrNoMemory (status_of_no_input cause)
unread-complete old new file (why.BadJob fault) is input none = no_bad_job verb.Cut old file fault input is
unread-complete old new file (why.BadGraph fault) is input none = no_bad_graph verb.Cut old file fault input is
unread-complete old new file (why.BadAtoms fault) is input none = is
unread-complete old new file why.ReadFault is input none = none is
unread-complete old new file why.NoMemory is input none = tt

pub cut-unread : (old new : FilesState) (file : List ℕ) (cause : NoInput) → IsInput verb.Cut old new.sources.faults file (Err cause) → ReadsFiles (names_of verb.Cut old file) old new
    → IsCutting file old new (status_of_no_input cause)
cut-unread old new file cause is read =
    let contents = ap (λ (s : FilesState). s.contents) read.frame in
    record {
      says = unread-says old new file cause is;
      fronts = inl contents;
      sources = read.handed;
      sinks = hands-no-name verb.Cut old new file (ap (λ (s : FilesState). s.sinks.names) read.frame);
      early = λ early. read.frame;
      others = λ name apart. ap (λ (c : List ℕ → Option (List ℕ)). c name) contents;
      complete = λ input no_read no_write. unread-complete old new file cause is input no_read;
    }

module _ (old mid new : FilesState) (file : List ℕ) (input : Input) (prefix : List ℕ) (is : IsInputFrom verb.Cut old file input)
    (read : ReadsFiles (names_of verb.Cut old file) old mid) (named : input.job.atoms_at ≡ Some prefix)
    (wrote : WritesFiles (cut_names prefix input.job.atoms) mid new) where
  abbrev pub atoms : ℕ
  atoms = input.job.atoms

  contents : mid.contents ≡ old.contents
  contents = ap (λ (s : FilesState). s.contents) read.frame

  sinks : mid.sinks ≡ old.sinks
  sinks = ap (λ (s : FilesState). s.sinks) read.frame

  -- what holds of the files of the graph's cut holds of those of the job's
  of-cut : (P : List ℕ → ℕ → (ℕ → List ℕ) → Type 0) → OfCut input.graph atoms (P prefix atoms) → OfCutJob old file P
  of-cut P made =
      (job_view input.job, is.job, (prefix, named, of-graph old (job_view input.job).fields input.graph (λ g. OfCut g atoms (P prefix atoms)) is.texts is.start made))

  pub files-left : OfCut input.graph atoms (λ text. LeavesFiles (cut_name prefix) text (atoms + 1) mid new) → Cuts file old new Done
  files-left made =
      let L : Opened Written → Type 0 = λ s. OfCut input.graph atoms (λ text. LeavesFiles (cut_name prefix) text (atoms + 1) (record old { sinks = s }) new) in
      of-cut (λ p n text. LeavesFiles (cut_name p) text (n + 1) old new) (subst L sinks made)

  fronts-left : ((new.contents ≡ mid.contents) ⊎ OfCut input.graph atoms (λ text. LeavesFronts (cut_name prefix) text (atoms + 1) mid new)) → LeavesCutFronts file old new
  fronts-left fronts =
      let S : Opened Written → Type 0 = λ s. OfCut input.graph atoms (λ text. LeavesFronts (cut_name prefix) text (atoms + 1) (record mid { sinks = s }) new) in
      let C : (List ℕ → Option (List ℕ)) → Type 0 = λ c. OfCut input.graph atoms (λ text. LeavesFronts (cut_name prefix) text (atoms + 1) (record old { contents = c }) new) in
      ⊎_elim (λ same. inl (same ∙ contents))
      (λ made. inr (of-cut (λ p n text. LeavesFronts (cut_name p) text (n + 1) old new) (subst C contents (subst S sinks made)))) fronts

  -- the cut was written, or not to its end
  pub cut-ends : (status : Status) → Cuts file old new status → ((new.contents ≡ mid.contents) ⊎ OfCut input.graph atoms (λ text. LeavesFronts (cut_name prefix) text (atoms + 1) mid new))
      → (IsInputRefusal status → ⊥) → ((Rose old.sinks.faults new.sinks.faults → ⊥) → IsDoneOrNoMemory status) → IsCutting file old new status
  cut-ends status says fronts late complete =
      let job = job_view input.job in
      let sources : new.sources ≡ mid.sources = ap (λ (s : FilesState). s.sources) wrote.frame in
      let names : names_at input.job.atoms_at atoms ≡ cut_names prefix atoms = ap (λ (o : Option (List ℕ)). names_at o atoms) named in
      let handed : OpensInOrder old.sinks.names new.sinks.names (cut_names prefix atoms) = subst (λ (s : Opened Written). OpensInOrder s.names new.sinks.names (cut_names prefix atoms)) sinks wrote.handed in
      record {
        says = says;
        fronts = fronts-left fronts;
        sources = subst (λ (s : Opened (Option (List ℕ))). OpensInOrder old.sources.names s.names (names_of verb.Cut old file)) (sym sources) read.handed;
        sinks = hands-written-names verb.Cut old new file job is.job (subst (λ (l : List (List ℕ)). OpensInOrder old.sinks.names new.sinks.names l) (sym names) handed);
        early = λ early. absurd (late early);
        others = λ name apart. wrote.others name (λ in_names. apart (job, is.job, subst (λ (l : List (List ℕ)). Contains l name) (sym names) in_names))
            ∙ ap (λ (c : List ℕ → Option (List ℕ)). c name) contents;
        complete = λ input no_read no_write. complete no_write;
      }

  -- it was
  pub cut-done : OfCut input.graph atoms (λ text. LeavesFiles (cut_name prefix) text (atoms + 1) mid new)
      → ((new.contents ≡ mid.contents) ⊎ OfCut input.graph atoms (λ text. LeavesFronts (cut_name prefix) text (atoms + 1) mid new)) → IsCutting file old new Done
  cut-done made fronts = cut-ends Done (files-left made) fronts (λ early. early) (λ no_write. tt)

  -- it was not
  pub cut-failed : (cause : Writing) → IsFault cause mid.sinks.faults new.sinks.faults
      → ((new.contents ≡ mid.contents) ⊎ OfCut input.graph atoms (λ text. LeavesFronts (cut_name prefix) text (atoms + 1) mid new)) → IsCutting file old new (status_of_writing cause)
  cut-failed out.WriteFault fault fronts =
      let rose : Rose old.sinks.faults new.sinks.faults = subst (λ (s : Opened Written). Rose s.faults new.sinks.faults) sinks fault in
      cut-ends (status_of_writing out.WriteFault) rose fronts (λ early. early) (λ no_write. no_write rose)
  cut-failed out.NoMemory fault fronts = cut-ends (status_of_writing out.NoMemory) tt fronts (λ early. early) (λ no_write. tt)

-- the same of the words that were asked
pub cutting-asked : (words : Words) (f : Name) (file spelled : List ℕ) (old new : FilesState) (status : Status) → words ≡ Cut f → words ≡ Cut file → spelled ≡ f
    → IsCutting spelled old new status → IsCutting file old new status
cutting-asked words f file spelled old new status is asked spelled_is cutting =
    let same : f ≡ file = same_name (sym is ∙ asked) in
    subst (λ (x : List ℕ). IsCutting x old new status) (spelled_is ∙ same) cutting
  where
    same_name : {a b : Name} → Cut a ≡ Cut b → a ≡ b
    same_name e = cc
