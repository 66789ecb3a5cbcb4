use Rattle.std.proofs.Common.{[], ◌∷◌, refl}
use Rattle.std.proofs.lemmas.Result.{err_from_is_err_and}
use Rattle.job_io.specs.job_config.Views.{job_view}
use Rattle.job_io.proofs.whole_files.TextsRead.{reads-after, reads-more}
use Rattle.job_io.specs.job_files.JobTexts.{DescribeJobGraph, OfTexts}
use Rattle.job_io.specs.job_files.NamesRead.{names_after, names_of}
use Rattle.job_io.proofs.job_files.GraphTexts.{texts-before}
use Rattle.job_io.proofs.job_files.InputsRead.{graph-handed-before, graph-names-before, no-input-graph, no-input-job, no-input-source}
use Rattle.job_io.proofs.job_files.NamesGraph.{AppendsNames-graph, OpensInOrder-graph}
use Rattle.job_io.proofs.job_files.inputs.read_input.Goals as goal

pub returns-in_err-job-clause-read : goal.returns-in_err-job-clause-read
returns-in_err-job-clause-read g c =
    let files = g.F.Files.state c.args.files.now in
    reads-more files _ c.args.file.now c.args.file.now (names_after c.args.verb files (files.contents c.args.file.now)) refl c.in_err-job.ensures.read

pub returns-in_err-job-clause-answer : goal.returns-in_err-job-clause-answer
returns-in_err-job-clause-answer g c =
    let exit = err_from_is_err_and c.from_residual.result c.from_residual.ensures.1 in
    rw (exit.1, exit.2) (no-input-job c.args.verb (g.F.Files.state c.args.files.now) (g.F.Files.state c.job_of.new.files).sources.faults c.args.file.now c.in_err-job.field-0.0 c.in_err-job.ensures.answer)

pub returns-in_err-graph-clause-read : goal.returns-in_err-graph-clause-read
returns-in_err-graph-clause-read g c =
    let files = g.F.Files.state c.args.files.now in
    let mid = g.F.Files.state c.job_of.new.files in
    let job = job_view c.in_ok-job.job in
    reads-after files mid _ _ _ (names_of c.args.verb files c.args.file.now) c.in_ok-job.ensures.read c.in_err-graph.ensures.read
    (OpensInOrder-graph c.args.verb files mid.sources.names _ c.args.file.now job c.in_ok-job.ensures.answer.1 c.in_ok-job.ensures.handed
    (graph-names-before files mid _ job.fields c.in_ok-job.ensures.read.frame c.in_err-graph.ensures.read.handed))

pub returns-in_err-graph-clause-answer : goal.returns-in_err-graph-clause-answer
returns-in_err-graph-clause-answer g c =
    let exit = err_from_is_err_and c.from_residual-in_err-graph.result c.from_residual-in_err-graph.ensures.1 in
    rw (exit.1, exit.2) (no-input-graph c.args.verb (g.F.Files.state c.args.files.now) (g.F.Files.state c.job_of.new.files) (g.F.Files.state c.graph_of.new.files).sources.faults c.args.file.now
    (c.args.file.now ∷ []) (job_view c.in_ok-job.job) c.in_err-graph.field-0.0 c.in_ok-job.ensures.read.frame c.in_ok-job.ensures.handed c.in_ok-job.ensures.read.later
    c.in_ok-job.ensures.answer.1 c.in_err-graph.ensures.answer)

pub returns-in-None-clause-read : goal.returns-in-None-clause-read
returns-in-None-clause-read g c =
    let files = g.F.Files.state c.args.files.now in
    let mid = g.F.Files.state c.job_of.new.files in
    let job = job_view c.in_ok-job.job in
    reads-after files mid _ _ _ (names_of c.args.verb files c.args.file.now) c.in_ok-job.ensures.read c.in_ok-graph.ensures.read
    (OpensInOrder-graph c.args.verb files mid.sources.names _ c.args.file.now job c.in_ok-job.ensures.answer.1 c.in_ok-job.ensures.handed
    (graph-names-before files mid _ job.fields c.in_ok-job.ensures.read.frame c.in_ok-graph.ensures.read.handed))

pub returns-in-None-clause-handed : goal.returns-in-None-clause-handed
returns-in-None-clause-handed g c =
    let files = g.F.Files.state c.args.files.now in
    let mid = g.F.Files.state c.job_of.new.files in
    let job = job_view c.in_ok-job.job in
    AppendsNames-graph c.args.verb files mid.sources.names _ c.args.file.now job c.in_ok-job.ensures.answer.1 c.in_ok-job.ensures.handed
    (graph-handed-before files mid _ job.fields c.in_ok-job.ensures.read.frame c.in_ok-graph.ensures.handed)

pub returns-in-None-clause-answer : goal.returns-in-None-clause-answer
returns-in-None-clause-answer g c =
    let files = g.F.Files.state c.args.files.now in
    let job = job_view c.in_ok-job.job in
    record {
      ready = c.in_ok-job.ensures.answer.0;
      job = c.in_ok-job.ensures.answer.1;
      texts = texts-before files (g.F.Files.state c.job_of.new.files) (c.args.file.now ∷ []) job.fields (λ vertices edges. DescribeJobGraph job.fields vertices edges c.in_ok-graph.graph)
          c.in_ok-job.ensures.read.frame c.in_ok-job.ensures.handed c.in_ok-graph.ensures.answer.2;
      graph = c.in_ok-graph.ensures.answer.0;
      directed = c.in_ok-graph.ensures.answer.1;
      start = c.in-None.ensures;
    }

pub returns-in-Some-clause-read : goal.returns-in-Some-clause-read
returns-in-Some-clause-read g c =
    let files = g.F.Files.state c.args.files.now in
    let mid = g.F.Files.state c.job_of.new.files in
    let job = job_view c.in_ok-job.job in
    reads-after files mid _ _ _ (names_of c.args.verb files c.args.file.now) c.in_ok-job.ensures.read c.in_ok-graph.ensures.read
    (OpensInOrder-graph c.args.verb files mid.sources.names _ c.args.file.now job c.in_ok-job.ensures.answer.1 c.in_ok-job.ensures.handed
    (graph-names-before files mid _ job.fields c.in_ok-job.ensures.read.frame c.in_ok-graph.ensures.read.handed))

pub returns-in-Some-clause-answer : goal.returns-in-Some-clause-answer
returns-in-Some-clause-answer g c =
    let files = g.F.Files.state c.args.files.now in
    let job = job_view c.in_ok-job.job in
    let texts : OfTexts files job.fields (λ vertices edges. DescribeJobGraph job.fields vertices edges c.in_ok-graph.graph) =
    texts-before files (g.F.Files.state c.job_of.new.files) (c.args.file.now ∷ []) job.fields (λ vertices edges. DescribeJobGraph job.fields vertices edges c.in_ok-graph.graph)
    c.in_ok-job.ensures.read.frame c.in_ok-job.ensures.handed c.in_ok-graph.ensures.answer.2 in
    no-input-source c.args.verb files (g.F.Files.state c.graph_of.new.files).sources.faults c.args.file.now job c.in_ok-graph.graph c.in-Some.source
    c.in_ok-job.ensures.answer.1 texts c.in-Some.ensures
