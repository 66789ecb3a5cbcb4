use Rattle.std.proofs.Common.{Err}
use Rattle.std.proofs.lemmas.Result.{err_from_is_err_and}
use Rattle.job_io.specs.job_config.Views.{job_view}
use Rattle.job_io.specs.job_files.NamesRead.{edges_after, graph_names}
use Rattle.job_io.proofs.job_files.GraphsTold.{edges-taken, vertices-refused, vertices-renamed}
use Rattle.job_io.proofs.job_files.NamesGraph.{AppendsNames-edges, OpensInOrder-edges}
use Rattle.job_io.proofs.whole_files.FilesCreated.{OnOk-map}
use Rattle.job_io.proofs.whole_files.TextsRead.{reads-after, reads-more, renamed}
use Rattle.job_io.proofs.job_files.graphs.graph_of.Goals as goal

pub returns-in_err-list-clause-read : goal.returns-in_err-list-clause-read
returns-in_err-list-clause-read g c =
    let files = g.F.Files.state c.args.files.now in
    reads-more files _ c.as_str.result.now c.args.job.now.vertices (edges_after (files.contents c.args.job.now.vertices) c.args.job.now.edges) c.as_str.ensures c.in_err-list.ensures.read

pub returns-in_err-list-clause-answer : goal.returns-in_err-list-clause-answer
returns-in_err-list-clause-answer g c =
    let exit = err_from_is_err_and c.from_residual.result c.from_residual.ensures.1 in
    let files = g.F.Files.state c.args.files.now in
    rw (exit.1, exit.2) (vertices-refused files (g.F.Files.state c.vertices_of.new.files).sources.faults (job_view c.args.job.now).fields c.in_err-list.field-0.0
    (vertices-renamed files (g.F.Files.state c.vertices_of.new.files).sources.faults c.as_str.result.now c.args.job.now.vertices (Err c.in_err-list.field-0.0) c.as_str.ensures c.in_err-list.ensures.answer))

pub returns-clause-answer : goal.returns-clause-answer
returns-clause-answer g c =
    edges-taken (g.F.Files.state c.args.files.now) (g.F.Files.state c.vertices_of.new.files) _ (job_view c.args.job.now).fields
    c.as_str.result.now c.as_str-2.result.now c.in_ok-list.list.ids.items c.is_weighted-weighted.result _ c.edges_of.result
    c.as_str.ensures c.as_str-2.ensures c.is_weighted-weighted.ensures c.in_ok-list.ensures.read.later c.in_ok-list.ensures.read.frame c.in_ok-list.ensures.handed
    c.in_ok-list.ensures.answer.1 c.edges_of.ensures.answer

pub returns-clause-read : goal.returns-clause-read
returns-clause-read g c =
    let files = g.F.Files.state c.args.files.now in
    reads-after files (g.F.Files.state c.vertices_of.new.files) _ _ _ (graph_names files (job_view c.args.job.now).fields) c.in_ok-list.ensures.read c.edges_of.ensures.read
    (OpensInOrder-edges _ _ _ (files.contents c.args.job.now.vertices) c.as_str.result.now c.args.job.now.vertices c.as_str-2.result.now c.args.job.now.edges
    c.in_ok-list.list.ids.items c.as_str.ensures c.as_str-2.ensures (renamed files c.as_str.result.now c.args.job.now.vertices _ c.as_str.ensures c.in_ok-list.ensures.answer.1) c.in_ok-list.ensures.handed c.edges_of.ensures.read.handed)

pub returns-clause-handed : goal.returns-clause-handed
returns-clause-handed g c =
    let files = g.F.Files.state c.args.files.now in
    OnOk-map c.edges_of.result _ _
    (λ last. AppendsNames-edges _ _ _ (files.contents c.args.job.now.vertices) c.as_str.result.now c.args.job.now.vertices c.as_str-2.result.now c.args.job.now.edges
    c.in_ok-list.list.ids.items c.as_str.ensures c.as_str-2.ensures (renamed files c.as_str.result.now c.args.job.now.vertices _ c.as_str.ensures c.in_ok-list.ensures.answer.1) c.in_ok-list.ensures.handed last)
    c.edges_of.ensures.handed
