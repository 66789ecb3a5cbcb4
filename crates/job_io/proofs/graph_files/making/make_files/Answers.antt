use Rattle.gl_base.specs.declared.text_faults.TextFile.TheVariants.{Vertices, Edges}
use Rattle.std.proofs.Common.{◌∷◌, [], inl, sym}
use Rattle.job_io.specs.graph_files.Made.{edges_name, vertices_name}
use Rattle.job_io.proofs.whole_files.FilesCreated.{OnOk-map, other-kept, writes-both, writes-first}
use Rattle.job_io.proofs.graph_files.TextsMade.{front-after, front-kept, names-apart, text-before, text-kept}
use Rattle.job_io.proofs.whole_files.NamesHanded.{OnOk-of}
use Rattle.job_io.proofs.graph_files.making.make_files.Goals as goal

pub returns-in_err-make_file-clause-wrote : goal.returns-in_err-make_file-clause-wrote
returns-in_err-make_file-clause-wrote g c =
    writes-first (vertices_name c.args.prefix.now) (edges_name c.args.prefix.now) _ _ c.in_err-make_file.ensures.wrote

pub returns-in_err-make_file-clause-edges : goal.returns-in_err-make_file-clause-edges
returns-in_err-make_file-clause-edges g c =
    inl (other-kept (vertices_name c.args.prefix.now) (edges_name c.args.prefix.now) (g.F.Files.state c.args.files.now) (g.F.Files.state c.make_file.new.files) c.in_err-make_file.ensures.wrote
    (λ e. names-apart c.args.prefix.now (sym e)))

pub returns-clause-wrote : goal.returns-clause-wrote
returns-clause-wrote g c =
    writes-both (vertices_name c.args.prefix.now) (edges_name c.args.prefix.now) _ (g.F.Files.state c.make_file.new.files) _
    c.in_ok-make_file.ensures.wrote c.in_ok-make_file.ensures.handed c.make_file-2.ensures.wrote

pub returns-clause-made_vertices : goal.returns-clause-made_vertices
returns-clause-made_vertices g c =
    OnOk-of c.make_file-2.result _
    (text-kept c.args.plan.now Vertices (g.F.Files.state c.args.files.now) (g.F.Files.state c.make_file.new.files) (g.F.Files.state c.make_file-2.new.files) (vertices_name c.args.prefix.now)
    (other-kept (edges_name c.args.prefix.now) (vertices_name c.args.prefix.now) (g.F.Files.state c.make_file.new.files) (g.F.Files.state c.make_file-2.new.files) c.make_file-2.ensures.wrote (names-apart c.args.prefix.now))
    c.in_ok-make_file.ensures.made)

pub returns-clause-made_edges : goal.returns-clause-made_edges
returns-clause-made_edges g c =
    OnOk-map c.make_file-2.result _ _
    (text-before c.args.plan.now Edges (g.F.Files.state c.args.files.now) (g.F.Files.state c.make_file.new.files) (g.F.Files.state c.make_file-2.new.files) (vertices_name c.args.prefix.now ∷ []) (edges_name c.args.prefix.now)
    c.in_ok-make_file.ensures.handed)
    c.make_file-2.ensures.made

pub returns-clause-vertices : goal.returns-clause-vertices
returns-clause-vertices g c =
    front-kept c.args.plan.now Vertices (g.F.Files.state c.args.files.now) (g.F.Files.state c.make_file.new.files) (g.F.Files.state c.make_file-2.new.files) (vertices_name c.args.prefix.now)
    (other-kept (edges_name c.args.prefix.now) (vertices_name c.args.prefix.now) (g.F.Files.state c.make_file.new.files) (g.F.Files.state c.make_file-2.new.files) c.make_file-2.ensures.wrote (names-apart c.args.prefix.now))
    c.in_ok-make_file.ensures.front

pub returns-clause-edges : goal.returns-clause-edges
returns-clause-edges g c =
    front-after c.args.plan.now Edges (g.F.Files.state c.args.files.now) (g.F.Files.state c.make_file.new.files) (g.F.Files.state c.make_file-2.new.files) (vertices_name c.args.prefix.now ∷ []) (edges_name c.args.prefix.now)
    c.in_ok-make_file.ensures.handed
    (other-kept (vertices_name c.args.prefix.now) (edges_name c.args.prefix.now) (g.F.Files.state c.args.files.now) (g.F.Files.state c.make_file.new.files) c.in_ok-make_file.ensures.wrote (λ e. names-apart c.args.prefix.now (sym e)))
    c.make_file-2.ensures.front
