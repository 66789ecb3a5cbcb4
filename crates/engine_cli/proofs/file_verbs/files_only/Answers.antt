use Rattle.std.proofs.Common.{◌≡◌, Ok, ap, sym, subst, ◌∙◌, rules}
use Rattle.engine_cli.specs.declared.status.Status.{Status}
use Rattle.engine_cli.specs.declared.status.Status.TheVariants.{Done}
use Rattle.engine_cli.specs.Made.{Makes}
use Rattle.engine_cli.specs.Status.{status_of_writing}
use Rattle.engine_cli.proofs.FilesMade.{is-making, makes-of, making-asked}
use Rattle.engine_cli.proofs.PlansInRange.{asked-in-ranges}
use Rattle.engine_cli.proofs.file_verbs.files_only.Goals as goal

pub make_files-requires : goal.make_files-requires
make_files-requires g c =
    asked-in-ranges c.requires.asked.0 c.in-Make.prefix c.in-Make.plan (c.requires.asked.1 ∙ ap Ok c.in-Make.is)

pub returns-in-Ok-clause-make : goal.returns-in-Ok-clause-make
returns-in-Ok-clause-make g c prefix plan is =
    let old = g.F.Files.state c.args.files.now in
    let new = g.F.Files.state c.make_files.new.files in
    let made = c.in-Ok.ensures in
    making-asked c.args.words.now c.in-Make.prefix prefix c.in-Make.plan plan c.as_str.result.now old new Done c.in-Make.is is c.as_str.ensures
    (is-making c.as_str.result.now c.in-Make.plan old new Done (made.made_vertices, made.made_edges) made.vertices made.edges made.wrote)

pub returns-in-Err-clause-make : goal.returns-in-Err-clause-make
returns-in-Err-clause-make g c prefix plan is =
    let old = g.F.Files.state c.args.files.now in
    let new = g.F.Files.state c.make_files.new.files in
    let made = c.in-Err.ensures in
    let status : c.refuse.result ≡ status_of_writing c.in-Err.why = search rules in
    let M : Status → Type 0 = Makes c.in-Make.plan c.as_str.result.now old new in
    making-asked c.args.words.now c.in-Make.prefix prefix c.in-Make.plan plan c.as_str.result.now old new c.refuse.result c.in-Make.is is c.as_str.ensures
    (is-making c.as_str.result.now c.in-Make.plan old new c.refuse.result (subst M (sym status) (makes-of c.in-Make.plan c.as_str.result.now old new c.in-Err.why made.fault)) made.vertices made.edges made.wrote)
