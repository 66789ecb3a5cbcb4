use Rattle.std.proofs.Common.{◌≡◌, inr, rules}
use Rattle.job_io.specs.whole_files.AtomNames.{index_name}
use Rattle.job_io.proofs.whole_files.FilesCreated.{OnOk-map}
use Rattle.graph_atoms.specs.atom_cut.Cuts.{atom_numbers}
use Rattle.graph_atoms.specs.atom_cut.Index.{index_bytes}
use Rattle.job_io.proofs.graph_files.CutWritten.{cut-fronts, cut-index-stops, cut-index-written, cut-written, each-atoms}
use Rattle.job_io.proofs.graph_files.cutting.write_cut.Goals as goal

pub returns-in_err-write_file-clause-fronts : goal.returns-in_err-write_file-clause-fronts
returns-in_err-write_file-clause-fronts g c =
    let made = c.in_ok-made.made in
    let of = atom_numbers made.of.items in
    let named : c.as_str.result.now ≡ index_name c.args.prefix.now = search rules in
    let is : c.deref.result.now ≡ index_bytes c.args.graph.now of c.args.atoms = search rules in
    inr (
      of,
      c.in_ok-made.ensures.cut,
      (cut-index-stops c.args.prefix.now c.args.graph.now of c.args.atoms made.lines.items c.in_ok-made.ensures.lines c.requires.few (g.F.Files.state c.args.files.now) (g.F.Files.state c.write_file.new.files) c.as_str.result.now c.deref.result.now named is
          c.in_err-write_file.ensures.wrote c.in_err-write_file.ensures.front).1,
    )

pub returns-in_err-write_file-clause-wrote : goal.returns-in_err-write_file-clause-wrote
returns-in_err-write_file-clause-wrote g c =
    let made = c.in_ok-made.made in
    let of = atom_numbers made.of.items in
    let named : c.as_str.result.now ≡ index_name c.args.prefix.now = search rules in
    let is : c.deref.result.now ≡ index_bytes c.args.graph.now of c.args.atoms = search rules in
    (cut-index-stops c.args.prefix.now c.args.graph.now of c.args.atoms made.lines.items c.in_ok-made.ensures.lines c.requires.few (g.F.Files.state c.args.files.now) (g.F.Files.state c.write_file.new.files) c.as_str.result.now c.deref.result.now named is
    c.in_err-write_file.ensures.wrote c.in_err-write_file.ensures.front).0

pub write_atoms-requires-clause-atoms : goal.write_atoms-requires-clause-atoms
write_atoms-requires-clause-atoms g c =
    let made = c.in_ok-made.made in
    rw c.deref-2.ensures.value (each-atoms c.args.graph.now (atom_numbers made.of.items) c.args.atoms made.lines.items c.n.ensures.graph c.in_ok-made.ensures.lines)

pub returns-clause-written : goal.returns-clause-written
returns-clause-written g c =
    let made = c.in_ok-made.made in
    let of = atom_numbers made.of.items in
    let old = g.F.Files.state c.args.files.now in
    let mid = g.F.Files.state c.write_file.new.files in
    let named : c.as_str.result.now ≡ index_name c.args.prefix.now = search rules in
    let is : c.deref.result.now ≡ index_bytes c.args.graph.now of c.args.atoms = search rules in
    OnOk-map c.write_atoms.result _ _
    (λ goes. (
      of,
      c.in_ok-made.ensures.cut,
      cut-written c.args.prefix.now c.args.graph.now of c.args.atoms made.lines.items c.in_ok-made.ensures.lines c.requires.few old mid (g.F.Files.state c.write_atoms.new.files)
          (cut-index-written c.args.prefix.now c.args.graph.now of c.args.atoms made.lines.items c.in_ok-made.ensures.lines c.requires.few old mid c.as_str.result.now c.deref.result.now named is
          c.in_ok-write_file.ensures.wrote c.in_ok-write_file.ensures.handed c.in_ok-write_file.ensures.written) (rw c.deref-2.ensures.value at goes),
    ))
    c.write_atoms.ensures.written

pub returns-clause-fronts : goal.returns-clause-fronts
returns-clause-fronts g c =
    let made = c.in_ok-made.made in
    let of = atom_numbers made.of.items in
    let old = g.F.Files.state c.args.files.now in
    let mid = g.F.Files.state c.write_file.new.files in
    let named : c.as_str.result.now ≡ index_name c.args.prefix.now = search rules in
    let is : c.deref.result.now ≡ index_bytes c.args.graph.now of c.args.atoms = search rules in
    inr (
      of,
      c.in_ok-made.ensures.cut,
      (cut-fronts c.args.prefix.now c.args.graph.now of c.args.atoms made.lines.items c.in_ok-made.ensures.lines c.requires.few old mid (g.F.Files.state c.write_atoms.new.files)
          (cut-index-written c.args.prefix.now c.args.graph.now of c.args.atoms made.lines.items c.in_ok-made.ensures.lines c.requires.few old mid c.as_str.result.now c.deref.result.now named is
          c.in_ok-write_file.ensures.wrote c.in_ok-write_file.ensures.handed c.in_ok-write_file.ensures.written) (rw c.deref-2.ensures.value at c.write_atoms.ensures.fronts)).1,
    )

pub returns-clause-wrote : goal.returns-clause-wrote
returns-clause-wrote g c =
    let made = c.in_ok-made.made in
    let of = atom_numbers made.of.items in
    let old = g.F.Files.state c.args.files.now in
    let mid = g.F.Files.state c.write_file.new.files in
    let named : c.as_str.result.now ≡ index_name c.args.prefix.now = search rules in
    let is : c.deref.result.now ≡ index_bytes c.args.graph.now of c.args.atoms = search rules in
    (cut-fronts c.args.prefix.now c.args.graph.now of c.args.atoms made.lines.items c.in_ok-made.ensures.lines c.requires.few old mid (g.F.Files.state c.write_atoms.new.files)
    (cut-index-written c.args.prefix.now c.args.graph.now of c.args.atoms made.lines.items c.in_ok-made.ensures.lines c.requires.few old mid c.as_str.result.now c.deref.result.now named is
    c.in_ok-write_file.ensures.wrote c.in_ok-write_file.ensures.handed c.in_ok-write_file.ensures.written) (rw c.deref-2.ensures.value at c.write_atoms.ensures.fronts)).0
