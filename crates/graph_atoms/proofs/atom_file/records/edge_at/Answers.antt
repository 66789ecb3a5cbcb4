use Rattle.std.proofs.Common.{◌≡◌, drop, sym, ◌∙◌}
use Rattle.graph_atoms.specs.atom_file.Fields.{field}
use Rattle.graph_atoms.proofs.atom_file.FieldLemmas.{field-drop}
use Rattle.graph_atoms.proofs.atom_file.records.edge_at.Goals as goal

pub returns : goal.returns
returns c =
    let bytes = c.args.bytes.now in
    let place = c.args.place in
    let edge : c.u32_at.result ≡ field (drop place bytes) 1 4 = c.u32_at.ensures ∙ sym (field-drop 4 bytes place 1) in
    let from : c.u32_at-2.result ≡ field (drop place bytes) 5 4 = c.u32_at-2.ensures ∙ sym (field-drop 4 bytes place 5) in
    let to : c.u32_at-3.result ≡ field (drop place bytes) 9 4 = c.u32_at-3.ensures ∙ sym (field-drop 4 bytes place 9) in
    let weight : c.u32_at-4.result ≡ field (drop place bytes) 13 4 = c.u32_at-4.ensures ∙ sym (field-drop 4 bytes place 13) in
    cc
