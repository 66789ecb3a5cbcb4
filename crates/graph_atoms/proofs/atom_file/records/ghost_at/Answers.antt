use Rattle.std.proofs.Common.{◌≡◌, drop, sym, ◌∙◌}
use Rattle.graph_atoms.specs.atom_file.Fields.{field}
use Rattle.graph_atoms.proofs.atom_file.FieldLemmas.{field-drop}
use Rattle.graph_atoms.proofs.atom_file.records.ghost_at.Goals as goal

pub returns : goal.returns
returns c =
    let bytes = c.args.bytes.now in
    let place = c.args.place in
    let vertex : c.u32_at.result ≡ field (drop place bytes) 1 4 = c.u32_at.ensures ∙ sym (field-drop 4 bytes place 1) in
    let id : c.u64_at.result ≡ field (drop place bytes) 5 8 = c.u64_at.ensures ∙ sym (field-drop 8 bytes place 5) in
    let atom : c.u16_at.result ≡ field (drop place bytes) 13 2 = c.u16_at.ensures ∙ sym (field-drop 2 bytes place 13) in
    cc
