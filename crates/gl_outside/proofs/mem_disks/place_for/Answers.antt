use Rattle.std.proofs.Common.{◌≡◌, ℕ, List, [], ◌∷◌, ◌++◌, map, ap, ◌∙◌, rules}
use Rattle.gl_outside.specs.Disk.{at_rest}
use Rattle.gl_outside.specs.DiskStore.{NamedDisk, past_among, told_name}
use Rattle.gl_outside.specs.MemDisk.{past_of}
use Rattle.gl_outside.proofs.DiskPlaces.{names_pushed, past_pushed}
use Rattle.gl_outside.proofs.mem_disks.place_for.Goals as goal

pub returns-clause-pasts : goal.returns-clause-pasts
returns-clause-pasts c =
    let disk : NamedDisk = record { name = c.in_ok-name.name; kept = c.new-kept.result } in
    let grown : c.push.new.self.items ≡ c.args.disks.now.items ++ disk ∷ [] = search rules in
    let empty : past_of disk.kept ≡ at_rest [] = ap past_of c.new-kept.ensures ∙ ap (λ (bytes : List ℕ). at_rest bytes) c.new.ensures.items in
    ap past_among grown ∙ past_pushed c.args.disks.now.items disk empty

pub returns-clause-names : goal.returns-clause-names
returns-clause-names c = λ places inside.
    let disk : NamedDisk = record { name = c.in_ok-name.name; kept = c.new-kept.result } in
    let grown : c.push.new.self.items ≡ c.args.disks.now.items ++ disk ∷ [] = search rules in
    ap (λ (ds : List NamedDisk). map (told_name ds) places) grown ∙ names_pushed c.args.disks.now.items disk places inside
