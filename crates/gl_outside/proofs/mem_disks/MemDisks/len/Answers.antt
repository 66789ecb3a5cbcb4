use Rattle.std.proofs.Common.{ℕ, List, length, sym, ap, ◌∙◌}
use Rattle.gl_outside.specs.Disk.{DiskPast}
use Rattle.gl_outside.specs.DiskStore.{NamedDisk}
use Rattle.gl_outside.specs.MemDisk.{past_of}
use Rattle.gl_outside.proofs.DiskPlaces.{past_of_open}
use Rattle.gl_outside.proofs.mem_disks.MemDisks.len.Goals as goal

pub returns-clause-length : goal.returns-clause-length
returns-clause-length c =
    let found = past_of_open _ c.args.self.now c.self.view_is c.self.invariant.0 c.self.invariant.1 c.args.file.0 c.index.result.now c.index-disk.result.now c.requires c.index.ensures c.index-disk.ensures in
    ap (λ (bytes : List ℕ). length bytes) c.bytes.ensures
    ∙ ap (λ (p : DiskPast). length p.now.seen) (ap (λ (d : NamedDisk). past_of d.kept) c.disk.view_is ∙ sym found)

pub invariant_of-self : goal.invariant_of-self
invariant_of-self c = c.self.invariant

pub invariant_of-self-2 : goal.invariant_of-self-2
invariant_of-self-2 c = c.self.invariant
