use Rattle.std.proofs.Common.{◌≡◌, ◌<◌, List, length, sym, ap, ◌∙◌, subst}
use Rattle.gl_outside.specs.Disk.{DiskPast}
use Rattle.gl_outside.specs.DiskStore.{DisksState, NamedDisk, disk_at, past_among}
use Rattle.gl_outside.specs.Inner.Disks.{IsUnknown}
use Rattle.gl_outside.specs.MemDisk.{past_of}
use Rattle.gl_outside.proofs.DiskPlaces.{past_found, past_unknown}
use Rattle.gl_outside.proofs.mem_disks.MemDisks.bytes.Goals as goal

pub returns-in-Some : goal.returns-in-Some
returns-in-Some c =
    let at = subst (λ (ds : List NamedDisk). (c.in-Some.place < length ds) × ((disk_at ds c.in-Some.place).name ≡ c.args.name.now)) c.deref.ensures.value c.in-Some.ensures in
    let found = past_found c.self.inside.disks.items c.in-Some.place c.index-disk.result.now c.args.name.now c.self.invariant.1 at.0 at.1 c.index-disk.ensures in
    c.bytes.ensures
    ∙ ap (λ (p : DiskPast). p.now.seen) (ap (λ (d : NamedDisk). past_of d.kept) c.disk.view_is ∙ sym found)
    ∙ ap (λ (s : DisksState). (past_among s.disks c.args.name.now).now.seen) c.self.view_is

pub returns-in-None : goal.returns-in-None
returns-in-None c =
    let unknown = subst (λ (ds : List NamedDisk). IsUnknown ds c.args.name.now) c.deref.ensures.value c.in-None.ensures in
    sym (ap (λ (p : DiskPast). p.now.seen) (past_unknown c.self.inside.disks.items c.args.name.now unknown))
    ∙ ap (λ (s : DisksState). (past_among s.disks c.args.name.now).now.seen) c.self.view_is
