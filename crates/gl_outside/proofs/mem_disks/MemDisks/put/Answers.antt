use Rattle.std.proofs.Common.{◌≡◌, List, sym, ap, ◌∙◌}
use Rattle.std.proofs.lemmas.List.{get_or_read}
use Rattle.gl_outside.specs.Disk.{DiskPast}
use Rattle.gl_outside.specs.DiskStore.{DisksState, NamedDisk, disk_at, past_among}
use Rattle.gl_outside.specs.MemDisk.{past_of}
use Rattle.gl_outside.proofs.DiskPlaces.{past_set, past_set_other, put_inside}
use Rattle.gl_outside.proofs.mem_disks.MemDisks.put.Goals as goal

pub returns-clause-holds : goal.returns-clause-holds
returns-clause-holds c =
    let disks = c.place_for.new.disks.items in
    let place = c.in_ok-place.place in
    let now : NamedDisk = record { name = c.behind-self.inside.name; kept = c.new.result } in
    let at = c.in_ok-place.ensures.place in
    let named : now.name ≡ (disk_at disks place).name =
    ap (λ (d : NamedDisk). d.name) (c.behind-self.view_is ∙ get_or_read disks place c.index_mut.result.now at.0 c.index_mut.ensures.value _) in
    ap (past_among _) (sym at.1) ∙ past_set disks place now at.0 named c.in_ok-place.ensures.apart ∙ ap past_of c.new.ensures

pub returns-clause-others : goal.returns-clause-others
returns-clause-others c = λ other apart.
    let disks = c.place_for.new.disks.items in
    let place = c.in_ok-place.place in
    let now : NamedDisk = record { name = c.behind-self.inside.name; kept = c.new.result } in
    let at = c.in_ok-place.ensures.place in
    let named : now.name ≡ (disk_at disks place).name =
    ap (λ (d : NamedDisk). d.name) (c.behind-self.view_is ∙ get_or_read disks place c.index_mut.result.now at.0 c.index_mut.ensures.value _) in
    past_set_other disks place now other named (λ e. apart (sym e ∙ at.1))
    ∙ ap (λ (past : List _ → DiskPast). past other) c.in_ok-place.ensures.pasts
    ∙ ap (λ (s : DisksState). past_among s.disks other) c.self.view_is

pub invariant_of-self-2 : goal.invariant_of-self-2
invariant_of-self-2 c =
    let disks = c.place_for.new.disks.items in
    let place = c.in_ok-place.place in
    let now : NamedDisk = record { name = c.behind-self.inside.name; kept = c.new.result } in
    let at = c.in_ok-place.ensures.place in
    let named : now.name ≡ (disk_at disks place).name =
    ap (λ (d : NamedDisk). d.name) (c.behind-self.view_is ∙ get_or_read disks place c.index_mut.result.now at.0 c.index_mut.ensures.value _) in
    put_inside c.self.inside.disks.items disks place now c.self.inside.places.items c.in_ok-place.ensures.longer c.self.invariant.0 at.0 named c.in_ok-place.ensures.apart
