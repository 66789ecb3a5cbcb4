use Rattle.std.proofs.Common.{ℕ, List, Option, Some, map, sym, ap, ◌∙◌}
use Rattle.gl_outside.specs.Disk.{DiskPast, after_sync, followed_by}
use Rattle.gl_outside.specs.DiskStore.{DisksState, NamedDisk, told_name}
use Rattle.gl_outside.specs.FilesState.{Opened}
use Rattle.gl_outside.specs.MemDisk.{past_of}
use Rattle.gl_outside.proofs.DiskPlaces.{kept_inside, names_changed, others_changed, past_changed, past_of_open}
use Rattle.gl_outside.proofs.mem_disks.MemDisks.sync.Goals as goal

pub returns-in-Ok-clause-past : goal.returns-in-Ok-clause-past
returns-in-Ok-clause-past c =
    let now : NamedDisk = record { name = c.behind-self.inside.name; kept = c.sync.new.self } in
    let named = ap (λ (d : NamedDisk). d.name) c.behind-self.view_is in
    let found = past_of_open _ c.args.self.now c.self.view_is c.self.invariant.0 c.self.invariant.1 c.args.file.0 c.index-place.result.now c.index_mut.result.now c.requires c.index-place.ensures c.index_mut.ensures.value in
    past_changed _ c.args.self.now c.self.view_is c.self.invariant.0 c.self.invariant.1 c.args.file.0 c.index-place.result.now c.index_mut.result.now c.requires c.index-place.ensures c.index_mut.ensures.value now named
    ∙ c.in-Ok.ensures.ok
    ∙ ap (λ (p : DiskPast). followed_by p (after_sync p.now)) (ap (λ (d : NamedDisk). past_of d.kept) c.behind-self.view_is ∙ sym found)

pub returns-in-Ok-clause-others : goal.returns-in-Ok-clause-others
returns-in-Ok-clause-others c =
    let now : NamedDisk = record { name = c.behind-self.inside.name; kept = c.sync.new.self } in
    let named = ap (λ (d : NamedDisk). d.name) c.behind-self.view_is in
    others_changed _ c.args.self.now c.self.view_is c.self.invariant.0 c.self.invariant.1 c.args.file.0 c.index-place.result.now c.index_mut.result.now c.requires c.index-place.ensures c.index_mut.ensures.value now named

pub returns-in-Ok-clause-named : goal.returns-in-Ok-clause-named
returns-in-Ok-clause-named c =
    let now : NamedDisk = record { name = c.behind-self.inside.name; kept = c.sync.new.self } in
    let named = ap (λ (d : NamedDisk). d.name) c.behind-self.view_is in
    let files = names_changed _ c.args.self.now c.self.view_is c.self.invariant.0 c.self.invariant.1 c.args.file.0 c.index-place.result.now c.index_mut.result.now c.requires c.index-place.ensures c.index_mut.ensures.value now named in
    let Now : List (List ℕ) → List (Option (List ℕ)) → Opened (Option (List ℕ)) = λ names files. record { faults = c.count_until.new.self.faults; names = Some names; files = files } in
    ap (Now c.self.inside.names.items) files ∙ ap (λ (s : DisksState). Now s.names (map (told_name c.args.self.now.disks) c.args.self.now.places)) c.self.view_is

pub invariant_of-self-in-Ok : goal.invariant_of-self-in-Ok
invariant_of-self-in-Ok c =
    let now : NamedDisk = record { name = c.behind-self.inside.name; kept = c.sync.new.self } in
    let named = ap (λ (d : NamedDisk). d.name) c.behind-self.view_is in
    kept_inside _ c.args.self.now c.self.view_is c.self.invariant.0 c.self.invariant.1 c.args.file.0 c.index-place.result.now c.index_mut.result.now c.requires c.index-place.ensures c.index_mut.ensures.value now named

pub invariant_of-self-in-Err : goal.invariant_of-self-in-Err
invariant_of-self-in-Err c =
    let now : NamedDisk = record { name = c.behind-self.inside.name; kept = c.sync.new.self } in
    let named = ap (λ (d : NamedDisk). d.name) c.behind-self.view_is in
    kept_inside _ c.args.self.now c.self.view_is c.self.invariant.0 c.self.invariant.1 c.args.file.0 c.index-place.result.now c.index_mut.result.now c.requires c.index-place.ensures c.index_mut.ensures.value now named

pub invariant_of-self : goal.invariant_of-self
invariant_of-self c = c.self.invariant
