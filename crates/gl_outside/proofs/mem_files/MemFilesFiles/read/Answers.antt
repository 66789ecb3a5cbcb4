use Rattle.std.proofs.Common.{◌≡◌, List, Some, slice_get, slice_set, ap, sym, subst, ◌∙◌, rules}
use Rattle.gl_outside.specs.Store.{NamedBytes, StoreState}
use Rattle.gl_outside.specs.Inner.OpenFiles.{left_in, IsOpenInside}
use Rattle.gl_outside.proofs.StoredFiles.{left-seen, slice_get-map_read, slice_get-map_set, reads_next, reads_only, map-slice_set, number_inside, open_inside}
use Rattle.std.proofs.lemmas.List.Elements.{All-set}
use Rattle.gl_outside.proofs.mem_files.MemFilesFiles.read.Goals as goal

pub returns-clause-bytes : goal.returns-clause-bytes
returns-clause-bytes c =
    let files = c.self.inside.files.items in
    let opened = c.self.inside.opened.items in
    let inside = open_inside (left_in files) opened c.args.self.now.opened c.args.file.0 (ap (λ (s : StoreState). s.opened) c.self.view_is) (number_inside c.args.self.now c.args.file.0 c.requires) in
    let old : slice_get c.args.self.now.opened c.args.file.0 ≡ Some (left_in files c.index.result.now) =
    ap (λ (s : StoreState). slice_get s.opened c.args.file.0) (sym c.self.view_is) ∙ slice_get-map_read (left_in files) opened c.args.file.0 c.index.result.now inside c.index.ensures in
    let new = slice_get-map_set (left_in files) opened c.args.file.0 c.read_on-count.result.1 inside in
    reads_next _ _ _ _ c.read_on-count.new.buf c.read_on-count.result.0
    (left-seen c.args.self.now.opened c.args.file.0 _ old) (left-seen _ c.args.file.0 _ new) (search rules) (search rules)

pub returns-clause-frame : goal.returns-clause-frame
returns-clause-frame c =
    let files = c.self.inside.files.items in
    let opened = c.self.inside.opened.items in
    reads_only c.args.self.now (record { files = _; source_names = _; opened = _; reads = c.count.new.self; sink_names = _; sinks = _; writes = _; disks = _ }) c.args.file.0 (left_in files c.read_on-count.result.1) (number_inside c.args.self.now c.args.file.0 c.requires)
    (map-slice_set (left_in files) opened c.args.file.0 c.read_on-count.result.1 ∙ ap (λ (s : StoreState). slice_set s.opened c.args.file.0 (left_in files c.read_on-count.result.1)) c.self.view_is)
    (ap (λ (s : StoreState). s.source_names) c.self.view_is) (ap (λ (s : StoreState). s.files) c.self.view_is) (ap (λ (s : StoreState). s.writes) c.self.view_is)
    (ap (λ (s : StoreState). s.sink_names) c.self.view_is) (ap (λ (s : StoreState). s.sinks) c.self.view_is) (ap (λ (s : StoreState). s.disks) c.self.view_is)

pub returns-clause-all : goal.returns-clause-all
returns-clause-all c =
    let files = c.self.inside.files.items in
    let opened = c.self.inside.opened.items in
    let inside = open_inside (left_in files) opened c.args.self.now.opened c.args.file.0 (ap (λ (s : StoreState). s.opened) c.self.view_is) (number_inside c.args.self.now c.args.file.0 c.requires) in
    let old : slice_get c.args.self.now.opened c.args.file.0 ≡ Some (left_in files c.index.result.now) =
    ap (λ (s : StoreState). slice_get s.opened c.args.file.0) (sym c.self.view_is) ∙ slice_get-map_read (left_in files) opened c.args.file.0 c.index.result.now inside c.index.ensures in
    rw (left-seen c.args.self.now.opened c.args.file.0 _ old) (search rules)

pub invariant_of-self : goal.invariant_of-self
invariant_of-self c = c.self.invariant

pub invariant_of-self-2 : goal.invariant_of-self-2
invariant_of-self-2 c =
    let was = c.self.inside in
    let next = c.read_on-count.result.1 in
    let inside : IsOpenInside was.files.items next = subst (λ (files : List NamedBytes). IsOpenInside files next) c.deref.ensures.value c.read_on-count.ensures.inside in
    (All-set (IsOpenInside was.files.items) was.opened.items c.args.file.0 next inside c.self.invariant.0, c.self.invariant.1)
