use Rattle.std.proofs.Common.{◌≡◌, ◌⊎◌, inl, inr, ℕ, ◌<◌, Some, length, map, sym, ap, ◌∙◌, subst, refl, arith}
use Rattle.std.specs.Prelude.{List, slice_get, slice_index}
use Rattle.std.proofs.lemmas.Option.{get_or_from_slice_get}
use Rattle.gl_outside.specs.Calls.{NextFails}
use Rattle.gl_outside.specs.Store.{NamedBytes, StoreState, WantsMemoryAt, WantsMemoryIn, ready_at}
use Rattle.gl_outside.specs.Inner.OpenFiles.{left_in, appended, AreSinks, IsOpenInside}
use Rattle.gl_outside.proofs.Sinks.{all_inside-appended, are_sinks-appended, place_of, writes_only, writes_next, map-left_in-appended}
use Rattle.std.specs.Prelude.{All}
use Rattle.gl_outside.proofs.mem_files.MemFilesFiles.write.Goals as goal

wants : {L : Type 0} (old : StoreState) (files : List NamedBytes) (file place : ℕ) (piece : List ℕ) → slice_get old.sinks file ≡ Some place → files ≡ old.files
    → L ⊎ WantsMemoryAt files place piece → (L → NextFails old.writes) → NextFails old.writes ⊎ WantsMemoryIn old file piece
wants old files file place piece at same (inl listed) fails = inl (fails listed)
wants old files file place piece at same (inr wants_memory) fails =
    let is : slice_index old.sinks file ≡ place = get_or_from_slice_get old.sinks file place 0 at in
    inr (subst (λ (k : ℕ). WantsMemoryAt old.files k piece) (sym is) (subst (λ (fs : List NamedBytes). WantsMemoryAt fs place piece) same wants_memory))

pub returns-in-Ok-clause-bytes : goal.returns-in-Ok-clause-bytes
returns-in-Ok-clause-bytes c =
    let old = c.args.self.now in
    let place = c.index-place.result.now in
    let ready = ready_at c.write_in.new.files.items place in
    let are = subst (λ (s : StoreState). AreSinks s.files s.sinks) c.self.view_is c.self.invariant.1 in
    let sinks = ap (λ (s : StoreState). s.sinks) c.self.view_is in
    let at = place_of old c.self.inside.sinks.items c.args.file.0 place are sinks c.requires c.index-place.ensures in
    writes_next old.files c.write_in.new.files.items old.sinks c.self.inside.sinks.items c.args.file.0 place (length c.args.piece.now) c.args.piece.now ready at.0 at.1
    (c.in-Ok.ensures.ok ∙ ap (λ (s : StoreState). appended s.files place c.args.piece.now ready) c.self.view_is) sinks refl

pub returns-in-Ok-clause-frame : goal.returns-in-Ok-clause-frame
returns-in-Ok-clause-frame c =
    let old = c.args.self.now in
    let place = c.index-place.result.now in
    let ready = ready_at c.write_in.new.files.items place in
    let are = subst (λ (s : StoreState). AreSinks s.files s.sinks) c.self.view_is c.self.invariant.1 in
    let sinks = ap (λ (s : StoreState). s.sinks) c.self.view_is in
    let at = place_of old c.self.inside.sinks.items c.args.file.0 place are sinks c.requires c.index-place.ensures in
    let inside : place < length c.self.inside.files.items = omega (arith, at.1, ap (λ (s : StoreState). length s.files) c.self.view_is) in
    let opened = c.self.inside.opened.items in
    writes_only old (record { files = _; source_names = _; opened = _; reads = _; sink_names = _; sinks = _; writes = c.count-listed.new.self; disks = _ }) c.args.file.0 place c.args.piece.now ready at.0 at.1 are
    (c.in-Ok.ensures.ok ∙ ap (λ (s : StoreState). appended s.files place c.args.piece.now ready) c.self.view_is) sinks
    (ap (λ (s : StoreState). s.sink_names) c.self.view_is) (ap (λ (s : StoreState). s.reads) c.self.view_is) (ap (λ (s : StoreState). s.source_names) c.self.view_is)
    (ap (λ (fs : List NamedBytes). map (left_in fs) opened) c.in-Ok.ensures.ok
    ∙ map-left_in-appended c.self.inside.files.items place c.args.piece.now ready opened inside c.self.invariant.0
    ∙ ap (λ (s : StoreState). s.opened) c.self.view_is) (ap (λ (s : StoreState). s.disks) c.self.view_is)

pub returns-in-Err-clause-only : goal.returns-in-Err-clause-only
returns-in-Err-clause-only c =
    let place = c.index-place.result.now in
    let are = subst (λ (s : StoreState). AreSinks s.files s.sinks) c.self.view_is c.self.invariant.1 in
    let sinks = ap (λ (s : StoreState). s.sinks) c.self.view_is in
    let at = place_of c.args.self.now c.self.inside.sinks.items c.args.file.0 place are sinks c.requires c.index-place.ensures in
    wants c.args.self.now c.self.inside.files.items c.args.file.0 place c.args.piece.now at.0 (ap (λ (s : StoreState). s.files) c.self.view_is)
    (c.in-Err.ensures.only)
    (λ listed. subst (λ (s : StoreState). NextFails s.writes) c.self.view_is (c.count-listed.ensures.told.0 listed))

pub invariant_of-self : goal.invariant_of-self
invariant_of-self c =
    let was = c.self.inside in
    let place = c.index-place.result.now in
    let ready = ready_at c.write_in.new.files.items place in
    let are = subst (λ (s : StoreState). AreSinks s.files s.sinks) c.self.view_is c.self.invariant.1 in
    let sinks = ap (λ (s : StoreState). s.sinks) c.self.view_is in
    let at = place_of c.args.self.now was.sinks.items c.args.file.0 place are sinks c.requires c.index-place.ensures in
    let inside : place < length was.files.items = omega (arith, at.1, ap (λ (s : StoreState). length s.files) c.self.view_is) in (
      all_inside-appended was.files.items c.write_in.new.files.items place c.args.piece.now ready was.opened.items c.in-Ok.ensures.ok inside c.self.invariant.0,
      are_sinks-appended was.files.items c.write_in.new.files.items was.sinks.items place c.args.piece.now ready c.in-Ok.ensures.ok c.self.invariant.1,
    )

pub invariant_of-self-in-Err : goal.invariant_of-self-in-Err
invariant_of-self-in-Err c =
    let was = c.self.inside in
    subst (λ (fs : List NamedBytes). All (IsOpenInside fs) was.opened.items × AreSinks fs was.sinks.items) (sym c.in-Err.ensures.err) c.self.invariant
