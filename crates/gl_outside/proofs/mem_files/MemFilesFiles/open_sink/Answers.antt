use Rattle.std.proofs.Common.{◌⊎◌, inl, inr, map, refl, subst}
use Rattle.gl_outside.specs.Calls.{NextFails}
use Rattle.gl_outside.specs.Frames.{OpensSink}
use Rattle.gl_outside.specs.Store.{HasNoSinkNumber, StoreState, files_of_store}
use Rattle.gl_outside.specs.Inner.OpenFiles.{left_in}
use Rattle.gl_outside.proofs.MemOpens.{open_after_make, opened_kept, sink_gives, sink_opened}
use Rattle.gl_outside.proofs.mem_files.MemFilesFiles.open_sink.Goals as goal

pub returns-clause-opens : goal.returns-clause-opens
returns-clause-opens c =
    let was = c.self.inside in
    let made = c.make_in-answer.new in
    let old : StoreState =
    record { files = was.files.items; source_names = was.source_names.items; opened = map (left_in was.files.items) was.opened.items; reads = was.reads; sink_names = was.sink_names.items; sinks = was.sinks.items; writes = was.writes; disks = was.disks } in
    let new : StoreState =
    record old { files = made.files.items; opened = map (left_in made.files.items) was.opened.items; sink_names = made.names.items; sinks = made.sinks.items; writes = c.settle.new.self } in
    let kept = opened_kept was.files.items made.files.items was.sinks.items made.sinks.items c.args.name.now c.make_in-answer.result was.opened.items c.make_in-answer.ensures.adds c.self.invariant.0 in
    subst (λ (s : StoreState). OpensSink (files_of_store s) (files_of_store new) c.args.name.now c.make_in-answer.result) c.self.view_is
    (sink_opened old new c.args.name.now c.make_in-answer.result c.make_in-answer.ensures.adds c.self.invariant.1 refl refl kept refl)

pub returns-clause-only : goal.returns-clause-only
returns-clause-only c = λ failed.
    subst (λ (s : StoreState). NextFails s.writes ⊎ HasNoSinkNumber s) c.self.view_is
    (elim (c.make_in-answer.ensures.only failed) [
      | inl listed ↦ inl (c.count-listed.ensures.told.0 listed)
      | inr full ↦ inr full
    ])

pub returns-clause-gives : goal.returns-clause-gives
returns-clause-gives c = sink_gives c.self.inside.files.items c.make_in-answer.new.files.items c.self.inside.sinks.items _ c.args.name.now c.make_in-answer.result c.make_in-answer.ensures.adds

pub invariant_of-self : goal.invariant_of-self
invariant_of-self c =
    let was = c.self.inside in
    let made = c.make_in-answer.new in
    open_after_make was.files.items made.files.items was.sinks.items made.sinks.items c.args.name.now c.make_in-answer.result was.opened.items c.make_in-answer.ensures.adds c.self.invariant
