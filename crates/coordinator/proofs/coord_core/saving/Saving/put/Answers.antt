-- The section stands where its machine's is.
use Rattle.std.proofs.Common.{◌∙◌, ◌<◌, List, Option, ap, length, subst, sym}
use Rattle.coordinator.specs.coord_core.Inner.Kept.{IsSavingKept}
use Rattle.coordinator.specs.coord_core.Saving.{SavingView, SectionView, section_view, saving_section}
use Rattle.coordinator.proofs.coord_core.KeptLemmas.{section_kept}
use Rattle.coordinator.proofs.coord_core.StoreLemmas.{put_come, told}
use Rattle.coordinator.proofs.coord_core.saving.Saving.put.Goals as goal

pub invariant_of-self : goal.invariant_of-self
invariant_of-self c =
    let view : List (Option SectionView) → SavingView = λ come. record { stored = c.self.inside.stored; vertices = c.self.inside.vertices; edges = c.self.inside.edges; begun = c.self.inside.begun; acknowledged = c.self.inside.acknowledged; come = come; wanted = c.self.inside.wanted; entries = c.self.inside.entries; saved = c.self.inside.saved; store_end = c.self.inside.store_end } in
    let inside : c.args.from.0 < length (told c.self.inside.come.items) = subst (λ (s : SavingView). c.args.from.0 < length s.come) (sym c.self.view_is) c.requires.machine in
    subst (λ (come : List (Option SectionView)). IsSavingKept (view come)) (sym (put_come c.self.inside.come.items c.args.from.0 c.args.section))
    (section_kept (view (told c.self.inside.come.items)) c.args.from.0 (section_view c.args.section) c.self.invariant inside c.requires.apart)

pub returns : goal.returns
returns c =
    let view : List (Option SectionView) → SavingView = λ come. record { stored = c.self.inside.stored; vertices = c.self.inside.vertices; edges = c.self.inside.edges; begun = c.self.inside.begun; acknowledged = c.self.inside.acknowledged; come = come; wanted = c.self.inside.wanted; entries = c.self.inside.entries; saved = c.self.inside.saved; store_end = c.self.inside.store_end } in
    ap view (put_come c.self.inside.come.items c.args.from.0 c.args.section) ∙ ap (saving_section c.args.from.0 (section_view c.args.section)) c.self.view_is
