-- One part more.
use Rattle.std.proofs.Common.{◌≡◌, ◌+◌, ◌<◌, ◌++◌, [], ◌∷◌, ℕ, List, rules, subst, sym}
use Rattle.std.specs.Prelude.{slice_index_or}
use Rattle.gl_base.specs.declared.snapshots.SavedPart.{SavedPart}
use Rattle.coordinator.specs.coord_core.Records.{IsPartOfRecord}
use Rattle.coordinator.specs.coord_core.Saving.{come_at}
use Rattle.coordinator.proofs.coord_core.StoreLemmas.{parts_more, told}
use Rattle.coordinator.proofs.coord_core.records.parts_of.Goals as goal

pub loop-section-preserved : goal.loop-section-preserved
loop-section-preserved c =
    let items : c.push_reserved.new.self.items ≡ c.loop-section.parts.items ++ c.in_ok-part_of.field-0 ∷ [] = search rules in
    record {
      many = search rules;
      room = search rules;
      each = subst (λ (parts : List SavedPart). (a : ℕ) (d : SavedPart) → a < c.loop-section.section-index + 1 → IsPartOfRecord (come_at (told c.args.come.now) a) (slice_index_or parts a d)) (sym items)
          (parts_more c.args.come.now c.loop-section.section-index c.section-item.result c.loop-section.parts.items c.in_ok-part_of.field-0 c.loop-section-test.true c.section-item.is
          c.loop-section.invariant.many c.in_ok-part_of.ensures c.loop-section.invariant.each);
    }
