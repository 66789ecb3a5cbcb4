-- What is told of the sections is added.
use Rattle.std.proofs.Common.{◌≡◌, ◌∙◌, ◌+◌, ◌++◌, ℕ, None, Option, List, ap, arith, drop, false, length, replicate, subst, sym, take, true}
use Rattle.std.specs.Prelude.{option_map}
use Rattle.std.proofs.lemmas.List.{length-map}
use Rattle.coordinator.specs.coord_core.Inner.Kept.{IsSavingKept}
use Rattle.coordinator.specs.coord_core.Saving.{HasRoomForRecord, IsRecordDue, SavingView, SectionView, entries_come, saved_length, section_view, with_acknowledged}
use Rattle.wire.specs.declared.wire_msgs.messages.Section.{Section}
use Rattle.coordinator.proofs.coord_core.KeptLemmas.{acknowledged_kept}
use Rattle.coordinator.proofs.coord_core.StoreLemmas.{all_gone, told}
use Rattle.coordinator.proofs.coord_core.saving.Saving.acknowledge.Goals as goal

abbrev old : goal.After-self-6-1 → SavingView
old c =
    record {
      stored = c.self.inside.stored;
      vertices = c.self.inside.vertices;
      edges = c.self.inside.edges;
      begun = c.self.inside.begun;
      acknowledged = c.self.inside.acknowledged;
      come = told c.self.inside.come.items;
      wanted = c.self.inside.wanted;
      entries = c.self.inside.entries;
      saved = c.self.inside.saved;
      store_end = c.self.inside.store_end;
    }

abbrev new : SavingView → List (Option SectionView) → ℕ → ℕ → SavingView
new s come entries store_end = record s { acknowledged = s.begun; come = come; wanted = false; entries = entries; saved = true; store_end = store_end }

gone : (c : goal.After-self-6-1) → told (take c.self.inside.come.len (c.forget.new.come ++ drop (length c.forget.new.come) c.self.inside.come.items)) ≡ replicate (length (told c.self.inside.come.items)) None
gone c =
    let many : c.self.inside.come.len ≡ length c.self.inside.come.items = omega (arith, c.deref.ensures.len, ap length c.deref.ensures.value) in
    all_gone c.self.inside.come.items c.forget.new.come c.self.inside.come.len many
    (c.forget.ensures ∙ ap (λ (xs : List (Option Section)). replicate (length xs) None) c.deref_mut.ensures.value)

sum : (c : goal.After-self-6-1) → c.count_entries-entries.result ≡ entries_come (length (told c.self.inside.come.items)) (told c.self.inside.come.items)
sum c =
    c.count_entries-entries.ensures.sum ∙ ap (λ (xs : List (Option Section)). entries_come (length xs) (told xs)) c.deref.ensures.value
    ∙ ap (λ (n : ℕ). entries_come n (told c.self.inside.come.items)) (sym (length-map c.self.inside.come.items (option_map section_view)))

is_acknowledged : (c : goal.After-self-6-1) →
    new (old c) (told (take c.self.inside.come.len (c.forget.new.come ++ drop (length c.forget.new.come) c.self.inside.come.items))) (c.self.inside.entries + c.count_entries-entries.result) (c.self.inside.store_end + c.record_size-size.result)
    ≡ with_acknowledged (old c)
is_acknowledged c = λ i. new (old c) (gone c i) (c.self.inside.entries + sum c i) (c.self.inside.store_end + (c.record_size-size.ensures.size ∙ ap saved_length (sym c.self.view_is)) i)

pub invariant_of-self : goal.invariant_of-self
invariant_of-self c =
    subst IsSavingKept (sym (is_acknowledged c))
    (acknowledged_kept (old c) c.self.invariant (subst IsRecordDue (sym c.self.view_is) c.requires.due) (subst HasRoomForRecord (sym c.self.view_is) c.requires.room))

pub returns : goal.returns
returns c = is_acknowledged c ∙ ap with_acknowledged c.self.view_is
