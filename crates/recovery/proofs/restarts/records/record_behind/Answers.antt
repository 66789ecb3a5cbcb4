-- The restarts go in by their tickets.
use Rattle.std.proofs.Common.{◌++◌, ◌∙◌, IsPermutation, List, ap, rules, subst}
use Rattle.std.proofs.lemmas.List.Sorted.{IsNonDecreasingBy-from_sort_by_key, IsPermutation-append_right, IsPermutation-trans}
use Rattle.gl_base.specs.declared.entries.Entry.{Entry}
use Rattle.cluster_laws.specs.cluster_model.Events.{entries_below}
use Rattle.recovery.specs.restarts.Missing.{entry_rank}
use Rattle.recovery.proofs.restarts.records.record_behind.Goals as goal

pub returns-clause-behind : goal.returns-clause-behind
returns-clause-behind c = λ st before front snapshot is alone lacks.
    let both : List Entry = c.args.missing.now ++ c.args.saved.entries.items in
    record {
      machines = is.machines;
      parts = is.parts;
      missing = c.args.missing.now;
      restarts = alone;
      lacks = lacks;
      entries = IsPermutation-trans (c.args.missing.now ++ entries_below st.machines snapshot) both c.sort_unstable_by_key.new.self.items
          (IsPermutation-append_right c.args.missing.now (entries_below st.machines snapshot) c.args.saved.entries.items is.entries)
          (subst (λ (es : List Entry). IsPermutation es c.sort_unstable_by_key.new.self.items)
          (c.in_ok-extend_from_slice.ensures.items ∙ ap (λ (es : List Entry). c.in_ok-entries.entries.items ++ es) c.deref.ensures.value
          ∙ ap (λ (es : List Entry). es ++ c.args.saved.entries.items) c.in_ok-entries.ensures.items)
          c.sort_unstable_by_key.ensures.permutation);
    }

pub returns-clause-in_turn : goal.returns-clause-in_turn
returns-clause-in_turn c = IsNonDecreasingBy-from_sort_by_key entry_rank _ c.sort_unstable_by_key.ensures.sorted (λ a r q k. search rules)
