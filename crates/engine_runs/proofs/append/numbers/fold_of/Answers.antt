-- Part by part.
use Rattle.std.proofs.Common.{◌≡◌, ◌<◌, ◌∙◌, ◌++◌, ℕ, List, rules, ap, ap₂, drop, get_or, length, map, slice_index, subst, sym, take}
use Rattle.std.specs.List.{flat_map}
use Rattle.gl_base.specs.declared.numbers.Vertex.{Vertex}
use Rattle.gl_base.specs.declared.snapshots.SavedPart.{SavedPart}
use Rattle.store.proofs.store_format.NumberLemmas.{numbers_back}
use Rattle.engine_runs.specs.append.Inner.Numbers.{part_vertices, saved_or, vertex_pair}
use Rattle.engine_runs.proofs.append.Numbering.{part_more}
use Rattle.engine_runs.proofs.append.numbers.fold_of.Goals as goal

pub loop-part-preserved : goal.loop-part-preserved
loop-part-preserved c =
    let values = c.loop-part.values in
    let parts : List SavedPart = c.args.made.now.sections.items in
    let part : SavedPart = c.part-item.result in
    let i : ℕ = c.loop-part.part-index in
    let put : List ℕ = c.put_numbers.new.values in
    let long : length put ≡ length values.items = c.put_numbers.ensures.length ∙ ap (length {A = ℕ}) c.deref_mut.ensures.value in
    let back : take values.len (put ++ drop (length put) values.items) ≡ put = numbers_back put values.items values.len long (search rules) in
    let is : part ≡ get_or parts i part = c.part-item.is ∙ ap (λ (ps : List SavedPart). get_or ps i part) c.deref-part-items.ensures.value in
    record {
      long = ap (length {A = ℕ}) back ∙ long ∙ c.loop-part.invariant.long;
      each = λ v low.
          ap (λ (xs : List ℕ). slice_index xs v) back
          ∙ c.put_numbers.ensures.each v (subst (λ (n : ℕ). v < n) (sym (ap (length {A = ℕ}) c.deref_mut.ensures.value ∙ c.loop-part.invariant.long)) low)
          ∙ ap₂ (λ (x : ℕ) (pairs : List (Vertex × ℕ)). saved_or x (map vertex_pair pairs) v) (ap (λ (xs : List ℕ). slice_index xs v) c.deref_mut.ensures.value ∙ c.loop-part.invariant.each v low) c.deref.ensures.value
          ∙ ap (λ (p : SavedPart). saved_or (saved_or 0 (flat_map part_vertices (take i parts)) v) (part_vertices p) v) is
          ∙ sym (part_more 0 parts i part v (subst (λ (ps : List SavedPart). i < length ps) c.deref-part-items.ensures.value c.loop-part-test.true));
    }
