use Rattle.std.proofs.Common.{◌≡◌, ◌⊎◌, inl, inr, ℕ, ◌^◌, ◌≤◌, List, None, sym, subst}
use Rattle.std.proofs.lemmas.List.{length-map}
use Rattle.gl_outside.specs.Calls.{NextFails}
use Rattle.gl_outside.specs.Store.{HasNoNumber, IsMissing, NamedBytes, StoreState, bytes_of}
use Rattle.std.specs.Prelude.{All}
use Rattle.gl_outside.specs.Inner.OpenFiles.{left_in, IsOpenInside}
use Rattle.gl_outside.proofs.mem_files.MemFilesFiles.open_source.Goals as goal

pub returns-clause-only : goal.returns-clause-only
returns-clause-only c = λ failed.
    subst (λ (s : StoreState). NextFails s.reads ⊎ IsMissing s c.args.name.now ⊎ HasNoNumber s) c.self.view_is
    (elim (c.open_in-answer.ensures.only failed) [
      | inl listed ↦ inl (c.count-listed.ensures.told.0 listed)
      | inr (inl none) ↦ inr (inl (subst (λ (files : List NamedBytes). bytes_of files c.args.name.now ≡ None) c.deref.ensures.value none))
      | inr (inr full) ↦ inr (inr (subst (λ (count : ℕ). 2 ^ 32 ≤ count) (sym (length-map c.self.inside.opened.items (left_in c.self.inside.files.items))) full))
    ])

pub invariant_of-self : goal.invariant_of-self
invariant_of-self c =
    (subst (λ (files : List NamedBytes). All (IsOpenInside files) c.open_in-answer.new.opened.items) c.deref.ensures.value c.open_in-answer.ensures.inside, c.self.invariant.1)
