-- An order with more behind it has the same restarts first.
use Rattle.std.proofs.Common.{◌≡◌, ◌++◌, ◌∙◌, List, ap, filter, sym}
use Rattle.std.proofs.lemmas.List.Elements.{filter-append}
use Rattle.gl_base.specs.declared.entries.Entry.{Entry}
use Rattle.recovery.specs.restarts.Missing.{Begins, is_restart}

pub begins_with : (stored front begun rest : List Entry) → stored ≡ begun → front ≡ begun ++ rest → Begins (filter is_restart stored) (filter is_restart front)
begins_with stored front begun rest same whole = (
  filter is_restart rest,
  ap (filter is_restart) whole
      ∙ filter-append is_restart begun rest
      ∙ ap (λ (es : List Entry). filter is_restart es ++ filter is_restart rest) (sym same),
)
