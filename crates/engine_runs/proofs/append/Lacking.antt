-- The restarts that a store lacks, where all are restarts.
use Rattle.std.proofs.Common.{◌≡◌, ◌∙◌, ◌++◌, List, [], ◌∷◌, append-nil, ap, filter, refl, sym}
use Rattle.std.proofs.lemmas.List.Elements.{filter-append}
use Rattle.gl_base.specs.declared.entries.Entry.{Entry}
use Rattle.gl_base.specs.declared.entries.Entry.TheVariants.{Go, Restart}
use Rattle.recovery.specs.restarts.Missing.{Begins, is_restart, restarts}

filter_twice : (order : List Entry) → filter is_restart (filter is_restart order) ≡ filter is_restart order
filter_twice [] = refl
filter_twice (Go machine vertex ticket ∷ order) = filter_twice order
filter_twice (Restart ticket ∷ order) = ap (λ (es : List Entry). Restart ticket ∷ es) (filter_twice order)

pub begins_filtered : (stored front one other : List Entry) → one ≡ stored → other ≡ front → Begins stored front → Begins (filter is_restart one) (filter is_restart other)
begins_filtered stored front one other one_is other_is begins =
    (filter is_restart begins.0, ap (filter is_restart) (other_is ∙ begins.1) ∙ filter-append is_restart stored begins.0 ∙ ap (λ (es : List Entry). filter is_restart es ++ filter is_restart begins.0) (sym one_is))

pub lacking : (one other missing before order : List Entry) → filter is_restart one ++ missing ≡ filter is_restart other ++ restarts 0 0 → one ≡ filter is_restart before → other ≡ filter is_restart order →
    filter is_restart before ++ missing ≡ filter is_restart order
lacking one other missing before order lacks one_is other_is =
    ap (λ (es : List Entry). es ++ missing) (sym (filter_twice before) ∙ ap (filter is_restart) (sym one_is))
    ∙ lacks ∙ append-nil (filter is_restart other) ∙ ap (filter is_restart) other_is ∙ filter_twice order
