use Rattle.std.proofs.Common.{◌∷◌, List, [], Bor}
use Rattle.std.proofs.lemmas.List.Elements.{All-cons, All-nil}
use Rattle.gl_base.specs.declared.entries.Entry.{Entry}
use Rattle.cluster_laws.specs.merged_logs.Merges.{IsByTicket}
use Rattle.tests_parts.proofs.placed.merge_both.Goals as goal

pub merge-requires : goal.merge-requires
merge-requires c =
    let by_ticket : Bor (List Entry) → Type 0 = λ log. IsByTicket log.now in
    All-cons by_ticket c.args.first (c.args.second ∷ []) c.requires.first (All-cons by_ticket c.args.second [] c.requires.second (All-nil by_ticket))
