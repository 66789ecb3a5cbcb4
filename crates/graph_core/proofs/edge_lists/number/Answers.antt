use Rattle.std.proofs.Common.{◌∙◌, sym, arith}
use Rattle.graph_core.proofs.EdgeLemmas.{ends_unknown_from, ends_unknown_to, ends_equal, ends_clean, numbered_forward, numbered_back}
use Rattle.graph_core.proofs.edge_lists.number.Goals as goal

pub returns-in_default : goal.returns-in_default
returns-in_default c = ends_unknown_from c.args.ids.now c.args.listed c.args.place c.in_default.ensures

pub returns-in_default-find : goal.returns-in_default-find
returns-in_default-find c =
    ends_unknown_to c.args.ids.now c.args.listed c.args.place c.in-Some.from.0 c.in-Some.ensures c.in_default-find.ensures

pub returns-then-listed : goal.returns-then-listed
returns-then-listed c =
    ends_equal c.args.ids.now c.args.listed c.args.place c.in-Some.from.0 c.in-Some-find.to.0 c.in-Some.ensures c.in-Some-find.ensures c.if-listed.true

pub returns-then-is_forward : goal.returns-then-is_forward
returns-then-is_forward c = (
  numbered_forward c.args.ids.now c.args.directed c.args.listed c.in-Some.from c.in-Some-find.to c.requires.table.ascending (omega arith) c.in-Some.ensures c.in-Some-find.ensures c.if-listed.false (sym c.is_forward.ensures ∙ c.if-is_forward.true),
  ends_clean c.args.ids.now c.args.listed c.args.place c.in-Some.from.0 c.in-Some-find.to.0 c.in-Some.ensures c.in-Some-find.ensures c.if-listed.false,
)

pub returns-else-is_forward : goal.returns-else-is_forward
returns-else-is_forward c = (
  numbered_back c.args.ids.now c.args.directed c.args.listed c.in-Some.from c.in-Some-find.to c.requires.table.ascending (omega arith) c.in-Some.ensures c.in-Some-find.ensures c.if-listed.false (sym c.is_forward.ensures ∙ c.if-is_forward.false),
  ends_clean c.args.ids.now c.args.listed c.args.place c.in-Some.from.0 c.in-Some-find.to.0 c.in-Some.ensures c.in-Some-find.ensures c.if-listed.false,
)
