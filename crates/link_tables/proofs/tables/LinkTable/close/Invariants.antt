use Rattle.std.proofs.Common.{◌≡◌, ℕ, ◌<◌, ◌≤◌, true, false, get_or, take, vec_len, vec_capacity}
use Rattle.link_tables.proofs.tables.LinkTable.close.Given as goal

abbrev pub invariant-loop-link : goal.invariant-loop-link
invariant-loop-link g l = record {
  items : l.links.items ≡ take l.link l.initial.closed.slots.items;
  same : l.closed.slots.items ≡ l.initial.closed.slots.items;
  long : l.closed.slots.len ≡ l.many;
  full : (k : ℕ) → l.link ≤ k → k < l.many → get_or l.closed.slots.filled k false ≡ true;
  bare : (k : ℕ) → k < l.link → get_or l.closed.slots.filled k false ≡ false;
  count : vec_len l.links ≡ l.link;
  room : l.many ≤ vec_capacity l.links;
}
