use Rattle.std.proofs.Common.{◌≡◌, ℕ, ◌+◌, ◌<◌, length, get_or}
use Rattle.link_tables.specs.Seats.{word_at}
use Rattle.link_tables.proofs.tables.lay_words.Given as goal

abbrev pub invariant-loop-link : goal.invariant-loop-link
invariant-loop-link l = record {
  long : length l.words ≡ word_at (l.many + 2);
  links : (k : ℕ) → k < l.link → get_or l.words (word_at k) 0 ≡ 2;
  tickets : get_or l.words (word_at l.many) 0 ≡ l.next;
  halt : get_or l.words (word_at (l.many + 1)) 0 ≡ 0;
}
