use Rattle.std.proofs.Common.{◌∙◌, length-set, arith}
use Rattle.link_tables.proofs.Laying.{laid_first, laid_more}
use Rattle.link_tables.proofs.tables.lay_words.Goals as goal

pub loop-link-init : goal.loop-link-init
loop-link-init c = let t = laid_first c.args.words.now c.word_place-tickets.result c.args.many c.args.next c.word_place-tickets.ensures c.requires.long c.requires.down in record {
  long = length-set c.args.words.now c.word_place-tickets.result c.args.next ∙ c.requires.long;
  links = λ k h. absurd (omega arith);
  tickets = t.0;
  halt = t.1;
}

pub loop-link-preserved : goal.loop-link-preserved
loop-link-preserved c = let i = c.loop-link.invariant in
    let t = laid_more c.loop-link.words c.word_place-place.result c.loop-link.link c.args.many c.args.next c.number-laden.result c.word_place-place.ensures (omega arith) c.number-laden.ensures i.long i.links i.tickets i.halt in record {
      long = length-set c.loop-link.words c.word_place-place.result c.number-laden.result ∙ i.long;
      links = t.0;
      tickets = t.1;
      halt = t.2;
    }
