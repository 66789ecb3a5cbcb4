use Rattle.std.proofs.Common.{refl}
use Rattle.std.proofs.lemmas.List.Elements.{All-push}
use Rattle.graph_atoms.specs.atom_place.Inner.Ranks.{IsRank}
use Rattle.graph_atoms.proofs.atom_place.FallingLemmas.{atoms-more}
use Rattle.graph_atoms.proofs.atom_place.falling.ranks_of.Goals as goal

pub loop-atom-preserved : goal.loop-atom-preserved
loop-atom-preserved c =
    record {
      atoms = atoms-more c.loop-atom.ranks.items c.push.new.self.items _ c.loop-atom.atom c.loop-atom.invariant.atoms refl c.in_ok-push.ensures.items;
      each = rw c.in_ok-push.ensures.items (All-push (IsRank c.args.weights.now) c.loop-atom.ranks.items _ c.loop-atom.invariant.each refl);
    }
