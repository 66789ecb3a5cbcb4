use Rattle.std.proofs.Common.{Some}
use Rattle.link_tables.proofs.posting.put.Given as goal

abbrev pub ghosts-take : goal.ghosts-take
ghosts-take a = record { part = Some a._from.now }

abbrev pub ghosts-give : goal.ghosts-give
ghosts-give a = record { part = Some a._from.now }
