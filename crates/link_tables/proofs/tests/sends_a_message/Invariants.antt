use Rattle.std.proofs.Common.{Some}
use Rattle.link_tables.proofs.tests.sends_a_message.Given as goal

abbrev pub ghosts-settle : goal.ghosts-settle
ghosts-settle g a = record { part = Some a._from.now }
