use Rattle.std.proofs.Common.{◌≡◌, ℕ, zero, suc, [], ◌∷◌, refl, sym}
use mathlib.Core.Option.{some, some-injective, some-ne-none}
use lib.ListN.{get_elem?}
use Rattle.link_tables.proofs.posting.opened.Goals as goal

in_order : (p node : ℕ) → get_elem? (0 ∷ 1 ∷ []) p ≡ some node → node ≡ p
in_order zero node e = sym (some-injective 0 node e)
in_order (suc zero) node e = sym (some-injective 1 node e)
in_order (suc (suc p)) node e = absurd (some-ne-none node (sym e))

pub new-requires-3-clause-led : goal.new-requires-3-clause-led
new-requires-3-clause-led c = (0 ∷ [], 1, refl, in_order, tt)
