use Rattle.std.proofs.Common.{rules, ◌≡◌, ◌∙◌, ◌<◌, ℕ, zero, suc, List, [], ◌∷◌, Option, None, IfSome, refl, sym, ap, subst}
use mathlib.Core.Option.{some, some-injective, some-ne-none}
use lib.ListN.{get_elem?}
use Rattle.link_tables.specs.declared.tests.Node.{Node}
use Rattle.link_tables.proofs.tests.opened.Goals as goal

in_order : (first second : Node) → first.number ≡ 0 → second.number ≡ 1 → (p : ℕ) (node : Node) → get_elem? (first ∷ second ∷ []) p ≡ some node → node.number ≡ p
in_order first second is_first is_second zero node e = sym (ap (λ (n : Node). n.number) (some-injective first node e)) ∙ is_first
in_order first second is_first is_second (suc zero) node e = sym (ap (λ (n : Node). n.number) (some-injective second node e)) ∙ is_second
in_order first second is_first is_second (suc (suc p)) node e = absurd (some-ne-none node (sym e))

bare : (i : ℕ) (mail : Option ℕ) → get_elem? (None ∷ []) i ≡ some mail → IfSome mail (λ message. message < 100)
bare zero mail e = subst (λ (m : Option ℕ). IfSome m (λ message. message < 100)) (some-injective None mail e) tt
bare (suc i) mail e = absurd (some-ne-none mail (sym e))

pub new-requires-clause-led : goal.new-requires-clause-led
new-requires-clause-led c =
    let links : c.push_reserved.new.self.items ≡ None ∷ [] = search rules in (
      record { number = 0; ticket = None } ∷ [],
      record { number = 1; ticket = None },
      refl,
      in_order _ _ refl refl,
      λ i mail e. bare i mail (sym (ap (λ (l : List (Option ℕ)). get_elem? l i) links) ∙ e),
    )
