-- Whom an update wakes of a machine's vertices.
use Rattle.std.proofs.Common.{◌≡◌, ◌≢◌, ℕ, ◌==◌, ◌&&◌, ◌||◌, Bool, true, false, List, [], ◌∷◌, map, refl, sym, ◌∙◌, ap, ⊎_elim, eq-eqb, ne_eqb}
use Rattle.std.specs.List.{list_any}
use Rattle.std.proofs.lemmas.Bool.{cases_eq}
use Rattle.graph_core.specs.declared.halves.Half.{Half}
use Rattle.graph_core.specs.HalfRows.{data_half}
use Rattle.update_api.specs.declared.woken.Woken.{Woken}
use Rattle.update_api.specs.declared.woken.Woken.TheVariants.{Ahead, Around, Nobody}
use Rattle.seq_run.specs.Inner.Waking.{is_woken_along}
use Rattle.seq_run.specs.States.{is_woken}
use Rattle.full_cluster.specs.Inner.Rows.{wakes_own}

and_none : (a : Bool) → (a && false) ≡ false
and_none true = refl
and_none false = refl

own_step : (owner : ℕ → ℕ) (me u x : ℕ) (along rest : Bool) → (((owner x == me && along) && x == u) || (owner u == me && rest)) ≡ (owner u == me && ((along && x == u) || rest))
own_step owner me u x along rest = ⊎_elim
    (λ (at : x ≡ u). ap (λ y. ((owner y == me && along) && x == u) || (owner u == me && rest)) at ∙ ap (λ b. ((owner u == me && along) && b) || (owner u == me && rest)) (eq-eqb x u at) ∙ spread (owner u == me) along rest ∙ ap (λ b. owner u == me && ((along && b) || rest)) (sym (eq-eqb x u at)))
    (λ (off : x ≢ u). ap (λ b. ((owner x == me && along) && b) || (owner u == me && rest)) (ne_eqb x u off) ∙ ap (λ b. b || (owner u == me && rest)) (and_none (owner x == me && along)) ∙ ap (λ b. owner u == me && (b || rest)) (sym (and_none along)) ∙ ap (λ b. owner u == me && ((along && b) || rest)) (sym (ne_eqb x u off)))
    (cases_eq x u)
  where
    spread : (a b c : Bool) → (((a && b) && true) || (a && c)) ≡ (a && ((b && true) || c))
    spread true true c = refl
    spread true false c = refl
    spread false b c = refl

own_along : (owner : ℕ → ℕ) (me : ℕ) (woken : Woken) (u : ℕ) (halves : List Half) → wakes_own owner me woken halves u ≡ (owner u == me && list_any (λ (h : Half). is_woken_along woken h.out && h.other.0 == u) halves)
own_along owner me woken u [] = sym (and_none (owner u == me))
own_along owner me woken u (h ∷ halves) =
    ap (λ b. ((owner h.other.0 == me && is_woken_along woken h.out) && h.other.0 == u) || b) (own_along owner me woken u halves)
    ∙ own_step owner me u h.other.0 (is_woken_along woken h.out) (list_any (λ (k : Half). is_woken_along woken k.out && k.other.0 == u) halves)

along_is : (woken : Woken) (u : ℕ) (halves : List Half) → list_any (λ (h : Half). is_woken_along woken h.out && h.other.0 == u) halves ≡ is_woken woken (map data_half halves) u
along_is Nobody u [] = refl
along_is Nobody u (h ∷ halves) = along_is Nobody u halves
along_is Ahead u [] = refl
along_is Ahead u (h ∷ halves) = ap (λ b. (h.out && h.other.0 == u) || b) (along_is Ahead u halves)
along_is Around u [] = refl
along_is Around u (h ∷ halves) = ap (λ b. (h.other.0 == u) || b) (along_is Around u halves)

pub own_woken : (owner : ℕ → ℕ) (me : ℕ) (woken : Woken) (u : ℕ) (halves : List Half) → wakes_own owner me woken halves u ≡ (owner u == me && is_woken woken (map data_half halves) u)
own_woken owner me woken u halves = own_along owner me woken u halves ∙ ap (λ b. owner u == me && b) (along_is woken u halves)
