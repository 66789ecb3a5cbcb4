-- What the messages of a way make of copies: from piece to piece, and by the news among them.
use Rattle.std.proofs.Common.{◌≡◌, ℕ, true, false, ◌||◌, ◌≢◌, List, [], ◌∷◌, ◌++◌, is_some, ◌==◌, Some, None, Option, sym, refl, ap, ◌∙◌, subst, true≢false, ne_eqb}
use Rattle.std.specs.List.{AllByRecursion}
use Rattle.std.proofs.lemmas.Bool.{or_parts, cond-false}
use Rattle.gl_base.specs.declared.scopes.Datum.{Datum}
use Rattle.cluster_laws.specs.cluster_core.Effects.{newer_datum, datum_after, edge_after}
use Rattle.cluster_laws.specs.cluster_core.Messages.{Message, Ask, Ready, Done}
use Rattle.cluster_laws.specs.cluster_core.Places.{done_near}
use Rattle.cluster_laws.specs.cluster_core.Settings.{Setting, is_near}
use Rattle.cluster_laws.specs.cluster_core.Ways.{datum_told, edge_told, edge_changed, vertex_woken, IsToldTo}
use Rattle.cluster_laws.proofs.cluster_numbers.Quiet.{dones}

-- ---- one list after another

pub datum_told-append : (v : ℕ) (xs ys : List Message) (d : Datum) → datum_told v (xs ++ ys) d ≡ datum_told v ys (datum_told v xs d)
datum_told-append v [] ys d = refl
datum_told-append v (Ask s c rest ∷ xs) ys d = datum_told-append v xs ys d
datum_told-append v (Ready s ∷ xs) ys d = datum_told-append v xs ys d
datum_told-append v (Done s news ∷ xs) ys d = datum_told-append v xs ys (datum_after news v d)

pub edge_told-append : (e : ℕ) (xs ys : List Message) (x : ℕ) → edge_told e (xs ++ ys) x ≡ edge_told e ys (edge_told e xs x)
edge_told-append e [] ys x = refl
edge_told-append e (Ask s c rest ∷ xs) ys x = edge_told-append e xs ys x
edge_told-append e (Ready s ∷ xs) ys x = edge_told-append e xs ys x
edge_told-append e (Done s news ∷ xs) ys x = edge_told-append e xs ys (edge_after (news.edges e) x)

-- ---- the news alone count

pub datum_told-dones : (v : ℕ) (ms : List Message) (d : Datum) → datum_told v (dones ms) d ≡ datum_told v ms d
datum_told-dones v [] d = refl
datum_told-dones v (Ask s c rest ∷ ms) d = datum_told-dones v ms d
datum_told-dones v (Ready s ∷ ms) d = datum_told-dones v ms d
datum_told-dones v (Done s news ∷ ms) d = datum_told-dones v ms (datum_after news v d)

pub edge_told-dones : (e : ℕ) (ms : List Message) (x : ℕ) → edge_told e (dones ms) x ≡ edge_told e ms x
edge_told-dones e [] x = refl
edge_told-dones e (Ask s c rest ∷ ms) x = edge_told-dones e ms x
edge_told-dones e (Ready s ∷ ms) x = edge_told-dones e ms x
edge_told-dones e (Done s news ∷ ms) x = edge_told-dones e ms (edge_after (news.edges e) x)

pub edge_changed-dones : (e : ℕ) (ms : List Message) → edge_changed e (dones ms) ≡ edge_changed e ms
edge_changed-dones e [] = refl
edge_changed-dones e (Ask s c rest ∷ ms) = edge_changed-dones e ms
edge_changed-dones e (Ready s ∷ ms) = edge_changed-dones e ms
edge_changed-dones e (Done s news ∷ ms) = ap (λ b. is_some (news.edges e) || b) (edge_changed-dones e ms)

pub vertex_woken-dones : (u : ℕ) (ms : List Message) → vertex_woken u (dones ms) ≡ vertex_woken u ms
vertex_woken-dones u [] = refl
vertex_woken-dones u (Ask s c rest ∷ ms) = vertex_woken-dones u ms
vertex_woken-dones u (Ready s ∷ ms) = vertex_woken-dones u ms
vertex_woken-dones u (Done s news ∷ ms) = ap (λ b. news.wakes u || b) (vertex_woken-dones u ms)

module _ (st : Setting) (p q : ℕ) where
  pub told-dones : (ms : List Message) → AllByRecursion (IsToldTo st p q) ms → AllByRecursion (IsToldTo st p q) (dones ms)
  told-dones [] all = tt
  told-dones (Ask s c rest ∷ ms) all = told-dones ms all.1
  told-dones (Ready s ∷ ms) all = told-dones ms all.1
  told-dones (Done s news ∷ ms) all = (all.0, told-dones ms all.1)

  pub told-from_dones : (ms : List Message) → AllByRecursion (IsToldTo st p q) (dones ms) → AllByRecursion (IsToldTo st p q) ms
  told-from_dones [] all = tt
  told-from_dones (Ask s c rest ∷ ms) all = (tt, told-from_dones ms all)
  told-from_dones (Ready s ∷ ms) all = (tt, told-from_dones ms all)
  told-from_dones (Done s news ∷ ms) all = (all.0, told-from_dones ms all.1)

-- ---- what no message changes

pub edge_not_told : (told : Option ℕ) (x : ℕ) → is_some told ≡ false → edge_after told x ≡ x
edge_not_told None x none = refl
edge_not_told (Some y) x none = absurd (true≢false none)

pub edge_told-same : (e : ℕ) (ms : List Message) (x : ℕ) → edge_changed e ms ≡ false → edge_told e ms x ≡ x
edge_told-same e [] x none = refl
edge_told-same e (Ask s c rest ∷ ms) x none = edge_told-same e ms x none
edge_told-same e (Ready s ∷ ms) x none = edge_told-same e ms x none
edge_told-same e (Done s news ∷ ms) x none =
    let parts = or_parts (is_some (news.edges e)) (edge_changed e ms) none in
    ap (edge_told e ms) (edge_not_told (news.edges e) x parts.0) ∙ edge_told-same e ms x parts.1

-- no news of neighbours of v are news of u, which is one
pub datum_told-same : (st : Setting) (v u : ℕ) (ms : List Message) (d : Datum) → is_near st v u ≡ true → done_near st v ms ≡ false → datum_told u ms d ≡ d
datum_told-same st v u [] d near none = refl
datum_told-same st v u (Ask s c rest ∷ ms) d near none = datum_told-same st v u ms d near none
datum_told-same st v u (Ready s ∷ ms) d near none = datum_told-same st v u ms d near none
datum_told-same st v u (Done s news ∷ ms) d near none =
    let parts = or_parts (is_near st v news.centre) (done_near st v ms) none in
    let other : u ≢ news.centre = λ same. true≢false (sym (subst (λ x. is_near st v x ≡ true) same near) ∙ parts.0) in
    ap (datum_told u ms) (cond-false (u == news.centre) (newer_datum d news.datum) d (ne_eqb u news.centre other)) ∙ datum_told-same st v u ms d near parts.1
