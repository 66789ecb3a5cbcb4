-- What a seat's machine has come to since its last step.
use Rattle.std.proofs.Common.{List, [], map, refl, subst, sym, ◌++◌, ◌∙◌, ◌∷◌, ◌≡◌, ℕ}
use Rattle.std.specs.List.{AllByRecursion}
use Rattle.gl_base.specs.declared.numbers.Vertex.{Vertex}
use Rattle.gl_base.specs.declared.scopes.ScopeId.{ScopeId}
use Rattle.coordinator.specs.machine_api.AtOnce.{AreDone, HasUpdatedAtOnce, deeds_at_once}
use Rattle.coordinator.specs.machine_api.InTurn.{HasGrantedInTurn}
use Rattle.coordinator.specs.machine_api.Promises.{Admit, Deed, Grant, HasAdmittedSome, HasDone, StandsStill, does}
use Rattle.coordinator.specs.machine_api.Promises as deed
use Rattle.wire_board.specs.Standings.{ComesOn, WorksTo, HasComeTo, IsOwn, Machine, Member, Setting, Standing, at_rest, owing, owing_at_once}

module _ {M : Type 0} (represents : Setting → ℕ → Machine → M → Type 0) where
  pub come_nowhere : (y : Member M) → HasComeTo represents (at_rest y) y.machine
  come_nowhere y st a m setting standing =
      record { deeds = []; own = tt; after = m; done = refl; here = subst (λ (n : Machine). represents st a n y.machine) (sym standing.done) standing.here }

  -- it has made the update that it owed
  pub come_updated : (y : Member M) (s : ScopeId) (ticket : ℕ) (z : M) → HasDone represents y.machine (deed.Update s ticket) z → HasComeTo represents (owing y s ticket) z
  come_updated y s ticket z has st a m setting standing =
      record { deeds = []; own = tt; after = m; done = refl; here = subst (λ (n : Machine). represents st a n z) (sym standing.done.1) ((has st a standing.before setting standing.here).1) }

  done_same : (st : Setting) (a : ℕ) (deeds : List Deed) (m one other : Machine) → AreDone st a deeds m one → AreDone st a deeds m other → one ≡ other
  done_same st a [] m one other first second = first ∙ sym second
  done_same st a (d ∷ deeds) m one other first second = done_same st a deeds (does st a d m) one other first.1 second.1

  pub come_updated_at_once : (y : Member M) (v : Vertex) (ticket : ℕ) (z : M) → HasUpdatedAtOnce represents y.machine v.0 ticket z → HasComeTo represents (owing_at_once y v ticket) z
  come_updated_at_once y v ticket z has st a m setting standing =
      let one = has st a standing.before setting standing.here in
      record {
        deeds = [];
        own = tt;
        after = m;
        done = refl;
        here = subst (λ (n : Machine). represents st a n z) (done_same st a (deeds_at_once st a v.0 ticket standing.before) standing.before one.after m one.done standing.done) one.here;
      }

  -- ---- what a machine does by itself

  done_both : (st : Setting) (a : ℕ) (xs ys : List Deed) (m one other : Machine) → AreDone st a xs m one → AreDone st a ys one other → AreDone st a (xs ++ ys) m other
  done_both st a [] ys m one other first second = subst (λ (n : Machine). AreDone st a ys n other) first second
  done_both st a (d ∷ xs) ys m one other first second = (first.0, done_both st a xs ys (does st a d m) one other first.1 second)

  own_both : (xs ys : List Deed) → AllByRecursion IsOwn xs → AllByRecursion IsOwn ys → AllByRecursion IsOwn (xs ++ ys)
  own_both [] ys first second = second
  own_both (d ∷ xs) ys first second = (first.0, own_both xs ys first.1 second)

  pub come_on : (x : Standing M) (y z : M) → HasComeTo represents x y → ComesOn represents y z → HasComeTo represents x z
  come_on x y z come on st a m setting standing =
      let first : WorksTo represents y st a m = come st a m setting standing in
      let second : WorksTo represents z st a first.after = on st a first.after setting first.here in
      record {
        deeds = first.deeds ++ second.deeds;
        own = own_both first.deeds second.deeds first.own second.own;
        after = second.after;
        done = done_both st a first.deeds second.deeds m first.after second.after first.done second.done;
        here = second.here;
      }

  pub on_then : (x y z : M) → ComesOn represents x y → ComesOn represents y z → ComesOn represents x z
  on_then x y z one other st a m setting here =
      let first : WorksTo represents y st a m = one st a m setting here in
      let second : WorksTo represents z st a first.after = other st a first.after setting first.here in
      record {
        deeds = first.deeds ++ second.deeds;
        own = own_both first.deeds second.deeds first.own second.own;
        after = second.after;
        done = done_both st a first.deeds second.deeds m first.after second.after first.done second.done;
        here = second.here;
      }

  pub on_still : (x y : M) → StandsStill represents x y → ComesOn represents x y
  on_still x y still st a m setting here = record { deeds = []; own = tt; after = m; done = refl; here = still st a m setting here }

  pub on_done : (x y : M) (d : Deed) → IsOwn d → HasDone represents x d y → ComesOn represents x y
  on_done x y d own has st a m setting here =
      let one = has st a m setting here in
      record { deeds = d ∷ []; own = (own, tt); after = does st a d m; done = (one.0, refl); here = one.1 }

  grants_own : (locks : List ℕ) → AllByRecursion IsOwn (map Grant locks)
  grants_own [] = tt
  grants_own (v ∷ locks) = (tt, grants_own locks)

  pub on_granted : (x y : M) (v : ℕ) → HasGrantedInTurn represents x v y → ComesOn represents x y
  on_granted x y v has st a m setting here =
      let one = has.1 st a m setting here in
      record { deeds = map Grant (v ∷ has.0); own = grants_own (v ∷ has.0); after = one.after; done = one.done; here = one.here }

  pub on_admitted : (x y : M) → HasAdmittedSome represents x y → ComesOn represents x y
  on_admitted x y has st a m setting here =
      let one = has st a m setting here in
      record { deeds = Admit one.0 ∷ []; own = (tt, tt); after = does st a (Admit one.0) m; done = (one.1, refl); here = one.2 }
