-- The borrow of the numbers, which the scope holds, is lent on to a call that lends one of them. Assumes `Logic`.
use Rattle.std.proofs.Common.{◌≡◌, ℕ, ◌<◌, ◌^◌, List, [], ◌∷◌, length, slice_index, slice_set, refl, ap, w64, MutBor}
use Rattle.std.proofs.raw_atomic.Walks.{proved}
use base.Logic.{ent, emp, id⊢}
use base.Fml.{Lft, Share, GName, ftrue, flft}
use mir.Syntax.{named}
use mir.Val.{Val, vint, vptr}
use seplogic.Ra.Ura.{Ura}
use prog.Model.{Model}
use prog.Wired.{Wired}
use prog.Wp.{WpFn}
use types.Logic.{Logic}
use contract.Lifetimes.{Lfts, AllOutlive}
use contract.Monad.{fact, fact_i}
use contract.Running.{Running, MachineTables, tables}
use types.Kit.{‵, raw, ◌⊛◌, some, given, later, ◌$◌, ◌∵◌, !, qed, move, keep, drop, use0, use1, use2, use3, split, split3, join, fsplit3, fjoin, fjoin3, feq_i, feq_l, pick, learn, await, rewrite, suffices, frame, done}
use types.Part.{whole, sub, look_in, agg}
use types.Run.{enter, of_opd, addr, load, stop, fld, hop, no_more, and_then, returns}
use types.ByLocal.{alloc_all, pass_all, free_all, look_at, get, through, sets, lands_as}
use denote.Array.{Array}
use denote.Builtin.{u64, usize}
use denote.Exit.{yes, no}
use denote.Follow.{follows, follows_then}
use denote.Plain.{uint_Makes, uint_vals, uint_Tells}
use denote.RattleType.{RattleType, owns}
use denote.Ref.{MutRef, NamedLft, mut_vals, mut_Tells}
use denote.Signature.{plain, named_lft, mut_ref_to}
use denote.Slice.{MutSlice, Room, mut_slice_vals}
use denote.Steps.{nothing, owned, heard, only}
use denote.Through.{renamed}
use denote.Triple.Call.{calls_at}
use denote.Triple.Clauses.{lasts}
use denote.Triple.Spec.{triple_of}
use denote.Triple.Statement.{Contract}
use denote.Triple.Table.{framed}
use denote.Triple.Walked.{Stays, walk_of, says, stay_dropped, Goes-dropped, Goes-spent_ref, ends_at}
use Rattle.full_scope.specs.contracts.scopes.FullScope as S
use Rattle.full_scope.specs.contracts.scopes.FullScope.number_at_mut as f
use Rattle.full_scope.specs.contracts.scopes.number_mut as g
use Rattle.full_scope.specs.declared.scopes.FullScope.{FullScope}
use Rattle.full_scope.proofs.LentNumbers.{Cell, Open, numbers_shown, numbers_lent, with_numbers, with_numbers_one}
use Rattle.full_scope.proofs.scopes.number_mut.Met.{met}
use Rattle.full_scope.proofs.scopes.FullScope.number_at_mut.Statement.{statement}
use Rattle.full_scope.proofs.scopes.FullScope.number_at_mut.Code as code

abbrev within : Lfts 2 → NamedLft
within κs = named_lft 2 1 tt κs

abbrev Row : Lfts 2 → RattleType
Row κs = S.the_row (within κs)

abbrev stayed : Stays f.ended.signature.params f.ended.kept
stayed = (stay_dropped (mut_ref_to (0 ∷ []) tt (plain Row)) no, (stay_dropped (plain (λ _. usize)) yes, tt))

module _ {M : Type 1} {𝓤 : Ura M} (𝓛 : Logic 𝓤) (𝓜 : Model 𝓤 𝓛.H) (𝓡 : Running 𝓤 𝓛.H 𝓜) (wired : Wired 𝓡.env code.code)
    (κ κ' : Lft) (q q' : Share) (bounds : AllOutlive 2 f.signature.outlives (κ, (κ', tt))) (b o : ℕ) (γ : GName) (s : FullScope) (place : ℕ) (fits : place < 2 ^ 64) where
  abbrev κs : Lfts 2
  κs = (κ, (κ', tt))

  abbrev R : RattleType
  R = Row κs

  abbrev y : MutBor (List ℕ)
  y = s.numbers

  abbrev 𝓣 : MachineTables 𝓤 𝓛.H 𝓜
  𝓣 = tables 𝓤 𝓛.H 𝓜 𝓡 𝓡.env

  abbrev W : Contract 𝓤
  W = walk_of 𝓛 f.ended stayed (f.clauses 𝓛 𝓜.mem 𝓡.returns)

  abbrev passed : W.Ghost
  passed = ((κs, (q, (q', tt)), bounds, (record { ref_ptr = (b, o); ghost_name = γ; now = s }, (place, tt)), (vptr b o ∷ [], (vint w64 place ∷ [], tt))), tt)

  abbrev G : Contract 𝓤
  G = triple_of 𝓛 g.signature (g.spec 𝓛 𝓜.mem 𝓡.returns)

  abbrev handed : GName → G.Ghost
  handed δ = (((κ, tt), (q, tt), tt, (renamed y δ, (place, tt)), (mut_slice_vals y, (vint w64 place ∷ [], tt))), tt)

  walk : ent 𝓤 (W.pre passed) (WpFn 𝓤 𝓛.H 𝓣.C 𝓣.Λ code.function (vptr b o ∷ vint w64 place ∷ []) (W.post passed))
  walk =
      qed 𝓛 (((‵ (flft κ q) ⊛ ‵ (flft κ' q') ⊛ ‵ ftrue) ⊛ ‵ (owns (MutRef (named 0) κ R ∷ usize ∷ []) passed.0.3 passed.0.4)) ∷ raw (fact 𝓤 (place < length y.now)) ∷ []) ∵
      split ! $ move ! (2 ∷ []) $ heard ! _ (λ low. move ! (1 ∷ []) $ fsplit3 ! $ keep ! (0 ∷ 3 ∷ []) $ fsplit3 ! $ move ! (3 ∷ []) $ split3 ! $ keep ! (4 ∷ 5 ∷ 0 ∷ 1 ∷ []) $
      enter ! _ _ _ _ _ $ alloc_all ! (λ l. pass_all ! refl ((tt, tt), ((tt, record { fits = fits }), tt)) $
      -- [obs and borrow of the scope; the tokens]
      use3 𝓛 (later (given (Room u64 (length y.now)) (‵ (Cell (within κs) 𝓛 s b o κ q γ) ⊛ raw (Open (within κs) 𝓛 s b o κ q γ)))) (numbers_shown (within κs) 𝓛 s b o κ q γ) $ await ! tt $ learn ! (λ rm. split ! $
      sets ! (of_opd ! (load ! (through ! refl (fld ! {d = 32} refl (fld ! {d = 8} refl (stop !)))) (look_in ! 0 (sub ! 1 refl (whole !))))) refl (tt, record { fits = rm.0 }) $
      sets ! (addr ! (through ! refl (fld ! {d = 32} refl (fld ! {d = 0} refl (hop ! (look_in ! 0 (sub ! 0 refl (whole !))) (stop !)))))) refl (tt, tt) $
      sets ! (agg ! (and_then ! (get ! refl) (and_then ! (get ! refl) (no_more !)))) refl (tt, (tt, (record { fits = rm.0 }, tt))) $
      use2 𝓛 (later (some (λ (δ : GName). ‵ ((MutSlice (named 0) κ u64).own_val (renamed y δ) (mut_slice_vals y)) ⊛ ‵ (flft κ q) ⊛ ‵ (follows R (Array u64 0) γ δ (with_numbers s)))))
      (numbers_lent (within κs) 𝓛 s b o κ q γ bounds.0 rm) $ await ! tt $ pick ! (λ δ. split3 ! $
      -- [the numbers, lent; the token of κ; the scope follows them; the other token]
      owned ! usize _ (uint_Makes 𝓛 w64) place _ (refl, fits) $ nothing ! $ move ! (1 ∷ 0 ∷ []) $ join ! $ move ! (1 ∷ 0 ∷ []) $ join ! $
      nothing ! $ move ! (2 ∷ 0 ∷ []) $ join ! $ join ! $ use0 𝓛 (raw (fact 𝓤 (place < length y.now))) (fact_i 𝓤 _ (emp 𝓤) low) $ move ! (1 ∷ 0 ∷ []) $ use2 𝓛 (raw (G.pre (handed δ))) (id⊢ 𝓤 _) $
      calls_at ! (framed 𝓤 𝓛.H 𝓜 𝓣) G (met 𝓤 𝓛 𝓜 𝓡 (code.calls-full_scope::scopes::number_mut 𝓡.env wired)) (handed δ) (and_then ! (get ! refl) (and_then ! (get ! refl) (no_more !))) (λ v.
      use1 𝓛 (later (some (λ (r : MutBor ℕ). ((‵ (flft κ q) ⊛ ‵ ftrue) ⊛ ‵ ((MutRef (named 0) κ u64).own_val r (v ∷ []))) ⊛ some (λ (ends : Unit {0} × (Unit {0} × Unit {0})).
      ‵ (lasts g.ended (κ, tt) (handed δ).0.3 ends) ⊛ ‵ (follows (Array u64 0) u64 δ r.ghost_name (slice_set y.now place)) ⊛ raw (fact 𝓤 (r.now ≡ slice_index y.now place)))))) (id⊢ 𝓤 _) $
      await ! tt $ pick ! (λ r. split ! $ split ! $ split ! $ move ! (1 ∷ []) $ drop ! $
      -- [the token of κ; the number, lent; what the call says; the scope follows the numbers; the other token]
      move ! (1 ∷ []) $ fsplit3 ! $ feq_l ! (λ is. lands_as ! (ap only is) refl (tt, tt) $
      move ! (3 ∷ []) $ pick ! (λ ends. split ! $ drop ! $ split ! $ move ! (1 ∷ []) $ heard ! _ (λ has.
      -- [the numbers follow the number; obs and borrow of the number; the token of κ; the scope follows the numbers; the other token]
      move ! (4 ∷ 0 ∷ []) $ use2 𝓛 (‵ (follows R u64 γ r.ghost_name (λ x. with_numbers s (slice_set y.now place x)))) (follows_then 𝓛 R (Array u64 0) u64 (with_numbers s) (slice_set y.now place) γ δ r.ghost_name) $
      rewrite ! 0 (λ (F : ℕ → FullScope). ‵ (follows R u64 γ r.ghost_name F)) (λ j x. with_numbers_one (within κs) s place x j) refl $
      returns ! (look_at ! 0 refl) $ free_all ! refl $
      suffices ! _ (ends_at 𝓛 f.ended stayed (f.clauses 𝓛 𝓜.mem 𝓡.returns) passed (vptr r.ref_ptr.0 r.ref_ptr.1) r (tt, (tt, tt)) (tt, (tt, tt))) $
      move ! (1 ∷ 2 ∷ []) $ feq_i ! (List Val) (mut_vals r) (mut_vals r) refl $ fjoin3 ! $ nothing ! $ nothing ! $ fjoin ! $ nothing ! $ fjoin ! $ join ! $
      -- [the number, lent; the scope follows it; the tokens]
      nothing ! $ move ! (4 ∷ 0 ∷ []) $ join ! $ move ! (3 ∷ 0 ∷ []) $ join ! $ join ! $ frame ! $ says ! has $ done !)))))))))

pub number_at_mut_spec : {M : Type 1} → statement M
number_at_mut_spec 𝓤 𝓛 𝓜 𝓡 wired =
    proved 𝓛 f.ended stayed (f.clauses 𝓛 𝓜.mem 𝓡.returns) 𝓜 𝓡 (Goes-spent_ref 𝓛 2 (0 ∷ []) tt (plain Row), (Goes-dropped 𝓛 2 (plain (λ _. usize)) yes (λ κs x w. refl), tt))
    f.Key.name code.function (code.unfolded 𝓤 𝓛.H 𝓜 𝓡 wired)
    (λ κs. (mut_vals, (uint_vals w64, tt))) (λ κs. (mut_Tells (named 0) κs.0 (Row κs), (uint_Tells w64, tt)))
    (λ κs qs bounds a _ are. walk 𝓛 𝓜 𝓡 wired κs.0 κs.1.0 qs.0 qs.1.0 bounds a.0.ref_ptr.0 a.0.ref_ptr.1 a.0.ghost_name a.0.now a.1.0 are.1.0.1)
