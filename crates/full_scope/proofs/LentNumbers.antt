-- The numbers leave a full scope for all the time that its lender has left, and the scope follows them. Assumes `Logic`.
--     numbers_shown    the scope's borrow is opened, and the cell that holds the borrow of the numbers can be read
--     numbers_lent     it is closed again, and the numbers are lent: whatever is left in them is what the scope has
-- The scope is made again at any numbers of the same count, which is all that the ghost field `fit` says of them.
use Rattle.std.proofs.Common.{◌≡◌, ℕ, zero, suc, ◌+◌, ◌*◌, ◌^◌, List, [], ◌∷◌, length, slice_set, refl, sym, ◌∙◌, ap, subst, length-set, w64, MutBor}
use seplogic.Ra.Ura.{Ura}
use base.Fraction.{full_share}
use base.Logic.{SProp, ent, sep, ex, all, all_e, apply∗, guard, id⊢}
use base.Stored.{coded_list}
use base.Fml.{Lft, Incl, GName, Share, Fml, fsep, fat, fobs, fauth, fbor, fobor, flft}
use mir.Syntax.{Ty, erased, mut, named, ty_int, ty_ref}
use mir.Val.{Val}
use types.Logic.{Logic, sem}
use types.Kit.{‵, ◌⊛◌, raw, some, later, ◌$◌, ◌∵◌, !, qed, move, use1, use2, use3, split, split3, join, fsplit, fsplit3, fjoin, fjoin3, fpick, fpack, feq_i, feq_l, flt_i, flt_l, pick, check, show, await, updating, rewrite, now as at_once, done}
use types.Mut.{open_ref, close_ref}
use types.SemTy.{Arr, Body}
use types.Through.{hands_through}
use denote.Array.{Array}
use denote.Builtin.{u64}
use denote.Follow.{follows}
use denote.FollowSlice.{heres_id, slice_of}
use denote.Memory.{mem, cell_at, part_at, part_of}
use denote.RattleType.{RattleType}
use denote.Ref.{NamedLft, at_last}
use denote.Slice.{MutSlice, Room, room, slice_ty, slice_val, mut_slice_vals}
use denote.Steps.{only}
use denote.Struct.At.{put_at}
use denote.Struct.Declared.{Declared}
use denote.Struct.Values.{Values, intos}
use denote.Through.{renamed}
use borrow.Struct.Apart.{apart, part_apart}
use borrow.Struct.Open.{Way, field_open}
use borrow.Table.OneValue.{part_out_at, part_in_at}
use Rattle.full_scope.specs.contracts.scopes.FullScope as S
use Rattle.full_scope.specs.declared.scopes.FullScope.{FullScope}
use Rattle.full_scope.specs.FullScopes.{with_number_at}
use Rattle.full_scope.proofs.scopes.FullScope.TheLaws as laws

-- n numbers, which are these where there are n of them
abbrev pub fill : ℕ → List ℕ → List ℕ
fill zero ws = []
fill (suc n) [] = 0 ∷ fill n []
fill (suc n) (w ∷ ws) = w ∷ fill n ws

pub length-fill : (n : ℕ) (ws : List ℕ) → length (fill n ws) ≡ n
length-fill zero ws = refl
length-fill (suc n) [] = ap suc (length-fill n [])
length-fill (suc n) (w ∷ ws) = ap suc (length-fill n ws)

fill-length : (ws : List ℕ) → fill (length ws) ws ≡ ws
fill-length [] = refl
fill-length (w ∷ ws) = ap (λ (us : List ℕ). w ∷ us) (fill-length ws)

fill-same : (n : ℕ) (ws : List ℕ) → length ws ≡ n → fill n ws ≡ ws
fill-same n ws long = subst (λ (k : ℕ). fill k ws ≡ ws) long (fill-length ws)

-- the scope, where these are the numbers
abbrev pub with_numbers : FullScope → List ℕ → FullScope
with_numbers s ws =
    record s {
      numbers = record s.numbers { now = fill (length s.numbers.now) ws };
      fit = length-fill (length s.numbers.now) ws ∙ s.fit;
    }

module _ (a : NamedLft) where
  abbrev T : Declared
  T = S.the_type a

  abbrev pub Row : RattleType
  Row = S.the_row a

  -- the type of the field that holds the borrow of the numbers, and that of its cell
  abbrev Numbers : RattleType
  Numbers = MutSlice a.mir a.lft u64

  abbrev pub τ : Ty
  τ = slice_ty (ty_ref erased mut (ty_int w64))

  pub with_numbers_one : (s : FullScope) (place x : ℕ) → with_numbers s (slice_set s.numbers.now place x) ≡ with_number_at s place x
  with_numbers_one s place x =
      T.to_one (with_numbers s (slice_set s.numbers.now place x)) (with_number_at s place x)
      (ap (λ (ws : List ℕ). intos T.parts (put_at T.parts 3 (at_last s.numbers ws) (T.as_values s))) (fill-same (length s.numbers.now) (slice_set s.numbers.now place x) (length-set s.numbers.now place x)))

  module _ {M : Type 1} {𝓤 : Ura M} (𝓛 : Logic 𝓤) (s : FullScope) (b o : ℕ) where
    open 𝓛 use {H, A}

    abbrev v : Values T.parts
    v = T.as_values s

    abbrev y : MutBor (List ℕ)
    y = s.numbers

    abbrev n : ℕ
    n = length y.now

    abbrev at : ℕ
    at = o + 32

    -- from the field at any numbers to the scope
    abbrev Ways : SProp 𝓤
    Ways = all 𝓤 (Way T 3 32 𝓛 full_share v b o)

    field_out : ent 𝓤 (sem 𝓛 (part_at Row full_share s b o)) (sep 𝓤 (sem 𝓛 (part_at Numbers full_share y b at)) Ways)
    field_out = qed 𝓛 (‵ (part_at Row full_share s b o) ∷ []) ∵
        rewrite ! 0 (λ (F : Fml). ‵ F) (part_apart T full_share s v refl b o) refl $
        use1 𝓛 (‵ (part_at Numbers full_share y b at) ⊛ raw Ways) (field_open T 3 32 𝓛 refl (laws.the_loose a) full_share refl v b o) $ split ! $ done !

    field_in : (s' : FullScope) (y' : MutBor (List ℕ)) → T.to s' ≡ intos T.parts (put_at T.parts 3 y' v)
        → ent 𝓤 (sep 𝓤 (sem 𝓛 (part_at Numbers full_share y' b at)) Ways) (sem 𝓛 (part_at Row full_share s' b o))
    field_in s' y' same = qed 𝓛 (‵ (part_at Numbers full_share y' b at) ∷ raw Ways ∷ []) ∵ move ! (1 ∷ []) $
        use1 𝓛 (raw (Way T 3 32 𝓛 full_share v b o y')) (all_e 𝓤 (Way T 3 32 𝓛 full_share v b o) y') $ move ! (1 ∷ 0 ∷ []) $
        use2 𝓛 (‵ (part_at (apart T) full_share (put_at T.parts 3 y' v) b o)) (apply∗ 𝓤 (sem 𝓛 (part_at Numbers full_share y' b at)) (sem 𝓛 (part_at (apart T) full_share (put_at T.parts 3 y' v) b o))) $
        rewrite ! 0 (λ (F : Fml). ‵ F) (sym (part_apart T full_share s' (put_at T.parts 3 y' v) same b o)) refl $ done !

    abbrev Held : GName → Fml
    Held δ = Body (Arr (mem u64) n) y.ref_ptr.0 y.ref_ptr.1 δ

    abbrev Rest : SProp 𝓤
    Rest = sep 𝓤 (sem 𝓛 (fsep (cell_at full_share Numbers.mir (mut_slice_vals y) b at) (room u64 n))) Ways

    abbrev Has : List ℕ → SProp 𝓤
    Has ws = sep 𝓤 (A.obs y.ghost_name ((coded_list u64.coded).code ws)) (sep 𝓤 (A.bor a.lft (Held y.ghost_name)) Rest)

    counts : (ws : List ℕ) → ent 𝓤 (sem 𝓛 ((Arr (mem u64) n).own_at ws y.ref_ptr.0 y.ref_ptr.1)) (guard 𝓤 (length ws ≡ n) (sem 𝓛 ((Arr (mem u64) n).own_at ws y.ref_ptr.0 y.ref_ptr.1)))
    counts ws = qed 𝓛 (‵ ((Arr (mem u64) n).own_at ws y.ref_ptr.0 y.ref_ptr.1) ∷ []) ∵ fsplit ! $ feq_l ! (λ long. check ! long $ feq_i ! ℕ (length ws) n long $ done !)

    cut : ent 𝓤 (sem 𝓛 ((mem Row).own_at s b o)) (Has y.now)
    unfolding part_of
    cut = qed 𝓛 (‵ ((mem Row).own_at s b o) ∷ []) ∵ use1 𝓛 (‵ (part_at Numbers full_share y b at) ⊛ raw Ways) field_out $ split ! $
        fpick ! (λ vs. fsplit ! $ move ! (1 ∷ []) $ fsplit3 ! $ fsplit ! $ feq_l ! (λ is.
        rewrite ! 3 (λ (us : List Val). ‵ (cell_at full_share Numbers.mir us b at)) is refl $
        rewrite ! 1 (λ (l : List ℕ). ‵ (fobs y.ghost_name ((coded_list u64.coded).code l))) (heres_id u64 y.now) refl $
        -- [room; obs and borrow of the numbers; the cell; the ways]
        move ! (3 ∷ 0 ∷ []) $ fjoin ! $ move ! (0 ∷ 3 ∷ []) $ join ! $ move ! (1 ∷ 2 ∷ 0 ∷ []) $ done !))

    back : (ws : List ℕ) → length ws ≡ n → ent 𝓤 (Has ws) (sem 𝓛 ((mem Row).own_at (with_numbers s ws) b o))
    unfolding part_of
    back ws long = qed 𝓛 (‵ (fobs y.ghost_name ((coded_list u64.coded).code ws)) ∷ ‵ (fbor a.lft (Held y.ghost_name)) ∷ (‵ (fsep (cell_at full_share Numbers.mir (mut_slice_vals y) b at) (room u64 n)) ⊛ raw Ways) ∷ []) ∵
        rewrite ! 0 (λ (l : List ℕ). ‵ (fobs y.ghost_name ((coded_list u64.coded).code l))) (sym (heres_id u64 ws)) refl $
        rewrite ! 1 (λ (k : ℕ). ‵ (fbor a.lft (Body (Arr (mem u64) k) y.ref_ptr.0 y.ref_ptr.1 y.ghost_name))) (sym long) refl $
        move ! (2 ∷ []) $ split ! $ rewrite ! 0 (λ (k : ℕ). ‵ (fsep (cell_at full_share Numbers.mir (slice_val y.ref_ptr k ∷ []) b at) (room u64 k))) (sym long) refl $
        -- [the cell and room; the ways; obs and borrow of the numbers]
        fsplit ! $ move ! (1 ∷ []) $ feq_i ! (List Val) (mut_slice_vals (at_last y ws)) (mut_slice_vals (at_last y ws)) refl $ fjoin ! $
        move ! (0 ∷ 3 ∷ 4 ∷ []) $ fjoin3 ! $ move ! (1 ∷ 0 ∷ []) $ fjoin ! $
        fpack ! (List Val) (λ us. fsep (cell_at full_share Numbers.mir us b at) (Numbers.own_val (at_last y ws) us)) (mut_slice_vals (at_last y ws)) $
        use2 𝓛 (‵ (part_at Row full_share (with_numbers s ws) b o)) (field_in (with_numbers s ws) (at_last y ws) (ap (λ (l : List ℕ). intos T.parts (put_at T.parts 3 (at_last y l) v)) (fill-same n ws long))) $ done !

    module _ (κ : Lft) (q : Share) (γ : GName) where
      abbrev pub Cell : Fml
      Cell = fat full_share τ b at (slice_val y.ref_ptr n)

      -- what is left of the open scope beside the cell
      abbrev pub Open : SProp 𝓤
      Open = sep 𝓤 (sem 𝓛 (fsep (fobs y.ghost_name ((coded_list u64.coded).code y.now)) (fbor a.lft (Held y.ghost_name)))) (sep 𝓤 Ways (sem 𝓛 (fsep (fobor κ q (Body (mem Row) b o γ)) (fsep (fobs γ (Row.coded.code s)) (fauth γ (Row.coded.code s))))))

      pub numbers_shown : ent 𝓤 (sep 𝓤 (A.obs γ (Row.coded.code s)) (sep 𝓤 (A.bor κ (Body (mem Row) b o γ)) (A.lft κ q))) (H.⇛ (guard 𝓤 (Room u64 n) (sep 𝓤 (sem 𝓛 Cell) Open)))
      numbers_shown = qed 𝓛 (‵ (fobs γ (Row.coded.code s)) ∷ ‵ (fbor κ (Body (mem Row) b o γ)) ∷ ‵ (flft κ q) ∷ []) ∵ updating ! $ open_ref ! tt (mem Row) {b = b} {o = o} $
          use1 𝓛 (‵ (part_at Numbers full_share y b at) ⊛ raw Ways) field_out $ split ! $
          use1 𝓛 (some (λ (w : Val). ‵ (fat full_share τ b at w) ⊛ ‵ (Numbers.own_val y (w ∷ [])))) (part_out_at 𝓛 Numbers refl full_share y b at τ refl) $ pick ! (λ w. split ! $
          move ! (1 ∷ []) $ fsplit3 ! $ fsplit3 ! $ feq_l ! (λ is. flt_l ! (λ fits. flt_l ! (λ small. rewrite ! 2 (λ (u : Val). ‵ (fat full_share τ b at u)) (ap only is) refl $
          rewrite ! 0 (λ (l : List ℕ). ‵ (fobs y.ghost_name ((coded_list u64.coded).code l))) (heres_id u64 y.now) refl $
          -- [obs and borrow of the numbers; the cell; the ways; the scope's borrow, open; obs; auth]
          fjoin ! $ move ! (3 ∷ 4 ∷ 5 ∷ []) $ fjoin3 ! $ move ! (3 ∷ 0 ∷ []) $ join ! $ move ! (1 ∷ 0 ∷ []) $ join ! $ at_once ! $ check ! (fits, small) $ move ! (1 ∷ 0 ∷ []) $ done !))))

      -- the numbers, lent
      abbrev pub Lent : GName → SProp 𝓤
      Lent γ' = sep 𝓤 (sem 𝓛 ((MutSlice (named 0) κ u64).own_val (renamed y γ') (mut_slice_vals y))) (sep 𝓤 (A.lft κ q) (sem 𝓛 (follows Row (Array u64 0) γ γ' (with_numbers s))))

      pub numbers_lent : Incl κ a.lft → Room u64 n → ent 𝓤 (sep 𝓤 (sem 𝓛 Cell) Open) (H.⇛ (ex 𝓤 Lent))
      numbers_lent inc rm = qed 𝓛 (‵ Cell ∷ raw Open ∷ []) ∵ updating ! $ move ! (1 ∷ []) $
          use1 𝓛 (‵ (fsep (fobs y.ghost_name ((coded_list u64.coded).code y.now)) (fbor a.lft (Held y.ghost_name))) ⊛ raw Ways ⊛ ‵ (fsep (fobor κ q (Body (mem Row) b o γ)) (fsep (fobs γ (Row.coded.code s)) (fauth γ (Row.coded.code s))))) (id⊢ 𝓤 Open) $
          split3 ! $ fsplit ! $ rewrite ! 0 (λ (l : List ℕ). ‵ (fobs y.ghost_name ((coded_list u64.coded).code l))) (sym (heres_id u64 y.now)) refl $
          flt_i ! (n * (mem u64).size) (2 ^ 63) rm.1 $ flt_i ! n (2 ^ 64) rm.0 $ feq_i ! (List Val) (mut_slice_vals y) (mut_slice_vals y) refl $ fjoin3 ! $ move ! (0 ∷ 1 ∷ 2 ∷ []) $ fjoin3 ! $
          -- [the borrow of the numbers; the ways; the scope's borrow, open, with obs and auth; the cell]
          move ! (3 ∷ 0 ∷ []) $ use2 𝓛 (‵ (part_at Numbers full_share y b at)) (part_in_at 𝓛 Numbers refl full_share y b at τ refl (slice_val y.ref_ptr n)) $
          use2 𝓛 (‵ (part_at Row full_share s b o)) (field_in s y refl) $ move ! (1 ∷ []) $ fsplit3 ! $ move ! (3 ∷ 0 ∷ 1 ∷ 2 ∷ []) $ close_ref ! tt (mem Row) s {b = b} {o = o} $
          use3 𝓛 (later (some (λ (γ' : GName). ‵ (fobs γ' ((coded_list u64.coded).code y.now)) ⊛ ‵ (fbor κ (Held γ')) ⊛ ‵ (flft κ q) ⊛ ‵ (follows Row (Array u64 0) γ γ' (with_numbers s)))))
          (hands_through 𝓛 (mem Row) (Arr (mem u64) n) (with_numbers s) κ a.lft inc b o y.ref_ptr.0 y.ref_ptr.1 γ y.ghost_name Rest (λ ws. length ws ≡ n) counts back q s y.now cut) $
          await ! tt $ pick ! (λ γ'. split3 ! $ use2 𝓛 (‵ ((MutSlice (named 0) κ u64).own_val (renamed y γ') (mut_slice_vals y))) (slice_of 𝓛 u64 (named 0) κ y.ref_ptr.0 y.ref_ptr.1 γ' y.now rm) $
          at_once ! $ show ! Lent γ' $ done !)
