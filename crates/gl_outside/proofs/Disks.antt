-- What writes and syncs leave, what a crash may leave of them, and how a run of calls on a disk goes on.
use Rattle.std.proofs.Common.{◌≡◌, ◌⊎◌, inl, inr, ⊎_elim, ℕ, ◌+◌, ◌-◌, ◌<◌, ◌≤◌, List, [], ◌∷◌, ◌++◌, length, take, drop, get_or, sym, ap, ◌∙◌, subst, arith, length-append}
use Rattle.std.specs.Prelude.{All, replicate}
use Rattle.std.proofs.lemmas.Bool.{cases_lt}
use Rattle.std.proofs.lemmas.List.{append-nil, drop_all, ext_get_or, get_or_append_left, get_or_default, get_or_past, get_or_push, get_or-drop, get_or-take, length-drop, length-replicate, length-take, take_all, take-append-le, take-replicate}
use Rattle.std.proofs.Math.Seq.{take-append-add}
use Rattle.gl_outside.specs.Disk.{DiskPast, DiskState, IsImage, IsOutside, IsTorn, LeavesOnly, clock, followed_by, images_since, state_at, with_piece}

-- A piece over bytes that were made long enough for it by zeros.
take-grown : (bytes : List ℕ) (at more : ℕ) → at ≤ length bytes + more → take at (bytes ++ replicate more 0) ≡ take at bytes ++ replicate (at - length bytes) 0
take-grown bytes at more fits = ⊎_elim inside past (cases_lt (length bytes) at)
  where
    past : at ≤ length bytes → take at (bytes ++ replicate more 0) ≡ take at bytes ++ replicate (at - length bytes) 0
    past le =
        let none : at - length bytes ≡ 0 = omega (arith, le) in
        take-append-le at bytes (replicate more 0) le ∙ sym (append-nil (take at bytes)) ∙ ap (λ (k : ℕ). take at bytes ++ replicate k 0) (sym none)

    inside : length bytes < at → take at (bytes ++ replicate more 0) ≡ take at bytes ++ replicate (at - length bytes) 0
    inside lt =
        let sum : at ≡ length bytes + (at - length bytes) = omega (arith, lt) in
        let le : at - length bytes ≤ more = omega (arith, lt, fits) in
        ap (λ (k : ℕ). take k (bytes ++ replicate more 0)) sum ∙ take-append-add bytes (replicate more 0) (at - length bytes)
        ∙ ap (λ (l : List ℕ). bytes ++ l) (take-replicate (at - length bytes) more 0 le)
        ∙ ap (λ (l : List ℕ). l ++ replicate (at - length bytes) 0) (sym (take_all at bytes (omega (arith, lt))))

drop-grown : (bytes : List ℕ) (end : ℕ) → drop end (bytes ++ replicate (end - length bytes) 0) ≡ drop end bytes
drop-grown bytes end = ⊎_elim past inside (cases_lt (length bytes) end)
  where
    past : length bytes < end → drop end (bytes ++ replicate (end - length bytes) 0) ≡ drop end bytes
    past lt =
        drop_all end (bytes ++ replicate (end - length bytes) 0) (omega (arith, lt, length-append bytes (replicate (end - length bytes) 0), length-replicate {A = ℕ} (end - length bytes) 0))
        ∙ sym (drop_all end bytes (omega (arith, lt)))

    inside : end ≤ length bytes → drop end (bytes ++ replicate (end - length bytes) 0) ≡ drop end bytes
    inside le =
        let none : end - length bytes ≡ 0 = omega (arith, le) in
        ap (λ (k : ℕ). drop end (bytes ++ replicate k 0)) none ∙ ap (λ (l : List ℕ). drop end l) (append-nil bytes)

pub with_piece_grown : (bytes : List ℕ) (at : ℕ) (piece : List ℕ)
    → take at (bytes ++ replicate (at + length piece - length bytes) 0) ++ piece ++ drop (at + length piece) (bytes ++ replicate (at + length piece - length bytes) 0) ≡ with_piece bytes at piece
with_piece_grown bytes at piece =
    let end = at + length piece in
    let front = take-grown bytes at (end - length bytes) (omega arith) in
    ap (λ (l : List ℕ). l ++ piece ++ drop end (bytes ++ replicate (end - length bytes) 0)) front
    ∙ ap (λ (l : List ℕ). take at bytes ++ replicate (at - length bytes) 0 ++ piece ++ l) (drop-grown bytes end)

-- Of bytes of which one range was torn, what stands before the range and behind it stays.
All-one : {X : Type 0} (P : X → Type 0) (x : X) → P x → All P (x ∷ [])
All-one P x holds k d lt = subst P (ap (λ (i : ℕ). get_or (x ∷ []) i d) (sym (let zero : k ≡ 0 = omega (arith, lt) in zero))) holds

module _ (bytes : List ℕ) (at size : ℕ) (image : List ℕ) (torn : IsTorn bytes ((record { at = at; size = size }) ∷ []) image) where
  same : (place : ℕ) → place < length bytes → IsOutside place (record { at = at; size = size }) → get_or image place 0 ≡ get_or bytes place 0
  same place inside outside = torn.stays place inside (All-one (IsOutside place) (record { at = at; size = size }) outside)

  pub torn_front : at ≤ length bytes → take at image ≡ take at bytes
  torn_front le =
      let long = torn.no_shorter in
      ext_get_or 0 (take at image) (take at bytes) (omega (arith, le, long, length-take at image, length-take at bytes))
      (λ i lt.
      let inside : i < at = omega (arith, lt, length-take at image) in
      get_or-take at image i 0 inside ∙ same i (omega (arith, inside, le)) (inl inside) ∙ sym (get_or-take at bytes i 0 inside))

  pub torn_back : length image ≡ length bytes → drop (at + size) image ≡ drop (at + size) bytes
  torn_back long =
      ext_get_or 0 (drop (at + size) image) (drop (at + size) bytes) (omega (arith, long, length-drop (at + size) image, length-drop (at + size) bytes))
      (λ i lt.
      let inside : at + size + i < length bytes = omega (arith, lt, long, length-drop (at + size) image) in
      get_or-drop (at + size) image i 0 ∙ same (at + size + i) inside (inr (omega arith)) ∙ sym (get_or-drop (at + size) bytes i 0))

-- Time.
pub state-before : (past : DiskPast) (state : DiskState) (moment : ℕ) → moment ≤ clock past → state_at (followed_by past state) moment ≡ state_at past moment
state-before past state moment early = ⊎_elim sooner last (cases_lt moment (clock past))
  where
    sooner : moment < clock past → state_at (followed_by past state) moment ≡ state_at past moment
    sooner lt = get_or_append_left past.before (past.now ∷ []) state moment lt ∙ get_or_default past.before moment state past.now lt

    last : clock past ≤ moment → state_at (followed_by past state) moment ≡ state_at past moment
    last le =
        let is : length past.before ≡ moment = omega (arith, le, early) in
        get_or_push past.before past.now state moment is ∙ sym (get_or_past past.before moment past.now (omega (arith, is)))

pub state-last : (past : DiskPast) (state : DiskState) (moment : ℕ) → clock past < moment → state_at (followed_by past state) moment ≡ state
state-last past state moment late =
    get_or_past (past.before ++ past.now ∷ []) moment state (omega (arith, late, length-append past.before (past.now ∷ [])))

-- the present is the last moment
pub left_now : (past : DiskPast) (image : List ℕ) → images_since past (clock past) image → IsImage past.now image
left_now past image left =
    subst (λ (s : DiskState). IsImage s image) (get_or_past past.before left.0 past.now (left.1)) left.3

-- one state more
pub left-then : (past : DiskPast) (state : DiskState) (since : ℕ) (image : List ℕ) → images_since (followed_by past state) since image
    → images_since past since image ⊎ IsImage state image
left-then past state since image left = ⊎_elim
    (λ (lt : clock past < left.0). inr (subst (λ (s : DiskState). IsImage s image) (state-last past state left.0 lt) left.3))
    (λ (le : left.0 ≤ clock past). inl (left.0, left.1, le, subst (λ (s : DiskState). IsImage s image) (state-before past state left.0 le) left.3))
    (cases_lt (clock past) left.0)

-- Runs of calls: none yet.
pub started : (past : DiskPast) (P : List ℕ → Type 0) → ((image : List ℕ) → IsImage past.now image → P image) → LeavesOnly past past P
started past P here = record { later = omega arith; each = λ image left. here image (left_now past image left); before = λ since image le left. inl left }

-- a call more that leads to one state more
pub goes_on : (old mid new : DiskPast) (state : DiskState) (P : List ℕ → Type 0) → LeavesOnly old mid P → new ≡ followed_by mid state
    → ((image : List ℕ) → IsImage state image → P image) → LeavesOnly old new P
goes_on old mid new state P so_far is here = subst (λ (past : DiskPast). LeavesOnly old past P) (sym is) more
  where
    more : LeavesOnly old (followed_by mid state) P
    more = record {
      later = omega (arith, so_far.later, length-append mid.before (mid.now ∷ []));
      each = λ image left. ⊎_elim (so_far.each image) (here image) (left-then mid state (clock old) image left);
      before = λ since image le left. ⊎_elim (so_far.before since image le) (λ now. inr (here image now)) (left-then mid state since image left);
    }

-- a call more that changes nothing
pub stands_still : (old mid new : DiskPast) (P : List ℕ → Type 0) → LeavesOnly old mid P → new ≡ mid → LeavesOnly old new P
stands_still old mid new P so_far is = subst (λ (past : DiskPast). LeavesOnly old past P) (sym is) so_far
