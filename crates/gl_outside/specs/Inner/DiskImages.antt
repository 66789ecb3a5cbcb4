-- A disk in memory, as it reads, is one of its images. A law's proof may cite `specs/` alone; there is nothing to be
-- believed in this file.
use Rattle.std.specs.Prelude.{◌≡◌, ℕ, ◌+◌, ◌-◌, ◌<◌, ◌≤◌, List, [], ◌∷◌, ◌++◌, length, take, drop, replicate, slice_index, All, fold}
use Rattle.std.proofs.Common.{inl, inr, refl, ap, ◌∙◌, subst, get_or, arith, length-append}
use Rattle.std.proofs.lemmas.List.{get_or_append_left, get_or_push, get_or-take, get_or-drop, get_or-append_right, length-replicate, length-take, length-drop}
use Rattle.gl_outside.specs.Disk.{ByteRange, DiskPast, IsOutside, IsTorn, MayLeave, at_rest, images_now, with_piece}
use Rattle.gl_outside.specs.MemDisk.{KeptDisk, after_disk_call, past_of}
use Rattle.gl_outside.specs.declared.disk_bytes.DiskCall.{DiskCall}
use Rattle.gl_outside.specs.declared.disk_bytes.DiskCall.TheVariants.{Wrote, Synced}

All-front : {X : Type 0} (P : X → Type 0) (xs : List X) (x : X) → All P (xs ++ x ∷ []) → All P xs
All-front P xs x all k d lt = subst P (get_or_append_left xs (x ∷ []) d k lt) (all k d (omega (arith, lt, length-append xs (x ∷ []))))

All-at_end : {X : Type 0} (P : X → Type 0) (xs : List X) (x : X) → All P (xs ++ x ∷ []) → P x
All-at_end P xs x all = subst P (get_or_push xs x x (length xs) refl) (all (length xs) x (omega (arith, length-append xs (x ∷ []))))

-- the bytes outside a written range stay
pub with_piece_outside : (bytes : List ℕ) (at : ℕ) (piece : List ℕ) (place : ℕ) → place < length bytes → IsOutside place (record { at = at; size = length piece }) → slice_index (with_piece bytes at piece) place ≡ slice_index bytes place
with_piece_outside bytes at piece place inside (inl before) =
    let front = take at bytes ++ replicate (at - length bytes) 0 in
    let in_take : place < length (take at bytes) = omega (arith, before, inside, length-take at bytes) in
    let in_front : place < length (take at bytes ++ replicate (at - length bytes) 0) = omega (arith, in_take, length-append (take at bytes) (replicate (at - length bytes) 0)) in
    let in_piece : place < length (front ++ piece) = omega (arith, in_front, length-append front piece) in
    get_or_append_left (front ++ piece) (drop (at + length piece) bytes) 0 place in_piece
    ∙ get_or_append_left front piece 0 place in_front
    ∙ get_or_append_left (take at bytes) (replicate (at - length bytes) 0) 0 place in_take
    ∙ get_or-take at bytes place 0 before
with_piece_outside bytes at piece place inside (inr behind) =
    let front = take at bytes ++ replicate (at - length bytes) 0 in
    let size : length (front ++ piece) ≡ at + length piece =
    omega (arith, behind, inside, length-take at bytes, length-append (take at bytes) (replicate (at - length bytes) 0), length-append front piece, length-replicate {A = ℕ} (at - length bytes) 0) in
    let sum : at + length piece + (place - (at + length piece)) ≡ place = omega (arith, behind) in
    get_or-append_right (front ++ piece) (drop (at + length piece) bytes) (at + length piece) place 0 size behind
    ∙ get_or-drop (at + length piece) bytes (place - (at + length piece)) 0
    ∙ ap (λ (k : ℕ). get_or bytes k 0) sum

pub length-with_piece : (bytes : List ℕ) (at : ℕ) (piece : List ℕ) → length bytes ≤ length (with_piece bytes at piece)
length-with_piece bytes at piece =
    let front = take at bytes ++ replicate (at - length bytes) 0 in
    omega (arith, length-take at bytes, length-append (take at bytes) (replicate (at - length bytes) 0), length-append front piece, length-replicate {A = ℕ} (at - length bytes) 0, length-append (front ++ piece) (drop (at + length piece) bytes), length-drop (at + length piece) bytes)

-- what a read gives may be left
abbrev ReadsAnImage : DiskPast → Type 0
ReadsAnImage past = images_now past past.now.seen

torn_more : (synced : List ℕ) (ranges : List ByteRange) (seen : List ℕ) (at : ℕ) (piece : List ℕ) → IsTorn synced ranges seen → IsTorn synced (ranges ++ (record { at = at; size = length piece }) ∷ []) (with_piece seen at piece)
torn_more synced ranges seen at piece torn =
    let long = torn.no_shorter in
    record {
      no_shorter = omega (arith, long, length-with_piece seen at piece);
      stays = λ place inside outside.
          with_piece_outside seen at piece place (omega (arith, inside, long)) (All-at_end (IsOutside place) ranges (record { at = at; size = length piece }) outside)
          ∙ torn.stays place inside (All-front (IsOutside place) ranges (record { at = at; size = length piece }) outside);
    }

no_ranges : (synced seen : List ℕ) → seen ≡ synced → IsTorn synced [] seen
no_ranges synced seen same = record { no_shorter = omega (arith, ap (length {A = ℕ}) same); stays = λ place inside outside. ap (λ (l : List ℕ). slice_index l place) same }

wrote_image : (ranges : List ByteRange) (synced seen : List ℕ) (at : ℕ) (piece : List ℕ) → MayLeave synced ranges seen → MayLeave synced (ranges ++ (record { at = at; size = length piece }) ∷ []) (with_piece seen at piece)
wrote_image [] synced seen at piece same = torn_more synced [] seen at piece (no_ranges synced seen same)
wrote_image (range ∷ ranges) synced seen at piece torn = torn_more synced (range ∷ ranges) seen at piece torn

call_image : (past : DiskPast) (call : DiskCall) → ReadsAnImage past → ReadsAnImage (after_disk_call past call)
call_image past (Wrote at piece) is = wrote_image past.now.written past.now.synced past.now.seen at piece.items is
call_image past Synced is = refl

calls_image : (calls : List DiskCall) (past : DiskPast) → ReadsAnImage past → ReadsAnImage (fold after_disk_call past calls)
calls_image [] past is = is
calls_image (call ∷ calls) past is = calls_image calls (after_disk_call past call) (call_image past call is)

pub kept_image : (disk : KeptDisk) → ReadsAnImage (past_of disk)
kept_image disk = calls_image disk.done (at_rest disk.first) refl
