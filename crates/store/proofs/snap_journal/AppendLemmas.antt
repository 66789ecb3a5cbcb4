-- The four calls on the disk that add a record, one after another.
use Rattle.std.proofs.Common.{◌≡◌, ◌≢◌, inl, inr, ℕ, zero, suc, ◌+◌, ◌-◌, ◌^◌, ◌<◌, ◌≤◌, List, [], ◌∷◌, ◌++◌, length, take, drop, refl, sym, ap, ◌∙◌, subst, arith, length-append}
use Rattle.std.specs.Prelude.{true, false}
use Rattle.gl_outside.specs.Faults.{Rose}
use Rattle.std.proofs.lemmas.Bool.{cases_eq}
use Rattle.std.proofs.lemmas.List.{append_assoc, append-nil, take-append-le, take_all}
use Rattle.gl_outside.specs.Disk.{ByteRange, DiskPast, DiskState, FailsToWrite, IsImage, IsTorn, LeavesOnly, after_sync, after_write, followed_by, with_piece}
use Rattle.gl_outside.proofs.Disks.{started, goes_on, stands_still}
use Rattle.store.specs.declared.store_format.header.Header.{Header}
use Rattle.store.specs.store_format.Bodies.{IsBody}
use Rattle.store.specs.store_format.Records.{stored_bytes}
use Rattle.store.specs.store_format.Stores.{DecodesTo, stored_in, records_size, IsBeforeOrAfter}
use Rattle.store.proofs.store_format.ReadLemmas.{IsStored}
use Rattle.store.proofs.store_format.StoreLemmas.{IsBase, based, stands_closed, stands_open, stands_of, stored_are, ok_from, with_length, stored_bytes-split, length-stored_bytes, stored_body}
use Rattle.store.specs.snap_journal.Inner.Found.{IsFound}
use Rattle.store.specs.snap_journal.Inner.Settled.{IsAtRest, IsSettled, FollowsOn, body_between}
use Rattle.store.proofs.snap_journal.ImageLemmas.{torn_behind, torn_gate, written_behind, written_gate}

none_written : (ranges : List ByteRange) → length ranges ≡ 0 → ranges ≡ []
none_written [] none = refl
none_written (range ∷ ranges) none = absurd (omega arith)

pub rest_leaves : (now : DiskState) (bytes image : List ℕ) → IsAtRest now bytes → IsImage now image → image ≡ bytes
rest_leaves now bytes image rests left = leaves now.written (none_written now.written rests.quiet) left ∙ rests.synced
  where
    leaves : (ranges : List ByteRange) → ranges ≡ [] → IsImage (record { seen = now.seen; synced = now.synced; written = ranges }) image → image ≡ now.synced
    leaves ranges none left =
        let P : List ByteRange → Type 0 = λ rs. IsImage (record { seen = now.seen; synced = now.synced; written = rs }) image in
        subst P none left

pub after_sync_rests : (now : DiskState) (bytes : List ℕ) → now.seen ≡ bytes → IsAtRest (after_sync now) bytes
after_sync_rests now bytes is = record { seen = is; synced = is; quiet = refl }

-- what a crash leaves of a disk at rest and one write
torn_once : (now : DiskState) (at size : ℕ) (seen bytes image : List ℕ) → IsAtRest now bytes → IsImage (after_write now at size seen) image → IsTorn bytes ((record { at = at; size = size }) ∷ []) image
torn_once now at size seen bytes image rests left =
    let P : List ByteRange → Type 0 = λ rs. IsImage (record { seen = seen; synced = now.synced; written = rs ++ (record { at = at; size = size }) ∷ [] }) image in
    let once : IsTorn now.synced ((record { at = at; size = size }) ∷ []) image = subst P (none_written now.written rests.quiet) left in
    subst (λ (b : List ℕ). IsTorn b ((record { at = at; size = size }) ∷ []) image) rests.synced once

-- What is known as a record is added: these bytes stand for the snapshots, and this record follows their gate.
pub record Setup (header : Header) (count place : ℕ) (start : DiskPast) (body piece : List ℕ) : Type 0 where
  pub base : List ℕ
  pub gate : ℕ
  pub more : List ℕ
  pub rests : IsAtRest start.now (base ++ gate ∷ more)
  pub is_base : IsBase header (stored_in header start.now.seen) base
  pub closed : gate ≢ 1
  pub place_is : place ≡ length base
  pub count_is : count ≡ length (stored_in header start.now.seen)
  pub whole : IsStored header (1 + length (stored_in header start.now.seen)) (with_length body)
  pub piece_is : piece ≡ with_length body ++ 0 ∷ []
  pub size : length piece ≡ 9 + length body

pub setup : (header : Header) (count place : ℕ) (start : DiskPast) (body piece : List ℕ) → IsSettled header count place start → FollowsOn header count piece → body ≡ body_between piece → length piece < 2 ^ 64 → Setup header count place start body piece
setup header count place start body piece settled follows body_is fits =
    let seen = start.now.seen in
    let bodies = stored_in header seen in
    let is = based header bodies seen (stands_of header seen settled.reads) in
    let bytes : piece ≡ stored_bytes body = follows.bytes ∙ ap stored_bytes (sym body_is) in
    let size : length piece ≡ 9 + length body = ap (length {A = ℕ}) bytes ∙ length-stored_bytes body in
    let form : IsBody header (1 + count) body = subst (IsBody header (1 + count)) (sym body_is) follows.form in
    let number : 1 + count ≡ 1 + length bodies = ap (λ (n : ℕ). 1 + n) settled.counts in
    record {
      base = is.base;
      gate = is.gate;
      more = is.more;
      rests = record { seen = is.is; synced = settled.synced ∙ is.is; quiet = settled.quiet };
      is_base = is.is_base;
      closed = is.closed;
      place_is = settled.place ∙ sym is.is_base.size;
      count_is = settled.counts;
      whole = stored_body header (1 + length bodies) body (subst (λ (n : ℕ). IsBody header n body) number form) (omega (arith, size));
      piece_is = bytes ∙ stored_bytes-split body;
      size = size;
    }

not_open : (gate : ℕ) → gate ≡ 0 → gate ≢ 1
not_open gate is one = omega arith

module _ (header : Header) (count place : ℕ) (start : DiskPast) (body piece : List ℕ) (is : Setup header count place start body piece) where
  abbrev bodies : List (List ℕ)
  bodies = stored_in header start.now.seen

  -- before or after
  abbrev pub Kept : List ℕ → Type 0
  Kept image = IsBeforeOrAfter header bodies body image

  -- what a read gives once the record is written, with its gate still closed
  abbrev staged : List ℕ
  staged = is.base ++ is.gate ∷ (piece ++ drop (length piece) is.more)

  -- and with it open
  abbrev opened : List ℕ
  opened = is.base ++ 1 ∷ (piece ++ drop (length piece) is.more)

  kept_closed : (gate : ℕ) (more : List ℕ) → gate ≢ 1 → Kept (is.base ++ gate ∷ more)
  kept_closed gate more closed = inl (stands_closed header bodies is.base gate more is.is_base closed)

  stands_after : (more : List ℕ) → DecodesTo header (bodies ++ body ∷ []) (is.base ++ 1 ∷ (piece ++ more))
  stands_after more =
      let open_one = stands_open header bodies is.base (with_length body) 0 more is.is_base is.whole (not_open 0 refl) in
      let same : with_length body ++ 0 ∷ more ≡ piece ++ more = sym (append_assoc (with_length body) (0 ∷ []) more) ∙ ap (λ (l : List ℕ). l ++ more) (sym is.piece_is) in
      subst (λ (l : List ℕ). DecodesTo header (bodies ++ body ∷ []) (is.base ++ 1 ∷ l)) same open_one

  kept_gate : (gate : ℕ) (more : List ℕ) → Kept (is.base ++ gate ∷ (piece ++ more))
  kept_gate gate more = elim (cases_eq gate 1) [
    | inl one ↦ subst (λ (g : ℕ). Kept (is.base ++ g ∷ (piece ++ more))) (sym one) (inr (stands_after more))
    | inr closed ↦ kept_closed gate (piece ++ more) closed
  ]

  first_image : (image : List ℕ) → IsImage start.now image → Kept image
  first_image image left = subst Kept (sym (rest_leaves start.now (is.base ++ is.gate ∷ is.more) image is.rests left)) (kept_closed is.gate is.more is.closed)

  -- nothing was done yet
  pub nothing_done : LeavesOnly start start Kept
  nothing_done = started start Kept first_image

  piece_image : (at : ℕ) (seen image : List ℕ) → at ≡ place + 1 → IsImage (after_write start.now at (length piece) seen) image → Kept image
  piece_image at seen image at_is left =
      let here : at ≡ length is.base + 1 = at_is ∙ ap (λ (n : ℕ). n + 1) is.place_is in
      let torn = torn_once start.now at (length piece) seen (is.base ++ is.gate ∷ is.more) image is.rests left in
      let torn_here : IsTorn (is.base ++ is.gate ∷ is.more) ((record { at = length is.base + 1; size = length piece }) ∷ []) image =
      subst (λ (n : ℕ). IsTorn (is.base ++ is.gate ∷ is.more) ((record { at = n; size = length piece }) ∷ []) image) here torn in
      subst Kept (sym (torn_behind is.base is.gate is.more (length piece) image torn_here)) (kept_closed is.gate (drop (length is.base + 1) image) is.closed)

  -- the write of the record failed
  pub write_failed : (at : ℕ) (mid : DiskPast) → at ≡ place + 1 → FailsToWrite start at (length piece) mid → LeavesOnly start mid Kept
  write_failed at mid at_is (inl same) = stands_still start start mid Kept nothing_done same
  write_failed at mid at_is (inr (seen, torn, next)) = goes_on start start mid (after_write start.now at (length piece) seen) Kept nothing_done next (λ image left. piece_image at seen image at_is left)

  -- it was written
  pub record IsWritten (mid : DiskPast) : Type 0 where
    pub leaves : LeavesOnly start mid Kept
    pub seen : mid.now.seen ≡ staged

  pub written : (at : ℕ) (mid : DiskPast) → at ≡ place + 1 → mid ≡ followed_by start (after_write start.now at (length piece) (with_piece start.now.seen at piece)) → IsWritten mid
  written at mid at_is next = record {
    leaves = goes_on start start mid (after_write start.now at (length piece) (with_piece start.now.seen at piece)) Kept nothing_done next (λ image left. piece_image at (with_piece start.now.seen at piece) image at_is left);
    seen = ap (λ (p : DiskPast). p.now.seen) next
        ∙ ap (λ (l : List ℕ). with_piece l at piece) is.rests.seen
        ∙ ap (λ (n : ℕ). with_piece (is.base ++ is.gate ∷ is.more) n piece) (at_is ∙ ap (λ (n : ℕ). n + 1) is.place_is)
        ∙ written_behind is.base is.gate is.more piece;
  }

  -- and synced
  pub record IsStaged (mid : DiskPast) : Type 0 where
    pub leaves : LeavesOnly start mid Kept
    pub rests : IsAtRest mid.now staged

  pub synced : (mid next : DiskPast) → IsWritten mid → next ≡ followed_by mid (after_sync mid.now) → IsStaged next
  synced mid next was is_next =
      let rests = after_sync_rests mid.now staged was.seen in
      record {
        leaves = goes_on start mid next (after_sync mid.now) Kept was.leaves is_next
            (λ image left. subst Kept (sym (rest_leaves (after_sync mid.now) staged image rests left)) (kept_closed is.gate (piece ++ drop (length piece) is.more) is.closed));
        rests = subst (λ (p : DiskPast). IsAtRest p.now staged) (sym is_next) rests;
      }

  pub sync_failed : (mid next : DiskPast) → IsWritten mid → next ≡ mid → LeavesOnly start next Kept
  sync_failed mid next was same = stands_still start mid next Kept was.leaves same

  gate_image : (at : ℕ) (mid : DiskPast) (seen image : List ℕ) → at ≡ place → IsStaged mid → IsImage (after_write mid.now at 1 seen) image → Kept image
  gate_image at mid seen image at_is was left =
      let torn = torn_once mid.now at 1 seen staged image was.rests left in
      let torn_here : IsTorn staged ((record { at = length is.base; size = 1 }) ∷ []) image =
      subst (λ (n : ℕ). IsTorn staged ((record { at = n; size = 1 }) ∷ []) image) (at_is ∙ is.place_is) torn in
      let parts = torn_gate is.base is.gate (piece ++ drop (length piece) is.more) image torn_here in
      let whole : image ≡ is.base ++ parts.0 ∷ (piece ++ (drop (length piece) is.more ++ parts.1)) = parts.2 ∙ ap (λ (l : List ℕ). is.base ++ parts.0 ∷ l) (append_assoc piece (drop (length piece) is.more) parts.1) in
      subst Kept (sym whole) (kept_gate parts.0 (drop (length piece) is.more ++ parts.1))

  -- the write of the gate failed
  pub gate_failed : (at : ℕ) (mid next : DiskPast) → at ≡ place → IsStaged mid → FailsToWrite mid at 1 next → LeavesOnly start next Kept
  gate_failed at mid next at_is was (inl same) = stands_still start mid next Kept was.leaves same
  gate_failed at mid next at_is was (inr (seen, torn, is_next)) = goes_on start mid next (after_write mid.now at 1 seen) Kept was.leaves is_next (λ image left. gate_image at mid seen image at_is was left)

  -- it was written
  pub record IsOpened (mid : DiskPast) : Type 0 where
    pub leaves : LeavesOnly start mid Kept
    pub seen : mid.now.seen ≡ opened

  pub gate_written : (at : ℕ) (mid next : DiskPast) → at ≡ place → IsStaged mid → next ≡ followed_by mid (after_write mid.now at 1 (with_piece mid.now.seen at (1 ∷ []))) → IsOpened next
  gate_written at mid next at_is was is_next = record {
    leaves = goes_on start mid next (after_write mid.now at 1 (with_piece mid.now.seen at (1 ∷ []))) Kept was.leaves is_next (λ image left. gate_image at mid (with_piece mid.now.seen at (1 ∷ [])) image at_is was left);
    seen = ap (λ (p : DiskPast). p.now.seen) is_next
        ∙ ap (λ (l : List ℕ). with_piece l at (1 ∷ [])) was.rests.seen
        ∙ ap (λ (n : ℕ). with_piece staged n (1 ∷ [])) (at_is ∙ is.place_is)
        ∙ written_gate is.base is.gate (piece ++ drop (length piece) is.more);
  }

  pub open_failed : (mid next : DiskPast) → IsOpened mid → next ≡ mid → LeavesOnly start next Kept
  open_failed mid next was same = stands_still start mid next Kept was.leaves same

  -- the record is on the disk
  pub record IsAdded (mid : DiskPast) : Type 0 where
    pub leaves : LeavesOnly start mid Kept
    pub snapshots : stored_in header mid.now.seen ≡ bodies ++ body ∷ []
    pub durable : (image : List ℕ) → IsImage mid.now image → DecodesTo header (bodies ++ body ∷ []) image
    pub settled : IsSettled header (count + 1) (place + length piece) mid

  pub added : (mid next : DiskPast) → IsOpened mid → next ≡ followed_by mid (after_sync mid.now) → IsAdded next
  added mid next was is_next =
      let stands = stands_after (drop (length piece) is.more) in
      let rests = after_sync_rests mid.now opened was.seen in
      let now : IsAtRest next.now opened = subst (λ (p : DiskPast). IsAtRest p.now opened) (sym is_next) rests in
      let here : DecodesTo header (bodies ++ body ∷ []) next.now.seen = subst (DecodesTo header (bodies ++ body ∷ [])) (sym now.seen) stands in
      let stored : stored_in header next.now.seen ≡ bodies ++ body ∷ [] = stored_are header next.now.seen (bodies ++ body ∷ []) here in
      let size = is.is_base.size in
      let more : records_size (bodies ++ body ∷ []) ≡ records_size bodies + (9 + length body) = one_more bodies body in
      record {
        leaves = goes_on start mid next (after_sync mid.now) Kept was.leaves is_next (λ image left. subst Kept (sym (rest_leaves (after_sync mid.now) opened image rests left)) (inr stands));
        snapshots = stored;
        durable = λ image left. subst (DecodesTo header (bodies ++ body ∷ [])) (sym (rest_leaves next.now opened image now left)) stands;
        settled = record {
          reads = ok_from header next.now.seen (bodies ++ body ∷ []) here;
          counts = omega (arith, is.count_is, ap (length {A = List ℕ}) stored, length-append bodies (body ∷ []));
          place = omega (arith, is.place_is, size, more, is.size, ap records_size stored);
          synced = now.synced ∙ sym now.seen;
          quiet = now.quiet;
        };
      }
    where
      one_more : (bodies : List (List ℕ)) (body : List ℕ) → records_size (bodies ++ body ∷ []) ≡ records_size bodies + (9 + length body)
      one_more [] body = omega arith
      one_more (first ∷ bodies) body =
          let rest = one_more bodies body in
          let a : records_size (first ∷ (bodies ++ body ∷ [])) ≡ 9 + length first + records_size (bodies ++ body ∷ []) = refl in
          let b : records_size (first ∷ bodies) ≡ 9 + length first + records_size bodies = refl in
          omega arith

-- a journal at rest stands for its snapshots whatever a crash leaves
pub settled_leaves : (header : Header) (count place : ℕ) (start : DiskPast) → IsSettled header count place start → (image : List ℕ) → IsImage start.now image → DecodesTo header (stored_in header start.now.seen) image
settled_leaves header count place start settled image left =
    let rests : IsAtRest start.now start.now.seen = record { seen = refl; synced = settled.synced; quiet = settled.quiet } in
    subst (DecodesTo header (stored_in header start.now.seen)) (sym (rest_leaves start.now start.now.seen image rests left)) (stands_of header start.now.seen settled.reads)

-- a count that rose later rose
pub rose_after : (before mid now : ℕ) → before ≤ mid → Rose mid now → Rose before now
rose_after before mid now le rose = λ small. let h = rose small in omega (arith, le, h)

-- what does not hold of a journal that has failed need not be known
pub not_well : {P : Type 0} → true ≡ false → P
not_well e = absurd (cc)

-- the body in the bytes of a record
pub body_again : (piece body : List ℕ) → piece ≡ stored_bytes body → body_between piece ≡ body
body_again piece body is =
    let size : length piece - 9 ≡ length body = omega (arith, ap (length {A = ℕ}) is, length-stored_bytes body) in
    let behind : drop 8 piece ≡ body ++ 0 ∷ [] = ap (drop 8) is in
    ap (λ (n : ℕ). take n (drop 8 piece)) size ∙ ap (take (length body)) behind
    ∙ take-append-le (length body) body (0 ∷ []) (omega arith) ∙ take_all (length body) body (omega arith)

pub follows_on : (header : Header) (count : ℕ) (piece body : List ℕ) → piece ≡ stored_bytes body → IsBody header (1 + count) body → FollowsOn header count piece
follows_on header count piece body is form =
    let same = body_again piece body is in
    record { bytes = is ∙ ap stored_bytes (sym same); form = subst (IsBody header (1 + count)) (sym same) form }

-- a piece that is written where nothing stands
pub fresh_piece : (seen piece : List ℕ) → length seen ≡ 0 → with_piece seen 0 piece ≡ piece
fresh_piece [] piece none = nothing_behind piece (0 + length piece)
  where
    nothing_behind : (piece : List ℕ) (n : ℕ) → piece ++ drop n [] ≡ piece
    nothing_behind piece zero = append-nil piece
    nothing_behind piece (suc n) = append-nil piece
fresh_piece (byte ∷ seen) piece none = absurd (omega arith)

-- a sync leaves what a read gave, which is what a crash might have left before
pub synced_once : (old mid new : DiskPast) → mid ≡ followed_by old (after_sync old.now) → new ≡ mid → IsImage old.now old.now.seen → LeavesOnly old new (IsImage old.now)
synced_once old mid new is same image =
    let rests = after_sync_rests old.now old.now.seen refl in
    let run = goes_on old old mid (after_sync old.now) (IsImage old.now) (started old (IsImage old.now) (λ i left. left)) is
    (λ i left. subst (IsImage old.now) (sym (rest_leaves (after_sync old.now) old.now.seen i rests left)) image) in
    stands_still old mid new (IsImage old.now) run same

pub not_synced : (old new : DiskPast) → new ≡ old → LeavesOnly old new (IsImage old.now)
not_synced old new same = stands_still old old new (IsImage old.now) (started old (IsImage old.now) (λ i left. left)) same

pub synced_rests : (old mid new : DiskPast) → mid ≡ followed_by old (after_sync old.now) → new ≡ mid → IsAtRest new.now old.now.seen
synced_rests old mid new is same =
    let rests = after_sync_rests old.now old.now.seen refl in
    subst (λ (p : DiskPast). IsAtRest p.now old.now.seen) (sym (same ∙ is)) rests

pub synced_seen : (old mid new : DiskPast) → mid ≡ followed_by old (after_sync old.now) → new ≡ mid → new.now.seen ≡ old.now.seen
synced_seen old mid new is same = ap (λ (p : DiskPast). p.now.seen) (same ∙ is)

-- what was found of a disk at rest is what a journal knows
pub found_settled : (header : Header) (count gate : ℕ) (now : DiskPast) (seen : List ℕ) → IsFound header now.now.seen count gate → IsAtRest now.now seen → IsSettled header count gate now
found_settled header count gate now seen found rests = record {
  reads = found.reads;
  counts = found.counts;
  place = found.place;
  synced = rests.synced ∙ sym rests.seen;
  quiet = rests.quiet;
}
