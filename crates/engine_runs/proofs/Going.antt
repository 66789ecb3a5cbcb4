-- A call goes on with its store.
use Rattle.std.proofs.Common.{◌≡◌, ℕ, ◌+◌, ◌∙◌, List, [], ◌∷◌, ◌++◌, length, length-append, refl, sym, ap, subst, ⊎_elim, append_assoc, le_refl, arith}
use Rattle.std.proofs.lemmas.List.{append-nil, get_or_past}
use Rattle.gl_outside.specs.Disk.{DiskState, clock, images_since, state_at}
use Rattle.engine_runs.proofs.append.Images.{leaves_more}
use Rattle.store.specs.snap_journal.Formats.{stored_in}
use Rattle.std.specs.Prelude.{false, suc}
use Rattle.gl_base.specs.declared.entries.Entry.{Entry}
use Rattle.gl_base.specs.declared.jobs.FailureAt.{FailureAt}
use Rattle.engine_runs.specs.append.Appends.{HasOneMore, IsGoodImage}
use Rattle.cluster_laws.specs.cluster_runs.Attempts.{Shared}
use Rattle.recovery.proofs.Goodness.{orders_more}
use Rattle.recovery.specs.GoodStores.{IsGoodStore}
use Rattle.store.specs.snap_journal.Formats.{DecodesTo, body_entries, order_behind, with_entries}
use Rattle.store.specs.snap_journal.Journals.{AllDecodeTo}
use Rattle.engine_runs.specs.answers.Lines.{IsLineOf}
use Rattle.engine_runs.specs.declared.answers.runs.SnapLine.{SnapLine}
use Rattle.engine_runs.proofs.Lines.{one_line_more}
use Rattle.engine_runs.proofs.Moments.{then_leaves}
use Rattle.engine_runs.specs.Calls.{AreSnapLines, CallOpening, DiskPast, Header, HoldsGood, IsCallAt, IsImage, IsKnownAt, JournalState, LeavesOnly, Setting, orders_behind, shared_of, snapshots_in, stored_order}
use Rattle.engine_runs.specs.declared.calls.StoredCall.{StoredCall}
use Rattle.update_api.specs.Updates.{Update}

-- ---- images that begin with the snapshots of a store

-- what begins with more begins with the first of it
begins_less : (shared : Shared) (header : Header) (start added : List (List ℕ)) (image : List ℕ) → HoldsGood shared header (start ++ added) image → HoldsGood shared header start image
begins_less shared header start added image holds =
    let same : (start ++ added) ++ holds.behind ≡ start ++ (added ++ holds.behind) = append_assoc start added holds.behind in
    record {
      behind = added ++ holds.behind;
      stands = subst (λ (bodies : List (List ℕ)). DecodesTo header bodies image) same holds.stands;
      good = subst (λ (bodies : List (List ℕ)). IsGoodStore shared header bodies) same holds.good;
    }

-- the image of a good store with one snapshot more, or without, begins with these
pub either_begins : (shared : Shared) (header : Header) (bodies : List (List ℕ)) (image : List ℕ) → IsGoodImage shared header bodies image → HoldsGood shared header bodies image
either_begins shared header bodies image is = ⊎_elim
    (λ (same : is.stored ≡ bodies).
    let whole : is.stored ≡ bodies ++ [] = same ∙ sym (append-nil bodies) in
    record {
      behind = [];
      stands = subst (λ (these : List (List ℕ)). DecodesTo header these image) whole is.is;
      good = subst (λ (these : List (List ℕ)). IsGoodStore shared header these) whole is.good;
    })
    (λ (more : (body : List ℕ) × (is.stored ≡ bodies ++ body ∷ [])).
    record {
      behind = more.0 ∷ [];
      stands = subst (λ (these : List (List ℕ)). DecodesTo header these image) more.1 is.is;
      good = subst (λ (these : List (List ℕ)). IsGoodStore shared header these) more.1 is.good;
    })
    is.either

-- what stands for a good store begins with its snapshots
pub all_begin : (shared : Shared) (header : Header) (bodies : List (List ℕ)) (now : DiskPast) → IsGoodStore shared header bodies → AllDecodeTo header bodies now →
    (image : List ℕ) → IsImage now.now image → HoldsGood shared header bodies image
all_begin shared header bodies now good all image is =
    record {
      behind = [];
      stands = subst (λ (these : List (List ℕ)). DecodesTo header these image) (sym (append-nil bodies)) (all image is);
      good = subst (λ (these : List (List ℕ)). IsGoodStore shared header these) (sym (append-nil bodies)) good;
    }

-- ---- the present

now_last : (past : DiskPast) → state_at past (clock past) ≡ past.now
now_last past = get_or_past past.before (clock past) past.now (le_refl (clock past))

abbrev stored_as : Header → DiskPast → List (List ℕ)
stored_as header past = stored_in header past.now.seen

-- ---- one snapshot more

order_join : (order : List Entry) (xs ys : List (List ℕ)) → order_behind order (xs ++ ys) ≡ order_behind (order_behind order xs) ys
order_join order [] ys = refl
order_join order (x ∷ xs) ys = order_join (with_entries order (body_entries x)) xs ys

orders_long : (order : List Entry) (xs : List (List ℕ)) → length (orders_behind order xs) ≡ length xs
orders_long order [] = refl
orders_long order (x ∷ xs) = ap suc (orders_long (with_entries order (body_entries x)) xs)

module _ {D P : Type 0} (meaning : P → Update) (past : D → DiskPast) (call later : StoredCall P) (journal after : JournalState D) (start : List (List ℕ)) (first : DiskPast) (st : Setting) (o : CallOpening)
    (failures : later.trace.failures ≡ call.trace.failures) (header : after.header ≡ journal.header) (well : journal.failed ≡ false) (at : IsCallAt meaning past call journal start first st o) where
  abbrev shared : Shared
  shared = shared_of st call.trace.failures

  abbrev shared_later : Shared
  shared_later = shared_of st later.trace.failures

  shared_same : shared_later ≡ shared
  shared_same = ap (λ (fs : List FailureAt). shared_of st fs) failures

  abbrev had : List (List ℕ)
  had = start ++ at.added

  had_is : snapshots_in past journal ≡ had
  had_is = at.stored well

  holds_later : (front : List (List ℕ)) (image : List ℕ) → HoldsGood shared journal.header front image → HoldsGood shared_later after.header front image
  holds_later front image holds =
      subst (λ (s : Shared). HoldsGood s after.header front image) (sym shared_same) (subst (λ (h : Header). HoldsGood shared h front image) (sym header) holds)

  moments_later : LeavesOnly first (past after.disk) (HoldsGood shared journal.header start) → LeavesOnly first (past after.disk) (HoldsGood shared_later after.header start)
  moments_later leaves = leaves_more first (past after.disk) (HoldsGood shared journal.header start) (HoldsGood shared_later after.header start) (holds_later start) leaves

  -- the journal's disk stands as it was
  pub still_there : later.snapshots.items ≡ call.snapshots.items → past after.disk ≡ past journal.disk → IsKnownAt meaning later.trace later after.header start had st o →
      IsCallAt meaning past later after start first st o
  still_there lines disk known = record {
    taken = at.taken;
    added = at.added;
    known = known;
    stored = λ ok. ap (λ (h : Header). stored_as h (past after.disk)) header ∙ ap (λ (p : DiskPast). stored_as journal.header p) disk ∙ had_is;
    lines = subst (λ (ls : List SnapLine). AreSnapLines shared_later (suc (length start)) (orders_behind (stored_order start) at.added) ls) (sym lines)
        (subst (λ (s : Shared). AreSnapLines s (suc (length start)) (orders_behind (stored_order start) at.added) call.snapshots.items) (sym shared_same) at.lines);
    any_moment = moments_later (subst (λ (p : DiskPast). LeavesOnly first p (HoldsGood shared journal.header start)) (sym disk) at.any_moment);
    at_end = λ image is. holds_later had image (at.at_end image (subst (λ (p : DiskPast). IsImage p.now image) disk is));
  }

  -- the disk failed as a snapshot was added
  pub fault_there : later.snapshots.items ≡ call.snapshots.items → ((ok : after.failed ≡ false) → ⊥) → LeavesOnly (past journal.disk) (past after.disk) (IsGoodImage shared journal.header (snapshots_in past journal)) →
      IsKnownAt meaning later.trace later after.header start had st o → IsCallAt meaning past later after start first st o
  fault_there lines ill moments known = record {
    taken = at.taken;
    added = at.added;
    known = known;
    stored = λ ok. absurd (ill ok);
    lines = subst (λ (ls : List SnapLine). AreSnapLines shared_later (suc (length start)) (orders_behind (stored_order start) at.added) ls) (sym lines)
        (subst (λ (s : Shared). AreSnapLines s (suc (length start)) (orders_behind (stored_order start) at.added) call.snapshots.items) (sym shared_same) at.lines);
    any_moment = moments_later (then_leaves first (past journal.disk) (past after.disk) _ _ at.any_moment moments (λ image is. begins_less shared journal.header start at.added image (good_now image is)));
    at_end = λ image is. holds_later had image (good_now image (moments.each image (since_now image is)));
  }
    where
      good_now : (image : List ℕ) → IsGoodImage shared journal.header (snapshots_in past journal) image → HoldsGood shared journal.header had image
      good_now image is = either_begins shared journal.header had image (subst (λ (bodies : List (List ℕ)). IsGoodImage shared journal.header bodies image) had_is is)

      since_now : (image : List ℕ) → IsImage (past after.disk).now image → images_since (past after.disk) (clock (past journal.disk)) image
      since_now image is = (clock (past after.disk), moments.later, le_refl (clock (past after.disk)), subst (λ (s : DiskState). IsImage s image) (sym (now_last (past after.disk))) is)

  -- a snapshot was added
  pub one_more : (line : SnapLine) → later.snapshots.items ≡ call.snapshots.items ++ line ∷ [] → (more : HasOneMore past journal after) →
      IsKnownAt meaning later.trace later after.header start (snapshots_in past after) st o → IsGoodStore shared after.header (snapshots_in past after) → AllDecodeTo after.header (snapshots_in past after) (past after.disk) →
      IsLineOf shared (length (snapshots_in past after)) (stored_order (snapshots_in past after)) line →
      LeavesOnly (past journal.disk) (past after.disk) (IsGoodImage shared journal.header (snapshots_in past journal)) → IsCallAt meaning past later after start first st o
  one_more line lines more known good all is_line moments = record {
    taken = at.taken;
    added = more_added;
    known = subst (λ (bodies : List (List ℕ)). IsKnownAt meaning later.trace later after.header start bodies st o) now_is known;
    stored = λ ok. now_is;
    lines = subst (λ (ls : List SnapLine). AreSnapLines shared_later (suc (length start)) (orders_behind (stored_order start) more_added) ls) (sym lines)
        (subst (λ (s : Shared). AreSnapLines s (suc (length start)) (orders_behind (stored_order start) more_added) (call.snapshots.items ++ line ∷ [])) (sym shared_same)
        (subst (λ (os : List (List Entry)). AreSnapLines shared (suc (length start)) os (call.snapshots.items ++ line ∷ [])) (sym (orders_more (stored_order start) at.added body))
        (one_line_more shared (suc (length start)) (orders_behind (stored_order start) at.added) call.snapshots.items _ line at.lines its_line)));
    any_moment = moments_later (then_leaves first (past journal.disk) (past after.disk) _ _ at.any_moment moments (λ image is. begins_less shared journal.header start at.added image
        (either_begins shared journal.header had image (subst (λ (bodies : List (List ℕ)). IsGoodImage shared journal.header bodies image) had_is is))));
    at_end = λ image is. subst (λ (bodies : List (List ℕ)). HoldsGood shared_later after.header bodies image) now_is
        (subst (λ (s : Shared). HoldsGood s after.header (snapshots_in past after) image) (sym shared_same) (all_begin shared after.header (snapshots_in past after) (past after.disk) good all image is));
  }
    where
      body : List ℕ
      body = more.0

      more_added : List (List ℕ)
      more_added = at.added ++ body ∷ []

      now_is : snapshots_in past after ≡ start ++ more_added
      now_is = more.1 ∙ ap (λ (bodies : List (List ℕ)). bodies ++ body ∷ []) had_is ∙ append_assoc start at.added (body ∷ [])

      count_is : length (snapshots_in past after) ≡ suc (length start) + length (orders_behind (stored_order start) at.added)
      count_is =
          let all : length (snapshots_in past after) ≡ length start + length more_added = ap (length {A = List ℕ}) now_is ∙ length-append start more_added in
          let one : length more_added ≡ length at.added + 1 = length-append at.added (body ∷ []) in
          let many : length (orders_behind (stored_order start) at.added) ≡ length at.added = orders_long (stored_order start) at.added in
          omega arith

      order_is : stored_order (snapshots_in past after) ≡ with_entries (order_behind (stored_order start) at.added) (body_entries body)
      order_is = ap stored_order now_is ∙ order_join [] start more_added ∙ order_join (stored_order start) at.added (body ∷ [])

      its_line : IsLineOf shared (suc (length start) + length (orders_behind (stored_order start) at.added)) (with_entries (order_behind (stored_order start) at.added) (body_entries body)) line
      its_line = subst (λ (n : ℕ). IsLineOf shared n (with_entries (order_behind (stored_order start) at.added) (body_entries body)) line) count_is (subst (λ (order : List Entry). IsLineOf shared (length (snapshots_in past after)) order line) order_is is_line)
