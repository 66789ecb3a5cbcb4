-- What word of an update leaves beside what it tells of a snapshot.
use Rattle.std.proofs.Common.{◌≡◌, ℕ, ◌≤◌, ◌||◌, Bool, true, false, true≢false, if◌then◌else◌, List, [], refl, sym, ap, ◌∙◌, subst, arith}
use Rattle.std.specs.Prelude.{nat_lt, slice_get}
use Rattle.std.proofs.lemmas.Bool.{ltb-true, ne_eqb}
use Rattle.gl_base.specs.declared.numbers.Vertex.{Vertex}
use Rattle.gl_base.specs.declared.scopes.Datum.{Datum}
use Rattle.wire.specs.declared.wire_msgs.messages.Done.{Done}
use Rattle.cluster_laws.specs.cluster_core.Effects.{begins, learns, newer_datum}
use Rattle.partition.specs.declared.machine_numbers.keeping.Numbers.{Numbers}
use Rattle.partition.specs.machine_numbers.Steps.{HasLearned}
use Rattle.partition.specs.machine_numbers.Views.{LocalView, TasksView, datum_here, number_told, flag_there, is_in_update, is_own, place_at}
use Rattle.machine_core.specs.declared.machine_parts.cores.Core.{Core}
use Rattle.machine_core.specs.machine_parts.Parts.{Part, pending_here}
use Rattle.machine_core.specs.machine_parts.Settings.{SameSettings}
use Rattle.machine_core.specs.machine_updates.Committing.{HasNoLock}
use Rattle.coordinator.specs.snap_update.Snaps.{IsSameButRoom, newly_begun, with_begun}
use Rattle.snapshot_machines.specs.marking.Hearing.{HasBegun}
use Rattle.snapshot_machines.specs.marking.Keeping.{SnapView, part_of, with_snaps}
use Rattle.snapshot_machines.specs.marking.Learning.{HasLearnedNews, news_of}
use Rattle.snapshot_machines.specs.marking.Seeding.{AreMarkedBelow, HasOtherPending}
use Rattle.snapshot_machines.specs.marking.Sending.{AreMarksUpTo}
use Rattle.snapshot_machines.proofs.marking.SeedLemmas.{part_pended}

-- the message without what it tells of a snapshot
pub record IsPlain (done plain : Done) : Type 0 where
  pub scope : plain.scope ≡ done.scope
  pub centre : plain.centre ≡ done.centre
  pub datum : plain.datum ≡ done.datum
  pub edges : plain.edges ≡ done.edges
  pub wakes : plain.wakes ≡ done.wakes
  pub pends : plain.pends.items ≡ []
  pub number : plain.number ≡ 0

-- a machine that has learned of an update, with nothing of a snapshot
module _ (old new : Core) (plain : Done) (none : plain.pends.items ≡ []) (learned : HasLearned old.numbers new.numbers (news_of plain)) (tasks : new.numbers.tasks ≡ record old.numbers.tasks { task = new.numbers.tasks.task })
    (local : new.numbers.local ≡ record old.numbers.local { numbers = new.numbers.local.numbers }) (released : HasNoLock old.locks new.locks plain.scope) (rest : new ≡ record old { numbers = new.numbers; locks = new.locks }) where
  still_pending : (u : ℕ) → pending_here new.numbers u ≡ (is_in_update plain.pends.items u || pending_here old.numbers u)
  still_pending u =
      ap (λ (l : LocalView). flag_there new.numbers.tasks.pending (place_at l u)) local ∙ ap (λ (t : TasksView). flag_there t.pending (place_at old.numbers.local u)) tasks
      ∙ sym (ap (λ (vs : List Vertex). is_in_update vs u || pending_here old.numbers u) none)

  abbrev mixed : Core
  mixed = record old { numbers = new.numbers; locks = new.locks }

  pub heard_part : (w : SnapView) → with_snaps w (part_of new) ≡ learns plain.scope (news_of plain) (with_snaps w (part_of old))
  heard_part w =
      ap (λ (m : Core). with_snaps w (part_of m)) rest
      ∙ (λ i.
      record (with_snaps w (part_of mixed)) {
        datum = λ v. learned.datum v i;
        edge = λ e. learned.edge e i;
        task = λ u. learned.task u i;
        log = learned.log i;
        holder = λ x t. released.holder x t i;
        queue = λ x. released.queue x i;
        pending = λ u. still_pending u i;
      })

  pub below_heard : (k place : ℕ) → is_own old.numbers.local plain.centre.0 ≡ false → AreMarkedBelow old.numbers k place → AreMarkedBelow new.numbers k place
  below_heard k place away below i v low at own =
      let mine : is_own old.numbers.local v.0 ≡ true = ap (λ (l : LocalView). is_own l v.0) (sym local) ∙ own in
      let off : v.0 ≡ plain.centre.0 → ⊥ = λ same. true≢false (sym mine ∙ ap (is_own old.numbers.local) same ∙ away) in
      let datum : datum_here new.numbers v.0 ≡ datum_here old.numbers v.0 =
      learned.datum v.0 ∙ ap (λ (b : Bool). if b then newer_datum (datum_here old.numbers v.0) plain.datum else datum_here old.numbers v.0) (ne_eqb v.0 plain.centre.0 off) in
      subst (λ (d : Datum). k ≤ d.mark) (sym datum) (below i v low (ap (λ (l : LocalView). slice_get l.owned i) (sym local) ∙ at) mine)

  pub most_heard : (k : ℕ) → is_own old.numbers.local plain.centre.0 ≡ false → AreMarksUpTo old.numbers k → AreMarksUpTo new.numbers k
  most_heard k away most v own =
      let mine : is_own old.numbers.local v ≡ true = ap (λ (l : LocalView). is_own l v) (sym local) ∙ own in
      let off : v ≡ plain.centre.0 → ⊥ = λ same. true≢false (sym mine ∙ ap (is_own old.numbers.local) same ∙ away) in
      let datum : datum_here new.numbers v ≡ datum_here old.numbers v =
      learned.datum v ∙ ap (λ (b : Bool). if b then newer_datum (datum_here old.numbers v) plain.datum else datum_here old.numbers v) (ne_eqb v plain.centre.0 off) in
      subst (λ (d : Datum). d.mark ≤ k) (sym datum) (most v mine)

-- a machine knows no older snapshot than before
pub known_grows : (k : ℕ) (w now : SnapView) → IsSameButRoom (with_begun k w) now → w.known ≤ now.known
known_grows k w now same = subst (λ (x : SnapView). w.known ≤ x.known) (sym same) (by (nat_lt w.known k) refl)
  where
    by : (b : Bool) → nat_lt w.known k ≡ b → w.known ≤ (if b then newly_begun k w else w).known
    by true is = let less = ltb-true w.known k is in omega arith
    by false is = omega arith

pub most_grows : (n : Numbers) (j k : ℕ) → j ≤ k → AreMarksUpTo n j → AreMarksUpTo n k
most_grows n j k less most v own = let low = most v own in omega arith

-- the three steps together
pub learned_is : (old begun heard new : Core) (w now : SnapView) (done plain : Done) → IsPlain done plain → SameSettings old begun → HasBegun old w begun now done.number
    → with_snaps now (part_of heard) ≡ learns plain.scope (news_of plain) (with_snaps now (part_of begun)) → HasOtherPending heard new
    → ((u : ℕ) → pending_here new.numbers u ≡ (is_in_update done.pends.items u || pending_here heard.numbers u)) → HasLearnedNews old w new now done
learned_is old begun heard new w now done plain is settings began learned rest each st here =
    let a = old.numbers.local.me.0 in
    let before = began st here in
    part_pended now heard new (λ u. is_in_update done.pends.items u || pending_here heard.numbers u) rest each
    ∙ ap (λ (part : Part). record part { pending = λ u. is_in_update done.pends.items u || part.pending u }) (learned ∙ ap (learns plain.scope (news_of plain)) before)
    ∙ (λ i.
    let begun_part = begins st a done.number (with_snaps w (part_of old)) in
    let told = record (news_of done) { centre = (is.centre i).0; datum = is.datum i; edges = number_told (is.edges i).items; wakes = is_in_update (is.wakes i).items; pends = is_in_update (is.pends i); number = is.number i } in
    let learned_part = learns (is.scope i) told begun_part in
    record learned_part { pending = λ u. is_in_update done.pends.items u || learned_part.pending u })
