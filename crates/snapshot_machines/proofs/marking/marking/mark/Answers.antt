-- Room is made, the snapshot update is made, and then the first unmarked vertex becomes pending where none is.
use Rattle.std.proofs.Common.{◌≡◌, ℕ, ap, ◌∙◌, sym, subst}
use Rattle.machine_core.specs.declared.machine_parts.cores.Core.{Core}
use Rattle.machine_core.specs.machine_parts.Parts.{LocalView}
use Rattle.snapshot_machines.specs.marking.Keeping.{SnapView}
use Rattle.snapshot_machines.specs.marking.Seeding.{AreMarkedBelow, HasSeeded}
use Rattle.snapshot_machines.specs.marking.Sending.{AreMarksUpTo}
use Rattle.snapshot_machines.specs.marking.Inner.Marks.{is_own}
use Rattle.snapshot_machines.proofs.marking.EndLemmas.{base_roomy, below_roomy, can_roomy, core_kept, has_marked, local_end, row_of, row_roomy, rows_end, saved_room}
use Rattle.snapshot_machines.proofs.marking.OnceLemmas.{plans_end, saved_once, sides_saved}
use Rattle.snapshot_machines.proofs.marking.marking.mark.Goals as goal

pub make_mark-requires : goal.make_mark-requires
make_mark-requires c =
    let m = c.args.core.now in
    let roomy = c.reserve_mark.new.core in
    let e = c.reserve_mark.ensures in
    let s = c.args.scope in
    let v = c.in-Some.centre in
    let can = c.in-Some.ensures.some in
    record {
      orderly = e.orderly;
      base = base_roomy m roomy e.made s v c.args.snaps.now c.reserve_mark.new.snaps e.same c.requires.base;
      can = can_roomy m roomy e.made s v can;
      row = row_roomy m roomy e.made s v (c.requires.rows v.0 (c.requires.orderly.flights.own s v can.flight));
      reserved = c.in-Ok.ensures.reserved;
      vertex = c.in-Ok.ensures.vertex;
      edges = c.in-Ok.ensures.edges;
    }

pub seed-requires : goal.seed-requires
seed-requires c =
    let e = c.reserve_mark.ensures in
    let wide = c.reserve_mark.new.snaps in
    let seen = c.args.seen.now in
    let mid = c.make_mark.new.core in
    let known : c.make_mark.new.snaps.known ≡ wide.known = ap (λ (w : SnapView). w.known) c.make_mark.ensures.saved in
    let first : AreMarkedBelow c.reserve_mark.new.core.numbers wide.known seen =
    subst (λ (w : SnapView). AreMarkedBelow c.reserve_mark.new.core.numbers w.known seen) (sym e.same)
    (below_roomy c.args.core.now c.reserve_mark.new.core e.made c.args.scope c.in-Some.centre c.args.snaps.now.known seen c.requires.seen) in
    let behind : AreMarkedBelow mid.numbers c.make_mark.new.snaps.known seen = subst (λ (k : ℕ). AreMarkedBelow mid.numbers k seen) (sym known) (c.make_mark.ensures.marked.below seen first) in
    record {
      orderly = c.make_mark.ensures.orderly;
      places = c.make_mark.ensures.places (e.places c.requires.places);
      seen = subst (λ (k : ℕ). AreMarkedBelow mid.numbers k seen) (sym c.known.ensures) behind;
    }

pub returns-in-Ok-clause-marked : goal.returns-in-Ok-clause-marked
returns-in-Ok-clause-marked c =
    let m = c.args.core.now in
    let roomy = c.reserve_mark.new.core in
    let mid = c.make_mark.new.core in
    let new = c.seed.new.core in
    let e = c.reserve_mark.ensures in
    let d = c.make_mark.ensures in
    let now = c.make_mark.new.snaps in
    let can = c.in-Some.ensures.some in
    has_marked m roomy mid new c.args.snaps.now c.reserve_mark.new.snaps now c.args.scope c.in-Some.centre c.requires.orderly can e.part e.settings (ap (λ (x : Core). x.numbers.local) e.made.rest) e.same d.marked d.settings
    (ap (λ (l : LocalView). l.me) d.local) (subst (λ (k : ℕ). HasSeeded mid new k) c.known.ensures c.seed.ensures.seeded)

pub returns-in-Ok-clause-saved : goal.returns-in-Ok-clause-saved
returns-in-Ok-clause-saved c = saved_room c.args.snaps.now c.reserve_mark.new.snaps c.make_mark.new.snaps c.reserve_mark.ensures.same c.make_mark.ensures.saved

pub returns-in-Ok-clause-local : goal.returns-in-Ok-clause-local
returns-in-Ok-clause-local c =
    local_end c.args.core.now c.reserve_mark.new.core c.make_mark.new.core c.seed.new.core (ap (λ (x : Core). x.numbers.local) c.reserve_mark.ensures.made.rest) c.make_mark.ensures.local (ap (λ (x : Core). x.numbers.local) c.seed.ensures.rest)

pub returns-in-Ok-clause-outside : goal.returns-in-Ok-clause-outside
returns-in-Ok-clause-outside c =
    ap (λ (x : Core). x.numbers.tasks.outside) c.seed.ensures.rest ∙ c.make_mark.ensures.outside ∙ ap (λ (x : Core). x.numbers.tasks.outside) c.reserve_mark.ensures.made.rest

pub returns-in-Ok-clause-rows : goal.returns-in-Ok-clause-rows
returns-in-Ok-clause-rows c =
    let own : (x : ℕ) → is_own c.seed.new.core.numbers.local x ≡ is_own c.args.core.now.numbers.local x = λ x.
    ap (λ (m : Core). is_own m.numbers.local x) c.seed.ensures.rest ∙ c.make_mark.ensures.own x ∙ ap (λ (m : Core). is_own m.numbers.local x) c.reserve_mark.ensures.made.rest in
    rows_end c.args.core.now.numbers.local c.seed.new.core.numbers.local
    (local_end c.args.core.now c.reserve_mark.new.core c.make_mark.new.core c.seed.new.core (ap (λ (x : Core). x.numbers.local) c.reserve_mark.ensures.made.rest) c.make_mark.ensures.local (ap (λ (x : Core). x.numbers.local) c.seed.ensures.rest))
    own c.requires.rows

pub returns-in-Ok-clause-seen : goal.returns-in-Ok-clause-seen
returns-in-Ok-clause-seen c = subst (λ (k : ℕ). AreMarkedBelow c.seed.new.core.numbers k c.seed.new.seen) c.known.ensures c.seed.ensures.seen

pub returns-in-Ok-clause-settings : goal.returns-in-Ok-clause-settings
returns-in-Ok-clause-settings c st here = c.seed.ensures.settings st (c.make_mark.ensures.settings st (c.reserve_mark.ensures.settings st here))

pub returns-in-Ok-clause-rest : goal.returns-in-Ok-clause-rest
returns-in-Ok-clause-rest c =
    core_kept c.args.core.now c.seed.new.core
    (ap (λ (x : Core). x.terms) c.seed.ensures.rest ∙ ap (λ (x : Core). x.terms) c.make_mark.ensures.rest ∙ ap (λ (x : Core). x.terms) c.reserve_mark.ensures.made.rest)
    (ap (λ (x : Core). x.by_place) c.seed.ensures.rest ∙ ap (λ (x : Core). x.by_place) c.make_mark.ensures.rest ∙ ap (λ (x : Core). x.by_place) c.reserve_mark.ensures.made.rest)

pub returns-in-Ok-clause-marks : goal.returns-in-Ok-clause-marks
returns-in-Ok-clause-marks c most =
    let e = c.reserve_mark.ensures in
    let wide = c.reserve_mark.new.snaps in
    let now = c.make_mark.new.snaps in
    let known : now.known ≡ wide.known = ap (λ (w : SnapView). w.known) c.make_mark.ensures.saved in
    let first : AreMarksUpTo c.reserve_mark.new.core.numbers wide.known =
    subst (λ (m : Core). AreMarksUpTo m.numbers wide.known) (sym e.made.rest) (subst (λ (w : SnapView). AreMarksUpTo c.args.core.now.numbers w.known) (sym e.same) most) in
    let mid : AreMarksUpTo c.make_mark.new.core.numbers now.known = subst (AreMarksUpTo c.make_mark.new.core.numbers) (sym known) (c.make_mark.ensures.marked.most first) in
    subst (λ (m : Core). AreMarksUpTo m.numbers now.known) (sym c.seed.ensures.rest) mid

pub returns-in-Err-clause-marks : goal.returns-in-Err-clause-marks
returns-in-Err-clause-marks c most =
    let e = c.reserve_mark.ensures in
    let wide = c.reserve_mark.new.snaps in
    subst (λ (m : Core). AreMarksUpTo m.numbers wide.known) (sym e.made.rest) (subst (λ (w : SnapView). AreMarksUpTo c.args.core.now.numbers w.known) (sym e.same) most)

pub returns-in-Ok-clause-once : goal.returns-in-Ok-clause-once
returns-in-Ok-clause-once c =
    let m = c.args.core.now in
    let roomy = c.reserve_mark.new.core in
    let w = c.args.snaps.now in
    let wide = c.reserve_mark.new.snaps in
    let e = c.reserve_mark.ensures in
    let v = c.in-Some.centre in
    let can = c.in-Some.ensures.some in
    let own = c.requires.orderly.flights.own c.args.scope v can.flight in
    let row = row_of m.numbers.local v.0 (c.requires.rows v.0 own) in
    saved_once m wide c.make_mark.new.snaps w c.args.scope v row.0 own row.1 can.flight e.same
    (sides_saved m roomy e.made w wide c.make_mark.new.snaps v e.same c.make_mark.ensures.sides)

pub returns-in-Ok-clause-plans : goal.returns-in-Ok-clause-plans
returns-in-Ok-clause-plans c v place flight at =
    let m = c.args.core.now in
    let roomy = c.reserve_mark.new.core in
    let e = c.reserve_mark.ensures in
    let can = c.in-Some.ensures.some in
    plans_end m roomy c.make_mark.new.core c.seed.new.core e.made v c.in-Some.centre place (sym can.flight ∙ flight) at c.make_mark.ensures.plans c.seed.ensures.rest
