-- A new machine has what the one of the law has that has gone back to the numbers with which the run begins.
use Rattle.std.proofs.Common.{◌≡◌, ◌+◌, ◌≤◌, ◌==◌, ◌&&◌, ℕ, ◌∙◌, Bool, true, false, Option, Some, None, List, [], map, ap, sym, subst, refl, arith, true≢false}
use Rattle.std.specs.Prelude.{is_some, nat_lt}
use Rattle.gl_base.specs.declared.scopes.Peer.TheVariants.{Machine as ToMachine}
use Rattle.gl_base.specs.declared.scopes.ScopeId.{ScopeId}
use Rattle.graph_core.specs.DataGraph.{size}
use Rattle.cluster_laws.specs.cluster_core.Effects.{nothing_saved}
use Rattle.cluster_laws.specs.cluster_core.Parts.{Part}
use Rattle.cluster_laws.specs.cluster_core.Recovering.{begun_again}
use Rattle.partition.specs.machine_numbers.Views.{flag_there, is_flagged, place_at}
use Rattle.machine_core.specs.declared.machine_parts.cores.Core.{Core}
use Rattle.machine_core.specs.declared.machine_parts.cores.Terms.{Terms}
use Rattle.machine_core.specs.machine_parts.Parts.{message_of, number_of, part_of, stand_at}
use Rattle.placement.specs.places.Cores.{IsMadeWith}
use Rattle.placement.specs.declared.places.cores.NewTerms.{NewTerms}
use Rattle.placement.proofs.places.NewLemmas.{each_row, is_new, orderly_here, places_here}
use Rattle.placement.specs.graphs.Beginnings.{BeginsAt}
use Rattle.snapshot_machines.specs.saving.Machines.{IsFreshMachine}
use Rattle.cluster_laws.specs.known_parts.Alike.{LooksAlike, with_copies}
use Rattle.cluster_laws.proofs.known_parts.SeenLemmas.{alike_with}
use Rattle.snapshot_machines.specs.marking.Keeping.{with_snaps}
use Rattle.snapshot_machines.specs.locking.Machines.{ArePlansOf, IsSavedRight, IsSnapPartOf}
use Rattle.coordinator.specs.snap_update.Snaps.{SnapRoom, nothing_since}
use Rattle.cluster_laws.specs.cluster_model.Totals.{total}
use Rattle.snapshot_machines.specs.wave_counts.Counts.{IsCountOf, none_counted}
use Rattle.snapshot_machines.proofs.wave_counts.CountLemmas.{total_from-nothing}
use Rattle.placed_machines.specs.Inner.Making.{GoesBy, Machine, Setting, goes_back, with_locking}

never : (flags : List Bool) → ((u : ℕ) → is_flagged flags u ≡ false) → (o : Option ℕ) → flag_there flags o ≡ false
never flags clear None = refl
never flags clear (Some k) = clear k

and_turned : (x y : Bool) → (x && y) ≡ (y && x)
and_turned true true = refl
and_turned true false = refl
and_turned false true = refl
and_turned false false = refl

nothing : {X : Type 0} (x : X) → None ≡ Some x → ⊥
nothing x is = true≢false (sym (ap is_some is))

nothing_counted : (n : ℕ) → n ≡ 0 → 0 ≡ 0 + n
nothing_counted n none = omega (arith, none)

-- ---- a machine with the numbers with which the run begins

module _ (st : Setting) (window : Option ℕ) (terms : NewTerms) (m : Core) (goes : GoesBy (with_locking st) window terms) (begins : BeginsAt (with_locking st) m.numbers.local.me.0 window m.numbers) (made : IsMadeWith terms m.numbers m) where
  abbrev here : ℕ
  here = m.numbers.local.me.0

  base_is : m.terms.base ≡ st.base
  base_is = ap (λ (t : Terms). t.base) made.terms_are ∙ sym goes.base

  pub fresh_machine : IsFreshMachine m
  fresh_machine = record {
    orderly = orderly_here (with_locking st) window terms here m.numbers m goes begins.numbers begins.part begins.fresh made;
    places = places_here (with_locking st) window terms here m.numbers m goes begins.numbers begins.part begins.fresh made;
    rows = each_row (with_locking st) m.numbers.local begins.part.local begins.part.rows;
    most = λ v own. let mark = (is_new (with_locking st) window terms m goes begins made).marks v own in subst (λ (k : ℕ). k ≤ m.terms.base) (sym mark) (omega arith);
    outside = begins.fresh.outside;
  }

  -- all but data and edges is as in the law
  goes_back_with : (room : SnapRoom) (old : Part) → old.serial ≡ terms.serial → begun_again st st.start st.base here old
      ≡ with_copies (begun_again st st.start st.base here old).datum st.start.edge (with_snaps (nothing_since m.terms.base room) (part_of m))
  goes_back_with room old serial =
      let task : (u : ℕ) → (st.owner u == here && nat_lt u (size st.graph)) ≡ (part_of m).task u = λ u. and_turned (st.owner u == here) (nat_lt u (size st.graph)) ∙ sym (begins.numbers.tasks u) in
      let log : [] ≡ (part_of m).log = sym begins.numbers.log in
      let number : old.serial ≡ m.pipe.serial = serial ∙ sym made.serial in
      let flying : 0 ≡ (part_of m).flying = sym made.empty.count in
      let flight : (s : ScopeId) → None ≡ (part_of m).flight s = λ s. sym (ap number_of (made.empty.flight s)) in
      let stand : (s : ScopeId) → None ≡ (part_of m).stand s = λ s. sym (ap stand_at (made.empty.entered s)) in
      let ready : (s : ScopeId) → false ≡ (part_of m).ready s = λ s. sym (made.empty.ready s) in
      let holder : (x : ℕ) (s : ScopeId) → None ≡ (part_of m).holder x s = λ x s. sym (made.unclaimed.holder x s) in
      let queue : (x : ℕ) → [] ≡ (part_of m).queue x = λ x. sym (made.unclaimed.queue x) in
      let pending : (u : ℕ) → false ≡ (part_of m).pending u = λ u. sym (never m.numbers.tasks.pending begins.fresh.pending (place_at m.numbers.local u)) in
      let out : (q : ℕ) → [] ≡ (part_of m).out q = λ q. sym (ap (map message_of) (made.none (ToMachine (record { 0 = q })))) in
      let base : st.base ≡ m.terms.base = sym base_is in
      λ i. record {
        datum = (begun_again st st.start st.base here old).datum;
        edge = st.start.edge;
        task = λ u. task u i;
        log = log i;
        serial = number i;
        flying = flying i;
        flight = λ s. flight s i;
        stand = λ s. stand s i;
        ready = λ s. ready s i;
        holder = λ x s. holder x s i;
        queue = λ x. queue x i;
        pending = λ u. pending u i;
        known = base i;
        saved = nothing_saved;
        sent = base i;
        colour = 0;
        closed = true;
        out = λ q. out q i;
      }

  pub looks_first : (room : SnapRoom) (old : Part) → old.serial ≡ terms.serial → LooksAlike st here (begun_again st st.start st.base here old) (with_snaps (nothing_since m.terms.base room) (part_of m))
  looks_first room old serial =
      alike_with st here (begun_again st st.start st.base here old).datum st.start.edge (begun_again st st.start st.base here old) (with_snaps (nothing_since m.terms.base room) (part_of m))
      (goes_back_with room old serial) (record {
        vertices = λ v low takes. sym (begins.numbers.vertices v low takes);
        edges = λ e low. sym (begins.numbers.edges e low);
      })

  -- nothing that is pending was saved, since there is neither
  pub saved_first : (room : SnapRoom) → IsSavedRight st here (with_snaps (nothing_since m.terms.base room) (part_of m))
  saved_first room = record {
    vertices = λ v number is. absurd (nothing number is);
    edges = λ e number is. absurd (nothing number is);
    pending = λ v low own is. absurd (true≢false (sym is ∙ never m.numbers.tasks.pending begins.fresh.pending (place_at m.numbers.local v)));
  }

  module _ (law : Machine) where
    abbrev back : Machine
    back = goes_back st st.start st.base here law

    pub kept_first : (room : SnapRoom) → IsSnapPartOf (nothing_since m.terms.base room) back
    kept_first room =
        let base : st.base ≡ m.terms.base = sym base_is in
        record {
          known = base;
          sent = base;
          acknowledged = base;
          wanted = refl;
          saved = record { vertices = λ v. refl; edges = λ e. refl };
          before = refl;
          behind = refl;
          unsure = refl;
        }

    pub counts_first : IsCountOf st none_counted back
    counts_first = record {
      sent = λ fits. nothing_counted (total st.machines (λ q. 0)) (total_from-nothing 0 st.machines (λ q. 0) (λ q. refl));
      received = λ fits. refl;
      held = refl;
    }

    pub plans_first : ArePlansOf m.numbers back
    plans_first = record {
      many = sym begins.fresh.plans;
      planned = λ s v flies. absurd (nothing v flies);
      others = λ s v flies. absurd (nothing v flies);
    }
