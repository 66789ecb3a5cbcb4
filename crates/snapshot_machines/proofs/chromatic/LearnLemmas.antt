-- Who stands in line where word of an update comes, behind the snapshot that it tells of.
use Rattle.std.proofs.Common.{◌≡◌, ℕ, ◌==◌, ◌&&◌, ◌||◌, Bool, true, false, true≢false, if◌then◌else◌, Option, None, Some, length, max, refl, sym, ap, ◌∙◌, subst, arith}
use Rattle.std.specs.Prelude.{nat_lt}
use Rattle.std.proofs.Math.Bool.{or-true}
use Rattle.std.proofs.lemmas.Bool.{eq-eqb}
use Rattle.gl_base.specs.declared.numbers.Vertex.{Vertex}
use Rattle.gl_base.specs.declared.scopes.ScopeId.{ScopeId}
use Rattle.graph_core.specs.DataGraph.{size}
use Rattle.cluster_laws.specs.cluster_core.Effects.{applied, begins, first_pending, first_unmarked, is_at, knows, learns, nothing_saved, part_seeded, seed_if}
use Rattle.cluster_laws.specs.cluster_core.Messages.{News}
use Rattle.cluster_laws.specs.cluster_core.Ranges.{first_passing}
use Rattle.cluster_laws.specs.cluster_core.Scopes.{is_found}
use Rattle.cluster_laws.proofs.cluster_core.Basics.{first_passing-some}
use Rattle.partition.proofs.local_parts.FoundLemmas.{found_first}
use Rattle.wire.specs.declared.wire_msgs.messages.Done.{Done}
use Rattle.partition.specs.machine_numbers.Views.{LocalView, flag_there, is_flagged, is_in_update, news_of, place_at}
use Rattle.machine_core.specs.declared.machine_parts.cores.Core.{Core}
use Rattle.snapshot_machines.specs.marking.Learning.{HasLearnedNews}
use Rattle.machine_core.specs.color_parts.Enlisting.{HasEnlisted}
use Rattle.machine_core.specs.declared.color_parts.enlisting.Which.TheVariants.{All, Pending, Tasks}
use Rattle.machine_core.specs.color_parts.Parts.{LinesView, TasksView}
use Rattle.snapshot_machines.specs.chromatic.Machines.{IsOrderly, IsPartOf, KnowsPlaces, Part, Setting, SnapView, part_of, with_snaps}
use Rattle.snapshot_machines.specs.chromatic.Inner.Keeping.{AreBothInLine, IsWithoutLocks}
use Rattle.snapshot_machines.proofs.chromatic.FreeLemmas.{bare_free, kept_free, learned_free}
use Rattle.snapshot_machines.proofs.chromatic.KeepLemmas.{stand_apart}
use Rattle.snapshot_machines.proofs.chromatic.LineLemmas.{named_in_line}

-- ---- a snapshot that has begun begins once

-- who is seeded where it was done is nobody
module _ (st : Setting) (a : ℕ) (part : Part) where
  abbrev again : Part
  again = part_seeded st a part

  found_none : (o unmarked : Option ℕ) → is_found o ≡ true → seed_if o unmarked ≡ None
  found_none None unmarked is = absurd (true≢false (sym is))
  found_none (Some x) unmarked is = refl

  -- where one was pending
  was_pending : (x : ℕ) → first_pending st part ≡ Some x → is_found (first_pending st again) ≡ true
  was_pending x is =
      let at = first_passing-some part.pending 0 (size st.graph) x is in
      let low = at.1 in
      found_first again.pending 0 (size st.graph) x (omega arith) (omega (arith, low))
      (ap (λ (b : Bool). is_at (seed_if (first_pending st part) (first_unmarked st a part)) x || b) at.2 ∙ or-true (is_at (seed_if (first_pending st part) (first_unmarked st a part)) x))

  -- where one was seeded
  was_seeded : (x : ℕ) → first_pending st part ≡ None → first_unmarked st a part ≡ Some x → is_found (first_pending st again) ≡ true
  was_seeded x none is =
      let at = first_passing-some (λ v. st.owner v == a && nat_lt (part.datum v).mark part.known) 0 (size st.graph) x is in
      let low = at.1 in
      found_first again.pending 0 (size st.graph) x (omega arith) (omega (arith, low))
      (ap (λ (o : Option ℕ). is_at (seed_if o (first_unmarked st a part)) x || part.pending x) none ∙ ap (λ (o : Option ℕ). is_at o x || part.pending x) is ∙ ap (λ (b : Bool). b || part.pending x) (eq-eqb x x refl))

  -- where nobody is left
  none_left : first_pending st part ≡ None → first_unmarked st a part ≡ None → seed_if (first_pending st again) (first_unmarked st a again) ≡ None
  none_left none unmarked =
      let still : first_pending st again ≡ None =
      ap (λ (o : Option ℕ). first_passing (λ u. is_at (seed_if o (first_unmarked st a part)) u || part.pending u) 0 (size st.graph)) none
      ∙ ap (λ (o : Option ℕ). first_passing (λ u. is_at o u || part.pending u) 0 (size st.graph)) unmarked ∙ none in
      ap (λ (o : Option ℕ). seed_if o (first_unmarked st a again)) still ∙ unmarked

  nobody : seed_if (first_pending st again) (first_unmarked st a again) ≡ None
  nobody = by (first_pending st part) refl (first_unmarked st a part) refl
    where
      by : (o : Option ℕ) → first_pending st part ≡ o → (u : Option ℕ) → first_unmarked st a part ≡ u → seed_if (first_pending st again) (first_unmarked st a again) ≡ None
      by (Some x) is u unmarked = found_none (first_pending st again) (first_unmarked st a again) (was_pending x is)
      by None is (Some x) unmarked = found_none (first_pending st again) (first_unmarked st a again) (was_seeded x is unmarked)
      by None is None unmarked = none_left is unmarked

  pub seeded_again : part_seeded st a again ≡ again
  seeded_again = λ i. record again { pending = λ u. is_at (nobody i) u || again.pending u }

known_again : (k n : ℕ) → max (max n k) k ≡ max n k
known_again k n = grind arith

newer_no_more : (k n : ℕ) → nat_lt (max n k) k ≡ false
newer_no_more k n = grind arith

pub begun_again : (st : Setting) (a k : ℕ) (part : Part) → begins st a k (begins st a k part) ≡ begins st a k part
begun_again st a k part =
    (λ i. part_seeded st a (record (begins st a k part) { known = known_again k part.known i; saved = if newer_no_more k part.known i then nothing_saved else (begins st a k part).saved }))
    ∙ seeded_again st a (knows k part)

-- what was learned behind that is what is learned with it
pub applied_begun : (st : Setting) (a : ℕ) (s : ScopeId) (news : News) (part begun : Part) → begun ≡ begins st a news.number part → applied st a s news begun ≡ applied st a s news part
applied_begun st a s news part begun is = ap (λ (p : Part). learns s news (begins st a news.number p)) is ∙ ap (learns s news) (begun_again st a news.number part)

-- ---- lines

module _ (m new : Core) (w now : SnapView) (before : Part) (done : Done) (st : Setting) (orderly : IsOrderly m) (places : KnowsPlaces m) (here : IsPartOf st m) (begun : with_snaps w (part_of m) ≡ begins st m.numbers.local.me.0 done.number before)
    (learned : HasLearnedNews m w new now done) (tasks : new.numbers.tasks ≡ record m.numbers.tasks { task = new.numbers.tasks.task; pending = new.numbers.tasks.pending; asked = new.numbers.tasks.asked }) (many : length new.numbers.tasks.task ≡ length m.numbers.tasks.task)
    (local : new.numbers.local ≡ record m.numbers.local { numbers = new.numbers.local.numbers }) where
  part_now : with_snaps now (part_of new) ≡ learns done.scope (news_of done) (with_snaps w (part_of m))
  part_now =
      learned st here
      ∙ ap (λ (p : Part). learns done.scope (news_of done) (begins st m.numbers.local.me.0 done.number p)) begun
      ∙ ap (learns done.scope (news_of done)) (begun_again st m.numbers.local.me.0 done.number before ∙ sym begun)

  there : (j : ℕ) (u : Vertex) → place_at m.numbers.local u.0 ≡ Some j → place_at new.numbers.local u.0 ≡ Some j
  there j u at = ap (λ (l : LocalView). place_at l u.0) local ∙ at

  task_flag : (j : ℕ) (u : Vertex) → place_at m.numbers.local u.0 ≡ Some j → is_flagged new.numbers.tasks.task j ≡ (is_in_update done.wakes.items u.0 || is_flagged m.numbers.tasks.task j)
  task_flag j u at =
      sym (ap (flag_there new.numbers.tasks.task) (there j u at)) ∙ ap (λ (p : Part). p.task u.0) part_now ∙ ap (λ (b : Bool). is_in_update done.wakes.items u.0 || b) (ap (flag_there m.numbers.tasks.task) at)

  pending_flag : (j : ℕ) (u : Vertex) → place_at m.numbers.local u.0 ≡ Some j → is_flagged new.numbers.tasks.pending j ≡ (is_in_update done.pends.items u.0 || is_flagged m.numbers.tasks.pending j)
  pending_flag j u at =
      sym (ap (flag_there new.numbers.tasks.pending) (there j u at)) ∙ ap (λ (p : Part). p.pending u.0) part_now ∙ ap (λ (b : Bool). is_in_update done.pends.items u.0 || b) (ap (flag_there m.numbers.tasks.pending) at)

  pub learned_in_line : (lines asked new_lines new_asked : LinesView) → AreBothInLine m.numbers.tasks lines asked → new_lines.colours ≡ lines.colours → new_asked.colours ≡ asked.colours
      → HasEnlisted All m.numbers lines new_lines done.wakes.items (length done.wakes.items) → HasEnlisted All m.numbers asked new_asked done.pends.items (length done.pends.items) → AreBothInLine new.numbers.tasks new_lines new_asked
  learned_in_line lines asked new_lines new_asked are colours asked_colours woken pended =
      let who = stand_apart m orderly places in
      let admitted = ap (λ (t : TasksView). t.admitted) tasks in
      record {
        many = ap length colours ∙ are.many ∙ sym many;
        colours = asked_colours ∙ are.colours ∙ sym colours;
        tasks = named_in_line Tasks m.numbers new.numbers.tasks lines new_lines done.wakes.items who many admitted task_flag are.tasks woken;
        pending = named_in_line Pending m.numbers new.numbers.tasks asked new_asked done.pends.items who many admitted pending_flag are.pending pended;
      }

  pub learned_without_locks : IsWithoutLocks (part_of m) → IsWithoutLocks (part_of new)
  learned_without_locks is =
      bare_free now (part_of new)
      (subst IsWithoutLocks (sym (learned st here)) (learned_free st m.numbers.local.me.0 done.scope (news_of done) (with_snaps w (part_of m)) (kept_free w (part_of m) is)))
