-- The parts of a new machine are in order, and begin as the run does.
use Rattle.std.proofs.Common.{◌≡◌, ◌<◌, ◌≤◌, ◌==◌, All, ℕ, ◌∙◌, true, true≢false, Option, Some, None, List, is_some, length, ap, sym, subst, refl}
use Rattle.std.specs.List.{list_any}
use Rattle.gl_base.specs.declared.numbers.Vertex.{Vertex}
use Rattle.gl_base.specs.declared.scopes.Datum.{Datum}
use Rattle.graph_core.specs.DataGraph.{size}
use Rattle.cluster_laws.specs.cluster_core.Scopes.{takes_part}
use Rattle.cluster_laws.proofs.cluster_core.Nearness.{owner_takes_part, scoped_itself}
use Rattle.local_graph.specs.Locals.{LocalView, links_at, sides_at}
use Rattle.partition.specs.local_parts.Parts.{AreIn, IsLocalOf}
use Rattle.partition.proofs.local_parts.FoundLemmas.{any_mapped}
use Rattle.machine_core.proofs.NewLemmas.{IsNewMachine, new_is}
use Rattle.partition.specs.machine_numbers.Views.{datum_here}
use Rattle.machine_core.specs.declared.machine_parts.cores.Core.{Core}
use Rattle.machine_core.specs.declared.machine_parts.cores.Terms.{Terms}
use Rattle.machine_core.specs.machine_parts.Order.{IsOrderly, KnowsPlaces, StandByPlace}
use Rattle.machine_core.specs.machine_parts.Parts.{is_owned, is_own}
use Rattle.machine_core.proofs.machine_scopes.HeldLemmas.{own_in}
use Rattle.placement.proofs.graphs.BeginLemmas.{ghost_listed, listed_is, owned_by}
use Rattle.machine_core.specs.machine_turns.Turns.{HasEachRow, IsRowIn}
use Rattle.update_api.specs.declared.links.Link.{Link}
use Rattle.placement.specs.graphs.Beginnings.{AreFirstNumbers, AreFreshTasks, BeginsAt, IsReadyPart}
use Rattle.placement.proofs.graphs.BeginLemmas.{owned_few, owned_low}
use Rattle.placement.specs.places.Cores.{GoesBy, IsMadeWith, IsPartOf, Setting}
use Rattle.partition.specs.declared.machine_numbers.keeping.Numbers.{Numbers}
use Rattle.placement.specs.declared.places.cores.NewTerms.{NewTerms}

module _ (st : Setting) (window : Option ℕ) (terms : NewTerms) (m : Core) (goes : GoesBy st window terms) (begins : BeginsAt st m.numbers.local.me.0 window m.numbers) (made : IsMadeWith terms m.numbers m) where
  base_is : m.terms.base ≡ st.base
  base_is = ap (λ (t : Terms). t.base) made.terms_are ∙ sym goes.base

  own_first : (v : ℕ) → is_own m.numbers.local v ≡ true → datum_here m.numbers v ≡ record { value = st.start.vertex v; version = 0; mark = st.base }
  own_first v own =
      let there = own_in st m.numbers.local v begins.part.local own in
      let takes : takes_part st v m.numbers.local.me.0 ≡ true = ap (takes_part st v) (sym there.1) ∙ owner_takes_part st goes.is v v there.0 (scoped_itself st goes.is v) in
      begins.numbers.vertices v there.0 takes

  owned_is : (x : ℕ) → is_owned m.locks x ≡ is_own m.numbers.local x
  owned_is x =
      made.owned x ∙ sym (any_mapped (λ (y : ℕ). y == x) (λ (v : Vertex). v.0) m.numbers.local.owned)
      ∙ ap (list_any (λ (y : ℕ). y == x)) begins.part.local.owned ∙ listed_is (owned_by st m.numbers.local.me.0) (size st.graph) x ∙ sym (begins.part.local.own x)

  pub part_is : IsPartOf st m
  part_is =
      record {
        local = begins.part.local;
        machines = made.machines ∙ sym goes.machines;
        engine = goes.engine;
        pipeline = ap (λ (t : Terms). t.pipeline) made.terms_are ∙ sym goes.pipeline;
        base = base_is;
        window = begins.fresh.bound ∙ sym goes.window_is;
      }

  pub is_new : IsNewMachine m
  is_new =
      record {
        rows = begins.part.rows;
        tasks = begins.part.tasks_of;
        admitted = begins.fresh.admitted;
        outside = begins.fresh.outside;
        ghosts = λ x. begins.part.copies x ∙ sym (ghost_listed st m.numbers.local begins.part.local x);
        versions = λ v own. ap (λ (d : Datum). d.version) (own_first v own);
        marks = λ v own. ap (λ (d : Datum). d.mark) (own_first v own) ∙ sym base_is;
        home = made.home;
        width = made.width ∙ sym (ap (λ (t : Terms). t.pipeline) made.terms_are);
        empty = made.empty;
        owned = owned_is;
        unclaimed = made.unclaimed;
      }

  pub in_order : IsOrderly m
  in_order = new_is st m goes.is part_is is_new

  pub knows : KnowsPlaces m
  knows =
      record {
        vertices = subst (λ (k : ℕ). StandByPlace m.numbers.local k m.by_place.items) (sym begins.part.many) made.by_place;
        flags = begins.fresh.flags;
      }

-- ---- with the numbers with which the run begins

begins_at : (st : Setting) (a : ℕ) (window : Option ℕ) (n : Numbers) → AreFirstNumbers st a n → IsReadyPart st a n → AreFreshTasks window n.tasks → BeginsAt st n.local.me.0 window n
begins_at st a window n first ready fresh =
    subst (λ (b : ℕ). BeginsAt st b window n) (sym ready.machine) (record { numbers = first; part = ready; fresh = fresh })

-- the machine has just these numbers
pub made_itself : (terms : NewTerms) (n : Numbers) (m : Core) → IsMadeWith terms n m → IsMadeWith terms m.numbers m
made_itself terms n m made = subst (λ (k : Numbers). IsMadeWith terms k m) (sym made.numbers_are) made

module _ (st : Setting) (window : Option ℕ) (terms : NewTerms) (a : ℕ) (n : Numbers) (m : Core) (goes : GoesBy st window terms) (first : AreFirstNumbers st a n) (ready : IsReadyPart st a n) (fresh : AreFreshTasks window n.tasks) (made : IsMadeWith terms n m) where
  pub begins_here : BeginsAt st m.numbers.local.me.0 window m.numbers
  begins_here = subst (λ (k : Numbers). BeginsAt st k.local.me.0 window k) (sym made.numbers_are) (begins_at st a window n first ready fresh)

  pub orderly_here : IsOrderly m
  orderly_here = in_order st window terms m goes begins_here (made_itself terms n m made)

  pub places_here : KnowsPlaces m
  places_here = knows st window terms m goes begins_here (made_itself terms n m made)

-- own vertices are of the graph, and no more than it has
pub low_here : (st : Setting) (window : Option ℕ) (terms : NewTerms) (a : ℕ) (n : Numbers) → GoesBy st window terms → IsReadyPart st a n → All (λ (v : Vertex). v.0 < terms.vertices) n.local.owned
low_here st window terms a n goes ready = subst (λ (k : ℕ). All (λ (v : Vertex). v.0 < k) n.local.owned) goes.vertices (owned_low st n.local ready.local)

pub few_here : (st : Setting) (window : Option ℕ) (terms : NewTerms) (a : ℕ) (n : Numbers) → GoesBy st window terms → IsReadyPart st a n → length n.local.owned ≤ terms.vertices
few_here st window terms a n goes ready = subst (λ (k : ℕ). length n.local.owned ≤ k) goes.vertices (owned_few st n.local ready.local)

-- the row of each own vertex is in, with a link for each side
pub each_row : (st : Setting) (l : LocalView) → IsLocalOf st l → AreIn l → HasEachRow l
each_row st l local rows = λ v own. row v own (links_at l v) refl (rows v own)
  where
    row : (v : ℕ) → is_own l v ≡ true → (o : Option (List Link)) → links_at l v ≡ o → is_some (links_at l v) ≡ true → IsRowIn (links_at l v) (length (sides_at l v))
    row v own None at some = absurd (true≢false (sym some ∙ ap is_some at))
    row v own (Some links) at some = subst (λ (o : Option (List Link)). IsRowIn o (length (sides_at l v))) (sym at) (local.rows v links own at).row
