-- The first message on a link, as a machine that takes snapshots sees it.
use Rattle.std.proofs.Common.{◌≡◌, ℕ, ◌<◌, ◌∷◌, ◌&&◌, Bool, true, false, Some, None, List, is_some, refl, sym, ap, ◌∙◌, subst, arith}
use Rattle.std.specs.List.{AllByRecursion}
use Rattle.gl_base.specs.declared.numbers.MachineNo.{MachineNo}
use Rattle.gl_base.specs.declared.numbers.Vertex.{Vertex}
use Rattle.gl_base.specs.declared.scopes.Datum.{Datum}
use Rattle.gl_base.specs.declared.scopes.ScopeId.{ScopeId}
use Rattle.cluster_laws.specs.cluster_core.Parts.{Part}
use Rattle.cluster_laws.specs.cluster_core.Places.{ArePlaces, IsAtHome}
use Rattle.cluster_laws.specs.cluster_core.Receiving.{MayAsk, MayBecomeReady, MayLearn, MayReceive}
use Rattle.cluster_laws.specs.cluster_core.Scopes.{mode_at}
use Rattle.cluster_laws.specs.cluster_core.Settings.{Engine, is_in_scope}
use Rattle.cluster_laws.specs.cluster_core.Stages.{Asks, Ends, IsAsked, IsDone, IsReady, Returns, Stage, some_if, tokens_of}
use Rattle.cluster_laws.specs.cluster_core.Ways.{IsToldTo}
use Rattle.cluster_laws.specs.cluster_core.Worlds.{way}
use Rattle.cluster_laws.specs.cluster_core.Messages.{News}
use Rattle.cluster_laws.proofs.cluster_core.Taking.{taken, taken-here}
use Rattle.cluster_laws.proofs.cluster_places.Delivering.{done_here, told}
use Rattle.cluster_laws.proofs.cluster_places.Fronts.{front}
use Rattle.cluster_laws.proofs.cluster_places.Going.{asked_here, ready_here}
use Rattle.cluster_laws.proofs.cluster_places.Seen.{asked_stage, done_stage, ready_stage, some_centre}
use Rattle.cluster_laws.proofs.cluster_places.Standing.{shows_as, stage_as}
use Rattle.whole_laws.specs.cluster_whole.Views.{world_of}
use Rattle.whole_laws.specs.cluster_whole.Whole.{AreKeptApart}
use Rattle.machine_core.specs.declared.machine_parts.cores.Core.{Core}
use Rattle.machine_core.specs.machine_parts.Parts.{number_of, part_of}
use Rattle.machine_core.proofs.machine_scopes.LawLemmas.{ask_goes_on, ask_is_new, home_within, word_comes}
use Rattle.cluster_laws.specs.known_parts.Alike.{with_copies}
use Rattle.snapshot_machines.specs.marking.Keeping.{with_snaps}
use Rattle.snapshot_machines.specs.snapshot_receive.Coming.{AreMachinesFor, Ask, CanBecomeReady, Cluster, IsFrontFor, Done, IsNewAt, Message, Ready, Setting, SnapView, machine_numbers, no_word}

-- ---- what is kept for snapshots changes nothing of it

ask_apart : (st : Setting) (a : ℕ) (d : ℕ → Datum) (n : ℕ → ℕ) (w : SnapView) (part : Part) (s : ScopeId) (v : ℕ) (rest : List ℕ) → MayAsk st a (with_copies d n (with_snaps w part)) s v rest → MayAsk st a part s v rest
ask_apart st a d n w part s v rest may = record { stand = may.stand; holder = may.holder; flight = may.flight; part_of = may.part_of; rest_of = may.rest_of }

ready_apart : (a : ℕ) (d : ℕ → Datum) (n : ℕ → ℕ) (w : SnapView) (part : Part) (s : ScopeId) → MayBecomeReady a (with_copies d n (with_snaps w part)) s → MayBecomeReady a part s
ready_apart a d n w part s may = record { home = may.home; vertex = may.vertex; flight = may.flight; ready = may.ready }

learn_apart : (st : Setting) (p a : ℕ) (d : ℕ → Datum) (n : ℕ → ℕ) (w : SnapView) (part : Part) (s : ScopeId) (news : News) → MayLearn st p a (with_copies d n (with_snaps w part)) s news → MayLearn st p a part s news
learn_apart st p a d n w part s news may = record { owner = may.owner; copy = may.copy; part_of = may.part_of; edges = may.edges; wakes = may.wakes; locks = may.locks }

some_then : {X : Type 0} (b : Bool) (x : X) → is_some (some_if b x) ≡ b
some_then true x = refl
some_then false x = refl

-- ---- what comes first

module _ (st : Setting) (c : Cluster) (p : ℕ) (m : Core) (w : SnapView) (message : Message) (comes : IsFrontFor st c p m w message) where
  abbrev here : ℕ
  here = m.numbers.local.me.0

  apart : (stage : ScopeId → Stage) × ArePlaces st (world_of c) stage
  apart = subst (λ (e : Engine). AreKeptApart e st c) comes.part.engine comes.whole.apart

  concerns : AllByRecursion (IsToldTo st p here) (way (world_of c) p here)
  concerns = comes.whole.consistent.copies.told p here

  abbrev law_part : Part
  law_part = (c.machine here).part

  may_come : MayReceive st p here (with_copies law_part.datum law_part.edge (with_snaps w (part_of m))) message
  may_come = subst (λ (x : Part). MayReceive st p here x message) comes.holds.rest (front st comes.setting (world_of c) apart.0 apart.1 p here concerns message comes.behind comes.first)

-- ---- a scope that asks

module _ (st : Setting) (c : Cluster) (p : ℕ) (m : Core) (w : SnapView) (s : ScopeId) (centre : Vertex) where
  pub ask_comes_new : (rest : List ℕ) → IsFrontFor st c p m w (Ask s centre.0 rest) → IsNewAt m s centre
  ask_comes_new rest comes =
      ask_is_new st m s centre rest comes.setting comes.part comes.orderly
      (ask_apart st m.numbers.local.me.0 (c.machine m.numbers.local.me.0).part.datum (c.machine m.numbers.local.me.0).part.edge w (part_of m) s centre.0 rest (may_come st c p m w (Ask s centre.0 rest) comes))

  ask_home : (rest : List ℕ) → IsFrontFor st c p m w (Ask s centre.0 rest) → IsAtHome st s centre.0
  ask_home rest comes =
      let q = m.numbers.local.me.0 in
      let world = world_of c in
      let at = apart st c p m w (Ask s centre.0 rest) comes in
      let h = asked_stage st s (at.0 s) p q centre.0 rest (tokens_of s (way (taken world p q (Ask s centre.0 rest) comes.behind comes.first) p q))
      (told st comes.setting world at.0 at.1 p q (Ask s centre.0 rest) comes.behind comes.first s (IsAsked centre.0 rest) (asked_here s centre.0 rest)) in
      (stage_as st world at.0 at.1 s (Asks centre.0 p q) h.0).0

  pub ask_goes_further : (rest : List MachineNo) → IsFrontFor st c p m w (Ask s centre.0 (machine_numbers rest)) → AreMachinesFor m s rest
  ask_goes_further rest comes =
      ask_goes_on st m s centre rest comes.setting comes.part
      (home_within st s centre.0 comes.setting (ask_home (machine_numbers rest) comes))
      (ask_apart st m.numbers.local.me.0 (c.machine m.numbers.local.me.0).part.datum (c.machine m.numbers.local.me.0).part.edge w (part_of m) s centre.0 (machine_numbers rest) (may_come st c p m w (Ask s centre.0 (machine_numbers rest)) comes))

-- ---- word that a scope has its locks

module _ (st : Setting) (c : Cluster) (p : ℕ) (m : Core) (w : SnapView) (s : ScopeId) (comes : IsFrontFor st c p m w (Ready s)) where
  ready_may : MayBecomeReady m.numbers.local.me.0 (part_of m) s
  ready_may = ready_apart m.numbers.local.me.0 (c.machine m.numbers.local.me.0).part.datum (c.machine m.numbers.local.me.0).part.edge w (part_of m) s (may_come st c p m w (Ready s) comes)

  -- it holds its locks at home
  ready_holds : (v x : ℕ) → (part_of m).flight s ≡ Some v → is_in_scope st v x ≡ true → st.owner x ≡ m.numbers.local.me.0 → is_some ((part_of m).holder x s) ≡ true
  ready_holds v x flies near owned =
      let q = m.numbers.local.me.0 in
      let world = world_of c in
      let at = apart st c p m w (Ready s) comes in
      let h = ready_stage st s (at.0 s) p q (tokens_of s (way (taken world p q (Ready s) comes.behind comes.first) p q))
      (told st comes.setting world at.0 at.1 p q (Ready s) comes.behind comes.first s IsReady (ready_here s)) in
      let seen = shows_as st world at.0 at.1 s (Returns h.0 p) h.1 in
      let flight : (part_of m).flight s ≡ Some h.0 = sym (ap (λ (x : Part). x.flight s) comes.holds.rest) ∙ ap (λ (a : ℕ). (world.part a).flight s) h.2 ∙ seen.flight in
      let centre : v ≡ h.0 = some_centre v h.0 (sym flies ∙ flight) in
      sym (ap (λ (part : Part). is_some (part.holder x s)) comes.holds.rest) ∙ ap (λ (a : ℕ). is_some ((world.part a).holder x s)) (sym owned) ∙ ap is_some (seen.holder x)
      ∙ some_then (is_in_scope st h.0 x) (mode_at h.0 x) ∙ ap (λ (k : ℕ). is_in_scope st k x) (sym centre) ∙ near

  pub ready_comes_home : CanBecomeReady m s
  ready_comes_home = word_comes st m s comes.part comes.orderly ready_may (λ centre x flies near own. ready_holds centre.0 x (ap number_of flies) near own)

-- no machine has a scope of machine 65536
pub none_else : (st : Setting) (c : Cluster) (p : ℕ) (m : Core) (w : SnapView) → m.numbers.local.me.0 < 65536 → IsFrontFor st c p m w no_word → ⊥
none_else st c p m w low comes =
    let home : 65536 ≡ m.numbers.local.me.0 = (may_come st c p m w no_word comes).home in
    omega (arith, home, low)

-- ---- word of an update

-- Word of an update: by a scope of the owner of its centre, which waits for no lock here and holds none but those of its own scope. Whom
-- it wakes, and who becomes pending, is near the centre, and this machine's.
pub record IsWordHere (st : Setting) (p : ℕ) (m : Core) (s : ScopeId) (news : News) : Type 0 where
  pub may : MayLearn st p m.numbers.local.me.0 (part_of m) s news
  pub home : IsAtHome st s news.centre
  pub stand : (part_of m).stand s ≡ None
  pub others : (x : ℕ) → st.owner x ≡ m.numbers.local.me.0 → is_in_scope st news.centre x ≡ false → (part_of m).holder x s ≡ None
  pub concerns : IsToldTo st p m.numbers.local.me.0 (Done s news)

pub word_here : (st : Setting) (c : Cluster) (p : ℕ) (m : Core) (w : SnapView) (s : ScopeId) (news : News) → IsFrontFor st c p m w (Done s news) → IsWordHere st p m s news
word_here st c p m w s news comes =
    let q = m.numbers.local.me.0 in
    let world = world_of c in
    let word = Done s news in
    let v : ℕ = news.centre in
    let at = apart st c p m w word comes in
    let h = done_stage st s (at.0 s) p q v (tokens_of s (way (taken world p q word comes.behind comes.first) p q))
    (told st comes.setting world at.0 at.1 p q word comes.behind comes.first s (IsDone v) (done_here s news)) in
    let seen = shows_as st world at.0 at.1 s (Ends v h.0) h.1 in
    let heard : AllByRecursion (IsToldTo st p q) (word ∷ way (taken world p q word comes.behind comes.first) p q) =
    subst (AllByRecursion (IsToldTo st p q)) (taken-here world p q word comes.behind comes.first) (concerns st c p m w word comes) in
    record {
      may = learn_apart st p q (c.machine q).part.datum (c.machine q).part.edge w (part_of m) s news (may_come st c p m w word comes);
      home = (stage_as st world at.0 at.1 s (Ends v h.0) h.1).0;
      stand = sym (ap (λ (part : Part). part.stand s) comes.holds.rest) ∙ seen.stand q;
      others = λ x owned outside.
          sym (ap (λ (part : Part). part.holder x s) comes.holds.rest) ∙ ap (λ (a : ℕ). (world.part a).holder x s) (sym owned) ∙ seen.holder x
          ∙ ap (λ (test : Bool). some_if (test && h.0 (st.owner x)) (mode_at v x)) outside;
      concerns = heard.0;
    }
