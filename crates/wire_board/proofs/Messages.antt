-- What a machine hears of another and tells it, one message after another, as events of the cluster.
use Rattle.std.proofs.Common.{List, [], ap, append-nil, append_assoc, false, inl, inr, length, map, refl, subst, suc, sym, ◌++◌, ◌<◌, ◌∙◌, ◌∷◌, ◌≡◌, ◌≢◌, arith, ◌⊎◌, ℕ}
use Rattle.std.proofs.lemmas.Bool.{cases_eq}
use Rattle.std.proofs.lemmas.List.{map-append}
use Rattle.std.specs.List.{AllByRecursion}
use Rattle.std.specs.Prelude.{slice_index_or}
use Rattle.std.specs.Vec.{with_item}
use Rattle.cluster_laws.proofs.cluster_core.Basics.{set_at-other, set_at-same}
use Rattle.cluster_laws.specs.cluster_core.Messages.{Message}
use Rattle.cluster_laws.specs.cluster_core.Ranges.{set_at}
use Rattle.cluster_laws.specs.cluster_model.Clusters.{with_machine, with_messages}
use Rattle.cluster_laws.specs.cluster_model.Events as law
use Rattle.cluster_laws.specs.cluster_model.Working.{hands, prompt, receives}
use Rattle.cluster_laws.proofs.interior_scopes.Walking.{set_at-twice}
use Rattle.cluster_step.proofs.clusters.Goings.{going_trace}
use Rattle.cluster_step.proofs.clusters.LinkLemmas.{has_link}
use Rattle.cluster_step.proofs.clusters.Lines.{ChangesLine, line_kept, told_set}
use Rattle.cluster_step.proofs.clusters.Making.{machine_here, machines_set, many_set, runs_set}
use Rattle.cluster_step.specs.clusters.Clusters.{AreCalls, AreReports, HaveLinks, IsGoing}
use Rattle.cluster_step.specs.clusters.Inner.Writing.{with_link_between}
use Rattle.cluster_step.specs.clusters.Links.{LinkView, link_between, message_read}
use Rattle.coordinator.specs.machine_api.Promises.{MessageView, OfEach}
use Rattle.whole_laws.specs.cluster_whole.Whole.{IsNoRecovery}
use Rattle.call_laws.specs.whole_calls.Following.{FollowJob}
use Rattle.wire_board.proofs.Deeds.{machine_same}
use Rattle.wire_board.proofs.Goings.{passing_others}
use Rattle.wire_board.proofs.Putting.{have_put, line_put}
use Rattle.wire_board.specs.Going.{ArePassing, Cluster, FailureAt, GoesOn, IsSavingClusterOf, IsSnapSetting, Machine, Parts, Setting}
use Rattle.wire_board.specs.Hearing.{HasHeardAll, HasToldAll, IsHearing, receives_all}
use Rattle.wire_board.specs.Standings.{Member, Standing, StandsOwing, at_rest}

-- ---- the cluster, where machine a and the link from p to q are others

messages_again : {X : Type 0} (f : ℕ → ℕ → X) (p q : ℕ) (x y : X) (i j : ℕ) → set_at (set_at f p (set_at (f p) q x)) p (set_at ((set_at f p (set_at (f p) q x)) p) q y) i j ≡ set_at f p (set_at (f p) q y) i j
messages_again {X} f p q x y i j =
    ap (λ (row : ℕ → X). set_at (set_at f p (set_at (f p) q x)) p (set_at row q y) i j) (set_at-same f p (set_at (f p) q x))
    ∙ ap (λ (g : ℕ → X). g j) (set_at-twice f p (set_at (f p) q x) (set_at (set_at (f p) q x) q y) i)
    ∙ (λ k. set_at f p (λ b. set_at-twice (f p) q x y b k) i j)

messages_at : {X : Type 0} (f : ℕ → ℕ → X) (p q : ℕ) (x : X) → set_at f p (set_at (f p) q x) p q ≡ x
messages_at {X} f p q x = ap (λ (g : ℕ → X). g q) (set_at-same f p (set_at (f p) q x)) ∙ set_at-same (f p) q x

module _ (c : Cluster) (a p q : ℕ) where
  abbrev pub at : Machine → List Message → Cluster
  at m messages = with_messages (with_machine c a m) p q messages

  pub at_machine : (m : Machine) (messages : List Message) → (at m messages).machine a ≡ m
  at_machine m messages = set_at-same c.machine a m

  pub at_link : (m : Machine) (messages : List Message) → (at m messages).link p q ≡ messages
  at_link m messages = messages_at c.link p q messages

  at_again : (m n : Machine) (messages more : List Message) → with_messages (with_machine (at m messages) a n) p q more ≡ at n more
  at_again m n messages more = λ k. record c { machine = λ b. set_at-twice c.machine a m n b k; link = λ i j. messages_again c.link p q messages more i j k }

  link_same : (i j : ℕ) → set_at c.link p (set_at (c.link p) q (c.link p q)) i j ≡ c.link i j
  link_same i j = by_row (cases_eq i p)
    where
      by_column : (j ≡ q) ⊎ (j ≢ q) → set_at (c.link p) q (c.link p q) j ≡ c.link p j
      by_column (inl is) = ap (set_at (c.link p) q (c.link p q)) is ∙ set_at-same (c.link p) q (c.link p q) ∙ ap (c.link p) (sym is)
      by_column (inr off) = set_at-other (c.link p) q (c.link p q) j off

      by_row : (i ≡ p) ⊎ (i ≢ p) → set_at c.link p (set_at (c.link p) q (c.link p q)) i j ≡ c.link i j
      by_row (inl is) =
          ap (λ (k : ℕ). set_at c.link p (set_at (c.link p) q (c.link p q)) k j) is
          ∙ ap (λ (f : ℕ → List Message). f j) (set_at-same c.link p (set_at (c.link p) q (c.link p q)))
          ∙ by_column (cases_eq j q)
          ∙ ap (λ (k : ℕ). c.link k j) (sym is)
      by_row (inr off) = ap (λ (f : ℕ → List Message). f j) (set_at-other c.link p (set_at (c.link p) q (c.link p q)) i off)

  pub at_same : at (c.machine a) (c.link p q) ≡ c
  at_same = ap (λ (d : Cluster). with_messages d p q (c.link p q)) (machine_same c a) ∙ (λ k. record c { link = λ i j. link_same i j k })

-- ---- the parts that stand for it

pub passage_put : {X : Type 0} (represents : Setting → ℕ → Machine → X → Type 0) (st : Setting) (setting : IsSnapSetting st) (v : Parts X) (c : Cluster) (of : IsSavingClusterOf represents st v c)
    (a : ℕ) (low : a < st.machines) (y : X) (m : Machine) → represents st a m y → m.failed ≡ (c.machine a).failed
    → (p q : ℕ) → p < st.machines → q < st.machines → (links : List (List LinkView)) → HaveLinks links (suc st.machines) → (messages : List MessageView) → ChangesLine v.links links p q messages
    → (told : List Message) → map message_read messages ≡ told → IsGoing st (at c a p q m told)
    → IsSavingClusterOf represents st (record v { machines = with_item v.machines a y; links = links }) (at c a p q m told)
passage_put represents st setting v c of a low y m here runs p q low_p low_q links have messages changes told read going = record {
  many = many_set represents st setting v c of a low y m here runs;
  small = of.small;
  links = have;
  machines = machines_set represents st setting v c of a low y m here runs;
  flags = of.flags;
  runs = runs_set represents st setting v c of a low y m here runs;
  told = told_set changes c.link told st.machines read of.told;
  calls = λ b low_b. subst (λ (ms : List MessageView). AreCalls ms (c.calls b)) (sym (line_kept changes st.machines b (inl (more_not p st.machines low_p)))) (of.calls b low_b);
  reports = λ b low_b. subst (λ (ms : List MessageView). AreReports ms (c.reports b)) (sym (line_kept changes b st.machines (inr (more_not q st.machines low_q)))) (of.reports b low_b);
  coordinator = of.coordinator;
  next = of.next;
  left = of.left;
  few = of.few;
  stopped = of.stopped;
  going = going;
}
  where
    more_not : (x y : ℕ) → x < y → y ≢ x
    more_not x y less same = omega arith

-- ---- what is heard

abbrev pub deliveries : ℕ → ℕ → List Message → List law.Event
deliveries p a [] = []
deliveries p a (told ∷ more) = law.Deliver p a ∷ deliveries p a more

deliveries_pass : (p a : ℕ) (told : List Message) → ArePassing (deliveries p a told)
deliveries_pass p a [] = tt
deliveries_pass p a (one ∷ told) = ((λ is. cc, λ base is. cc), deliveries_pass p a told)

pub deliveries_others : (p a : ℕ) (told : List Message) → AllByRecursion IsNoRecovery (deliveries p a told)
deliveries_others p a told = passing_others (deliveries p a told) (deliveries_pass p a told)

deliveries_follow : (st : Setting) (failures : List FailureAt) (p a : ℕ) (told : List Message) (c : Cluster) → FollowJob st failures c (deliveries p a told)
deliveries_follow st failures p a [] c = tt
deliveries_follow st failures p a (one ∷ told) c = (tt, deliveries_follow st failures p a told (law.after_event st c (law.Deliver p a)))

pub receives_run : (st : Setting) (a : ℕ) (told : List Message) (m : Machine) → (receives_all st a told m).failed ≡ m.failed
receives_run st a [] m = refl
receives_run st a (one ∷ told) m = receives_run st a told (prompt st a (receives st a one m))

module _ (st : Setting) (c : Cluster) (p a : ℕ) (runs : c.stopped ≡ false) (low_p : p < st.machines) (low : a < st.machines) where
  pub hears_run : (told : List Message) (m : Machine) (behind : List Message) → m.failed ≡ false
      → law.IsTrace st (at c a p a m (told ++ behind)) (deliveries p a told) (at c a p a (receives_all st a told m) behind)
  hears_run [] m behind fine = refl
  hears_run (one ∷ told) m behind fine =
      let now : Cluster = at c a p a m (one ∷ (told ++ behind)) in
      let first : now.link p a ≡ one ∷ (told ++ behind) = at_link c a p a m (one ∷ (told ++ behind)) in
      let next : Machine = prompt st a (receives st a one m) in
      let step : law.after_event st now (law.Deliver p a) ≡ at c a p a next (told ++ behind) =
      ap (law.delivers_message st now p a) first
      ∙ ap (λ (n : Machine). with_messages (with_machine now a (prompt st a (receives st a one n))) p a (told ++ behind)) (at_machine c a p a m (one ∷ (told ++ behind)))
      ∙ at_again c a p a m next (one ∷ (told ++ behind)) (told ++ behind)
      in (
        (
          runs,
          (
            record { machine = low; runs = ap (λ (n : Machine). n.failed) (at_machine c a p a m (one ∷ (told ++ behind))) ∙ fine },
            low_p,
            record { message = one; behind = told ++ behind; first = first },
          ),
        ),
        subst (λ (k : Cluster). law.IsTrace st k (deliveries p a told) (at c a p a (receives_all st a told next) behind)) (sym step) (hears_run told next behind fine),
      )

-- the machine hears the first messages of the link
pub hears_goes : {M : Type 0} (represents : Setting → ℕ → Machine → M → Type 0) (failures : List FailureAt) (done : List ℕ) (v : Parts (Standing M)) (p a : ℕ)
    → p < length v.machines.items → a < length v.machines.items → slice_index_or v.failed.items a false ≡ false → v.stopped ≡ false
    → (y z : Member M) → at_rest y ≡ slice_index_or v.machines.items a (at_rest y) → (heard : List MessageView) (l : LinkView)
    → (link_between v.links p a).messages ≡ heard ++ l.messages → HasHeardAll represents y.machine p a heard l.messages z.machine
    → GoesOn (StandsOwing represents) failures done v (record v { machines = with_item v.machines a (at_rest z); links = with_link_between v.links p a l })
hears_goes represents failures done v p a inside_p inside awake going_on y z read heard l were has st c setting of =
    let low_p : p < st.machines = subst (λ (n : ℕ). p < n) of.many inside_p in
    let low : a < st.machines = subst (λ (n : ℕ). a < n) of.many inside in
    let runs : c.stopped ≡ false = of.stopped ∙ going_on in
    let fine : (c.machine a).failed ≡ false = of.runs a low ∙ awake in
    let standing : StandsOwing represents st a (c.machine a) (at_rest y) = machine_here (StandsOwing represents) st setting v c of a low (at_rest y) read in
    let here : represents st a (c.machine a) y.machine = subst (λ (n : Machine). represents st a n y.machine) (sym standing.done) standing.here in
    let told : List Message = map message_read heard in
    let behind : List Message = map message_read l.messages in
    let on : c.link p a ≡ map message_read (heard ++ l.messages) = of.told p a low_p low ∙ ap (map message_read) were in
    let first : c.link p a ≡ told ++ behind = on ∙ map-append message_read heard l.messages in
    let hearing : IsHearing represents y.machine p a (heard ++ l.messages) st c =
    record { setting = setting; going = of.going; runs = runs; awake = record { machine = low; runs = fine }; from = low_p; here = here; told = on }
    in
    let m : Machine = receives_all st a told (c.machine a) in
    let later : Cluster = at c a p a m behind in
    let start : at c a p a (c.machine a) (told ++ behind) ≡ c = ap (at c a p a (c.machine a)) (sym first) ∙ at_same c a p a in
    let trace : law.IsTrace st c (deliveries p a told) later =
    subst (λ (k : Cluster). law.IsTrace st k (deliveries p a told) later) start (hears_run st c p a runs low_p low told (c.machine a) behind fine)
    in
    let link = has_link v.links (suc st.machines) p a of.links (under p st.machines low_p) (under a st.machines low) in
    record {
      events = deliveries p a told;
      passing = deliveries_pass p a told;
      later = later;
      trace = trace;
      follows = λ counts. deliveries_follow st failures p a told c;
      code = passage_put (StandsOwing represents) st setting v c of a low (at_rest z) m (record { before = m; here = has st c hearing; done = refl }) (receives_run st a told (c.machine a)) p a low_p low
          (with_link_between v.links p a l) (have_put v.links p a link l (suc st.machines) of.links) l.messages (line_put v.links p a link l) behind refl
          (going_trace st setting (deliveries p a told) (deliveries_others p a told) c later of.going trace);
    }
  where
    under : (x n : ℕ) → x < n → x < suc n
    under x n less = omega arith

-- ---- what is told

abbrev pub sendings : ℕ → ℕ → List Message → List law.Event
sendings a q [] = []
sendings a q (told ∷ more) = law.Send a q ∷ sendings a q more

sendings_pass : (a q : ℕ) (told : List Message) → ArePassing (sendings a q told)
sendings_pass a q [] = tt
sendings_pass a q (one ∷ told) = ((λ is. cc, λ base is. cc), sendings_pass a q told)

sendings_follow : (st : Setting) (failures : List FailureAt) (a q : ℕ) (told : List Message) (c : Cluster) → FollowJob st failures c (sendings a q told)
sendings_follow st failures a q [] c = tt
sendings_follow st failures a q (one ∷ told) c = (tt, sendings_follow st failures a q told (law.after_event st c (law.Send a q)))

pub hands_same : (q : ℕ) (m : Machine) (behind : List Message) → m.part.out q ≡ behind → hands q behind m ≡ m
hands_same q m behind is = λ i. record m { part = record m.part { out = λ b. same b i } }
  where
    same : (b : ℕ) → set_at m.part.out q behind b ≡ m.part.out b
    same b = elim (cases_eq b q) [
      | inl at_q ↦ ap (set_at m.part.out q behind) at_q ∙ set_at-same m.part.out q behind ∙ sym is ∙ ap m.part.out (sym at_q)
      | inr off ↦ set_at-other m.part.out q behind b off
    ]

pub hands_again : (q : ℕ) (m : Machine) (one other : List Message) → hands q other (hands q one m) ≡ hands q other m
hands_again q m one other = λ i. record m { part = record m.part { out = λ b. set_at-twice m.part.out q one other b i } }

module _ (st : Setting) (c : Cluster) (a q : ℕ) (runs : c.stopped ≡ false) (low : a < st.machines) (low_q : q < st.machines) where
  tells_run : (told : List Message) (m : Machine) (behind sent : List Message) → m.failed ≡ false → m.part.out q ≡ told ++ behind
      → law.IsTrace st (at c a a q m sent) (sendings a q told) (at c a a q (hands q behind m) (sent ++ told))
  tells_run [] m behind sent fine waits = (λ i. at c a a q (hands_same q m behind waits i) (append-nil sent i))
  tells_run (one ∷ told) m behind sent fine waits =
      let now : Cluster = at c a a q m sent in
      let same : now.machine a ≡ m = at_machine c a a q m sent in
      let first : (now.machine a).part.out q ≡ one ∷ (told ++ behind) = ap (λ (n : Machine). n.part.out q) same ∙ waits in
      let next : Machine = hands q (told ++ behind) m in
      let step : law.after_event st now (law.Send a q) ≡ at c a a q next (sent ++ one ∷ []) =
      ap (law.sends_message now a q) first
      ∙ (λ i. with_messages (with_machine now a (hands q (told ++ behind) (same i))) a q (at_link c a a q m sent i ++ one ∷ []))
      ∙ at_again c a a q m next sent (sent ++ one ∷ [])
      in
      let last : at c a a q (hands q behind next) ((sent ++ one ∷ []) ++ told) ≡ at c a a q (hands q behind m) (sent ++ one ∷ told) =
      λ i. at c a a q (hands_again q m (told ++ behind) behind i) (append_assoc sent (one ∷ []) told i)
      in (
        (runs, (record { machine = low; runs = ap (λ (n : Machine). n.failed) same ∙ fine }, low_q, record { message = one; behind = told ++ behind; first = first })),
        subst (λ (k : Cluster). law.IsTrace st k (sendings a q told) (at c a a q (hands q behind m) (sent ++ one ∷ told))) (sym step)
            (subst (law.IsTrace st (at c a a q next (sent ++ one ∷ [])) (sendings a q told)) last
            (tells_run told next behind (sent ++ one ∷ []) fine (set_at-same m.part.out q (told ++ behind)))),
      )

-- the machine tells the first messages that wait
pub tells_goes : {M : Type 0} (represents : Setting → ℕ → Machine → M → Type 0) (failures : List FailureAt) (done : List ℕ) (v : Parts (Standing M)) (a q : ℕ)
    → a < length v.machines.items → q < length v.machines.items → slice_index_or v.failed.items a false ≡ false → v.stopped ≡ false
    → (y z : Member M) → at_rest y ≡ slice_index_or v.machines.items a (at_rest y) → (told : List MessageView) (l : LinkView)
    → l.messages ≡ (link_between v.links a q).messages ++ told → OfEach represents y.machine (HasToldAll represents q told z.machine)
    → GoesOn (StandsOwing represents) failures done v (record v { machines = with_item v.machines a (at_rest z); links = with_link_between v.links a q l })
tells_goes represents failures done v a q inside inside_q awake going_on y z read told l are has st c setting of =
    let low_q : q < st.machines = subst (λ (n : ℕ). q < n) of.many inside_q in
    let low : a < st.machines = subst (λ (n : ℕ). a < n) of.many inside in
    let runs : c.stopped ≡ false = of.stopped ∙ going_on in
    let fine : (c.machine a).failed ≡ false = of.runs a low ∙ awake in
    let standing : StandsOwing represents st a (c.machine a) (at_rest y) = machine_here (StandsOwing represents) st setting v c of a low (at_rest y) read in
    let here : represents st a (c.machine a) y.machine = subst (λ (n : Machine). represents st a n y.machine) (sym standing.done) standing.here in
    let one : HasToldAll represents q told z.machine st a (c.machine a) = has st a (c.machine a) setting here in
    let words : List Message = map message_read told in
    let m : Machine = hands q one.behind (c.machine a) in
    let later : Cluster = at c a a q m (c.link a q ++ words) in
    let read_all : map message_read l.messages ≡ c.link a q ++ words =
    ap (map message_read) are ∙ map-append message_read (link_between v.links a q).messages told ∙ ap (λ (ms : List Message). ms ++ words) (sym (of.told a q low low_q))
    in
    let trace : law.IsTrace st c (sendings a q words) later =
    subst (λ (k : Cluster). law.IsTrace st k (sendings a q words) later) (at_same c a a q) (tells_run st c a q runs low low_q words (c.machine a) one.behind (c.link a q) fine one.first)
    in
    let link = has_link v.links (suc st.machines) a q of.links (under a st.machines low) (under q st.machines low_q) in
    record {
      events = sendings a q words;
      passing = sendings_pass a q words;
      later = later;
      trace = trace;
      follows = λ counts. sendings_follow st failures a q words c;
      code = passage_put (StandsOwing represents) st setting v c of a low (at_rest z) m (record { before = m; here = one.after; done = refl }) refl a q low low_q
          (with_link_between v.links a q l) (have_put v.links a q link l (suc st.machines) of.links) l.messages (line_put v.links a q link l) (c.link a q ++ words) read_all
          (going_trace st setting (sendings a q words) (passing_others (sendings a q words) (sendings_pass a q words)) c later of.going trace);
    }
  where
    under : (x n : ℕ) → x < n → x < suc n
    under x n less = omega arith
