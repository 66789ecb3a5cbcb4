-- Each event but a recovery keeps all machines' lists.
use Rattle.std.proofs.Common.{◌≡◌, ◌≢◌, ◌⊎◌, ℕ, suc, ◌<◌, ◌≤◌, max, nat_lt, true, false, Option, List, [], ◌∷◌, ◌++◌, inl, inr, refl, sym, ◌∙◌, ap, subst, ⊎_elim, le_antisymm, le_of_eq, arith}
use Rattle.std.specs.List.{AllByRecursion}
use Rattle.std.proofs.lemmas.Bool.{cases_eq, cases_lt, cond-false, cond-true, le-ltb, lt-ltb}
use Rattle.gl_base.specs.declared.scopes.ScopeId.{ScopeId}
use Rattle.graph_core.specs.DataGraph.{size}
use Rattle.cluster_laws.specs.cluster_core.Effects.{received}
use Rattle.cluster_laws.specs.cluster_core.Marks.{IsMarking, MarksHold}
use Rattle.cluster_laws.specs.cluster_core.Messages.{Ask, Done, Message, Ready}
use Rattle.cluster_laws.specs.cluster_core.Parts.{Part}
use Rattle.cluster_laws.specs.cluster_core.Ranges.{set_at}
use Rattle.cluster_laws.specs.cluster_core.Settings.{IsSetting, Setting}
use Rattle.cluster_laws.specs.cluster_core.Worlds.{World}
use Rattle.cluster_laws.proofs.cluster_core.Basics.{set_at-holds}
use Rattle.cluster_laws.proofs.cluster_numbers.Quiet.{admitted-quiet, goes_on-quiet, granted-quiet}
use Rattle.cluster_laws.specs.cluster_model.Calls.{Begin, Call, Committed, Report, Step, Wave, begins_in}
use Rattle.cluster_laws.specs.cluster_model.Clusters.{Cluster}
use Rattle.cluster_laws.specs.cluster_model.Events.{Event, Admit, DeliverCall, DeliverReport, Deliver, Fail, Grant, Mark, MayDo, PutBegin, PutStep, PutWave, Record, Recover, Section, Send, SendCall, SendReport, Stop, Update, after_event, delivers_call, delivers_message, delivers_report, makes, saves, sends_call, sends_message, sends_report}
use Rattle.cluster_laws.specs.cluster_model.Machines.{Machine}
use Rattle.cluster_laws.specs.cluster_model.Working.{admits, fails, grants, hands, hands_report, makes_mark, makes_update, prompt, receives, sections, snapshot_in, takes_call, works_on}
use Rattle.whole_laws.specs.cluster_whole.Logged.{Logged}
use Rattle.whole_laws.specs.cluster_whole.Views.{world_of}
use Rattle.whole_laws.specs.cluster_whole.Whole.{IsNoRecovery, IsWhole}
use Rattle.whole_laws.specs.cluster_records.Listed.{AreListed, IsListed}
use Rattle.whole_laws.proofs.cluster_records.Entering.{IsNoUpdate, update_logged}
use Rattle.whole_laws.proofs.cluster_records.Filtering.{other_entry, own_entry}
use Rattle.whole_laws.proofs.cluster_records.Listing.{before_logged, behind_logged, other_logged, same_listed, section_listed, told_listed}

pub under_low : (begun acknowledged : ℕ) → (begun ≡ acknowledged) ⊎ (begun ≡ suc acknowledged) → begun ≤ suc acknowledged
under_low begun acknowledged is =
    ⊎_elim (λ (none : begun ≡ acknowledged). le_up begun acknowledged none) (λ (one : begun ≡ suc acknowledged). le_of_eq one) is
  where
    le_up : (n k : ℕ) → n ≡ k → n ≤ suc k
    le_up n k same = omega arith

newest : (known acknowledged begun k : ℕ) → begun ≤ suc acknowledged → acknowledged ≤ known → known < k → k ≤ begun → k ≡ suc known
newest known acknowledged begun k few low high most = omega arith

not_newest : (known k begun : ℕ) → known < k → k ≤ begun → known ≡ begun → ⊥
not_newest known k begun high most is = omega arith

some_under : (known acknowledged begun k : ℕ) → acknowledged ≤ known → known < k → k ≤ begun → acknowledged < begun
some_under known acknowledged begun k low high most = omega arith

sent_is : (sent known acknowledged begun k : ℕ) → begun ≤ suc acknowledged → acknowledged ≤ known → known < k → k ≤ begun → acknowledged ≤ sent → sent ≤ begun → (sent ≡ begun → ⊥) → sent ≡ known
sent_is sent known acknowledged begun k few low high most sent_low sent_high other =
    ⊎_elim (λ (is : sent ≡ begun). absurd (other is)) (λ (off : sent ≢ begun). lower sent known acknowledged begun k few low high most sent_low (less sent begun sent_high off)) (cases_eq sent begun)
  where
    less : (n m : ℕ) → n ≤ m → n ≢ m → n < m
    less n m most off = ⊎_elim (λ (is : n < m). is) (λ (high : m ≤ n). absurd (off (le_antisymm most high))) (cases_lt n m)

    lower : (sent known acknowledged begun k : ℕ) → begun ≤ suc acknowledged → acknowledged ≤ known → known < k → k ≤ begun → acknowledged ≤ sent → sent < begun → sent ≡ known
    lower sent known acknowledged begun k few low high most sent_low sent_less = omega arith

max_none : (n : ℕ) → max n 0 ≡ n
max_none n = omega arith

zero_low : (n : ℕ) → 0 ≤ n
zero_low n = omega arith

-- a message is of no newer snapshot than the newest
number_in : (st : Setting) (w : World) (m : Message) → IsMarking st w m → snapshot_in m ≤ w.begun
number_in st w (Ask s v rest) is = zero_low w.begun
number_in st w (Ready s) is = zero_low w.begun
number_in st w (Done s news) is = is.0

received_known : (st : Setting) (a : ℕ) (m : Message) (part : Part) → (received st a m part).known ≡ max part.known (snapshot_in m)
received_known st a (Ask s v rest) part = (goes_on-quiet st a s v 0 rest part).known ∙ sym (max_none part.known)
received_known st a (Ready s) part = sym (max_none part.known)
received_known st a (Done s news) part = refl

pub received_sent : (st : Setting) (a : ℕ) (m : Message) (part : Part) → (received st a m part).sent ≡ part.sent
received_sent st a (Ask s v rest) part = (goes_on-quiet st a s v 0 rest part).sent
received_sent st a (Ready s) part = refl
received_sent st a (Done s news) part = refl

is_next : (mark known acknowledged begun : ℕ) → begun ≤ suc acknowledged → acknowledged ≤ mark → mark < known → known ≤ begun → (suc mark ≡ known) × (known ≡ begun) × (acknowledged < begun)
is_next mark known acknowledged begun few low less most = (omega arith, omega arith, omega arith)

not_marked : (mark known begun : ℕ) → mark < known → known ≡ begun → mark ≡ begun → ⊥
not_marked mark known begun less is now = omega arith

less_than : (sent known begun : ℕ) → sent ≤ begun → known ≡ begun → sent ≢ begun → sent < known
less_than sent known begun most is off =
    ⊎_elim (λ (less : sent < known). less) (λ (high : known ≤ sent). absurd (off (le_antisymm most (subst (λ (n : ℕ). n ≤ sent) is high)))) (cases_lt sent known)

near_all : (sent known begun : ℕ) → sent ≡ begun → known ≡ begun → (sent ≤ known) × (known ≤ suc sent)
near_all sent known begun one two = (omega arith, omega arith)

near_none : (sent known acknowledged begun : ℕ) → sent ≡ begun → begun ≤ acknowledged → acknowledged ≤ known → known ≤ begun → (sent ≤ known) × (known ≤ suc sent)
near_none sent known acknowledged begun one two three four = (omega arith, omega arith)

near_old : (sent known acknowledged begun : ℕ) → sent < begun → begun ≤ suc acknowledged → acknowledged ≤ sent → acknowledged ≤ known → known ≤ begun → (sent ≤ known) × (known ≤ suc sent)
near_old sent known acknowledged begun one two three four five = (omega arith, omega arith)

lower : (n m : ℕ) → n ≤ m → n ≢ m → n < m
lower n m most off = ⊎_elim (λ (is : n < m). is) (λ (high : m ≤ n). absurd (off (le_antisymm most high))) (cases_lt n m)

module _ (st : Setting) (is : IsSetting st) (c : Cluster) (whole : IsWhole st c) where
  abbrev w : World
  w = world_of c

  abbrev marks : MarksHold st w
  marks = whole.consistent.marks

  few : w.begun ≤ suc w.acknowledged
  few = under_low w.begun w.acknowledged marks.under

  -- a snapshot of which machine a is told is one that it knows, or the next one, and then it has sent its section of the one that it knows
  pub told_newest : (a : ℕ) → a < st.machines → (k : ℕ) → k ≤ w.begun → (k ≤ (w.part a).known) ⊎ ((k ≡ suc (w.part a).known) × ((w.part a).sent ≡ (w.part a).known))
  told_newest a low k most =
      let known = marks.known a low in
      let sent = marks.sent_low a low in
      ⊎_elim
      (λ (high : (w.part a).known < k).
      let under : w.acknowledged < w.begun = some_under (w.part a).known w.acknowledged w.begun k known.0 high most in
      inr (
        newest (w.part a).known w.acknowledged w.begun k few known.0 high most,
        sent_is (w.part a).sent (w.part a).known w.acknowledged w.begun k few known.0 high most sent.0 sent.1
            (λ all. not_newest (w.part a).known k w.begun high most (marks.sent a low all under).0),
      ))
      (λ (old : k ≤ (w.part a).known). inl old)
      (cases_lt (w.part a).known k)

  -- the mark of a machine's own vertex
  pub own_mark : (a v : ℕ) → v < size st.graph → st.owner v ≡ a → (w.acknowledged ≤ ((w.part a).datum v).mark) × (((w.part a).datum v).mark ≤ (w.part a).known)
  own_mark a v within owner =
      subst (λ (b : ℕ). (w.acknowledged ≤ ((w.part b).datum v).mark) × (((w.part b).datum v).mark ≤ (w.part b).known)) owner (marks.marks v within)

  -- of an unmarked vertex the machine knows the snapshot under way, and hasn't sent its section
  pub unmarked_unsent : (a v : ℕ) → a < st.machines → v < size st.graph → st.owner v ≡ a → ((w.part a).datum v).mark < (w.part a).known → (suc ((w.part a).datum v).mark ≡ (w.part a).known) × ((w.part a).sent < (w.part a).known)
  unmarked_unsent a v low within owner less =
      let next = is_next ((w.part a).datum v).mark (w.part a).known w.acknowledged w.begun few (own_mark a v within owner).0 less (marks.known a low).1 in (
        next.0,
        less_than (w.part a).sent (w.part a).known w.begun (marks.sent_low a low).1 next.1
            (λ all. not_marked ((w.part a).datum v).mark (w.part a).known w.begun less next.1
            (subst (λ (b : ℕ). ((w.part b).datum v).mark ≡ w.begun) owner ((marks.sent a low all next.2).1 v within owner))),
      )

  module _ (logged : List Logged) (listed : AreListed st c logged) where
    one : (a : ℕ) (new : Machine) → (a < st.machines → IsListed a new logged) → (b : ℕ) → b < st.machines → IsListed b (set_at c.machine a new b) logged
    one a new its b = set_at-holds (λ (b : ℕ) (m : Machine). b < st.machines → IsListed b m logged) c.machine a new b its (λ off. listed b)

    -- and then it answers where it may
    answered : (a : ℕ) (new : Machine) → (a < st.machines → IsListed a new logged) → (b : ℕ) → b < st.machines → IsListed b (set_at c.machine a (prompt st a new) b) logged
    answered a new its = one a (prompt st a new) (λ low. same_listed a new logged (its low) (prompt st a new) refl refl refl refl)

    kept : (a : ℕ) (new : Machine) → new.before ≡ (c.machine a).before → new.behind ≡ (c.machine a).behind → new.part.known ≡ (c.machine a).part.known → new.part.sent ≡ (c.machine a).part.sent → a < st.machines → IsListed a new logged
    kept a new before behind known sent low = same_listed a (c.machine a) logged (listed a low) new before behind known sent

    received_listed : (p q : ℕ) (m : Message) (behind : List Message) → c.link p q ≡ m ∷ behind → q < st.machines → IsListed q (receives st q m (c.machine q)) logged
    received_listed p q m behind first low =
        let first_is : IsMarking st w m = (subst (λ (ms : List Message). AllByRecursion (IsMarking st w) (ms ++ (w.part p).out q)) first (marks.told p q)).0 in
        told_listed q (c.machine q) logged (listed q low) (snapshot_in m) (receives st q m (c.machine q)) refl refl
        (received_known st q m (w.part q)) (received_sent st q m (w.part q))
        (told_newest q low (snapshot_in m) (number_in st w m first_is))

    call_listed : (a : ℕ) (call : Call) (behind : List Call) → c.calls a ≡ call ∷ behind → a < st.machines → IsListed a (takes_call st a call (c.machine a)) logged
    call_listed a (Begin k) behind first low =
        let number : k ≤ w.begun = (subst (λ (calls : List Call). AllByRecursion (λ k. k ≤ w.begun) (begins_in (calls ++ c.coordinator.out a))) first (marks.orders a)).0 in
        told_listed a (c.machine a) logged (listed a low) k (takes_call st a (Begin k) (c.machine a)) refl refl refl refl (told_newest a low k number)
    call_listed a (Committed k) behind first low = kept a (takes_call st a (Committed k) (c.machine a)) refl refl refl refl low
    call_listed a (Wave k) behind first low = kept a (takes_call st a (Wave k) (c.machine a)) refl refl refl refl low
    call_listed a (Step colour) behind first low = kept a (takes_call st a (Step colour) (c.machine a)) refl refl refl refl low

    pub events_listed : (event : Event) → MayDo st c event → IsNoRecovery event → IsNoUpdate event → AreListed st (after_event st c event) logged
    events_listed (Admit a v) may other none =
        let quiet = admitted-quiet st a v (w.part a) in answered a (admits st a v (c.machine a)) (kept a (admits st a v (c.machine a)) refl refl quiet.known quiet.sent)
    events_listed (Grant a x) may other none =
        let quiet = granted-quiet st a x (w.part a) in answered a (grants st a x (c.machine a)) (kept a (grants st a x (c.machine a)) refl refl quiet.known quiet.sent)
    events_listed (Send p q) may other none =
        subst (λ (ms : List Message). AreListed st (sends_message c p q ms) logged) (sym may.2.first)
        (one p (hands q may.2.behind (c.machine p)) (kept p (hands q may.2.behind (c.machine p)) refl refl refl refl))
    events_listed (SendCall a) may other none = subst (λ (calls : List Call). AreListed st (sends_call c a calls) logged) (sym may.1.first) listed
    events_listed (SendReport a) may other none =
        subst (λ (reports : List Report). AreListed st (sends_report c a reports) logged) (sym may.1.first)
        (one a (hands_report may.1.behind (c.machine a)) (kept a (hands_report may.1.behind (c.machine a)) refl refl refl refl))
    events_listed (Deliver p q) may other none =
        subst (λ (ms : List Message). AreListed st (delivers_message st c p q ms) logged) (sym may.2.first)
        (answered q (receives st q may.2.message (c.machine q)) (received_listed p q may.2.message may.2.behind may.2.first))
    events_listed (DeliverCall a) may other none =
        subst (λ (calls : List Call). AreListed st (delivers_call st c a calls) logged) (sym may.1.first)
        (answered a (takes_call st a may.1.message (c.machine a)) (call_listed a may.1.message may.1.behind may.1.first))
    events_listed (DeliverReport a) may other none = subst (λ (reports : List Report). AreListed st (delivers_report c a reports) logged) (sym may.1.first) listed
    events_listed (Update s) may other none = absurd (none s refl)
    events_listed (Mark s) may other none =
        let a : ℕ = s.home.0 in
        subst (λ (flight : Option ℕ). AreListed st (saves st c s flight) logged) (sym may.1.flight)
        (answered a (makes_mark st a s may.1.vertex (c.machine a)) (kept a (makes_mark st a s may.1.vertex (c.machine a)) refl refl refl refl))
    events_listed (Section a) may other none =
        answered a (sections (c.machine a)) (λ low. section_listed a (c.machine a) logged (listed a low) (sections (c.machine a)) refl refl refl refl)
    events_listed Record may other none = listed
    events_listed PutBegin may other none = listed
    events_listed PutStep may other none = listed
    events_listed PutWave may other none = listed
    events_listed (Fail a) may other none = one a (fails (c.machine a)) (kept a (fails (c.machine a)) refl refl refl refl)
    events_listed (Recover base) may other none = absurd (other base refl)
    events_listed Stop may other none = listed

    -- an update is listed before the marks or behind them
    pub made_listed : (s : ScopeId) (may : MayDo st c (Update s)) → st.owner may.1.vertex ≡ s.home.0 → may.1.vertex < size st.graph →
        IsListed s.home.0 (works_on st s.home.0 s may.1.vertex (update_logged st c s may.1.vertex).entry (c.machine s.home.0)) (logged ++ update_logged st c s may.1.vertex ∷ [])
    made_listed s may owner within =
        let a : ℕ = s.home.0 in
        let v : ℕ = may.1.vertex in
        let m : Machine = c.machine a in
        let l : Logged = update_logged st c s v in
        let mark : ℕ = (m.part.datum v).mark in
        let done : Machine = works_on st a s v l.entry m in
        let low : a < st.machines = may.0.machine in
        let own = own_entry a s.home (record { 0 = v }) c.next refl in
        ⊎_elim
        (λ (less : mark < m.part.known).
        let test : nat_lt mark m.part.known ≡ true = lt-ltb mark m.part.known less in
        let both = unmarked_unsent a v low within owner less in
        before_logged a m logged (listed a low) done l own both.0 both.1
        (cond-true (nat_lt mark m.part.known) (m.before ++ l.entry ∷ []) m.before test)
        (cond-true (nat_lt mark m.part.known) m.behind (m.behind ++ l.entry ∷ []) test) refl refl)
        (λ (high : m.part.known ≤ mark).
        let test : nat_lt mark m.part.known ≡ false = le-ltb mark m.part.known high in
        behind_logged a m logged (listed a low) done l own (ap (λ (n : ℕ). suc n) (le_antisymm (own_mark a v within owner).1 high))
        (cond-false (nat_lt mark m.part.known) (m.before ++ l.entry ∷ []) m.before test)
        (cond-false (nat_lt mark m.part.known) m.behind (m.behind ++ l.entry ∷ []) test) refl refl)
        (cases_lt mark m.part.known)

    pub update_listed : (s : ScopeId) (may : MayDo st c (Update s)) → st.owner may.1.vertex ≡ s.home.0 → may.1.vertex < size st.graph → AreListed st (after_event st c (Update s)) (logged ++ update_logged st c s may.1.vertex ∷ [])
    update_listed s may owner within =
        let a : ℕ = s.home.0 in
        let v : ℕ = may.1.vertex in
        let l : Logged = update_logged st c s v in
        let done : Machine = works_on st a s v l.entry (c.machine a) in
        let made : Machine = prompt st a (makes_update st a s v l.entry (c.machine a)) in
        subst (λ (flight : Option ℕ). AreListed st (makes st c s flight) (logged ++ l ∷ [])) (sym may.1.flight)
        (λ b. set_at-holds (λ (b : ℕ) (m : Machine). b < st.machines → IsListed b m (logged ++ l ∷ [])) c.machine a made b
        (λ fits. same_listed a done (logged ++ l ∷ []) (made_listed s may owner within) made refl refl refl refl)
        (λ off fits. other_logged b (c.machine b) logged (listed b fits) l (other_entry b s.home (record { 0 = v }) c.next (λ is. off (sym is)))))

    -- a machine has sent its section of the snapshot that it knows, or of the one before
    pub sent_near : (a : ℕ) → a < st.machines → ((w.part a).sent ≤ (w.part a).known) × ((w.part a).known ≤ suc (w.part a).sent)
    sent_near a low =
        let known = marks.known a low in
        let sent = marks.sent_low a low in
        ⊎_elim
        (λ (all : (w.part a).sent ≡ w.begun). ⊎_elim
        (λ (under : w.acknowledged < w.begun). near_all (w.part a).sent (w.part a).known w.begun all (marks.sent a low all under).0)
        (λ (none : w.begun ≤ w.acknowledged). near_none (w.part a).sent (w.part a).known w.acknowledged w.begun all none known.0 known.1)
        (cases_lt w.acknowledged w.begun))
        (λ (off : (w.part a).sent ≢ w.begun). near_old (w.part a).sent (w.part a).known w.acknowledged w.begun (lower (w.part a).sent w.begun sent.1 off) few sent.0 known.0 known.1)
        (cases_eq (w.part a).sent w.begun)
