-- What each action makes of the part of the machine at which it happens. Scopes, and the canonical order of their locks, are those
-- of the locking engine. Of the setting its graph, owners, machines and pipeline are used, and `p` is what an update does.
use Rattle.std.specs.Prelude.{Bool, List, None, Option, Some, [], false, if◌then◌else◌, not, pred, suc, true, unwrap_or, ℕ, ◌&&◌, ◌++◌, ◌==◌, ◌||◌, ◌∷◌}
use Rattle.gl_base.specs.declared.entries.Entry.{Entry}
use Rattle.gl_base.specs.declared.scopes.ScopeId.{ScopeId}
use Rattle.seq_run.specs.States.{GraphState}
use Rattle.cluster_laws.specs.cluster_core.Ranges.{set_at}
use Rattle.cluster_laws.specs.cluster_core.Scopes.{machines_from, own_from, set_for, takes_part}
use Rattle.cluster_laws.specs.cluster_core.Settings.{Setting}
use Rattle.full_scope.specs.FullStates.{after_full, full_wakes}
use Rattle.full_scope.specs.FullUpdates.{FullUpdate}
use Rattle.full_laws.specs.FullMessages.{FullMessage, Gather, Gift, Give, Home}
use Rattle.full_laws.specs.FullParts.{FullPart, FullStand}
use Rattle.full_laws.specs.Items.{AVertex, AnEdge, Item, is_written, keeps, number_in}

-- a message for q goes to the outbox
abbrev pub posts_full : ℕ → FullMessage → FullPart → FullPart
posts_full q m part = record part { out = set_at part.out q (part.out q ++ m ∷ []) }

-- ---- a scope on its way through the locks

-- the scope has all its locks here: with what was gathered it goes on to the next machine, or home
abbrev pub leaves_full : ℕ → ScopeId → ℕ → List ℕ → (ℕ → Option ℕ) → FullPart → FullPart
leaves_full a s v (b ∷ rest) seen part = posts_full b (Gather s v rest seen) part
leaves_full a s v [] seen part =
    if s.home.0 == a then record part { ready = set_for part.ready s (Some seen) } else posts_full s.home.0 (Home s seen) part

-- the scope asks for the next lock here, where there is one
abbrev pub seeks_full : ℕ → ScopeId → ℕ → List ℕ → (ℕ → Option ℕ) → Option ℕ → FullPart → FullPart
seeks_full a s v rest seen (Some x) part =
    record part {
      stand = set_for part.stand s (Some (record { centre = v; lock = x; rest = rest; seen = seen }));
      queue = set_at part.queue x (part.queue x ++ s ∷ []);
    }
seeks_full a s v rest seen None part = leaves_full a s v rest seen (record part { stand = set_for part.stand s None })

-- scope s of centre v is at machine a, has its locks below k there, and has these machines still to come
abbrev pub passes_full : Setting → ℕ → ScopeId → ℕ → ℕ → List ℕ → (ℕ → Option ℕ) → FullPart → FullPart
passes_full st a s v k rest seen part = seeks_full a s v rest seen (own_from st v a k) part

-- nothing is gathered
abbrev pub no_numbers : ℕ → Option ℕ
no_numbers x = None

-- a new scope sets out to the first of its machines
abbrev pub sets_out_full : Setting → ℕ → ScopeId → ℕ → List ℕ → FullPart → FullPart
sets_out_full st a s v [] part = part
sets_out_full st a s v (b ∷ rest) part =
    if b == a then passes_full st a s v 0 rest no_numbers part else posts_full b (Gather s v rest no_numbers) part

-- the scope of machine a with this serial number
abbrev pub scope_of : ℕ → ℕ → ScopeId
scope_of a serial = record { home = record { 0 = a }; serial = serial }

-- the next scope, of this centre, is in flight
abbrev pub flies_full : ScopeId → ℕ → FullPart → FullPart
flies_full s v part = record part { serial = suc part.serial; flying = suc part.flying; flight = set_for part.flight s (Some v) }

-- machine a admits a scope of v
abbrev pub admitted_full : Setting → ℕ → ℕ → FullPart → FullPart
admitted_full st a v part =
    let s : ScopeId = scope_of a part.serial in
    sets_out_full st a s v (machines_from st v 0) (flies_full s v part)

-- what was gathered, and the number of x
abbrev pub gathers : ℕ → ℕ → (ℕ → Option ℕ) → ℕ → Option ℕ
gathers x number seen y = if y == x then Some number else seen y

-- the scope has the lock of x: it gathers the number of x, and goes on from where it stood
abbrev pub moves_full : Setting → ℕ → ℕ → ScopeId → Option FullStand → FullPart → FullPart
moves_full st a x s None part = part
moves_full st a x s (Some stand) part =
    passes_full st a s stand.centre (suc x) stand.rest (gathers x (part.number (AVertex x)) stand.seen) part

-- the scope holds the lock of x, and these wait for it
abbrev pub locks_full : ℕ → ScopeId → List ScopeId → FullPart → FullPart
locks_full x s queue part =
    record part { queue = set_at part.queue x queue; holds = set_at part.holds x (set_for (part.holds x) s true) }

-- the first of these scopes gets the lock of x, and goes on
abbrev pub granted_first : Setting → ℕ → ℕ → List ScopeId → FullPart → FullPart
granted_first st a x [] part = part
granted_first st a x (s ∷ queue) part = moves_full st a x s (part.stand s) (locks_full x s queue part)

-- machine a grants the lock of x to the first that waits for it
abbrev pub granted_full : Setting → ℕ → ℕ → FullPart → FullPart
granted_full st a x part = granted_first st a x (part.queue x) part

-- ---- an update, and what others get of it

-- the scope holds no lock any more
abbrev pub released_full : ScopeId → (ℕ → ScopeId → Bool) → ℕ → ScopeId → Bool
released_full s holds x = set_for (holds x) s false

-- what is given is taken, and the scope holds no lock here any more
abbrev pub takes_gift : ScopeId → Gift → FullPart → FullPart
takes_gift s gift part =
    record part {
      number = λ i. unwrap_or (gift.numbers i) (part.number i);
      task = λ u. gift.wakes u || part.task u;
      holds = released_full s part.holds;
    }

-- machine a receives a message
abbrev pub received_full : Setting → ℕ → FullMessage → FullPart → FullPart
received_full st a (Gather s v rest seen) part = passes_full st a s v 0 rest seen part
received_full st a (Home s seen) part = record part { ready = set_for part.ready s (Some seen) }
received_full st a (Give s gift) part = takes_gift s gift part

-- the numbers as they are lent to an update: what was gathered, and the edges here
abbrev pub lent_full : (ℕ → Option ℕ) → FullPart → GraphState
lent_full seen part = record { vertex = λ x. unwrap_or (seen x) 0; edge = λ e. part.number (AnEdge e) }

-- the numbers of the items that machine q keeps and an update of v writes, in this state
abbrev pub its_numbers : Setting → GraphState → ℕ → ℕ → Item → Option ℕ
its_numbers st s v q i = if keeps st q i && is_written st v i then Some (number_in s i) else None

-- machine q owns u, and the update of v, to which these numbers are lent, wakes it
abbrev pub wakes_there : Setting → FullUpdate → GraphState → ℕ → ℕ → ℕ → Bool
wakes_there st p lent v q u = st.owner u == q && full_wakes st.graph p lent v u

-- what machine q is given of an update of v, to which these numbers are lent
abbrev pub gift_for : Setting → FullUpdate → GraphState → ℕ → ℕ → Gift
gift_for st p lent v q =
    record { numbers = its_numbers st (after_full st.graph p lent v) v q; wakes = wakes_there st p lent v q }

-- what becomes of an outbox as the other machines of the scope of v are given theirs
abbrev pub gives : Setting → ℕ → ℕ → ScopeId → (ℕ → Gift) → (ℕ → List FullMessage) → ℕ → List FullMessage
gives st a v s gift out q = if takes_part st v q && not (q == a) then out q ++ Give s (gift q) ∷ [] else out q

-- machine a makes the update of v, whose scope is s and to which these numbers are lent, and logs this entry
abbrev pub updated_full : Setting → FullUpdate → ℕ → ScopeId → ℕ → GraphState → Entry → FullPart → FullPart
updated_full st p a s v lent entry part =
    record part {
      number = λ i. unwrap_or (its_numbers st (after_full st.graph p lent v) v a i) (part.number i);
      task = λ u. wakes_there st p lent v a u || (part.task u && not (u == v));
      log = part.log ++ entry ∷ [];
      flying = pred part.flying;
      flight = set_for part.flight s None;
      ready = set_for part.ready s None;
      holds = released_full s part.holds;
      out = gives st a v s (gift_for st p lent v) part.out;
    }
