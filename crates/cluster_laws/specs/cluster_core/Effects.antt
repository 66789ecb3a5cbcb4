-- What each action makes of the part of the machine at which it happens.
use Rattle.std.specs.Prelude.{Bool, List, None, Option, Some, [], false, if◌then◌else◌, max, nat_lt, not, pred, suc, true, ℕ, ◌&&◌, ◌++◌, ◌==◌, ◌||◌, ◌∷◌}
use Rattle.gl_base.specs.declared.entries.Entry.{Entry}
use Rattle.gl_base.specs.declared.scopes.Claim.{Claim}
use Rattle.gl_base.specs.declared.scopes.Datum.{Datum}
use Rattle.gl_base.specs.declared.scopes.Mode.{Mode}
use Rattle.gl_base.specs.declared.scopes.ScopeId.{ScopeId}
use Rattle.cluster_laws.specs.cluster_core.Messages.{Ask, Done, Message, News, Ready, Section}
use Rattle.cluster_laws.specs.cluster_core.Parts.{Part, Stand, lent}
use Rattle.cluster_laws.specs.cluster_core.Ranges.{first_passing, set_at}
use Rattle.cluster_laws.specs.cluster_core.Scopes.{machines_from, mode_at, own_from, set_for, takes_part}
use Rattle.cluster_laws.specs.cluster_core.Settings.{Chromatic, Engine, Locking, Setting, nth_edge, is_near}
use Rattle.graph_core.specs.DataGraph.{DataEdge, size}
use Rattle.seq_run.specs.States.{after_update, new_number, wakes}

-- a message for q goes to the outbox
abbrev pub posts : ℕ → Message → Part → Part
posts q m part = record part { out = set_at part.out q (part.out q ++ m ∷ []) }

-- ---- a scope on its way through the locks

-- the scope has all its locks here: it goes on to the next machine, or home
abbrev pub goes_away : ℕ → ScopeId → ℕ → List ℕ → Part → Part
goes_away a s v (b ∷ rest) part = posts b (Ask s v rest) part
goes_away a s v [] part = if s.home.0 == a then record part { ready = set_for part.ready s true } else posts s.home.0 (Ready s) part

-- the scope asks for the next lock here, where there is one
abbrev pub asks_for : ℕ → ScopeId → ℕ → List ℕ → Option ℕ → Part → Part
asks_for a s v rest (Some x) part =
    record part {
      stand = set_for part.stand s (Some (record { centre = v; lock = x; rest = rest }));
      queue = set_at part.queue x (part.queue x ++ record { scope = s; mode = mode_at v x } ∷ []);
    }
asks_for a s v rest None part = goes_away a s v rest (record part { stand = set_for part.stand s None })

-- scope s of centre v is at machine a, has its locks below k there, and has these machines still to come
abbrev pub goes_on : Setting → ℕ → ScopeId → ℕ → ℕ → List ℕ → Part → Part
goes_on st a s v k rest part = asks_for a s v rest (own_from st v a k) part

-- a new scope sets out to the first of its machines
abbrev pub sets_out : Setting → ℕ → ScopeId → ℕ → List ℕ → Part → Part
sets_out st a s v [] part = part
sets_out st a s v (b ∷ rest) part = if b == a then goes_on st a s v 0 rest part else posts b (Ask s v rest) part

-- the next scope of machine a, with this centre, is in flight
abbrev pub next_scope : ℕ → Part → ScopeId
next_scope a part = record { home = record { 0 = a }; serial = part.serial }

-- it admits the next scope, of this centre
abbrev pub in_flight : ℕ → ℕ → Part → Part
in_flight a v part =
    record part { serial = suc part.serial; flying = suc part.flying; flight = set_for part.flight (next_scope a part) (Some v) }

-- with locks the scope sets out to take them; with colours it is ready at once
abbrev pub admitted_by : Engine → Setting → ℕ → ℕ → Part → Part
admitted_by Locking st a v part = sets_out st a (next_scope a part) v (machines_from st v 0) (in_flight a v part)
admitted_by (Chromatic colour colours) st a v part = record (in_flight a v part) { ready = set_for part.ready (next_scope a part) true }

-- machine a admits a scope of v
abbrev pub admitted : Setting → ℕ → ℕ → Part → Part
admitted st a v part = admitted_by st.engine st a v part

-- the scope of the claim holds the lock of x, and goes on from where it stood
abbrev pub moves_on : Setting → ℕ → ℕ → Claim → Option Stand → Part → Part
moves_on st a x c None part = part
moves_on st a x c (Some stand) part = goes_on st a c.scope stand.centre (suc x) stand.rest part

-- the first in the queue holds the lock of x
abbrev pub takes_lock : ℕ → Claim → List Claim → Part → Part
takes_lock x c queue part =
    record part {
      queue = set_at part.queue x queue;
      holder = set_at part.holder x (set_for (part.holder x) c.scope (Some c.mode));
    }

-- the first of these claims gets the lock of x, and its scope goes on
abbrev pub first_granted : Setting → ℕ → ℕ → List Claim → Part → Part
first_granted st a x [] part = part
first_granted st a x (c ∷ queue) part = moves_on st a x c (part.stand c.scope) (takes_lock x c queue part)

-- machine a grants the lock of x to the first that waits for it
abbrev pub granted : Setting → ℕ → ℕ → Part → Part
granted st a x part = first_granted st a x (part.queue x) part

-- ---- an update, and what others learn of it

-- the scope holds no lock any more
abbrev pub released : ScopeId → (ℕ → ScopeId → Option Mode) → ℕ → ScopeId → Option Mode
released s holder x = set_for (holder x) s None

-- a datum is taken where its version is greater
abbrev pub newer_datum : Datum → Option Datum → Datum
newer_datum old None = old
newer_datum old (Some new) = if nat_lt old.version new.version then new else old

-- the datum of v, after this news
abbrev pub datum_after : News → ℕ → Datum → Datum
datum_after news v old = if v == news.centre then newer_datum old news.datum else old

-- the number of an edge, after what is told of it
abbrev pub edge_after : Option ℕ → ℕ → ℕ
edge_after None old = old
edge_after (Some new) old = new

-- the first vertex of machine a that has no mark of the newest snapshot that it knows
abbrev pub first_unmarked : Setting → ℕ → Part → Option ℕ
first_unmarked st a part = first_passing (λ v. st.owner v == a && nat_lt (part.datum v).mark part.known) 0 (size st.graph)

-- the first vertex that is pending
abbrev pub first_pending : Setting → Part → Option ℕ
first_pending st part = first_passing part.pending 0 (size st.graph)

-- where nothing is pending, the first unmarked vertex
abbrev pub seed_if : Option ℕ → Option ℕ → Option ℕ
seed_if None unmarked = unmarked
seed_if (Some v) unmarked = None

-- this is u
abbrev pub is_at : Option ℕ → ℕ → Bool
is_at None u = false
is_at (Some v) u = v == u

-- where machine a has unmarked vertices and none pending, the first unmarked one becomes pending
abbrev pub part_seeded : Setting → ℕ → Part → Part
part_seeded st a part =
    record part { pending = λ u. is_at (seed_if (first_pending st part) (first_unmarked st a part)) u || part.pending u }

-- no number
abbrev pub nothing_saved : Section
nothing_saved = record { vertices = λ v. None; edges = λ e. None }

-- machine a knows snapshot k: where that is a newer one, nothing is saved for it yet
abbrev pub knows : ℕ → Part → Part
knows k part = record part { known = max part.known k; saved = if nat_lt part.known k then nothing_saved else part.saved }

-- machine a learns that snapshot k has begun
abbrev pub begins : Setting → ℕ → ℕ → Part → Part
begins st a k part = part_seeded st a (knows k part)

-- news of an update: numbers, tasks and pending vertices are taken over, and the scope holds no lock here any more
abbrev pub learns : ScopeId → News → Part → Part
learns s news part =
    record part {
      datum = λ v. datum_after news v (part.datum v);
      edge = λ e. edge_after (news.edges e) (part.edge e);
      task = λ u. news.wakes u || part.task u;
      pending = λ u. news.pends u || part.pending u;
      holder = released s part.holder;
    }

-- machine a learns of an update, and before that of the snapshot that it belongs to
abbrev pub applied : Setting → ℕ → ScopeId → News → Part → Part
applied st a s news part = learns s news (begins st a news.number part)

-- machine a receives a message
abbrev pub received : Setting → ℕ → Message → Part → Part
received st a (Ask s v rest) part = goes_on st a s v 0 rest part
received st a (Ready s) part = record part { ready = set_for part.ready s true }
received st a (Done s news) part = applied st a s news part

-- the datum with this new number
abbrev pub renewed : Datum → ℕ → Datum
renewed old new = if new == old.value then old else record { value = new; version = suc old.version; mark = old.mark }

-- the datum as it is told: only where the number changed
abbrev pub told_datum : Datum → ℕ → Option Datum
told_datum old new = if new == old.value then None else Some (renewed old new)

-- the edge leads between v and a vertex of machine q
abbrev pub is_shared : Setting → ℕ → ℕ → DataEdge → Bool
is_shared st v q e = (e.from == v && st.owner e.to == q) || (e.to == v && st.owner e.from == q)

-- the number as it is told: only where it changed and the edge is shared
abbrev pub told_edge : Bool → ℕ → ℕ → Option ℕ
told_edge shared old new = if shared && not (old == new) then Some new else None

-- what machine q is told of an update of v, where this is the part before it
abbrev pub news_for : Setting → Part → ℕ → ℕ → News
news_for st part v q =
    record {
      centre = v;
      datum = told_datum (part.datum v) (new_number st.graph st.program (lent part) v);
      edges = λ e. told_edge (is_shared st v q (nth_edge st e)) (part.edge e) ((after_update st.graph st.program (lent part) v).edge e);
      wakes = λ u. st.owner u == q && wakes st.graph st.program (lent part) v u;
      pends = λ u. false;
      number = 0;
    }

-- what becomes of an outbox as the machines that take part in the scope of v, other than a, are told
abbrev pub tell : Setting → ℕ → ℕ → ScopeId → (ℕ → News) → (ℕ → List Message) → ℕ → List Message
tell st a v s news out q = if takes_part st v q && not (q == a) then out q ++ Done s (news q) ∷ [] else out q

-- the scope of v ends at its home a, which tells the others
abbrev pub ends : Setting → ℕ → ScopeId → ℕ → (ℕ → News) → Part → Part
ends st a s v news part =
    record part {
      flying = pred part.flying;
      flight = set_for part.flight s None;
      ready = set_for part.ready s false;
      holder = released s part.holder;
      out = tell st a v s news part.out;
    }

-- machine a makes the update of v, whose scope is s, and logs this entry
abbrev pub updated : Setting → ℕ → ScopeId → ℕ → Entry → Part → Part
updated st a s v entry part =
    ends st a s v (news_for st part v)
    (record part {
      datum = set_at part.datum v (renewed (part.datum v) (new_number st.graph st.program (lent part) v));
      edge = (after_update st.graph st.program (lent part) v).edge;
      task = λ u. (st.owner u == a && wakes st.graph st.program (lent part) v u) || (part.task u && not (u == v));
      log = part.log ++ entry ∷ [];
    })

-- ---- steps

-- the step of this colour begins here
abbrev pub steps_to : ℕ → Part → Part
steps_to colour part = record part { colour = colour; closed = false }

-- nothing more is admitted in this step
abbrev pub closes : Part → Part
closes part = record part { closed = true }

-- ---- the snapshot update

-- a neighbour of v that has no mark yet, as far as this machine knows
abbrev pub is_left : Setting → Part → ℕ → ℕ → Bool
is_left st part v u = is_near st v u && nat_lt (part.datum u).mark part.known

-- the end of the edge that is not v
abbrev pub other_end : DataEdge → ℕ → ℕ
other_end e v = if e.from == v then e.to else e.from

-- v is an end of the edge
abbrev pub is_end : DataEdge → ℕ → Bool
is_end e v = e.from == v || e.to == v

-- the snapshot update of v saves the number of v, and of each edge to a neighbour that has no mark yet
abbrev pub saves_edge : Setting → Part → ℕ → ℕ → Bool
saves_edge st part v e = is_end (nth_edge st e) v && is_left st part v (other_end (nth_edge st e) v)

-- what is saved, with the snapshot update of v
abbrev pub save : Setting → Part → ℕ → Section
save st part v =
    record {
      vertices = set_at part.saved.vertices v (Some (part.datum v).value);
      edges = λ e. if saves_edge st part v e then Some (part.edge e) else part.saved.edges e;
    }

-- the datum of v with the mark of the snapshot
abbrev pub marked_datum : Part → ℕ → Datum
marked_datum part v = record { value = (part.datum v).value; version = suc (part.datum v).version; mark = part.known }

-- k where there is one, and else 0
abbrev pub number_if : Option ℕ → ℕ → ℕ
number_if None k = 0
number_if (Some u) k = k

-- the snapshot update of v makes u pending, which machine q owns
abbrev pub pends_for : Setting → Part → ℕ → ℕ → ℕ → Bool
pends_for st part v q u = st.owner u == q && is_left st part v u

-- what machine q is told of the snapshot update of v
abbrev pub mark_news : Setting → Part → ℕ → ℕ → News
mark_news st part v q =
    record {
      centre = v;
      datum = Some (marked_datum part v);
      edges = λ e. None;
      wakes = λ u. false;
      pends = pends_for st part v q;
      number = number_if (first_passing (pends_for st part v q) 0 (size st.graph)) part.known;
    }

-- machine a makes the snapshot update of v: its neighbours that have no mark yet become pending
abbrev pub marked : Setting → ℕ → ScopeId → ℕ → Part → Part
marked st a s v part =
    part_seeded st a (ends st a s v (mark_news st part v)
    (record part {
      datum = set_at part.datum v (marked_datum part v);
      pending = λ u. pends_for st part v a u || (part.pending u && not (u == v));
      saved = save st part v;
    }))
