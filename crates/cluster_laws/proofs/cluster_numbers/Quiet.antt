-- Steps that tell no news and change no number: what they leave of a machine's part.
use Rattle.std.proofs.Common.{◌≡◌, ℕ, suc, Bool, true, List, [], ◌∷◌, ◌++◌, ◌==◌, Some, None, Option, sym, refl, ap, ◌∙◌, append-nil}
use Rattle.std.proofs.lemmas.Bool.{cond_both}
use Rattle.gl_base.specs.declared.scopes.ScopeId.{ScopeId}
use Rattle.gl_base.specs.declared.scopes.Claim.{Claim}
use Rattle.cluster_laws.specs.cluster_core.Effects.{posts, goes_away, asks_for, goes_on, sets_out, next_scope, in_flight, admitted_by, admitted, moves_on, takes_lock, first_granted, granted}
use Rattle.cluster_laws.specs.cluster_core.Messages.{Message, Ask, Ready, Done}
use Rattle.cluster_laws.specs.cluster_core.Parts.{Stand, Part}
use Rattle.cluster_laws.specs.cluster_core.Ranges.{set_at}
use Rattle.cluster_laws.specs.cluster_core.Scopes.{set_for, mode_at, own_from, machines_from}
use Rattle.cluster_laws.specs.cluster_core.Settings.{Engine, Locking, Chromatic, Setting}
use Rattle.cluster_laws.proofs.cluster_core.Basics.{set_at-cases}

-- the messages that tell news
abbrev pub dones : List Message → List Message
dones [] = []
dones (Ask s c rest ∷ messages) = dones messages
dones (Ready s ∷ messages) = dones messages
dones (Done s news ∷ messages) = Done s news ∷ dones messages

pub dones-append : (xs ys : List Message) → dones (xs ++ ys) ≡ dones xs ++ dones ys
dones-append [] ys = refl
dones-append (Ask s c rest ∷ xs) ys = dones-append xs ys
dones-append (Ready s ∷ xs) ys = dones-append xs ys
dones-append (Done s news ∷ xs) ys = ap (λ ms. Done s news ∷ ms) (dones-append xs ys)

-- The numbers, tasks, updates and marks are as they were, and the outboxes have the same news.
pub record IsQuiet (old new : Part) : Type 0 where
  pub datum : new.datum ≡ old.datum
  pub edge : new.edge ≡ old.edge
  pub task : new.task ≡ old.task
  pub log : new.log ≡ old.log
  pub pending : new.pending ≡ old.pending
  pub known : new.known ≡ old.known
  pub saved : new.saved ≡ old.saved
  pub sent : new.sent ≡ old.sent
  pub out : (q : ℕ) → dones (new.out q) ≡ dones (old.out q)

pub quiet_then : (a b c : Part) → IsQuiet a b → IsQuiet b c → IsQuiet a c
quiet_then a b c one other =
    record {
      datum = other.datum ∙ one.datum;
      edge = other.edge ∙ one.edge;
      task = other.task ∙ one.task;
      log = other.log ∙ one.log;
      pending = other.pending ∙ one.pending;
      known = other.known ∙ one.known;
      saved = other.saved ∙ one.saved;
      sent = other.sent ∙ one.sent;
      out = λ q. other.out q ∙ one.out q;
    }

pub put-quiet : (b : ℕ) (m : Message) (part : Part) → dones (m ∷ []) ≡ [] → IsQuiet part (posts b m part)
put-quiet b m part none =
    record {
      datum = refl;
      edge = refl;
      task = refl;
      log = refl;
      pending = refl;
      known = refl;
      saved = refl;
      sent = refl;
      out = λ q. set_at-cases (λ ms. dones ms ≡ dones (part.out q)) part.out b (part.out b ++ m ∷ []) q
          (λ same. dones-append (part.out b) (m ∷ []) ∙ ap (λ ms. dones (part.out b) ++ ms) none ∙ append-nil (dones (part.out b)) ∙ ap (λ j. dones (part.out j)) (sym same))
          (λ other. refl);
    }

-- a part that differs in scopes and locks alone
pub ready-quiet : (part : Part) (ready : ScopeId → Bool) → IsQuiet part (record part { ready = ready })
ready-quiet part ready = record { datum = refl; edge = refl; task = refl; log = refl; pending = refl; known = refl; saved = refl; sent = refl; out = λ q. refl }

stand-quiet : (part : Part) (stand : ScopeId → Option Stand) → IsQuiet part (record part { stand = stand })
stand-quiet part stand = record { datum = refl; edge = refl; task = refl; log = refl; pending = refl; known = refl; saved = refl; sent = refl; out = λ q. refl }

waiting-quiet : (part : Part) (stand : ScopeId → Option Stand) (queue : ℕ → List Claim) → IsQuiet part (record part { stand = stand; queue = queue })
waiting-quiet part stand queue = record { datum = refl; edge = refl; task = refl; log = refl; pending = refl; known = refl; saved = refl; sent = refl; out = λ q. refl }

flight-quiet : (a v : ℕ) (part : Part) → IsQuiet part (in_flight a v part)
flight-quiet a v part = record { datum = refl; edge = refl; task = refl; log = refl; pending = refl; known = refl; saved = refl; sent = refl; out = λ q. refl }

module _ (st : Setting) (a : ℕ) (s : ScopeId) (v : ℕ) where
  goes_away-quiet : (rest : List ℕ) (part : Part) → IsQuiet part (goes_away a s v rest part)
  goes_away-quiet (b ∷ rest) part = put-quiet b (Ask s v rest) part refl
  goes_away-quiet [] part =
      cond_both (s.home.0 == a) (record part { ready = set_for part.ready s true }) (posts s.home.0 (Ready s) part) (IsQuiet part)
      (λ yes_home. ready-quiet part (set_for part.ready s true)) (λ not_home. put-quiet s.home.0 (Ready s) part refl)

  asks_for-quiet : (rest : List ℕ) (first : Option ℕ) (part : Part) → IsQuiet part (asks_for a s v rest first part)
  asks_for-quiet rest (Some x) part =
      waiting-quiet part (set_for part.stand s (Some (record { centre = v; lock = x; rest = rest })))
      (set_at part.queue x (part.queue x ++ record { scope = s; mode = mode_at v x } ∷ []))
  asks_for-quiet rest None part =
      let gone : Part = record part { stand = set_for part.stand s None } in
      quiet_then part gone (goes_away a s v rest gone) (stand-quiet part (set_for part.stand s None)) (goes_away-quiet rest gone)

  pub goes_on-quiet : (k : ℕ) (rest : List ℕ) (part : Part) → IsQuiet part (goes_on st a s v k rest part)
  goes_on-quiet k rest part = asks_for-quiet rest (own_from st v a k) part

  sets_out-quiet : (machines : List ℕ) (part : Part) → IsQuiet part (sets_out st a s v machines part)
  sets_out-quiet [] part = ready-quiet part part.ready
  sets_out-quiet (b ∷ rest) part =
      cond_both (b == a) (goes_on st a s v 0 rest part) (posts b (Ask s v rest) part) (IsQuiet part)
      (λ here. goes_on-quiet 0 rest part) (λ there. put-quiet b (Ask s v rest) part refl)

module _ (st : Setting) (a : ℕ) where
  admitted_by-quiet : (engine : Engine) (v : ℕ) (part : Part) → IsQuiet part (admitted_by engine st a v part)
  admitted_by-quiet Locking v part =
      quiet_then part (in_flight a v part) (sets_out st a (next_scope a part) v (machines_from st v 0) (in_flight a v part))
      (flight-quiet a v part) (sets_out-quiet st a (next_scope a part) v (machines_from st v 0) (in_flight a v part))
  admitted_by-quiet (Chromatic colour colours) v part =
      quiet_then part (in_flight a v part) (record (in_flight a v part) { ready = set_for part.ready (next_scope a part) true })
      (flight-quiet a v part) (ready-quiet (in_flight a v part) (set_for part.ready (next_scope a part) true))

  pub admitted-quiet : (v : ℕ) (part : Part) → IsQuiet part (admitted st a v part)
  admitted-quiet v part = admitted_by-quiet st.engine v part

  takes_lock-quiet : (x : ℕ) (c : Claim) (queue : List Claim) (part : Part) → IsQuiet part (takes_lock x c queue part)
  takes_lock-quiet x c queue part = record { datum = refl; edge = refl; task = refl; log = refl; pending = refl; known = refl; saved = refl; sent = refl; out = λ q. refl }

  moves_on-quiet : (x : ℕ) (c : Claim) (stand : Option Stand) (part : Part) → IsQuiet part (moves_on st a x c stand part)
  moves_on-quiet x c None part = ready-quiet part part.ready
  moves_on-quiet x c (Some stand) part = goes_on-quiet st a c.scope stand.centre (suc x) stand.rest part

  first_granted-quiet : (x : ℕ) (claims : List Claim) (part : Part) → IsQuiet part (first_granted st a x claims part)
  first_granted-quiet x [] part = ready-quiet part part.ready
  first_granted-quiet x (c ∷ queue) part =
      quiet_then part (takes_lock x c queue part) (moves_on st a x c (part.stand c.scope) (takes_lock x c queue part))
      (takes_lock-quiet x c queue part) (moves_on-quiet x c (part.stand c.scope) (takes_lock x c queue part))

  pub granted-quiet : (x : ℕ) (part : Part) → IsQuiet part (granted st a x part)
  granted-quiet x part = first_granted-quiet x (part.queue x) part
