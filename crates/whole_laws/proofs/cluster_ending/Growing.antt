-- What a machine does takes nothing out of its outboxes to machines.
use Rattle.std.proofs.Common.{ℕ, suc, ◌≤◌, ◌==◌, ◌&&◌, not, Bool, true, false, if◌then◌else◌, Option, None, Some, List, [], ◌∷◌, ◌++◌, length, sym, subst, le_refl, length-append, arith, ◌+◌}
use Rattle.gl_base.specs.declared.entries.Entry.{Entry}
use Rattle.gl_base.specs.declared.scopes.Claim.{Claim}
use Rattle.gl_base.specs.declared.scopes.ScopeId.{ScopeId}
use Rattle.cluster_laws.specs.cluster_core.Effects.{admitted, admitted_by, asks_for, first_granted, goes_away, goes_on, granted, in_flight, mark_news, marked, moves_on, news_for, next_scope, posts, received, sets_out, takes_lock, updated}
use Rattle.cluster_laws.specs.cluster_core.Messages.{Ask, Done, Message, Ready}
use Rattle.cluster_laws.specs.cluster_core.Parts.{Part, Stand}
use Rattle.cluster_laws.specs.cluster_core.Scopes.{machines_from, own_from, set_for, takes_part}
use Rattle.cluster_laws.specs.cluster_core.Settings.{Chromatic, Engine, Locking, Setting}
use Rattle.cluster_laws.proofs.cluster_core.Basics.{set_at-holds}

-- the outboxes of the second are no shorter
abbrev pub IsLonger : Part → Part → Type 0
IsLonger old new = (q : ℕ) → length (old.out q) ≤ length (new.out q)

more_low : (n : ℕ) → n ≤ n + 1
more_low n = omega arith

push_low : {X : Type 0} (xs : List X) (x : X) → length xs ≤ length (xs ++ x ∷ [])
push_low xs x = subst (λ (n : ℕ). length xs ≤ n) (sym (length-append xs (x ∷ []))) (more_low (length xs))

longer_again : (part : Part) → IsLonger part part
longer_again part q = le_refl (length (part.out q))

posts_longer : (b : ℕ) (m : Message) (part : Part) → IsLonger part (posts b m part)
posts_longer b m part q =
    set_at-holds (λ (q : ℕ) (ms : List Message). length (part.out q) ≤ length ms) part.out b (part.out b ++ m ∷ []) q (push_low (part.out b) m) (λ off. le_refl (length (part.out q)))

by_test : (test : Bool) (old one other : Part) → IsLonger old one → IsLonger old other → IsLonger old (if test then one else other)
by_test true old one other yes_one no_one = yes_one
by_test false old one other yes_one no_one = no_one

module _ (st : Setting) (a : ℕ) (s : ScopeId) (v : ℕ) where
  goes_away_longer : (rest : List ℕ) (part : Part) → IsLonger part (goes_away a s v rest part)
  goes_away_longer (b ∷ rest) part = posts_longer b (Ask s v rest) part
  goes_away_longer [] part =
      by_test (s.home.0 == a) part (record part { ready = set_for part.ready s true }) (posts s.home.0 (Ready s) part) (longer_again part) (posts_longer s.home.0 (Ready s) part)

  asks_for_longer : (rest : List ℕ) (first : Option ℕ) (part : Part) → IsLonger part (asks_for a s v rest first part)
  asks_for_longer rest (Some x) part = longer_again part
  asks_for_longer rest None part = goes_away_longer rest (record part { stand = set_for part.stand s None })

  goes_on_longer : (k : ℕ) (rest : List ℕ) (part : Part) → IsLonger part (goes_on st a s v k rest part)
  goes_on_longer k rest part = asks_for_longer rest (own_from st v a k) part

  sets_out_longer : (machines : List ℕ) (part : Part) → IsLonger part (sets_out st a s v machines part)
  sets_out_longer [] part = longer_again part
  sets_out_longer (b ∷ rest) part = by_test (b == a) part (goes_on st a s v 0 rest part) (posts b (Ask s v rest) part) (goes_on_longer 0 rest part) (posts_longer b (Ask s v rest) part)

module _ (st : Setting) (a : ℕ) where
  admitted_by_longer : (engine : Engine) (v : ℕ) (part : Part) → IsLonger part (admitted_by engine st a v part)
  admitted_by_longer Locking v part = sets_out_longer st a (next_scope a part) v (machines_from st v 0) (in_flight a v part)
  admitted_by_longer (Chromatic colour colours) v part = longer_again part

  pub admitted_longer : (v : ℕ) (part : Part) → IsLonger part (admitted st a v part)
  admitted_longer v part = admitted_by_longer st.engine v part

  moves_on_longer : (x : ℕ) (c : Claim) (stand : Option Stand) (part : Part) → IsLonger part (moves_on st a x c stand part)
  moves_on_longer x c None part = longer_again part
  moves_on_longer x c (Some stand) part = goes_on_longer st a c.scope stand.centre (suc x) stand.rest part

  first_granted_longer : (x : ℕ) (claims : List Claim) (part : Part) → IsLonger part (first_granted st a x claims part)
  first_granted_longer x [] part = longer_again part
  first_granted_longer x (c ∷ queue) part = moves_on_longer x c (part.stand c.scope) (takes_lock x c queue part)

  pub granted_longer : (x : ℕ) (part : Part) → IsLonger part (granted st a x part)
  granted_longer x part = first_granted_longer x (part.queue x) part

  pub received_longer : (m : Message) (part : Part) → IsLonger part (received st a m part)
  received_longer (Ask s v rest) part = goes_on_longer st a s v 0 rest part
  received_longer (Ready s) part = longer_again part
  received_longer (Done s news) part = longer_again part

  tell_longer : (test : Bool) (out : List Message) (m : Message) → length out ≤ length (if test then out ++ m ∷ [] else out)
  tell_longer true out m = push_low out m
  tell_longer false out m = le_refl (length out)

  pub updated_longer : (s : ScopeId) (v : ℕ) (entry : Entry) (part : Part) → IsLonger part (updated st a s v entry part)
  updated_longer s v entry part q = tell_longer (takes_part st v q && not (q == a)) (part.out q) (Done s (news_for st part v q))

  pub marked_longer : (s : ScopeId) (v : ℕ) (part : Part) → IsLonger part (marked st a s v part)
  marked_longer s v part q = tell_longer (takes_part st v q && not (q == a)) (part.out q) (Done s (mark_news st part v q))
