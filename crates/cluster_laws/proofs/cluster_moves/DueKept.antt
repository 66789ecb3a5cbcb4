-- Each action leaves the vertex of each scope in flight pending or a task.
use Rattle.std.proofs.Common.{◌≡◌, ◌≢◌, ◌⊎◌, ℕ, suc, ◌==◌, ◌&&◌, ◌||◌, not, Bool, true, false, if◌then◌else◌, Option, None, Some, List, [], ◌∷◌, refl, sym, ◌∙◌, ap, subst, ⊎_elim, inl, inr}
use Rattle.std.proofs.lemmas.Bool.{and_from, or_right, ne_eqb}
use Rattle.gl_base.specs.declared.entries.Entry.TheVariants.{Go}
use Rattle.gl_base.specs.declared.scopes.Claim.{Claim}
use Rattle.gl_base.specs.declared.scopes.ScopeId.{ScopeId}
use Rattle.cluster_laws.specs.cluster_core.Messages.{Message, Section, Ask, Ready, Done}
use Rattle.cluster_laws.specs.cluster_core.Parts.{Part, Stand}
use Rattle.cluster_laws.specs.cluster_core.Ranges.{set_at}
use Rattle.cluster_laws.specs.cluster_core.Settings.{Setting, Engine, Locking, Chromatic}
use Rattle.cluster_laws.specs.cluster_core.Scopes.{is_scope, set_for, own_from, machines_from}
use Rattle.cluster_laws.specs.cluster_core.Effects.{posts, goes_away, asks_for, goes_on, sets_out, next_scope, in_flight, admitted, admitted_by, moves_on, takes_lock, first_granted, granted, received, begins, knows, learns, first_pending, first_unmarked, seed_if, is_at, updated, marked, pends_for}
use Rattle.cluster_laws.specs.cluster_core.Worlds.{World, with_part}
use Rattle.cluster_laws.specs.cluster_core.Actions.{Action, Admit, Grant, Send, Deliver, Update, Mark, Begin, Hear, SendSection, Collect, Record, MayHappen, after, sends, delivers, updates, marks, hears, collects}
use Rattle.cluster_laws.specs.cluster_core.Stages.{Stage, flying}
use Rattle.cluster_laws.specs.cluster_core.Places.{ArePlaces}
use Rattle.cluster_laws.proofs.cluster_core.Basics.{set_at-cases, set_for-holds, scopes_apart}
use Rattle.cluster_laws.specs.cluster_moves.Due.{AreDue}
use Rattle.cluster_laws.proofs.cluster_places.Seen.{flying_seen, some_centre}

-- scopes in flight are those of before, and nothing that was pending or a task is lost
pub record IsKept (old new : Part) : Type 0 where
  pub flight : (s : ScopeId) → new.flight s ≡ old.flight s
  pub pending : (v : ℕ) → old.pending v ≡ true → new.pending v ≡ true
  pub task : (v : ℕ) → old.task v ≡ true → new.task v ≡ true
  pub flying : new.flying ≡ old.flying
  pub serial : new.serial ≡ old.serial

kept_again : (part : Part) → IsKept part part
kept_again part = record { flight = λ s. refl; pending = λ v is. is; task = λ v is. is; flying = refl; serial = refl }

kept_then : (one two three : Part) → IsKept one two → IsKept two three → IsKept one three
kept_then one two three first then_ =
    record {
      flight = λ s. then_.flight s ∙ first.flight s;
      pending = λ v is. then_.pending v (first.pending v is);
      task = λ v is. then_.task v (first.task v is);
      flying = then_.flying ∙ first.flying;
      serial = then_.serial ∙ first.serial;
    }

home_kept : (a : ℕ) (s : ScopeId) (test : Bool) (part : Part) → IsKept part (if test then record part { ready = set_for part.ready s true } else posts s.home.0 (Ready s) part)
home_kept a s true part = record { flight = λ t. refl; pending = λ v is. is; task = λ v is. is; flying = refl; serial = refl }
home_kept a s false part = record { flight = λ t. refl; pending = λ v is. is; task = λ v is. is; flying = refl; serial = refl }

asks_for_kept : (a : ℕ) (s : ScopeId) (v : ℕ) (rest : List ℕ) (first : Option ℕ) (part : Part) → IsKept part (asks_for a s v rest first part)
asks_for_kept a s v rest (Some x) part = record { flight = λ t. refl; pending = λ u is. is; task = λ u is. is; flying = refl; serial = refl }
asks_for_kept a s v (b ∷ rest) None part = record { flight = λ t. refl; pending = λ u is. is; task = λ u is. is; flying = refl; serial = refl }
asks_for_kept a s v [] None part =
    let gone : Part = record part { stand = set_for part.stand s None } in
    kept_then part gone (goes_away a s v [] gone) (record { flight = λ t. refl; pending = λ u is. is; task = λ u is. is; flying = refl; serial = refl }) (home_kept a s (s.home.0 == a) gone)

goes_on_kept : (st : Setting) (a : ℕ) (s : ScopeId) (v k : ℕ) (rest : List ℕ) (part : Part) → IsKept part (goes_on st a s v k rest part)
goes_on_kept st a s v k rest part = asks_for_kept a s v rest (own_from st v a k) part

first_kept : (st : Setting) (a b : ℕ) (s : ScopeId) (v : ℕ) (rest : List ℕ) (test : Bool) (part : Part) → IsKept part (if test then goes_on st a s v 0 rest part else posts b (Ask s v rest) part)
first_kept st a b s v rest true part = goes_on_kept st a s v 0 rest part
first_kept st a b s v rest false part = record { flight = λ t. refl; pending = λ u is. is; task = λ u is. is; flying = refl; serial = refl }

sets_out_kept : (st : Setting) (a : ℕ) (s : ScopeId) (v : ℕ) (machines : List ℕ) (part : Part) → IsKept part (sets_out st a s v machines part)
sets_out_kept st a s v [] part = kept_again part
sets_out_kept st a s v (b ∷ rest) part = first_kept st a b s v rest (b == a) part

pub admitted_kept : (engine : Engine) (st : Setting) (a v : ℕ) (part : Part) → IsKept (in_flight a v part) (admitted_by engine st a v part)
admitted_kept Locking st a v part = sets_out_kept st a (next_scope a part) v (machines_from st v 0) (in_flight a v part)
admitted_kept (Chromatic colour colours) st a v part = record { flight = λ s. refl; pending = λ u is. is; task = λ u is. is; flying = refl; serial = refl }

moves_on_kept : (st : Setting) (a x : ℕ) (c : Claim) (stand : Option Stand) (part : Part) → IsKept part (moves_on st a x c stand part)
moves_on_kept st a x c None part = kept_again part
moves_on_kept st a x c (Some stand) part = goes_on_kept st a c.scope stand.centre (suc x) stand.rest part

pub first_granted_kept : (st : Setting) (a x : ℕ) (claims : List Claim) (part : Part) → IsKept part (first_granted st a x claims part)
first_granted_kept st a x [] part = kept_again part
first_granted_kept st a x (c ∷ claims) part =
    let locked : Part = takes_lock x c claims part in
    kept_then part locked (moves_on st a x c (part.stand c.scope) locked) (record { flight = λ s. refl; pending = λ u is. is; task = λ u is. is; flying = refl; serial = refl }) (moves_on_kept st a x c (part.stand c.scope) locked)

pub begins_kept : (st : Setting) (a k : ℕ) (part : Part) → IsKept part (begins st a k part)
begins_kept st a k part =
    let known : Part = knows k part in
    record {
      flight = λ s. refl;
      pending = λ u is. or_right (is_at (seed_if (first_pending st known) (first_unmarked st a known)) u) (part.pending u) is;
      task = λ u is. is;
      flying = refl;
      serial = refl;
    }

pub received_kept : (st : Setting) (a : ℕ) (m : Message) (part : Part) → IsKept part (received st a m part)
received_kept st a (Ask s v rest) part = goes_on_kept st a s v 0 rest part
received_kept st a (Ready s) part = record { flight = λ t. refl; pending = λ u is. is; task = λ u is. is; flying = refl; serial = refl }
received_kept st a (Done s news) part =
    let begun : Part = begins st a news.number part in
    kept_then part begun (learns s news begun) (begins_kept st a news.number part)
    (record {
      flight = λ t. refl;
      pending = λ u is. or_right (news.pends u) (begun.pending u) is;
      task = λ u is. or_right (news.wakes u) (begun.task u) is;
      flying = refl;
      serial = refl;
    })

pub none_some : (v : ℕ) → None ≡ Some v → ⊥
none_some v is = cc

module _ (w : World) (due : AreDue w) where
  abbrev DueIn : ℕ → Part → Type 0
  DueIn a part = (s : ScopeId) (v : ℕ) → s.home.0 ≡ a → part.flight s ≡ Some v → (part.pending v ≡ true) ⊎ (part.task v ≡ true)

  part_due : (a : ℕ) (new : Part) → DueIn a new → AreDue (with_part w a new)
  part_due a new due_in s v =
      set_at-cases (λ (part : Part). part.flight s ≡ Some v → (part.pending v ≡ true) ⊎ (part.task v ≡ true)) w.part a new s.home.0
      (λ here. due_in s v here)
      (λ off. due s v)

  due_at : (a : ℕ) → DueIn a (w.part a)
  due_at a s v here flies =
      subst (λ (b : ℕ). ((w.part b).pending v ≡ true) ⊎ ((w.part b).task v ≡ true)) here (due s v (ap (λ (b : ℕ). (w.part b).flight s) here ∙ flies))

  kept_due : (a : ℕ) (old new : Part) → IsKept old new → DueIn a old → DueIn a new
  kept_due a old new kept due_in s v here flies =
      ⊎_elim
      (λ (pending : old.pending v ≡ true). inl (kept.pending v pending))
      (λ (task : old.task v ≡ true). inr (kept.task v task))
      (due_in s v here (sym (kept.flight s) ∙ flies))

  same_due : (a : ℕ) (new : Part) → IsKept (w.part a) new → AreDue (with_part w a new)
  same_due a new kept = part_due a new (kept_due a (w.part a) new kept (due_at a))

  begun_due : (a v : ℕ) → ((w.part a).pending v ≡ true) ⊎ ((w.part a).task v ≡ true) → DueIn a (in_flight a v (w.part a))
  begun_due a v is_due s u here =
      set_for-holds
      (λ (s : ScopeId) (flight : Option ℕ). s.home.0 ≡ a → flight ≡ Some u → ((w.part a).pending u ≡ true) ⊎ ((w.part a).task u ≡ true))
      (w.part a).flight (next_scope a (w.part a)) (Some v)
      (λ home flies. subst (λ (y : ℕ). ((w.part a).pending y ≡ true) ⊎ ((w.part a).task y ≡ true)) (some_centre v u flies) is_due)
      (λ t apart home flies. due_at a t u home flies)
      s here

  module _ (st : Setting) (stage : ScopeId → Stage) (places : ArePlaces st w stage) where
    flies_as : (s : ScopeId) (v : ℕ) → (w.part s.home.0).flight s ≡ Some v → flying (stage s) ≡ Some v
    flies_as s v flies = sym (flying_seen st s (stage s)) ∙ sym (places.shows s).flight ∙ flies

    -- the vertex of another scope in flight is another
    other_vertex : (s t : ScopeId) (v u : ℕ) → (w.part s.home.0).flight s ≡ Some v → (w.part t.home.0).flight t ≡ Some u → is_scope t s ≡ false → u ≢ v
    other_vertex s t v u one other apart same =
        scopes_apart t s apart (places.single t s u (flies_as t u other) (flies_as s v one ∙ ap Some (sym same)))

    -- as a scope ends, the vertices of the others are what they were
    end_due : (s : ScopeId) (v : ℕ) (made : Part) → (w.part s.home.0).flight s ≡ Some v → made.flight ≡ set_for (w.part s.home.0).flight s None → ((u : ℕ) → u ≢ v → (w.part s.home.0).pending u ≡ true → made.pending u ≡ true) → ((u : ℕ) → u ≢ v → (w.part s.home.0).task u ≡ true → made.task u ≡ true) → AreDue (with_part w s.home.0 made)
    end_due s v made flies flight pending task =
        part_due s.home.0 made (λ t u here is. set_for-holds
        (λ (t : ScopeId) (flight : Option ℕ). t.home.0 ≡ s.home.0 → flight ≡ Some u → (made.pending u ≡ true) ⊎ (made.task u ≡ true))
        (w.part s.home.0).flight s None
        (λ home none. absurd (none_some u none))
        (λ t apart home also.
        let other : u ≢ v = other_vertex s t v u flies (ap (λ (b : ℕ). (w.part b).flight t) home ∙ also) apart in
        ⊎_elim
        (λ (was : (w.part s.home.0).pending u ≡ true). inl (pending u other was))
        (λ (was : (w.part s.home.0).task u ≡ true). inr (task u other was))
        (due_at s.home.0 t u home also))
        t here (sym (λ i. flight i t) ∙ is))

    pub action_due : (action : Action) → MayHappen st w action → AreDue (after st w action)
    action_due (Admit a v) may =
        let begun : Part = in_flight a v (w.part a) in
        part_due a (admitted st a v (w.part a)) (kept_due a begun (admitted st a v (w.part a)) (admitted_kept st.engine st a v (w.part a)) (begun_due a v may.due))
    action_due (Grant a x) may = same_due a (granted st a x (w.part a)) (first_granted_kept st a x ((w.part a).queue x) (w.part a))
    action_due (Send p q) may =
        let shorter : Part = record (w.part p) { out = set_at (w.part p).out q may.behind } in
        let sent : AreDue (sends w p q (may.message ∷ may.behind)) = same_due p shorter (record { flight = λ s. refl; pending = λ u is. is; task = λ u is. is; flying = refl; serial = refl }) in
        subst (λ (messages : List Message). AreDue (sends w p q messages)) (sym may.first) sent
    action_due (Deliver p q) may =
        let delivered : AreDue (delivers st w p q (may.message ∷ may.behind)) = same_due q (received st q may.message (w.part q)) (received_kept st q may.message (w.part q)) in
        subst (λ (messages : List Message). AreDue (delivers st w p q messages)) (sym may.first) delivered
    action_due (Update s) may =
        let v : ℕ = may.vertex in
        let part : Part = w.part s.home.0 in
        let made : Part = updated st s.home.0 s v (Go s.home (record { 0 = v }) w.next) part in
        let kept : AreDue (updates st w s (Some v)) =
        end_due s v made may.flight refl (λ u off is. is) (λ u off is. or_right _ (part.task u && not (u == v)) (and_from (part.task u) (not (u == v)) is (ap not (ne_eqb u v off)))) in
        subst (λ (flight : Option ℕ). AreDue (updates st w s flight)) (sym may.flight) kept
    action_due (Mark s) may =
        let v : ℕ = may.vertex in
        let part : Part = w.part s.home.0 in
        let made : Part = marked st s.home.0 s v part in
        let kept : AreDue (marks st w s (Some v)) =
        end_due s v made may.flight refl
        (λ u off is. or_right _ (pends_for st part v s.home.0 u || (part.pending u && not (u == v))) (or_right (pends_for st part v s.home.0 u) (part.pending u && not (u == v)) (and_from (part.pending u) (not (u == v)) is (ap not (ne_eqb u v off)))))
        (λ u off is. is) in
        subst (λ (flight : Option ℕ). AreDue (marks st w s flight)) (sym may.flight) kept
    action_due Begin may = due
    action_due (Hear a) may =
        let heard : AreDue (hears st w a (may.number ∷ may.behind)) = same_due a (begins st a may.number (w.part a)) (begins_kept st a may.number (w.part a)) in
        subst (λ (orders : List ℕ). AreDue (hears st w a orders)) (sym may.first) heard
    action_due (SendSection a) may = same_due a (record (w.part a) { sent = (w.part a).known }) (record { flight = λ s. refl; pending = λ u is. is; task = λ u is. is; flying = refl; serial = refl })
    action_due (Collect a) may =
        let collected : AreDue (collects w a (may.section ∷ may.behind)) = due in
        subst (λ (sections : List Section). AreDue (collects w a sections)) (sym may.first) collected
    action_due Record may = due
