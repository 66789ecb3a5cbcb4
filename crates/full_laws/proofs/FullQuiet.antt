-- Steps that leave numbers, tasks, logs, locks and gifts alone leave the order alone.
use Rattle.std.proofs.Common.{◌≡◌, ℕ, ◌==◌, Bool, true, false, if◌then◌else◌, suc, Option, None, Some, List, [], ◌∷◌, ◌++◌, refl, sym, ◌∙◌, ap, subst, ⊎_elim, inl, inr, append-nil}
use Rattle.std.specs.List.{list_any}
use Rattle.gl_base.specs.declared.entries.Entry.{Entry}
use Rattle.gl_base.specs.declared.scopes.ScopeId.{ScopeId}
use Rattle.cluster_laws.specs.cluster_core.Ranges.{set_at}
use Rattle.cluster_laws.specs.cluster_core.Scopes.{machines_from, own_from, set_for}
use Rattle.cluster_laws.specs.cluster_core.Settings.{Setting}
use Rattle.cluster_laws.proofs.cluster_core.Basics.{set_at-kept}
use Rattle.full_scope.specs.FullUpdates.{FullUpdate}
use Rattle.full_laws.specs.FullActions.{delivers_full, sends_full}
use Rattle.full_laws.specs.FullEffects.{admitted_full, flies_full, gathers, leaves_full, moves_full, no_numbers, passes_full, posts_full, received_full, scope_of, seeks_full, sets_out_full}
use Rattle.full_laws.specs.FullMessages.{FullMessage, Gather, Gift, Home, gifts_of}
use Rattle.full_laws.specs.FullParts.{FullPart, FullStand}
use Rattle.full_laws.specs.FullReplays.{ComesTo, IsFullReplay, gifts_from}
use Rattle.full_laws.specs.FullWorlds.{FullWorld, with_full_part}
use Rattle.full_laws.specs.Items.{AVertex, Item}
use Rattle.full_laws.proofs.FullWays.{gifts-append, sent_ways, set_two}

-- Only places and messages that are no gifts differ.
pub record IsQuietPart (f g : FullPart) : Type 0 where
  pub number : g.number ≡ f.number
  pub task : g.task ≡ f.task
  pub log : g.log ≡ f.log
  pub flight : g.flight ≡ f.flight
  pub holds : g.holds ≡ f.holds
  pub gifts : (q : ℕ) → gifts_of (g.out q) ≡ gifts_of (f.out q)

posts_quiet : (f : FullPart) (q : ℕ) (m : FullMessage) → gifts_of (m ∷ []) ≡ [] → IsQuietPart f (posts_full q m f)
posts_quiet f q m none =
    record {
      number = refl;
      task = refl;
      log = refl;
      flight = refl;
      holds = refl;
      gifts = set_at-kept gifts_of f.out q (f.out q ++ m ∷ []) (gifts-append (f.out q) (m ∷ []) ∙ ap (λ l. gifts_of (f.out q) ++ l) none ∙ append-nil (gifts_of (f.out q)));
    }

home_quiet : (test : Bool) (f : FullPart) (s : ScopeId) (seen : ℕ → Option ℕ) → IsQuietPart f (if test then record f { ready = set_for f.ready s (Some seen) } else posts_full s.home.0 (Home s seen) f)
home_quiet true f s seen = record { number = refl; task = refl; log = refl; flight = refl; holds = refl; gifts = λ q. refl }
home_quiet false f s seen = posts_quiet f s.home.0 (Home s seen) refl

leaves_quiet : (a : ℕ) (s : ScopeId) (v : ℕ) (rest : List ℕ) (seen : ℕ → Option ℕ) (f : FullPart) → IsQuietPart f (leaves_full a s v rest seen f)
leaves_quiet a s v (b ∷ rest) seen f = posts_quiet f b (Gather s v rest seen) refl
leaves_quiet a s v [] seen f = home_quiet (s.home.0 == a) f s seen

seeks_quiet : (a : ℕ) (s : ScopeId) (v : ℕ) (rest : List ℕ) (seen : ℕ → Option ℕ) (first : Option ℕ) (f : FullPart) → IsQuietPart f (seeks_full a s v rest seen first f)
seeks_quiet a s v rest seen (Some x) f = record { number = refl; task = refl; log = refl; flight = refl; holds = refl; gifts = λ q. refl }
seeks_quiet a s v rest seen None f =
    let h = leaves_quiet a s v rest seen (record f { stand = set_for f.stand s None }) in
    record { number = h.number; task = h.task; log = h.log; flight = h.flight; holds = h.holds; gifts = h.gifts }

module _ (st : Setting) where
  pub passes_quiet : (a : ℕ) (s : ScopeId) (v k : ℕ) (rest : List ℕ) (seen : ℕ → Option ℕ) (f : FullPart) → IsQuietPart f (passes_full st a s v k rest seen f)
  passes_quiet a s v k rest seen f = seeks_quiet a s v rest seen (own_from st v a k) f

  first_quiet : (test : Bool) (a : ℕ) (s : ScopeId) (v b : ℕ) (rest : List ℕ) (f : FullPart) → IsQuietPart f (if test then passes_full st a s v 0 rest no_numbers f else posts_full b (Gather s v rest no_numbers) f)
  first_quiet true a s v b rest f = passes_quiet a s v 0 rest no_numbers f
  first_quiet false a s v b rest f = posts_quiet f b (Gather s v rest no_numbers) refl

  sets_out_quiet : (a : ℕ) (s : ScopeId) (v : ℕ) (machines : List ℕ) (f : FullPart) → IsQuietPart f (sets_out_full st a s v machines f)
  sets_out_quiet a s v [] f = record { number = refl; task = refl; log = refl; flight = refl; holds = refl; gifts = λ q. refl }
  sets_out_quiet a s v (b ∷ rest) f = first_quiet (b == a) a s v b rest f

  -- an admission changes what is in flight too
  pub admitted_quiet : (a v : ℕ) (f : FullPart) → IsQuietPart (flies_full (scope_of a f.serial) v f) (admitted_full st a v f)
  admitted_quiet a v f = sets_out_quiet a (scope_of a f.serial) v (machines_from st v 0) (flies_full (scope_of a f.serial) v f)

  pub moves_quiet : (a x : ℕ) (s : ScopeId) (stand : Option FullStand) (f : FullPart) → IsQuietPart f (moves_full st a x s stand f)
  moves_quiet a x s None f = record { number = refl; task = refl; log = refl; flight = refl; holds = refl; gifts = λ q. refl }
  moves_quiet a x s (Some stand) f = passes_quiet a s stand.centre (suc x) stand.rest (gathers x (f.number (AVertex x)) stand.seen) f

-- ---- worlds

-- In each part the numbers, tasks and logs are as before, and so are the tickets and what is given.
pub record IsQuiet (w new : FullWorld) : Type 0 where
  pub number : (a : ℕ) → (new.part a).number ≡ (w.part a).number
  pub task : (a : ℕ) → (new.part a).task ≡ (w.part a).task
  pub log : (a : ℕ) → (new.part a).log ≡ (w.part a).log
  pub next : new.next ≡ w.next
  pub gifts : (p q : ℕ) → gifts_from new p q ≡ gifts_from w p q

pub part_quiet : (w : FullWorld) (a : ℕ) (f : FullPart) → f.number ≡ (w.part a).number → f.task ≡ (w.part a).task → f.log ≡ (w.part a).log → ((q : ℕ) → gifts_of (f.out q) ≡ gifts_of ((w.part a).out q)) → IsQuiet w (with_full_part w a f)
part_quiet w a f number task log gifts =
    record {
      number = set_at-kept (λ (part : FullPart). part.number) w.part a f number;
      task = set_at-kept (λ (part : FullPart). part.task) w.part a f task;
      log = set_at-kept (λ (part : FullPart). part.log) w.part a f log;
      next = refl;
      gifts = λ p q. gifts-append (w.link p q) ((set_at w.part a f p).out q)
          ∙ ap (λ l. gifts_of (w.link p q) ++ l) (set_at-kept (λ (part : FullPart). gifts_of (part.out q)) w.part a f (gifts q) p)
          ∙ sym (gifts-append (w.link p q) ((w.part p).out q));
    }

pub sends_quiet : (w : FullWorld) (p q : ℕ) (m : FullMessage) (behind : List FullMessage) → (w.part p).out q ≡ m ∷ behind → IsQuiet w (sends_full w p q (m ∷ behind))
sends_quiet w p q m behind first =
    let f : FullPart = record (w.part p) { out = set_at (w.part p).out q behind } in
    record {
      number = set_at-kept (λ (part : FullPart). part.number) w.part p f refl;
      task = set_at-kept (λ (part : FullPart). part.task) w.part p f refl;
      log = set_at-kept (λ (part : FullPart). part.log) w.part p f refl;
      next = refl;
      gifts = λ i j. ap gifts_of (sent_ways w p q m behind first i j);
    }

-- a message that is no gift is received
pub delivers_quiet : (st : Setting) (w : FullWorld) (p q : ℕ) (m : FullMessage) (behind : List FullMessage) → w.link p q ≡ m ∷ behind → gifts_of (m ∷ behind) ≡ gifts_of behind → IsQuietPart (w.part q) (received_full st q m (w.part q)) → IsQuiet w (delivers_full st w p q (m ∷ behind))
delivers_quiet st w p q m behind first none quiet =
    let f : FullPart = received_full st q m (w.part q) in
    let new : FullWorld = delivers_full st w p q (m ∷ behind) in
    let links : (i j : ℕ) → gifts_of (new.link i j) ≡ gifts_of (w.link i j) = λ i j.
    set_two (λ l. gifts_of l ≡ gifts_of (w.link i j)) w.link p q behind i j
    (λ at to. sym none ∙ ap gifts_of (sym first) ∙ (λ k. gifts_of (w.link (sym at k) (sym to k))))
    (λ off. refl) in
    record {
      number = set_at-kept (λ (part : FullPart). part.number) w.part q f quiet.number;
      task = set_at-kept (λ (part : FullPart). part.task) w.part q f quiet.task;
      log = set_at-kept (λ (part : FullPart). part.log) w.part q f quiet.log;
      next = refl;
      gifts = λ i j. gifts-append (new.link i j) ((set_at w.part q f i).out j)
          ∙ (λ k. links i j k ++ set_at-kept (λ (part : FullPart). gifts_of (part.out j)) w.part q f (quiet.gifts j) i k)
          ∙ sym (gifts-append (w.link i j) ((w.part i).out j));
    }

module _ (st : Setting) (p : FullUpdate) (w new : FullWorld) (quiet : IsQuiet w new) where
  comes_still : (i : Item) (a n : ℕ) → ComesTo (λ from. gifts_from w from a) i ((w.part a).number i) n → ComesTo (λ from. gifts_from new from a) i ((new.part a).number i) n
  comes_still i a n comes =
      let gifts : (λ from. gifts_from w from a) ≡ (λ from. gifts_from new from a) = λ k from. sym (quiet.gifts from a) k in
      let here : (w.part a).number i ≡ (new.part a).number i = λ k. sym (quiet.number a) k i in
      subst (λ g. ComesTo g i ((new.part a).number i) n) gifts (subst (λ m. ComesTo (λ from. gifts_from w from a) i m n) here comes)

  pub replay_still : (order : List Entry) → IsFullReplay st p w order → IsFullReplay st p new order
  replay_still order replay =
      record {
        valid = replay.valid;
        logs = λ a. quiet.log a ∙ replay.logs a;
        tickets = replay.tickets;
        drawn = quiet.next ∙ replay.drawn;
        owners = replay.owners;
        numbers = λ i a one kept. comes_still i a _ (replay.numbers i a one kept);
        tasks = λ u low. (
          (λ task. ⊎_elim
              (λ (here : (w.part (st.owner u)).task u ≡ true). inl ((λ k. quiet.task (st.owner u) k u) ∙ here))
              (λ (coming : (q : ℕ) × (list_any (λ (gift : Gift). gift.wakes u) (gifts_from w q (st.owner u)) ≡ true)).
              inr (coming.0, ap (list_any (λ (gift : Gift). gift.wakes u)) (quiet.gifts coming.0 (st.owner u)) ∙ coming.1))
              ((replay.tasks u low).0 task)),
          (λ task. (replay.tasks u low).1 (⊎_elim
              (λ (here : (new.part (st.owner u)).task u ≡ true). inl ((λ k. sym (quiet.task (st.owner u)) k u) ∙ here))
              (λ (coming : (q : ℕ) × (list_any (λ (gift : Gift). gift.wakes u) (gifts_from new q (st.owner u)) ≡ true)).
              inr (coming.0, ap (list_any (λ (gift : Gift). gift.wakes u)) (sym (quiet.gifts coming.0 (st.owner u))) ∙ coming.1))
              task)),
        );
      }
