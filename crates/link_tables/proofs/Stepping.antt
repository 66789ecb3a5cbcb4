-- Each step keeps the rule. A step speaks of its own seat's view, the link that it holds and one word.
use Rattle.std.proofs.Common.{◌≡◌, ℕ, zero, suc, pred, ◌+◌, ◌<◌, ◌≤◌, ◌≢◌, eqb, List, [], ◌∷◌, length, get_or, set, Option, Some, None, sym, refl, ap, ◌∙◌, subst, length-set, get_or-set_same, get_or-set_other, arith}
use Rattle.std.proofs.lemmas.List.Sums.{sum_by-append}
use mathlib.Core.Option.{some, some-injective}
use mathlib.Core.Option as maybe
use lib.ListN.{get_elem?}
use lib.Seq.{set-get_or}
use prog.Atomic.{either}
use Rattle.atomic_table.specs.Table.{State, step, Act, keeps, takes, gives, Valid, carried_after, put_back, stepped, Allows, Splits, Joins}
use Rattle.atomic_table.proofs.Lists.{set_here, exchanged}
use Rattle.link_tables.specs.Seats.{Sat, sight, view, saw, word_at, Rests, HoldsLink, with_first, without_second, only_second, first_alone, second_alone, together, gone}
use Rattle.link_tables.specs.Rule.{AreSeated, ShowsLinks, HoldsTable, Carries, CarriesLink, CarriesTicket, Learnt}
use Rattle.link_tables.specs.Steps.{looked, looked_at_link, looked_at_halt, took, gave, drew, changed_alone, lifted, took_by, gave_by, drew_by, changed_by}
use Rattle.link_tables.specs.declared.views.View.{View}
use Rattle.link_tables.proofs.Lists.{is_there, in_range, total_set, term_le, term_there}
use Rattle.link_tables.proofs.Links.{stays, appended, takes_one, gives_one}
use Rattle.link_tables.proofs.Seating.{sits, moves_on, cuts, joins}

one_more : (n : ℕ) → 0 < n → suc (pred n) ≡ n
one_more zero h = absurd (omega arith)
one_more (suc n) h = refl

module _ {P Q : Type 0} (number_of : P → ℕ) (Empty : Q → Type 0) (Led : List P → List Q → ℕ → ℕ → Type 0) (many top peers : ℕ) where
  abbrev Table : Type 0
  Table = State Q (View P Q)

  abbrev table : List ℕ → List (maybe.Option Q) → List (View P Q) → Table
  table ws hs vs = record { words = ws; homes = hs; views = vs }

  abbrev Rule : Table → Type 0
  Rule = HoldsTable number_of Empty Led many top peers

  -- a part stands where its number says
  part_at : (s : Table) (parts : List P) (links : List Q) (next left : ℕ) → ShowsLinks number_of Empty Led many top peers s parts links next left
      → (id : ℕ) (v : View P Q) (p : P) (others : List P) → get_elem? s.views id ≡ some v → v.parts ≡ p ∷ others → get_elem? parts (number_of p) ≡ some p
  part_at s parts links next left h id v p others at was = h.seated.stands id v 0 p at (ap (λ (y : List P). get_elem? y 0) was)

  -- a seat that keeps its link and what it raised, and no word changes
  changed : (s : Table) (parts parts' : List P) (links : List Q) (next left : ℕ) → ShowsLinks number_of Empty Led many top peers s parts links next left
      → (i id : ℕ) (v w : View P Q) → get_elem? s.views id ≡ some v → w.link ≡ v.link → w.raised ≡ v.raised
      → length parts' ≡ length parts → AreSeated number_of (set s.views id w) parts' → Led parts' links next left
      → ShowsLinks number_of Empty Led many top peers (table (set s.words i (get_or s.words i 0)) s.homes (set s.views id w)) parts' links next left
  changed s parts parts' links next left h i id v w at link raised long seated led =
      let same : set s.words i (get_or s.words i 0) ≡ s.words = set-get_or s.words i 0 in
      let word : (k : ℕ) → get_or (set s.words i (get_or s.words i 0)) k 0 ≡ get_or s.words k 0 = λ k. ap (λ (ws : List ℕ). get_or ws k 0) same in
      record {
        led = led;
        words = ap length same ∙ h.words;
        homes = h.homes;
        count = h.count;
        peers_are = long ∙ h.peers_are;
        linked = stays Empty s.words s.homes s.views links h.linked (set s.words i (get_or s.words i 0)) id v w at link (λ k low. word (word_at k));
        seated = seated;
        drawn = word (word_at many) ∙ h.drawn;
        over = h.over;
        halt = let t = total_set (λ (u : View P Q). u.raised) s.views id v w at in let up = h.halt in let a = word (word_at (many + 1)) in omega arith;
      }

  -- what it found is told, and nothing else changes
  looks : (s : Table) (h : Rule s) (i id number : ℕ) (v : View P Q) → get_elem? s.views id ≡ some v → Rule (table (set s.words i (get_or s.words i 0)) s.homes (set s.views id (saw v i number)))
  looks s h i id number v at = (
    h.0,
    h.1,
    h.2,
    h.3,
    changed s h.0 h.0 h.1 h.2 h.3 h.4 i id v (saw v i number) at refl refl refl
        (sits number_of s.views h.0 h.4.seated id v at (saw v i number) refl (λ x has. h.4.seated.busy id v x at has)) h.4.led,
  )

  pub looks_once : (slots id i : ℕ) (m : Sat P Q) → Allows Rule slots id m i (λ n. n) (looked (step slots i 0 0 maybe.none) m)
  looks_once slots id i m s h deep at small = (saw m.0 i (get_or s.words i 0), keeps, tt, looks s h i id (get_or s.words i 0) m.0 at, refl)

  pub looks_at_link : (slots id i k : ℕ) (m : Sat P Q) → k < many → i ≡ word_at k → Allows Rule slots id m i (λ n. n) (looked_at_link (step slots i 0 0 maybe.none) m)
  looks_at_link slots id i k m low is s h deep at small =
      let q = in_range h.1 k (omega (arith, h.4.count)) in
      (saw m.0 i (get_or s.words i 0), keeps, tt, looks s h i id (get_or s.words i 0) m.0 at, (refl, subst (λ n. get_or s.words n 0 ≤ 2) (sym is) (h.4.linked.low k q.0 q.1)))

  pub looks_at_halt : {K : Type 0} (Leads : K → List P → List Q → ℕ → ℕ → Type 0) (about : K) → Leads about ≡ Led → (slots id i : ℕ) (m : Sat P Q) → i ≡ word_at (many + 1) → Allows Rule slots id m i (λ n. n) (looked_at_halt number_of Empty Leads (step slots i 0 0 maybe.none) m)
  looks_at_halt Leads about led slots id i m is s h deep at small =
      let raised = λ (u : View P Q). u.raised in
      let t = term_le raised s.views id m.0 at in
      let up = h.4.halt in
      let a : get_or s.words i 0 ≡ get_or s.words (word_at (many + 1)) 0 = ap (λ n. get_or s.words n 0) is in (
        saw m.0 i (get_or s.words i 0),
        keeps,
        tt,
        looks s h i id (get_or s.words i 0) m.0 at,
        (
          refl,
          λ zero_is. omega arith,
          many,
          is,
          record {
            about = about;
            top = top;
            peers = peers;
            state = s;
            holds = subst (λ (L : List P → List Q → ℕ → ℕ → Type 0). HoldsTable number_of Empty L many top peers s) (sym led) h;
            seat = id;
            here = at;
            raised = λ some_is. term_there raised s.views (omega arith);
            down = λ zero_is k v there. let u = term_le raised s.views k v there in omega arith;
          },
        ),
      )

  -- ---- raising the halt
  pub lifts : (slots id i : ℕ) (m : Sat P Q) → i ≡ word_at (many + 1) → Allows Rule slots id m i (λ _. 1) (λ _. lifted (step slots i 1 0 maybe.none) m 1)
  lifts slots id i m is s h deep at small =
      let v = m.0 in
      let w = view v.parts v.link (suc v.raised) v.seen in
      let g = h.4 in
      let long : i < length s.words = let x = g.words in omega arith in
      let other : (k : ℕ) → k ≢ i → get_or (set s.words i 1) k 0 ≡ get_or s.words k 0 = λ k n. get_or-set_other s.words i k 1 0 n in (
        w,
        keeps,
        tt,
        (
          h.0,
          h.1,
          h.2,
          h.3,
          record {
            led = g.led;
            words = length-set s.words i 1 ∙ g.words;
            homes = g.homes;
            count = g.count;
            peers_are = g.peers_are;
            linked = stays Empty s.words s.homes s.views h.1 g.linked (set s.words i 1) id v w at refl (λ k low. other (word_at k) (λ e. let c = g.count in omega arith));
            seated = sits number_of s.views h.0 g.seated id v at w refl (λ x has. g.seated.busy id v x at has);
            drawn = other (word_at many) (λ e. omega arith) ∙ g.drawn;
            over = g.over;
            halt = let t = total_set (λ (u : View P Q). u.raised) s.views id v w at in
                let a : get_or (set s.words i 1) (word_at (many + 1)) 0 ≡ 1 = ap (λ n. get_or (set s.words i 1) n 0) (sym is) ∙ get_or-set_same s.words i 1 0 long in omega arith;
          },
        ),
        refl,
      )

  -- ---- a part changes by itself
  settle_goes : (s : Table) (h : Rule s) (i id number : ℕ) (m : Sat P Q) (p new : P) (others : List P) → get_elem? s.views id ≡ some m.0 → Rests m p others → number_of new ≡ number_of p → Carries number_of Led p new
      → Rule (table (set s.words i (get_or s.words i 0)) s.homes (set s.views id (view (with_first new m.0.parts) None m.0.raised (sight i number None ∷ m.0.seen))))
  settle_goes s h i id number m p new others at r same carries =
      let w = view (with_first new m.0.parts) None m.0.raised (sight i number None ∷ m.0.seen) in
      let g = h.4 in
      let now : w.parts ≡ new ∷ others = ap (with_first new) r.parts in (
        set h.0 (number_of p) new,
        h.1,
        h.2,
        h.3,
        changed s h.0 (set h.0 (number_of p) new) h.1 h.2 h.3 g i id m.0 w at (sym r.link) refl (length-set h.0 (number_of p) new)
            (moves_on number_of s.views h.0 g.seated id m.0 at w p new others r.parts now same)
            (carries h.0 h.1 h.2 h.3 (part_at s h.0 h.1 h.2 h.3 g id m.0 p others at r.parts) g.led),
      )

  pub settles : (slots id i : ℕ) (m : Sat P Q) (p new : P) (others : List P) → Rests m p others → number_of new ≡ number_of p → Carries number_of Led p new
      → Allows Rule slots id m i (λ n. n) (changed_alone new (step slots i 0 0 maybe.none) m)
  settles slots id i m p new others r same carries s h deep at small =
      (view (with_first new m.0.parts) None m.0.raised (sight i (get_or s.words i 0) None ∷ m.0.seen), keeps, tt, settle_goes s h i id (get_or s.words i 0) m p new others at r same carries, refl)

  -- ---- taking a link
  abbrev Takes : (P → ℕ → Q → Type 0) → ℕ → ℕ → ℕ → ℕ → Sat P Q → P → Table → ℕ → Type 0
  Takes Learns slots id link old m new s y =
      (w : View P Q) × (a : Act Q) × Valid s.homes m.1 a × Rule (stepped s (word_at link) y id m.1 w a)
      × took Learns new (step slots (word_at link) old 1 maybe.none) m (get_or s.words (word_at link) 0) (w, carried_after m.1 a)

  takes_link : (Learns : P → ℕ → Q → Type 0) (slots id link old : ℕ) (m : Sat P Q) (p new : P) (others : List P) → link < many → old ≢ 1 → Rests m p others → number_of new ≡ number_of p
      → Carries number_of Led p new → Learnt number_of Led Learns new link
      → Allows Rule slots id m (word_at link) (λ y. either (eqb y old) 1 y) (took Learns new (step slots (word_at link) old 1 maybe.none) m)
  takes_link Learns slots id link old m p new others low bad r same carries learnt s h deep at small =
      let i : ℕ = word_at link in
      let x : ℕ = get_or s.words i 0 in
      let g = h.4 in
      let it = in_range h.1 link (omega (arith, g.count)) in
      let q = it.0 in
      let long : i < length s.words = let t = g.words in omega arith in
      let here = part_at s h.0 h.1 h.2 h.3 g id m.0 p others at r.parts in
      let n : ℕ = number_of p in
      let few = g.linked.low link q it.1 in
      exchanged x old 1 (Takes Learns slots id link old m new s)
      (λ hit. let w = view (with_first new m.0.parts) (Some (link, q)) m.0.raised (sight i x None ∷ m.0.seen) in
      let free : x ≢ 1 = λ e. bad (sym hit ∙ e) in
      let now : w.parts ≡ new ∷ others = ap (with_first new) r.parts in
      let other : (k : ℕ) → k ≢ i → get_or (set s.words i 1) k 0 ≡ get_or s.words k 0 = λ k ne. get_or-set_other s.words i k 1 0 ne in
      let led = carries h.0 h.1 h.2 h.3 here g.led in (
        w,
        takes link q,
        g.linked.free link q it.1 free,
        (
          set h.0 n new,
          h.1,
          h.2,
          h.3,
          record {
            led = led;
            words = length-set s.words i 1 ∙ g.words;
            homes = length-set s.homes link maybe.none ∙ g.homes;
            count = g.count;
            peers_are = length-set h.0 n new ∙ g.peers_are;
            linked = takes_one Empty s.words s.homes s.views h.1 g.linked id m.0 w link q at it.1 long r.link refl free;
            seated = moves_on number_of s.views h.0 g.seated id m.0 at w p new others r.parts now same;
            drawn = other (word_at many) (λ e. omega arith) ∙ g.drawn;
            over = g.over;
            halt = let t = total_set (λ (u : View P Q). u.raised) s.views id m.0 w at in let up = g.halt in let a = other (word_at (many + 1)) (λ e. omega arith) in omega arith;
          },
        ),
        (
          (λ _ k is. let e : link ≡ k = omega arith in (
            q,
            (λ t. (view (with_first new m.0.parts) (Some (e t, q)) m.0.raised (sight i x None ∷ m.0.seen), (e t, q) ∷ m.1)),
            subst (λ (z : ℕ). Learns new z q) e
                (learnt (set h.0 n new) h.1 h.2 h.3 q (ap (get_elem? (set h.0 n new)) same ∙ set_here h.0 n new (is_there h.0 n p here)) it.1 led),
          )),
          (λ miss. absurd (miss hit)),
          few,
        ),
      ))
      (λ miss. (saw m.0 i x, keeps, tt, looks s h i id x m.0 at, ((λ hit. absurd (miss hit)), (λ _. refl), few)))

  pub takes_by : (Learns : P → ℕ → Q → Type 0) (slots id i link old one : ℕ) (m : Sat P Q) (part : Option P) (p new : P) (others : List P) → link < many → i ≡ word_at link → old ≢ 1 → one ≡ 1 → part ≡ Some new
      → Rests m p others → number_of new ≡ number_of p → Carries number_of Led p new → Learnt number_of Led Learns new link
      → Allows Rule slots id m i (λ y. either (eqb y old) one y) (took_by Learns part (step slots i old one maybe.none) m)
  takes_by Learns slots id i link old one m part p new others low is bad one_is part_is r same carries learnt =
      subst (λ (z : Option P). Allows Rule slots id m i (λ y. either (eqb y old) one y) (took_by Learns z (step slots i old one maybe.none) m)) (sym part_is)
      (subst (λ (o : ℕ). Allows Rule slots id m i (λ y. either (eqb y old) o y) (took Learns new (step slots i old o maybe.none) m)) (sym one_is)
      (subst (λ (j : ℕ). Allows Rule slots id m j (λ y. either (eqb y old) 1 y) (took Learns new (step slots j old 1 maybe.none) m)) (sym is)
      (takes_link Learns slots id link old m p new others low bad r same carries learnt)))

  -- ---- giving it back
  gives_link : (slots id link x : ℕ) (m : Sat P Q) (p new : P) (others : List P) (q r : Q) → link < many → x ≢ 1 → x ≤ 2 → (x ≡ 0 → Empty r) → HoldsLink m p others link q r → number_of new ≡ number_of p
      → CarriesLink number_of Led link p q new r
      → Allows Rule slots id m (word_at link) (λ _. x) (λ _. gave new (step slots (word_at link) x 0 maybe.none) m x)
  gives_link slots id link x m p new others q r low out few bare hold same carries s h deep at small =
      let i : ℕ = word_at link in
      let g = h.4 in
      let long : i < length s.words = let t = g.words in omega arith in
      let here = part_at s h.0 h.1 h.2 h.3 g id m.0 p others at hold.parts in
      let on_it = g.linked.held id m.0 link q at hold.link in
      let n : ℕ = number_of p in
      let w = view (with_first new m.0.parts) None m.0.raised (sight i x m.0.link ∷ m.0.seen) in
      let now : w.parts ≡ new ∷ others = ap (with_first new) hold.parts in
      let other : (k : ℕ) → k ≢ i → get_or (set s.words i x) k 0 ≡ get_or s.words k 0 = λ k ne. get_or-set_other s.words i k x 0 ne in
      let back : put_back s.homes m.1 ≡ set s.homes link (some r) = ap (put_back s.homes) hold.slots in
      let after : Rule (table (set s.words i x) (set s.homes link (some r)) (set s.views id w)) = (
        set h.0 n new,
        set h.1 link r,
        h.2,
        h.3,
        record {
          led = carries h.0 h.1 h.2 h.3 here on_it g.led;
          words = length-set s.words i x ∙ g.words;
          homes = length-set s.homes link (some r) ∙ g.homes;
          count = length-set h.1 link r ∙ g.count;
          peers_are = length-set h.0 n new ∙ g.peers_are;
          linked = gives_one Empty s.words s.homes s.views h.1 g.linked id m.0 w link q at on_it long r x hold.link refl out few bare (omega (arith, g.homes));
          seated = moves_on number_of s.views h.0 g.seated id m.0 at w p new others hold.parts now same;
          drawn = other (word_at many) (λ e. omega arith) ∙ g.drawn;
          over = g.over;
          halt = let t = total_set (λ (u : View P Q). u.raised) s.views id m.0 w at in let up = g.halt in let a = other (word_at (many + 1)) (λ e. omega arith) in omega arith;
        },
      ) in
      (w, gives, tt, subst (λ hs. Rule (table (set s.words i x) hs (set s.views id w))) (sym back) after, refl)

  pub gives_by : (slots id i link x : ℕ) (m : Sat P Q) (part : Option P) (p new : P) (others : List P) (q r : Q) → link < many → i ≡ word_at link → x ≢ 1 → x ≤ 2 → (x ≡ 0 → Empty r) → part ≡ Some new
      → HoldsLink m p others link q r → number_of new ≡ number_of p → CarriesLink number_of Led link p q new r
      → Allows Rule slots id m i (λ _. x) (λ _. gave_by part (step slots i x 0 maybe.none) m x)
  gives_by slots id i link x m part p new others q r low is out few bare part_is hold same carries =
      subst (λ (z : Option P). Allows Rule slots id m i (λ _. x) (λ _. gave_by z (step slots i x 0 maybe.none) m x)) (sym part_is)
      (subst (λ (j : ℕ). Allows Rule slots id m j (λ _. x) (λ _. gave new (step slots j x 0 maybe.none) m x)) (sym is)
      (gives_link slots id link x m p new others q r low out few bare hold same carries))

  -- ---- drawing a ticket
  abbrev Draws : ℕ → ℕ → ℕ → Sat P Q → P → Table → ℕ → Type 0
  Draws slots id ticket m new s y =
      (w : View P Q) × (a : Act Q) × Valid s.homes m.1 a × Rule (stepped s (word_at many) y id m.1 w a)
      × drew new (step slots (word_at many) ticket (ticket + 1) maybe.none) m (get_or s.words (word_at many) 0) (w, carried_after m.1 a)

  draws_one : (slots id ticket : ℕ) (m : Sat P Q) (p new : P) (others : List P) → ticket < top → Rests m p others → number_of new ≡ number_of p → CarriesTicket number_of Led ticket p new
      → Allows Rule slots id m (word_at many) (λ y. either (eqb y ticket) (ticket + 1) y) (drew new (step slots (word_at many) ticket (ticket + 1) maybe.none) m)
  draws_one slots id ticket m p new others low r same carries s h deep at small =
      let i : ℕ = word_at many in
      let x : ℕ = get_or s.words i 0 in
      let g = h.4 in
      let long : i < length s.words = let t = g.words in omega arith in
      let here = part_at s h.0 h.1 h.2 h.3 g id m.0 p others at r.parts in
      let n : ℕ = number_of p in
      exchanged x ticket (ticket + 1) (Draws slots id ticket m new s)
      (λ hit. let w = view (with_first new m.0.parts) None m.0.raised (sight i x None ∷ m.0.seen) in
      let now : w.parts ≡ new ∷ others = ap (with_first new) r.parts in
      let is : h.2 ≡ ticket = sym g.drawn ∙ hit in
      let some_left : 0 < h.3 = let o = g.over in omega arith in
      let other : (k : ℕ) → k ≢ i → get_or (set s.words i (ticket + 1)) k 0 ≡ get_or s.words k 0 = λ k ne. get_or-set_other s.words i k (ticket + 1) 0 ne in
      let y : ℕ = pred h.3 in
      let one_less : suc y ≡ h.3 = one_more h.3 some_left in (
        w,
        keeps,
        tt,
        (
          set h.0 n new,
          h.1,
          suc ticket,
          pred h.3,
          record {
            led = carries h.0 h.1 h.3 here some_left (subst (λ (k : ℕ). Led h.0 h.1 k h.3) is g.led);
            words = length-set s.words i (ticket + 1) ∙ g.words;
            homes = g.homes;
            count = g.count;
            peers_are = length-set h.0 n new ∙ g.peers_are;
            linked = stays Empty s.words s.homes s.views h.1 g.linked (set s.words i (ticket + 1)) id m.0 w at (sym r.link) (λ k few. other (word_at k) (λ e. let c = g.count in omega arith));
            seated = moves_on number_of s.views h.0 g.seated id m.0 at w p new others r.parts now same;
            drawn = let t = get_or-set_same s.words i (ticket + 1) 0 long in omega arith;
            over = let o = g.over in let z : suc ticket + y ≡ top = omega arith in z;
            halt = let t = total_set (λ (u : View P Q). u.raised) s.views id m.0 w at in let up = g.halt in let a = other (word_at (many + 1)) (λ e. omega arith) in omega arith;
          },
        ),
        ((λ _. refl), λ miss. absurd (miss hit)),
      ))
      (λ miss. (saw m.0 i x, keeps, tt, looks s h i id x m.0 at, ((λ hit. absurd (miss hit)), λ _. refl)))

  pub draws_by : (slots id i ticket : ℕ) (m : Sat P Q) (part : Option P) (p new : P) (others : List P) → i ≡ word_at many → ticket < top → part ≡ Some new → Rests m p others → number_of new ≡ number_of p
      → CarriesTicket number_of Led ticket p new
      → Allows Rule slots id m i (λ y. either (eqb y ticket) (ticket + 1) y) (drew_by part (step slots i ticket (ticket + 1) maybe.none) m)
  draws_by slots id i ticket m part p new others is low part_is r same carries =
      subst (λ (z : Option P). Allows Rule slots id m i (λ y. either (eqb y ticket) (ticket + 1) y) (drew_by z (step slots i ticket (ticket + 1) maybe.none) m)) (sym part_is)
      (subst (λ (j : ℕ). Allows Rule slots id m j (λ y. either (eqb y ticket) (ticket + 1) y) (drew new (step slots j ticket (ticket + 1) maybe.none) m)) (sym is)
      (draws_one slots id ticket m p new others low r same carries))

  pub settles_by : (slots id i : ℕ) (m : Sat P Q) (part : Option P) (p new : P) (others : List P) → part ≡ Some new → Rests m p others → number_of new ≡ number_of p → Carries number_of Led p new
      → Allows Rule slots id m i (λ n. n) (changed_by part (step slots i 0 0 maybe.none) m)
  settles_by slots id i m part p new others part_is r same carries =
      subst (λ (z : Option P). Allows Rule slots id m i (λ n. n) (changed_by z (step slots i 0 0 maybe.none) m)) (sym part_is) (settles slots id i m p new others r same carries)

  -- ---- a seat is cut in two, and two become one
  pub splits : (id : ℕ) (v : View P Q) (p x : P) (others : List P) → v.parts ≡ p ∷ (x ∷ others) → Splits Rule id v (first_alone v) (second_alone v)
  splits id v p x others was s h at =
      let g = h.4 in
      let left = first_alone v in
      let right = second_alone v in (
        h.0,
        h.1,
        h.2,
        h.3,
        record {
          led = g.led;
          words = g.words;
          homes = g.homes;
          count = g.count;
          peers_are = g.peers_are;
          linked = appended Empty s.words s.homes (set s.views id left) h.1 (stays Empty s.words s.homes s.views h.1 g.linked s.words id v left at refl (λ k low. refl)) right refl;
          seated = cuts number_of s.views h.0 g.seated id v at left right p x others was (ap without_second was) (ap only_second was) refl;
          drawn = g.drawn;
          over = g.over;
          halt = let f = λ (u : View P Q). u.raised in let t = total_set f s.views id v left at in let a = sum_by-append f (set s.views id left) (right ∷ []) in let up = g.halt in omega arith;
        },
      )

  pub joins_all : (id other : ℕ) (v w : View P Q) → w.link ≡ None → Joins Rule id v other w (together v w) gone
  joins_all id other v w none s h at ne there_w =
      let g = h.4 in
      let both = together v w in (
        h.0,
        h.1,
        h.2,
        h.3,
        record {
          led = g.led;
          words = g.words;
          homes = g.homes;
          count = g.count;
          peers_are = g.peers_are;
          linked = stays Empty s.words s.homes (set s.views id both) h.1 (stays Empty s.words s.homes s.views h.1 g.linked s.words id v both at refl (λ k low. refl)) s.words other w gone there_w (sym none) (λ k low. refl);
          seated = joins number_of s.views h.0 g.seated id v at other w both gone ne there_w refl refl refl refl;
          drawn = g.drawn;
          over = g.over;
          halt = let f = λ (u : View P Q). u.raised in let t = total_set f s.views id v both at in let a = total_set f (set s.views id both) other w gone there_w in let up = g.halt in omega arith;
        },
      )
