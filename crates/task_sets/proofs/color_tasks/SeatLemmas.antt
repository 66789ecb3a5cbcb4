-- Seats and rows: how both grow together, and what stands in line when one flag changes.
use Rattle.std.proofs.Common.{◌≡◌, ℕ, zero, suc, ◌+◌, ◌<◌, ◌≤◌, ◌==◌, ◌&&◌, ◌||◌, ◌++◌, ◌⊎◌, Bool, true, false, not, if◌then◌else◌, Option, Some, None, List, [], ◌∷◌, length, get_or, set, refl, sym, ap, ◌∙◌, subst, arith, inl, inr, true≢false, length-set, length-append}
use Rattle.std.specs.Prelude.{slice_get, option_map}
use Rattle.std.specs.List.{All}
use Rattle.std.specs.Global.{Vec}
use Rattle.std.proofs.lemmas.Bool.{cases_eq, cases_lt, eq-eqb, ne_eqb}
use Rattle.std.proofs.lemmas.List.{get_or-map, get_or_default, get_or_past, get_or-set_same, get_or-set_other, length-map, get_or_append_left}
use Rattle.std.proofs.Math.Seq.{get_or-append_seam}
use Rattle.std.proofs.lemmas.Option.{slice_get-map, slice_get_within, slice_get-get_or, same_Some, none-some}
use Rattle.gl_base.specs.declared.numbers.Vertex.{Vertex}
use Rattle.task_sets.specs.vertex_queue.Flags.{is_flagged}
use Rattle.task_sets.specs.color_tasks.Lines.{LinesView, HasColour, is_in_line}
use Rattle.task_sets.specs.color_tasks.Inner.Seats.{AreSeats, AreQueues, HasJoined, colour_row, colour_rows, stands_at, lines_of}
use Rattle.task_sets.specs.declared.color_tasks.lines.Seat.{Seat}

-- ---- a list with one element more

append_old : {X : Type 0} (xs : List X) (y : X) (k : ℕ) (x : X) → slice_get xs k ≡ Some x → slice_get (xs ++ y ∷ []) k ≡ Some x
append_old [] y k x is = absurd (none-some x is)
append_old (z ∷ xs) y zero x is = is
append_old (z ∷ xs) y (suc k) x is = append_old xs y k x is

append_last : {X : Type 0} (xs : List X) (y : X) → slice_get (xs ++ y ∷ []) (length xs) ≡ Some y
append_last [] y = refl
append_last (z ∷ xs) y = append_last xs y

append_one : {X : Type 0} (xs : List X) (y : X) (k : ℕ) (x : X) → slice_get (xs ++ y ∷ []) k ≡ Some x → (slice_get xs k ≡ Some x) ⊎ ((k ≡ length xs) × (y ≡ x))
append_one [] y zero x is = inr (refl, same_Some y x is)
append_one [] y (suc k) x is = absurd (none-some x is)
append_one (z ∷ xs) y zero x is = inl is
append_one (z ∷ xs) y (suc k) x is = later (append_one xs y k x is)
  where
    later : (slice_get xs k ≡ Some x) ⊎ ((k ≡ length xs) × (y ≡ x)) → (slice_get (z ∷ xs) (suc k) ≡ Some x) ⊎ ((suc k ≡ length (z ∷ xs)) × (y ≡ x))
    later (inl old) = inl old
    later (inr (at, same)) = inr (ap suc at, same)

-- ---- rows

pub row_is : (rows : List (Vec Vertex)) (c : ℕ) (row : Vec Vertex) → c < length rows → row ≡ get_or rows c row → row.items ≡ colour_row (colour_rows rows) c
row_is rows c row low is = ap (λ (r : Vec Vertex). r.items) is ∙ sym (get_or-map (λ (r : Vec Vertex). r.items) rows c row [] low)

pub all_empty : (rows : List (Vec Vertex)) → All (λ (row : Vec Vertex). row.items ≡ []) rows → (c : ℕ) → colour_row (colour_rows rows) c ≡ []
all_empty [] empty c = refl
all_empty (row ∷ rows) empty zero = empty 0 row (omega arith)
all_empty (row ∷ rows) empty (suc c) = all_empty rows (λ k d within. empty (suc k) d (omega arith)) c

row_set : (rows : List (List Vertex)) (c d : ℕ) (row : List Vertex) → c < length rows → colour_row (set rows c row) d ≡ (if d == c then row else colour_row rows d)
row_set rows c d row low = elim (cases_eq d c) [
  | inl same ↦
      ap (colour_row (set rows c row)) same ∙ get_or-set_same rows c row [] low ∙ sym (ap (λ (b : Bool). if b then row else colour_row rows d) (eq-eqb d c same))
  | inr other ↦
      get_or-set_other rows c d row [] other ∙ sym (ap (λ (b : Bool). if b then row else colour_row rows d) (ne_eqb d c other))
]

row_here : (rows : List (List Vertex)) (c : ℕ) (row : List Vertex) → c < length rows → colour_row (set rows c row) c ≡ row
row_here rows c row low = get_or-set_same rows c row [] low

-- who stands in a row stands in one that is there
pub in_row : (rows : List (List Vertex)) (c r : ℕ) (v : Vertex) → slice_get (colour_row rows c) r ≡ Some v → c < length rows
in_row [] c r v is = absurd (none-some v is)
in_row (row ∷ rows) zero r v is = omega arith
in_row (row ∷ rows) (suc c) r v is = let later = in_row rows c r v is in omega arith

-- ---- one more joins

module _ (seats : List Seat) (old new : List (List Vertex)) (s : Seat) (v : Vertex) (are : AreSeats seats old) (joined : HasJoined old new s v) (at : v.0 ≡ length seats) where
  here : colour_row new s.colour ≡ colour_row old s.colour ++ v ∷ []
  here = ap (λ (rows : List (List Vertex)). colour_row rows s.colour) joined.rows ∙ row_here old s.colour (colour_row old s.colour ++ v ∷ []) joined.within

  there : (d : ℕ) → (d ≡ s.colour → ⊥) → colour_row new d ≡ colour_row old d
  there d other = ap (λ (rows : List (List Vertex)). colour_row rows d) joined.rows ∙ get_or-set_other old s.colour d (colour_row old s.colour ++ v ∷ []) [] other

  seat_of : (p : ℕ) (t : Seat) → slice_get (seats ++ s ∷ []) p ≡ Some t → slice_get (colour_row new t.colour) t.rank ≡ Some (record { 0 = p })
  seat_of p t is = elim (append_one seats s p t is) [
    | inl old_one ↦
        let was = are.seat p t old_one in
        elim (cases_eq t.colour s.colour) [
          | inl same ↦
              ap (λ (c : ℕ). slice_get (colour_row new c) t.rank) same ∙ ap (λ (row : List Vertex). slice_get row t.rank) here
              ∙ append_old (colour_row old s.colour) v t.rank (record { 0 = p }) (ap (λ (c : ℕ). slice_get (colour_row old c) t.rank) (sym same) ∙ was)
          | inr other ↦ ap (λ (row : List Vertex). slice_get row t.rank) (there t.colour other) ∙ was
        ]
    | inr last ↦
        let last_one : slice_get (colour_row new s.colour) s.rank ≡ Some v =
        ap (λ (row : List Vertex). slice_get row s.rank) here ∙ ap (slice_get (colour_row old s.colour ++ v ∷ [])) joined.rank ∙ append_last (colour_row old s.colour) v in
        let number : v.0 ≡ p = at ∙ sym last.0 in
        subst (λ (u : Seat). slice_get (colour_row new u.colour) u.rank ≡ Some (record { 0 = p })) last.1 (last_one ∙ (λ i. Some (record { 0 = number i })))
  ]

  member_of : (d r : ℕ) (w : Vertex) → slice_get (colour_row new d) r ≡ Some w → slice_get (seats ++ s ∷ []) w.0 ≡ Some (record { colour = d; rank = r })
  member_of d r w is = elim (cases_eq d s.colour) [
    | inl same ↦
        let now : slice_get (colour_row old s.colour ++ v ∷ []) r ≡ Some w = ap (λ (row : List Vertex). slice_get row r) (sym here) ∙ ap (λ (c : ℕ). slice_get (colour_row new c) r) (sym same) ∙ is in
        elim (append_one (colour_row old s.colour) v r w now) [
          | inl was ↦ append_old seats s w.0 (record { colour = d; rank = r }) (are.member s.colour r w was ∙ (λ i. Some (record { colour = sym same i; rank = r })))
          | inr last ↦
              let place : w.0 ≡ length seats = ap (λ (u : Vertex). u.0) (sym last.1) ∙ at in
              let rank : s.rank ≡ r = joined.rank ∙ sym last.0 in
              ap (slice_get (seats ++ s ∷ [])) place ∙ append_last seats s ∙ (λ i. Some (record { colour = sym same i; rank = rank i }))
        ]
    | inr other ↦
        append_old seats s w.0 (record { colour = d; rank = r }) (are.member d r w (ap (λ (row : List Vertex). slice_get row r) (sym (there d other)) ∙ is))
  ]

  pub seats_more : AreSeats (seats ++ s ∷ []) new
  seats_more = record { seat = seat_of; member = member_of }

pub short_more : (old new : List (List Vertex)) (s : Seat) (v : Vertex) (n : ℕ) → HasJoined old new s v → ((c : ℕ) → length (colour_row old c) ≤ n) → (c : ℕ) → length (colour_row new c) ≤ n + 1
short_more old new s v n joined short c = elim (cases_eq c s.colour) [
  | inl same ↦
      let is : colour_row new c ≡ colour_row old s.colour ++ v ∷ [] =
      ap (colour_row new) same ∙ ap (λ (rows : List (List Vertex)). colour_row rows s.colour) joined.rows ∙ row_here old s.colour (colour_row old s.colour ++ v ∷ []) joined.within in
      subst (λ (row : List Vertex). length row ≤ n + 1) (sym is) (longer (colour_row old s.colour) (short s.colour))
  | inr other ↦
      let is : colour_row new c ≡ colour_row old c = ap (λ (rows : List (List Vertex)). colour_row rows c) joined.rows ∙ get_or-set_other old s.colour c (colour_row old s.colour ++ v ∷ []) [] other in
      let low = short c in
      subst (λ (row : List Vertex). length row ≤ n + 1) (sym is) (omega arith)
]
  where
    longer : (row : List Vertex) → length row ≤ n → length (row ++ v ∷ []) ≤ n + 1
    longer row low = let many = length-append row (v ∷ []) in omega (arith, low, many)

-- no row, no seat
pub no_seats : (rows : List (List Vertex)) → ((c : ℕ) → colour_row rows c ≡ []) → AreSeats [] rows
no_seats rows empty =
    record {
      seat = λ p s is. absurd (none-some s is);
      member = λ c r v is. absurd (none-some v (sym (ap (λ (row : List Vertex). slice_get row r) (empty c)) ∙ is));
    }

-- ---- queues

pub queues_more : (queues : List (List Bool)) (q : List Bool) (rows : List (List Vertex)) (n : ℕ) → length queues ≡ n → ((c : ℕ) → c < n → length (get_or queues c []) ≡ length (colour_row rows c)) → length q ≡ length (colour_row rows n)
    → (c : ℕ) → c < n + 1 → length (get_or (queues ++ q ∷ []) c []) ≡ length (colour_row rows c)
queues_more queues q rows n many long last c low = elim (cases_eq c n) [
  | inl same ↦
      ap (λ (k : ℕ). length (get_or (queues ++ q ∷ []) k [])) (same ∙ sym many) ∙ ap length (get_or-append_seam queues q [] []) ∙ last ∙ ap (λ (k : ℕ). length (colour_row rows k)) (sym same)
  | inr other ↦ ap length (get_or_append_left queues (q ∷ []) [] c (omega arith)) ∙ long c (omega arith)
]

pub none_more : (queues : List (List Bool)) (q : List Bool) → ((c r : ℕ) → get_or (get_or queues c []) r false ≡ false) → ((r : ℕ) → get_or q r false ≡ false) → (c r : ℕ) → get_or (get_or (queues ++ q ∷ []) c []) r false ≡ false
none_more [] q none last zero r = last r
none_more [] q none last (suc c) r = refl
none_more (p ∷ queues) q none last zero r = none zero r
none_more (p ∷ queues) q none last (suc c) r = none_more queues q (λ d k. none (suc d) k) last c r

pub queues_all : (queues : List (List Bool)) (rows : List (List Vertex)) (n : ℕ) → length queues ≡ n → length rows ≡ n → ((c : ℕ) → c < n → length (get_or queues c []) ≡ length (colour_row rows c)) → AreQueues rows queues
queues_all queues rows n many as_many long =
    record {
      count = many ∙ sym as_many;
      long = λ c. elim (cases_lt c n) [
        | inl low ↦ long c low
        | inr past ↦ ap length (get_or_past queues c [] (omega arith)) ∙ sym (ap length (get_or_past rows c [] (omega arith)))
      ];
    }

-- ---- who stands in line

pub waits_is : (queues : List (List Bool)) (seats : List Seat) (u : ℕ) → is_flagged (lines_of seats queues).waits u ≡ stands_at queues (slice_get seats u)
waits_is queues [] u = refl
waits_is queues (s ∷ seats) zero = refl
waits_is queues (s ∷ seats) (suc u) = waits_is queues seats u

pub none_stands : (queues : List (List Bool)) → ((c r : ℕ) → get_or (get_or queues c []) r false ≡ false) → (o : Option Seat) → stands_at queues o ≡ false
none_stands queues none None = refl
none_stands queues none (Some s) = none s.colour s.rank

module _ (seats : List Seat) (rows : List (List Vertex)) (queues : List (List Bool)) (are : AreSeats seats rows) (have : AreQueues rows queues) where
  pub seat_within : (p : ℕ) (s : Seat) → slice_get seats p ≡ Some s → s.colour < length queues
  seat_within p s is =
      let low = in_row rows s.colour s.rank (record { 0 = p }) (are.seat p s is) in
      subst (λ (n : ℕ). s.colour < n) (sym have.count) low

  pub rank_within : (p : ℕ) (s : Seat) → slice_get seats p ≡ Some s → s.rank < length (get_or queues s.colour [])
  rank_within p s is = subst (λ (n : ℕ). s.rank < n) (sym (have.long s.colour)) (slice_get_within (colour_row rows s.colour) s.rank (record { 0 = p }) (are.seat p s is))

  -- the flag of one vertex is written
  module _ (v : ℕ) (s : Seat) (is : slice_get seats v ≡ Some s) (b : Bool) where
    abbrev written : List (List Bool)
    written = set queues s.colour (set (get_or queues s.colour []) s.rank b)

    at_seat : is_flagged (get_or written s.colour []) s.rank ≡ b
    at_seat =
        ap (λ (q : List Bool). is_flagged q s.rank) (get_or-set_same queues s.colour (set (get_or queues s.colour []) s.rank b) [] (seat_within v s is))
        ∙ get_or-set_same (get_or queues s.colour []) s.rank b false (rank_within v s is)

    off_seat : (t : Seat) → ((t.colour ≡ s.colour) → (t.rank ≡ s.rank) → ⊥) → is_flagged (get_or written t.colour []) t.rank ≡ is_flagged (get_or queues t.colour []) t.rank
    off_seat t off = elim (cases_eq t.colour s.colour) [
      | inl same ↦
          let ranks : t.rank ≡ s.rank → ⊥ = off same in
          ap (λ (c : ℕ). is_flagged (get_or written c []) t.rank) same
          ∙ ap (λ (q : List Bool). is_flagged q t.rank) (get_or-set_same queues s.colour (set (get_or queues s.colour []) s.rank b) [] (seat_within v s is))
          ∙ get_or-set_other (get_or queues s.colour []) s.rank t.rank b false ranks
          ∙ ap (λ (c : ℕ). is_flagged (get_or queues c []) t.rank) (sym same)
      | inr other ↦ ap (λ (q : List Bool). is_flagged q t.rank) (get_or-set_other queues s.colour t.colour (set (get_or queues s.colour []) s.rank b) [] other)
    ]

    -- the queues go with the rows still
    pub queues_kept : AreQueues rows written
    queues_kept =
        record {
          count = length-set queues s.colour (set (get_or queues s.colour []) s.rank b) ∙ have.count;
          long = λ d. elim (cases_eq d s.colour) [
            | inl same ↦
                ap (λ (c : ℕ). length (get_or written c [])) same
                ∙ ap length (get_or-set_same queues s.colour (set (get_or queues s.colour []) s.rank b) [] (seat_within v s is))
                ∙ length-set (get_or queues s.colour []) s.rank b ∙ have.long s.colour ∙ ap (λ (c : ℕ). length (colour_row rows c)) (sym same)
            | inr other ↦ ap length (get_or-set_other queues s.colour d (set (get_or queues s.colour []) s.rank b) [] other) ∙ have.long d
          ];
        }

    one_seat : (u : ℕ) (t : Seat) → slice_get seats u ≡ Some t → t.colour ≡ s.colour → t.rank ≡ s.rank → u ≡ v
    one_seat u t at colour rank =
        let there : slice_get (colour_row rows s.colour) s.rank ≡ Some (record { 0 = u }) = ap (λ (c : ℕ). slice_get (colour_row rows c) s.rank) (sym colour) ∙ ap (slice_get (colour_row rows t.colour)) (sym rank) ∙ are.seat u t at in
        ap (λ (w : Vertex). w.0) (same_Some (record { 0 = u }) (record { 0 = v }) (sym there ∙ are.seat v s is))

    pub stands_written : (u : ℕ) → stands_at written (slice_get seats u) ≡ (if u == v then b else stands_at queues (slice_get seats u))
    stands_written u = elim (cases_eq u v) [
      | inl same ↦
          ap (λ (k : ℕ). stands_at written (slice_get seats k)) same ∙ ap (stands_at written) is ∙ at_seat
          ∙ sym (ap (λ (c : Bool). if c then b else stands_at queues (slice_get seats u)) (eq-eqb u v same))
      | inr other ↦
          by other (slice_get seats u) refl ∙ sym (ap (λ (c : Bool). if c then b else stands_at queues (slice_get seats u)) (ne_eqb u v other))
    ]
      where
        by : (u ≡ v → ⊥) → (o : Option Seat) → slice_get seats u ≡ o → stands_at written o ≡ stands_at queues o
        by other None at = refl
        by other (Some t) at = off_seat t (λ colour rank. other (one_seat u t at colour rank))

  -- the vertex at a rank of a colour has it
  pub colour_is : (c r : ℕ) (v : Vertex) → slice_get (colour_row rows c) r ≡ Some v → HasColour (lines_of seats queues) v.0 c
  colour_is c r v is = slice_get-map (λ (s : Seat). s.colour) seats v.0 ∙ ap (option_map (λ (s : Seat). s.colour)) (are.member c r v is)

  -- and stands in line where its rank is flagged
  pub stands_is : (c r : ℕ) (v : Vertex) → slice_get (colour_row rows c) r ≡ Some v → stands_at queues (slice_get seats v.0) ≡ is_flagged (get_or queues c []) r
  stands_is c r v is = ap (stands_at queues) (are.member c r v is)

  -- a vertex of the colour has a seat
  pub seat_with : (u c : ℕ) → HasColour (lines_of seats queues) u c → (s : Seat) × (slice_get seats u ≡ Some s) × (s.colour ≡ c)
  seat_with u c has = by (slice_get seats u) refl
    where
      by : (o : Option Seat) → slice_get seats u ≡ o → (s : Seat) × (slice_get seats u ≡ Some s) × (s.colour ≡ c)
      by None at = absurd (none-some c (sym (slice_get-map (λ (s : Seat). s.colour) seats u ∙ ap (option_map (λ (s : Seat). s.colour)) at) ∙ has))
      by (Some s) at = (s, at, same_Some s.colour c (sym (slice_get-map (λ (s : Seat). s.colour) seats u ∙ ap (option_map (λ (s : Seat). s.colour)) at) ∙ has))

  -- where no rank of a colour is flagged nobody of it stands in line
  pub nobody_stands : (c : ℕ) → ((r : ℕ) → is_flagged (get_or queues c []) r ≡ false) → (u : ℕ) → HasColour (lines_of seats queues) u c → stands_at queues (slice_get seats u) ≡ false
  nobody_stands c none u has =
      let one = seat_with u c has in
      ap (stands_at queues) one.1 ∙ ap (λ (d : ℕ). is_flagged (get_or queues d []) one.0.rank) one.2 ∙ none one.0.rank

  -- there is no vertex of a colour without a queue
  pub no_such_colour : (c : ℕ) → length queues ≤ c → (u : ℕ) → HasColour (lines_of seats queues) u c → stands_at queues (slice_get seats u) ≡ false
  no_such_colour c past u has =
      let one = seat_with u c has in
      let low = seat_within u one.0 one.1 in
      let same = one.2 in
      absurd (omega arith)

-- ---- lines as they are seen

if_or : (c x : Bool) → (if c then true else x) ≡ (c || x)
if_or true x = refl
if_or false x = refl

if_and : (c x : Bool) → (if c then false else x) ≡ (not c && x)
if_and true x = refl
if_and false x = refl

module _ (seats : List Seat) (rows : List (List Vertex)) (queues : List (List Bool)) (old : LinesView) (view : lines_of seats queues ≡ old) (are : AreSeats seats rows) (have : AreQueues rows queues) where
  -- the vertex has a seat
  pub seat_at : (v : ℕ) (s : Seat) → v < length old.colours → s ≡ get_or seats v s → slice_get seats v ≡ Some s
  seat_at v s low is =
      let seen : v < length (lines_of seats queues).colours = subst (λ (l : LinesView). v < length l.colours) (sym view) low in
      let within : v < length seats = subst (λ (n : ℕ). v < n) (length-map seats (λ (s : Seat). s.colour)) seen in
      slice_get-get_or seats v s within ∙ ap Some (sym is)

  -- its queue
  pub queue_is : (v : ℕ) (s : Seat) (q : List Bool) → slice_get seats v ≡ Some s → q ≡ get_or queues s.colour q → q ≡ get_or queues s.colour []
  queue_is v s q at is = is ∙ get_or_default queues s.colour q [] (seat_within seats rows queues are have v s at)

  module _ (v : ℕ) (s : Seat) (q new : List Bool) (b : Bool) (at : slice_get seats v ≡ Some s) (is : q ≡ get_or queues s.colour q) (made : new ≡ set q s.rank b) where
    made_is : set queues s.colour new ≡ set queues s.colour (set (get_or queues s.colour []) s.rank b)
    made_is = ap (set queues s.colour) (made ∙ ap (λ (p : List Bool). set p s.rank b) (queue_is v s q at is))

    pub line_written : (u : ℕ) → is_in_line (lines_of seats (set queues s.colour new)) u ≡ (if u == v then b else is_in_line old u)
    line_written u =
        waits_is (set queues s.colour new) seats u
        ∙ ap (λ (qs : List (List Bool)). stands_at qs (slice_get seats u)) made_is
        ∙ stands_written seats rows queues are have v s at b u
        ∙ ap (λ (c : Bool). if u == v then b else c) (sym (waits_is queues seats u) ∙ ap (λ (l : LinesView). is_in_line l u) view)

    pub queues_still : AreQueues rows (set queues s.colour new)
    queues_still = subst (AreQueues rows) (sym made_is) (queues_kept seats rows queues are have v s at b)

  pub line_joined : (v : ℕ) (s : Seat) (q new : List Bool) → slice_get seats v ≡ Some s → q ≡ get_or queues s.colour q → new ≡ set q s.rank true
      → (u : ℕ) → is_in_line (lines_of seats (set queues s.colour new)) u ≡ (u == v || is_in_line old u)
  line_joined v s q new at is made u = line_written v s q new true at is made u ∙ if_or (u == v) (is_in_line old u)

  pub line_left : (v : ℕ) (s : Seat) (q new : List Bool) → slice_get seats v ≡ Some s → q ≡ get_or queues s.colour q → new ≡ set q s.rank false
      → (u : ℕ) → is_in_line (lines_of seats (set queues s.colour new)) u ≡ (not (u == v) && is_in_line old u)
  line_left v s q new at is made u = line_written v s q new false at is made u ∙ if_and (u == v) (is_in_line old u)

  -- ---- the first of a colour

  module _ (c : ℕ) (low : c < length queues) (q : List Bool) (is : q ≡ get_or queues c q) where
    flags_is : q ≡ get_or queues c []
    flags_is = is ∙ get_or_default queues c q [] low

    pub rank_low : (r : ℕ) → is_flagged q r ≡ true → r < length (colour_row rows c)
    rank_low r flagged = elim (cases_lt r (length (colour_row rows c))) [
      | inl within ↦ within
      | inr past ↦
          let long : length q ≡ length (colour_row rows c) = ap length flags_is ∙ have.long c in
          let none : is_flagged q r ≡ false = get_or_past q r false (omega arith) in
          absurd (true≢false (sym flagged ∙ none))
    ]

    pub none_of : ((r : ℕ) → is_flagged q r ≡ false) → (u : ℕ) → HasColour old u c → is_in_line old u ≡ false
    none_of none u has =
        ap (λ (l : LinesView). is_in_line l u) (sym view) ∙ waits_is queues seats u
        ∙ nobody_stands seats rows queues are have c (λ r. ap (λ (p : List Bool). is_flagged p r) (sym flags_is) ∙ none r) u (subst (λ (l : LinesView). HasColour l u c) (sym view) has)

    module _ (row : List Vertex) (r : ℕ) (v : Vertex) (row_here : row ≡ colour_row rows c) (at : v ≡ get_or row r v) (flagged : is_flagged q r ≡ true) where
      stands_there : slice_get (colour_row rows c) r ≡ Some v
      stands_there =
          slice_get-get_or (colour_row rows c) r v (rank_low r flagged) ∙ ap (λ (l : List Vertex). Some (get_or l r v)) (sym row_here) ∙ ap Some (sym at)

      pub first_waits : is_in_line old v.0 ≡ true
      first_waits =
          ap (λ (l : LinesView). is_in_line l v.0) (sym view) ∙ waits_is queues seats v.0 ∙ stands_is seats rows queues are have c r v stands_there
          ∙ ap (λ (p : List Bool). is_flagged p r) (sym flags_is) ∙ flagged

      pub first_colour : HasColour old v.0 c
      first_colour = subst (λ (l : LinesView). HasColour l v.0 c) view (colour_is seats rows queues are have c r v stands_there)

  pub none_past : (c : ℕ) → length queues ≤ c → (u : ℕ) → HasColour old u c → is_in_line old u ≡ false
  none_past c past u has =
      ap (λ (l : LinesView). is_in_line l u) (sym view) ∙ waits_is queues seats u
      ∙ no_such_colour seats rows queues are have c past u (subst (λ (l : LinesView). HasColour l u c) (sym view) has)

pub none_in_line : (seats : List Seat) (queues : List (List Bool)) → ((c r : ℕ) → get_or (get_or queues c []) r false ≡ false) → (u : ℕ) → is_in_line (lines_of seats queues) u ≡ false
none_in_line seats queues none u = waits_is queues seats u ∙ none_stands queues none (slice_get seats u)
