-- Keys that are looked at one by one, and rows and sections of them.
use Rattle.std.proofs.Common.{◌≡◌, ℕ, zero, suc, ◌+◌, ◌-◌, ◌*◌, ◌<◌, ◌≤◌, ◌==◌, if◌then◌else◌, Bool, List, [], ◌∷◌, ◌++◌, length, take, drop, Option, None, Some, sym, ap, ◌∙◌, subst, arith}
use Rattle.std.specs.Option.{option_or}
use Rattle.std.proofs.lemmas.List.{append-nil, drop_all, take_all}
use Rattle.store.specs.declared.store_format.header.Header.{Header}
use Rattle.store.specs.store_format.Fields.{field, bad_outside}
use Rattle.store.specs.store_format.Sections.{key_fault, keys_fault, keys_taken, row_end, row_taken, row_fault, sections_fault}
use Rattle.store.specs.store_format.Inner.Taken.{AreTaken, AreLeftOf}

-- the first `i` of so many keys have no fault, and these stand before the next
pub record KeysSoFar (limit : ℕ) (marks : List Bool) (body : List ℕ) (at count i least : ℕ) (taken : List ℕ) : Type 0 where
  pub stood : List ℕ
  pub marked : AreTaken marks stood
  pub rest : keys_fault limit taken 0 count body at ≡ keys_fault limit stood least (count - i) body (at + 12 * i)
  pub all : keys_taken count body at taken ≡ keys_taken (count - i) body (at + 12 * i) stood

pub keys_first : (marks : List Bool) (body : List ℕ) (at count : ℕ) (taken : List ℕ) → AreTaken marks taken → KeysSoFar (length marks) marks body at count 0 0 taken
keys_first marks body at count taken marked =
    let all : count ≡ count - 0 = omega arith in
    let here : at ≡ at + 12 * 0 = omega arith in
    record {
      stood = taken;
      marked = marked;
      rest = ap (λ (k : ℕ). keys_fault (length marks) taken 0 k body at) all ∙ ap (keys_fault (length marks) taken 0 (count - 0) body) here;
      all = ap (λ (k : ℕ). keys_taken k body at taken) all ∙ ap (λ (a : ℕ). keys_taken (count - 0) body a taken) here;
    }

module _ (limit : ℕ) (marks : List Bool) (body : List ℕ) (at count i least : ℕ) (taken : List ℕ) (so_far : KeysSoFar limit marks body at count i least taken) where
  -- a key more
  pub keys_next : (more : List Bool) (key next : ℕ) → i < count → key ≡ field body (at + 12 * i) 4 → next ≡ key + 1 → ((stood : List ℕ) → AreTaken marks stood → key_fault limit stood least key (at + 12 * i) ≡ None) → ((stood : List ℕ) → AreTaken marks stood → AreTaken more (key ∷ stood))
      → KeysSoFar limit more body at count (i + 1) next taken
  keys_next more key next inside is next_is none marked =
      let stood = so_far.stood in
      let left : count - i ≡ suc (count - (i + 1)) = omega arith in
      let place : at + 12 * i + 12 ≡ at + 12 * (i + 1) = omega arith in
      let here : key_fault limit stood least (field body (at + 12 * i) 4) (at + 12 * i) ≡ None = ap (λ (k : ℕ). key_fault limit stood least k (at + 12 * i)) (sym is) ∙ none stood so_far.marked in
      record {
        stood = key ∷ stood;
        marked = marked stood so_far.marked;
        rest = so_far.rest ∙ ap (λ (k : ℕ). keys_fault limit stood least k body (at + 12 * i)) left
            ∙ ap (λ (o : Option ℕ). option_or o (keys_fault limit (field body (at + 12 * i) 4 ∷ stood) (field body (at + 12 * i) 4 + 1) (count - (i + 1)) body (at + 12 * i + 12))) here
            ∙ ap (λ (k : ℕ). keys_fault limit (k ∷ stood) (k + 1) (count - (i + 1)) body (at + 12 * i + 12)) (sym is)
            ∙ ap (λ (k : ℕ). keys_fault limit (key ∷ stood) k (count - (i + 1)) body (at + 12 * i + 12)) (sym next_is)
            ∙ ap (keys_fault limit (key ∷ stood) next (count - (i + 1)) body) place;
        all = so_far.all ∙ ap (λ (k : ℕ). keys_taken k body (at + 12 * i) stood) left
            ∙ ap (λ (k : ℕ). keys_taken (count - (i + 1)) body (at + 12 * i + 12) (k ∷ stood)) (sym is)
            ∙ ap (λ (a : ℕ). keys_taken (count - (i + 1)) body a (key ∷ stood)) place;
      }

  -- the next key has the first fault
  pub keys_here : (key place : ℕ) → i < count → key ≡ field body (at + 12 * i) 4 → ((stood : List ℕ) → AreTaken marks stood → key_fault limit stood least key (at + 12 * i) ≡ Some place) → keys_fault limit taken 0 count body at ≡ Some place
  keys_here key place inside is fault =
      let stood = so_far.stood in
      let left : count - i ≡ suc (count - (i + 1)) = omega arith in
      so_far.rest ∙ ap (λ (k : ℕ). keys_fault limit stood least k body (at + 12 * i)) left
      ∙ ap (λ (o : Option ℕ). option_or o (keys_fault limit (field body (at + 12 * i) 4 ∷ stood) (field body (at + 12 * i) 4 + 1) (count - (i + 1)) body (at + 12 * i + 12)))
      (ap (λ (k : ℕ). key_fault limit stood least k (at + 12 * i)) (sym is) ∙ fault stood so_far.marked)

  -- all were looked at
  pub keys_none : count ≤ i → keys_fault limit taken 0 count body at ≡ None
  keys_none past =
      let left : count - i ≡ 0 = omega arith in
      so_far.rest ∙ ap (λ (k : ℕ). keys_fault limit so_far.stood least k body (at + 12 * i)) left

  pub keys_marked : count ≤ i → AreTaken marks (keys_taken count body at taken)
  keys_marked past =
      let left : count - i ≡ 0 = omega arith in
      subst (AreTaken marks) (sym (so_far.all ∙ ap (λ (k : ℕ). keys_taken k body (at + 12 * i) so_far.stood) left)) so_far.marked

pub length-keys_taken : (count : ℕ) (body : List ℕ) (at : ℕ) (taken : List ℕ) → length (keys_taken count body at taken) ≡ count + length taken
length-keys_taken zero body at taken = omega arith
length-keys_taken (suc count) body at taken =
    let rest = length-keys_taken count body (at + 12) (field body at 4 ∷ taken) in
    omega (arith, rest)

-- the count of a row, by how many keys are left
pub row_count : (limit left more count at : ℕ) (taken : List ℕ) → left + length taken ≡ limit
    → bad_outside (if more == 0 then limit - length taken else 0) (limit - length taken + 1) count at ≡ bad_outside (if more == 0 then left else 0) (left + 1) count at
row_count limit left more count at taken sum =
    let is : limit - length taken ≡ left = omega arith in
    ap (λ (k : ℕ). bad_outside (if more == 0 then k else 0) (k + 1) count at) is

module _ (limit left more : ℕ) (marks : List Bool) (body : List ℕ) (at count : ℕ) (taken : List ℕ) (is : count ≡ field body at 4) (sum : left + length taken ≡ limit) where
  pub row_none : bad_outside (if more == 0 then left else 0) (left + 1) count at ≡ None → keys_fault limit taken 0 count body (at + 4) ≡ None → row_fault limit taken more body at ≡ None
  row_none fits keys =
      ap (λ (o : Option ℕ). option_or o (keys_fault limit taken 0 (field body at 4) body (at + 4))) (ap (λ (k : ℕ). bad_outside (if more == 0 then limit - length taken else 0) (limit - length taken + 1) k at) (sym is) ∙ row_count limit left more count at taken sum ∙ fits)
      ∙ ap (λ (k : ℕ). keys_fault limit taken 0 k body (at + 4)) (sym is) ∙ keys

  pub row_bad_count : (place : ℕ) → bad_outside (if more == 0 then left else 0) (left + 1) count at ≡ Some place → row_fault limit taken more body at ≡ Some place
  row_bad_count place bad =
      ap (λ (o : Option ℕ). option_or o (keys_fault limit taken 0 (field body at 4) body (at + 4))) (ap (λ (k : ℕ). bad_outside (if more == 0 then limit - length taken else 0) (limit - length taken + 1) k at) (sym is) ∙ row_count limit left more count at taken sum ∙ bad)

  pub row_bad_key : (place : ℕ) → bad_outside (if more == 0 then left else 0) (left + 1) count at ≡ None → keys_fault limit taken 0 count body (at + 4) ≡ Some place → row_fault limit taken more body at ≡ Some place
  row_bad_key place fits keys =
      ap (λ (o : Option ℕ). option_or o (keys_fault limit taken 0 (field body at 4) body (at + 4))) (ap (λ (k : ℕ). bad_outside (if more == 0 then limit - length taken else 0) (limit - length taken + 1) k at) (sym is) ∙ row_count limit left more count at taken sum ∙ fits)
      ∙ ap (λ (k : ℕ). keys_fault limit taken 0 k body (at + 4)) (sym is) ∙ keys

  pub row_left : count ≤ left → length marks ≡ limit → AreTaken marks (keys_taken count body (at + 4) taken) → AreLeftOf marks (left - count) (row_taken body at taken)
  row_left fits same marked = record {
    marked = subst (λ (k : ℕ). AreTaken marks (keys_taken k body (at + 4) taken)) is marked;
    count = omega (arith, length-keys_taken (field body at 4) body (at + 4) taken);
  }

-- the first `i` sections of a body have no fault
pub record SectionsSoFar (header : Header) (vertices : List Bool) (n : ℕ) (edges : List Bool) (m : ℕ) (body : List ℕ) (start i at : ℕ) : Type 0 where
  pub vertices_stood : List ℕ
  pub edges_stood : List ℕ
  pub vertices_left : AreLeftOf vertices n vertices_stood
  pub edges_left : AreLeftOf edges m edges_stood
  pub rest : sections_fault header header.machines [] [] body start ≡ sections_fault header (header.machines - i) vertices_stood edges_stood body at
  pub room : at + (8 * (header.machines - i) + 12 * n + 12 * m) ≡ length body
  pub n_is : length vertices ≡ header.n
  pub m_is : length edges ≡ header.m

-- a whole vector that was lent as a slice
pub lent_back : (part items : List Bool) (len : ℕ) → length part ≡ length items → len ≡ length items → take len (part ++ drop (length part) items) ≡ part
lent_back part items len same is =
    let none : length items ≤ length part = omega arith in
    let all : length part ≤ len = omega arith in
    ap (λ (l : List Bool). take len (part ++ l)) (drop_all (length part) items none)
    ∙ ap (take len) (append-nil part) ∙ take_all len part all

module _ (header : Header) (vertices : List Bool) (n : ℕ) (edges : List Bool) (m : ℕ) (body : List ℕ) (start i at : ℕ) (so_far : SectionsSoFar header vertices n edges m body start i at) where
  abbrev more_of : ℕ
  more_of = header.machines - (i + 1)

  one_more : i < header.machines → sections_fault header header.machines [] [] body start
      ≡ option_or (row_fault header.n so_far.vertices_stood more_of body at) (option_or (row_fault header.m so_far.edges_stood more_of body (row_end body at))
      (sections_fault header more_of (row_taken body at so_far.vertices_stood) (row_taken body (row_end body at) so_far.edges_stood) body (row_end body (row_end body at))))
  one_more inside =
      let left : header.machines - i ≡ suc more_of = omega arith in
      so_far.rest ∙ ap (λ (k : ℕ). sections_fault header k so_far.vertices_stood so_far.edges_stood body at) left

  -- the vertices of the next section have the first fault
  pub vertices_here : (limit place : ℕ) → i < header.machines → limit ≡ header.n → row_fault limit so_far.vertices_stood more_of body at ≡ Some place → sections_fault header header.machines [] [] body start ≡ Some place
  vertices_here limit place inside is fault =
      one_more inside
      ∙ ap (λ (o : Option ℕ). option_or o (option_or (row_fault header.m so_far.edges_stood more_of body (row_end body at)) (sections_fault header more_of (row_taken body at so_far.vertices_stood) (row_taken body (row_end body at) so_far.edges_stood) body (row_end body (row_end body at)))))
      (ap (λ (k : ℕ). row_fault k so_far.vertices_stood more_of body at) (sym is) ∙ fault)

  -- its edges have it
  pub edges_here : (n_limit m_limit end place : ℕ) → i < header.machines → n_limit ≡ header.n → m_limit ≡ header.m → end ≡ row_end body at → row_fault n_limit so_far.vertices_stood more_of body at ≡ None → row_fault m_limit so_far.edges_stood more_of body end ≡ Some place
      → sections_fault header header.machines [] [] body start ≡ Some place
  edges_here n_limit m_limit end place inside n_is m_is end_is none fault =
      let rest = sections_fault header more_of (row_taken body at so_far.vertices_stood) (row_taken body (row_end body at) so_far.edges_stood) body (row_end body (row_end body at)) in
      one_more inside
      ∙ ap (λ (o : Option ℕ). option_or o (option_or (row_fault header.m so_far.edges_stood more_of body (row_end body at)) rest)) (ap (λ (k : ℕ). row_fault k so_far.vertices_stood more_of body at) (sym n_is) ∙ none)
      ∙ ap (λ (o : Option ℕ). option_or o rest) (ap (λ (k : ℕ). row_fault k so_far.edges_stood more_of body (row_end body at)) (sym m_is) ∙ ap (row_fault m_limit so_far.edges_stood more_of body) (sym end_is) ∙ fault)

  -- a section more
  pub sections_next : (new_vertices : List Bool) (new_n : ℕ) (new_edges : List Bool) (new_m n_limit m_limit middle end : ℕ) → i < header.machines → n_limit ≡ header.n → m_limit ≡ header.m → middle ≡ row_end body at → end ≡ row_end body middle
      → row_fault n_limit so_far.vertices_stood more_of body at ≡ None → row_fault m_limit so_far.edges_stood more_of body middle ≡ None → AreLeftOf new_vertices new_n (row_taken body at so_far.vertices_stood) → AreLeftOf new_edges new_m (row_taken body middle so_far.edges_stood)
      → middle + 12 * new_n ≡ at + (4 + 12 * n) → end + 12 * new_m ≡ middle + (4 + 12 * m) → length new_vertices ≡ header.n → length new_edges ≡ header.m → SectionsSoFar header new_vertices new_n new_edges new_m body start (i + 1) end
  sections_next new_vertices new_n new_edges new_m n_limit m_limit middle end inside n_is m_is middle_is end_is none_n none_m left_n left_m room_n room_m size_n size_m =
      let rest = sections_fault header more_of (row_taken body at so_far.vertices_stood) (row_taken body (row_end body at) so_far.edges_stood) body (row_end body (row_end body at)) in
      let room = so_far.room in
      record {
        vertices_stood = row_taken body at so_far.vertices_stood;
        edges_stood = row_taken body middle so_far.edges_stood;
        vertices_left = left_n;
        edges_left = left_m;
        rest = one_more inside
            ∙ ap (λ (o : Option ℕ). option_or o (option_or (row_fault header.m so_far.edges_stood more_of body (row_end body at)) rest)) (ap (λ (k : ℕ). row_fault k so_far.vertices_stood more_of body at) (sym n_is) ∙ none_n)
            ∙ ap (λ (o : Option ℕ). option_or o rest) (ap (λ (k : ℕ). row_fault k so_far.edges_stood more_of body (row_end body at)) (sym m_is) ∙ ap (row_fault m_limit so_far.edges_stood more_of body) (sym middle_is) ∙ none_m)
            ∙ ap (λ (a : ℕ). sections_fault header more_of (row_taken body at so_far.vertices_stood) (row_taken body a so_far.edges_stood) body (row_end body a)) (sym middle_is)
            ∙ ap (sections_fault header more_of (row_taken body at so_far.vertices_stood) (row_taken body middle so_far.edges_stood) body) (sym end_is);
        room = omega (arith, room, room_n, room_m);
        n_is = size_n;
        m_is = size_m;
      }

pub sections_first : (header : Header) (vertices : List Bool) (n : ℕ) (edges : List Bool) (m : ℕ) (body : List ℕ) (start : ℕ) → AreLeftOf vertices n [] → AreLeftOf edges m [] → length vertices ≡ header.n → length edges ≡ header.m
    → start + (8 * header.machines + 12 * header.n + 12 * header.m) ≡ length body → SectionsSoFar header vertices n edges m body start 0 start
sections_first header vertices n edges m body start left_n left_m n_is m_is size =
    let all : header.machines ≡ header.machines - 0 = omega arith in
    record {
      vertices_stood = [];
      edges_stood = [];
      vertices_left = left_n;
      edges_left = left_m;
      rest = ap (λ (k : ℕ). sections_fault header k [] [] body start) all;
      room = omega (arith, left_n.count, left_m.count);
      n_is = n_is;
      m_is = m_is;
    }

pub sections_none : (header : Header) (vertices : List Bool) (n : ℕ) (edges : List Bool) (m : ℕ) (body : List ℕ) (start i at : ℕ) → SectionsSoFar header vertices n edges m body start i at → header.machines ≤ i → sections_fault header header.machines [] [] body start ≡ None
sections_none header vertices n edges m body start i at so_far past =
    let left : header.machines - i ≡ 0 = omega arith in
    so_far.rest ∙ ap (λ (k : ℕ). sections_fault header k so_far.vertices_stood so_far.edges_stood body at) left
