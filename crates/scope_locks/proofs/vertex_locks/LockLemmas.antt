-- What becomes of a lock's lists.
use Rattle.std.proofs.Common.{◌≡◌, ◌≢◌, ℕ, zero, suc, ◌+◌, ◌-◌, ◌<◌, ◌≤◌, Bool, true, false, Option, Some, None, is_some, option_map, List, [], ◌∷◌, ◌++◌, length, slice_index_or, take, drop, refl, sym, ◌∙◌, ap, subst, inl, inr, ⊎_elim, arith}
use Rattle.std.specs.List.{AllPairs, remove, position, position_or_len}
use Rattle.std.proofs.lemmas.Bool.{cases_Bool, cases_lt, cases_eq, true≢false, lt-ltb}
use Rattle.std.proofs.lemmas.Option.{none-some, same_Some}
use Rattle.std.proofs.lemmas.List.{length-take-le, take_all, get_or-take, get_or-drop, get_or_default, drop_more, drop_all, drop-drop, take_more, take_at, drop_at, take-append-drop, take-append-le, length_push}
use Rattle.std.proofs.lemmas.List.Sums.{fails_before_first}
use Rattle.std.proofs.lemmas.List.Edits.{length-remove, remove-append_left}
use Rattle.std.proofs.lemmas.List.Elements.{recursion_from_All}
use Rattle.std.proofs.lemmas.List.Quantifiers.{all_pairs_remove, position-Some}
use Rattle.std.proofs.Math.ListN.{length-drop}
use Rattle.gl_base.specs.declared.scopes.Claim.{Claim}
use Rattle.gl_base.specs.declared.scopes.Mode.{Mode}
use Rattle.gl_base.specs.declared.scopes.Mode.TheVariants.{Reader, Writer}
use Rattle.gl_base.specs.declared.scopes.ScopeId.{ScopeId}
use Rattle.gl_base.specs.scope_lists.Scopes.{is_scope, set_for}
use Rattle.gl_base.specs.scope_lists.Found.{by_scope, AreOfTwoScopes}
use Rattle.gl_base.proofs.scope_lists.SameScope.{same_scope, scopes_same, one_or_two, set_for-here, set_for-there}
use Rattle.gl_base.proofs.scope_lists.FoundLemmas.{apart_head, apart_tail, found_at, none_found, found_place, found_pushed, apart_pushed}
use Rattle.gl_base.proofs.scope_lists.Edited.{found_removed, apart_removed}
use Rattle.scope_locks.specs.vertex_locks.Inner.KeptLocks.{ReadTogether, IsLock, IsTaken, IsReleased}
use Rattle.gl_base.specs.scope_lists.Scopes.{GoTogether}
use Rattle.scope_locks.specs.vertex_locks.Locks.{LockView, claimant, has, mode_of, IsNext, IsFreeLock, WritesAlone, WaitOnce, view_of, requested, without_claim, released}

-- ---- holders

-- how a scope holds the lock tells which claim it has
held_claim : (claims : List Claim) (s : ScopeId) (mode : Mode) (o : Option Claim) → by_scope claimant claims s ≡ o → option_map (λ c. c.mode) o ≡ Some mode → (e : Claim) × (by_scope claimant claims s ≡ Some e) × (e.mode ≡ mode)
held_claim claims s mode None is says = absurd (none-some mode says)
held_claim claims s mode (Some e) is says = (e, is, same_Some e.mode mode says)

-- a holder stands at a place
pub record IsHolder (claims : List Claim) (s : ScopeId) (mode : Mode) : Type 0 where
  pub claim : Claim
  pub place : ℕ
  pub inside : place < length claims
  pub there : slice_index_or claims place claim ≡ claim
  pub scope : claim.scope ≡ s
  pub mode_is : claim.mode ≡ mode

holder : (claims : List Claim) (s : ScopeId) (mode : Mode) → mode_of claims s ≡ Some mode → IsHolder claims s mode
holder claims s mode says =
    let one = held_claim claims s mode (by_scope claimant claims s) refl says in
    let place = found_place claimant claims s one.0 one.1 in
    record { claim = one.0; place = place.0; inside = place.1; there = place.2; scope = place.3; mode_is = one.2 }

-- a claim at a place holds the lock
holds_at : (claims : List Claim) (i : ℕ) (d : Claim) → AllPairs (AreOfTwoScopes claimant) claims → i < length claims → mode_of claims (slice_index_or claims i d).scope ≡ Some (slice_index_or claims i d).mode
holds_at claims i d apart inside = ap (option_map (λ (c : Claim). c.mode)) (found_at claimant claims (slice_index_or claims i d).scope i d apart inside (same_scope (slice_index_or claims i d).scope))

apart_taken : (claims : List Claim) (held : ℕ) → held ≤ length claims → AllPairs (AreOfTwoScopes claimant) claims → AllPairs (AreOfTwoScopes claimant) (take held claims)
apart_taken claims held within apart = λ i j d before inside.
    let long = length-take-le held claims within in
    let early : i < held = omega arith in
    let late : j < held = omega arith in
    rw (get_or-take held claims i d early, get_or-take held claims j d late) (apart i j d before (omega arith))

writer≢reader : Writer ≡ Reader → ⊥
writer≢reader same = cc

-- a writer that holds the lock is the only holder
pub exclusive : (claims : List Claim) (held : ℕ) → IsLock claims held → WritesAlone (mode_of (take held claims))
exclusive claims held is = λ s t mode writes holds.
    let one = holder (take held claims) s Writer writes in
    let other = holder (take held claims) t mode holds in
    let first : slice_index_or (take held claims) one.place one.claim ≡ one.claim = one.there in
    let second : slice_index_or (take held claims) other.place one.claim ≡ other.claim = get_or_default (take held claims) other.place one.claim other.claim other.inside ∙ other.there in
    ⊎_elim
    (λ (before : one.place < other.place).
    let both = is.together one.place other.place one.claim before other.inside in
    absurd (writer≢reader (sym one.mode_is ∙ (sym (ap (λ (c : Claim). c.mode) first) ∙ both.0))))
    (λ (rest : other.place ≤ one.place). ⊎_elim
    (λ (behind : other.place < one.place).
    let both = is.together other.place one.place one.claim behind one.inside in
    absurd (writer≢reader (sym one.mode_is ∙ (sym (ap (λ (c : Claim). c.mode) first) ∙ both.1))))
    (λ (back : one.place ≤ other.place).
    let same : one.place ≡ other.place = omega arith in
    let claims_same : one.claim ≡ other.claim = sym first ∙ (ap (λ n. slice_index_or (take held claims) n one.claim) same ∙ second) in
    sym one.scope ∙ (ap (λ (c : Claim). c.scope) claims_same ∙ other.scope))
    (cases_lt other.place one.place))
    (cases_lt one.place other.place)

-- no scope waits twice, and none that waits holds the lock
pub wait_once : (claims : List Claim) (held : ℕ) → IsLock claims held → WaitOnce (mode_of (take held claims)) (drop held claims)
wait_once claims held is = record {
  once = λ i j d before inside.
      let long = length-drop held claims in
      rw (get_or-drop held claims i d, get_or-drop held claims j d) (is.once (held + i) (held + j) d (omega arith) (omega arith));
  hold_not = recursion_from_All (λ (c : Claim). mode_of (take held claims) c.scope ≡ None) (drop held claims)
      (λ k d inside.
      let long = length-drop held claims in
      let c = slice_index_or (drop held claims) k d in
      ap (option_map (λ (x : Claim). x.mode)) (none_found claimant (take held claims) c.scope
      (λ j e within.
      let short = length-take-le held claims is.within in
      let early : j < held = omega arith in
      let late : held + k < length claims = omega arith in
      rw (get_or-take held claims j e early, get_or-drop held claims k d, get_or_default claims (held + k) d e late) (is.once j (held + k) e (omega arith) late))));
}

-- ---- whose turn it is

first_of : (claims : List Claim) (held : ℕ) (c : Claim) → held < length claims → c ≡ slice_index_or claims held c → drop held claims ≡ c ∷ drop (held + 1) claims
first_of claims held c within read = drop_more claims held c within ∙ ap (λ x. x ∷ drop (held + 1) claims) (sym read)

-- nobody waits
pub none_waits : (claims : List Claim) (held : ℕ) (c : Claim) → length claims ≤ held → IsNext (mode_of (take held claims)) (drop held claims) c → ⊥
none_waits claims held c past is =
    let empty : [] ≡ c ∷ is.behind = sym (drop_all held claims past) ∙ is.first in
    cc

-- the first that waits is next where nobody holds the lock
pub next_alone : (claims : List Claim) (held : ℕ) (c : Claim) → held ≡ 0 → held < length claims → c ≡ slice_index_or claims held c → IsNext (mode_of (take held claims)) (drop held claims) c
next_alone claims held c nobody within read = record {
  behind = drop (held + 1) claims;
  first = first_of claims held c within read;
  together = λ s mode holds.
      let none : mode_of (take held claims) s ≡ None = ap (λ n. mode_of (take n claims) s) nobody in
      absurd (none-some mode (sym none ∙ holds));
}

-- and where it and the first holder are readers
pub next_reads : (claims : List Claim) (held : ℕ) (c first : Claim) → IsLock claims held → 0 < held → held < length claims → c ≡ slice_index_or claims held c → first ≡ slice_index_or claims 0 first → GoTogether first.mode c.mode
    → IsNext (mode_of (take held claims)) (drop held claims) c
next_reads claims held c first is some within read there both = record {
  behind = drop (held + 1) claims;
  first = first_of claims held c within read;
  together = λ s mode holds.
      let one = holder (take held claims) s mode holds in
      let long = length-take-le held claims is.within in
      let head : slice_index_or (take held claims) 0 first ≡ first = get_or-take held claims 0 first some ∙ sym there in
      ⊎_elim
      (λ (here : one.place ≡ 0).
      let same : first ≡ one.claim = sym head ∙ (ap (λ n. slice_index_or (take held claims) n first) (sym here) ∙ (get_or_default (take held claims) one.place first one.claim one.inside ∙ one.there)) in
      (sym one.mode_is ∙ (ap (λ (x : Claim). x.mode) (sym same) ∙ both.0), both.1))
      (λ (later : one.place ≢ 0).
      let two = is.together 0 one.place one.claim (omega (arith, later)) one.inside in
      (sym one.mode_is ∙ (sym (ap (λ (x : Claim). x.mode) one.there) ∙ two.1), both.1))
      (cases_eq one.place 0);
}

-- it is not next where the first holder and it don't go together
pub next_not : (claims : List Claim) (held : ℕ) (c first next : Claim) → 0 < held → held < length claims → c ≡ slice_index_or claims held c → first ≡ slice_index_or claims 0 first → (GoTogether first.mode c.mode → ⊥)
    → IsLock claims held → IsNext (mode_of (take held claims)) (drop held claims) next → ⊥
next_not claims held c first next some within read there apart is says =
    let lists : c ∷ drop (held + 1) claims ≡ next ∷ says.behind = sym (first_of claims held c within read) ∙ says.first in
    let same : c ≡ next = cc in
    let long = length-take-le held claims is.within in
    let head : slice_index_or (take held claims) 0 first ≡ first = get_or-take held claims 0 first some ∙ sym there in
    let holds = holds_at (take held claims) 0 first (apart_taken claims held is.within is.once) (omega arith) in
    let first_holds : mode_of (take held claims) first.scope ≡ Some first.mode = subst (λ (x : Claim). mode_of (take held claims) x.scope ≡ Some x.mode) head holds in
    let both = says.together first.scope first.mode first_holds in
    apart (both.0, ap (λ (x : Claim). x.mode) same ∙ both.1)

-- the same of the claims as they are read, whatever is read past the end
pub alone_at : (claims : List Claim) (held : ℕ) (d : Claim) → held ≡ 0 → held < length claims → IsNext (mode_of (take held claims)) (drop held claims) (slice_index_or claims held d)
alone_at claims held d nobody within = next_alone claims held (slice_index_or claims held d) nobody within (get_or_default claims held d (slice_index_or claims held d) within)

pub reads_at : (claims : List Claim) (held : ℕ) (d e : Claim) → IsLock claims held → held ≢ 0 → held < length claims → GoTogether (slice_index_or claims 0 e).mode (slice_index_or claims held d).mode
    → IsNext (mode_of (take held claims)) (drop held claims) (slice_index_or claims held d)
reads_at claims held d e is some within both =
    next_reads claims held (slice_index_or claims held d) (slice_index_or claims 0 e) is (omega (arith, some)) within
    (get_or_default claims held d (slice_index_or claims held d) within) (get_or_default claims 0 e (slice_index_or claims 0 e) (omega arith)) both

pub not_at : (claims : List Claim) (held : ℕ) (d e next : Claim) → IsLock claims held → held ≢ 0 → held < length claims → (GoTogether (slice_index_or claims 0 e).mode (slice_index_or claims held d).mode → ⊥)
    → IsNext (mode_of (take held claims)) (drop held claims) next → ⊥
not_at claims held d e next is some within apart says =
    next_not claims held (slice_index_or claims held d) (slice_index_or claims 0 e) next (omega (arith, some)) within
    (get_or_default claims held d (slice_index_or claims held d) within) (get_or_default claims 0 e (slice_index_or claims 0 e) (omega arith)) apart is says

-- ---- a claim is granted

-- the next one stands behind the holders
pub next_stands : (claims : List Claim) (held : ℕ) (c : Claim) → held ≤ length claims → IsNext (mode_of (take held claims)) (drop held claims) c → (held < length claims) × (slice_index_or claims held c ≡ c)
next_stands claims held c within is =
    let long = length-drop held claims in
    let some : length (drop held claims) ≡ suc (length is.behind) = ap length is.first in
    let here : slice_index_or (drop held claims) 0 c ≡ c = ap (λ xs. slice_index_or xs 0 c) is.first in
    (omega arith, ap (λ n. slice_index_or claims n c) (omega arith) ∙ (sym (get_or-drop held claims 0 c) ∙ here))

-- what is next as the lock is seen is next as it is kept
pub next_here : (claims : List Claim) (held room : ℕ) (seen : LockView) (c : Claim) → view_of claims held room ≡ seen → IsNext (mode_of seen.holders) seen.queue c → IsNext (mode_of (take held claims)) (drop held claims) c
next_here claims held room seen c is next = subst (λ (v : LockView). IsNext (mode_of v.holders) v.queue c) (sym is) next

pub grant_keeps : (claims : List Claim) (held : ℕ) (c : Claim) → IsLock claims held → IsNext (mode_of (take held claims)) (drop held claims) c → IsLock claims (held + 1)
grant_keeps claims held c is next =
    let stands = next_stands claims held c is.within next in
    let inside : held < length claims = stands.0 in
    let more : held + 1 ≤ length claims = omega arith in
    record {
      within = more;
      once = is.once;
      together = λ i j d before late.
          let long = length-take-le (held + 1) claims more in
          let short = length-take-le held claims is.within in
          let early : i < held + 1 = omega arith in
          let last : j < held + 1 = omega arith in
          rw (get_or-take (held + 1) claims i d early, get_or-take (held + 1) claims j d last)
          (⊎_elim
          (λ (old : j < held).
          let a : i < held = omega arith in
          let both = is.together i j d before (omega arith) in
          rw (get_or-take held claims i d a, get_or-take held claims j d old) at both)
          (λ (new : held ≤ j).
          let a : i < held = omega arith in
          let at_end : j ≡ held = omega arith in
          let inner : i < length (take held claims) = omega arith in
          let claim : slice_index_or claims j d ≡ c = ap (λ n. slice_index_or claims n d) at_end ∙ (get_or_default claims held d c inside ∙ stands.1) in
          let holds = holds_at (take held claims) i d (apart_taken claims held is.within is.once) inner in
          let both = next.together (slice_index_or (take held claims) i d).scope (slice_index_or (take held claims) i d).mode holds in
          let reads = rw (get_or-take held claims i d a) at both in
          (reads.0, ap (λ (x : Claim). x.mode) claim ∙ reads.1))
          (cases_lt j held));
    }

-- the next one doesn't hold the lock yet
next_apart : (claims : List Claim) (held : ℕ) (c : Claim) → IsLock claims held → IsNext (mode_of (take held claims)) (drop held claims) c → by_scope claimant (take held claims) c.scope ≡ None
next_apart claims held c is next =
    let stands = next_stands claims held c is.within next in
    let short = length-take-le held claims is.within in
    none_found claimant (take held claims) c.scope
    (λ j d inside.
    let early : j < held = omega arith in
    let apart = is.once j held c early stands.0 in
    rw (get_or-take held claims j d early, get_or_default claims j d c (omega arith))
    (subst (λ (x : Claim). is_scope (slice_index_or claims j c).scope x.scope ≡ false) stands.1 apart))

pub grant_shows : (claims : List Claim) (held room : ℕ) (c : Claim) → IsLock claims held → IsNext (mode_of (take held claims)) (drop held claims) c → IsTaken (view_of claims held room) (view_of claims (held + 1) room) c
grant_shows claims held room c is next =
    let stands = next_stands claims held c is.within next in
    let holders : take (held + 1) claims ≡ take held claims ++ c ∷ [] = take_more claims held c stands.0 ∙ ap (λ x. take held claims ++ x ∷ []) stands.1 in
    record {
      holders = λ t. ap (λ xs. by_scope claimant xs t) holders ∙ found_pushed claimant (take held claims) c (next_apart claims held c is next) t;
      queue = sym (drop-drop 1 held claims);
      room = refl;
    }

-- ---- a claim is made

none_anywhere : (xs ys : List Claim) (s : ScopeId) → by_scope claimant xs s ≡ None → by_scope claimant ys s ≡ None → by_scope claimant (xs ++ ys) s ≡ None
none_anywhere [] ys s here there = there
none_anywhere (x ∷ xs) ys s here there = ⊎_elim
    (λ (is : is_scope x.scope s ≡ true). let some : by_scope claimant (x ∷ xs) s ≡ Some x = rw is in absurd (none-some x (sym here ∙ some)))
    (λ (other : is_scope x.scope s ≡ false). let rest : by_scope claimant (x ∷ xs) s ≡ by_scope claimant xs s = rw other in rw other (none_anywhere xs ys s (sym rest ∙ here) there))
    (cases_Bool (is_scope x.scope s))

pub has_not : (o : Option Claim) → is_some o ≡ false → o ≡ None
has_not None is = refl
has_not (Some c) is = absurd (true≢false is)

pub request_keeps : (claims : List Claim) (held : ℕ) (c : Claim) → IsLock claims held → has c.scope (take held claims) ≡ false → has c.scope (drop held claims) ≡ false → IsLock (claims ++ c ∷ []) held
request_keeps claims held c is holds_not waits_not =
    let none = none_anywhere (take held claims) (drop held claims) c.scope (has_not (by_scope claimant (take held claims) c.scope) holds_not) (has_not (by_scope claimant (drop held claims) c.scope) waits_not) in
    let nowhere : by_scope claimant claims c.scope ≡ None = subst (λ xs. by_scope claimant xs c.scope ≡ None) (take-append-drop held claims) none in
    record {
      within = let long = length_push claims c in let w = is.within in omega arith;
      once = apart_pushed claimant claims c is.once nowhere;
      together = rw (take-append-le held claims (c ∷ []) is.within) is.together;
    }

-- ---- a lock is released

-- the place of the claim of the scope, which holds the lock
pub record IsPlace (claims : List Claim) (held : ℕ) (s : ScopeId) (place : ℕ) : Type 0 where
  pub holds : place < held
  pub inside : place < length claims
  pub is : (d : Claim) → is_scope (slice_index_or claims place d).scope s ≡ true

position-inside : (test : Claim → Bool) (claims : List Claim) (i : ℕ) → position test claims ≡ Some i → i < length claims
position-inside test [] i at = absurd (none-some i at)
position-inside test (c ∷ claims) i at = (position-Some test (c ∷ claims) i c at).0

-- a claim that is found among the holders has a place
pub is_place : (s : ScopeId) (claims : List Claim) (held place : ℕ) → IsLock claims held → position (λ (c : Claim). is_scope c.scope s) (take held claims) ≡ Some place → IsPlace claims held s place
is_place s claims held place is at =
    let test : Claim → Bool = λ c. is_scope c.scope s in
    let long = length-take-le held claims is.within in
    let within = is.within in
    let inside = position-inside test (take held claims) place at in
    let early : place < held = omega arith in
    record {
      holds = early;
      inside = omega arith;
      is = λ d. rw (get_or-take held claims place d early) at (position-Some test (take held claims) place d at).1;
    }

-- where none is found the scope doesn't hold the lock
pub not_found : (s : ScopeId) (holders : List Claim) → position (λ (c : Claim). is_scope c.scope s) holders ≡ None → by_scope claimant holders s ≡ None
not_found s holders at =
    let test : Claim → Bool = λ c. is_scope c.scope s in
    none_found claimant holders s
    (λ k d inside. ⊎_elim
    (λ (there : position_or_len test holders < length holders).
    let some : position test holders ≡ Some (position_or_len test holders) = rw (lt-ltb (position_or_len test holders) (length holders) there) in
    absurd (none-some (position_or_len test holders) (sym at ∙ some)))
    (λ (past : length holders ≤ position_or_len test holders). fails_before_first test holders k d (omega arith))
    (cases_lt (position_or_len test holders) (length holders)))

cut : (claims : List Claim) (held place : ℕ) → held ≤ length claims → place < held → remove claims place ≡ remove (take held claims) place ++ drop held claims
cut claims held place within early =
    let long = length-take-le held claims within in
    ap (λ xs. remove xs place) (sym (take-append-drop held claims)) ∙ remove-append_left (take held claims) (drop held claims) place (omega arith)

cut-long : (claims : List Claim) (held place : ℕ) → held ≤ length claims → place < held → length (remove (take held claims) place) ≡ held - 1
cut-long claims held place within early =
    let long = length-take-le held claims within in
    let inside : place < length (take held claims) = omega arith in
    let less = length-remove (take held claims) place inside in
    omega arith

cut-take : (claims : List Claim) (held place : ℕ) → held ≤ length claims → place < held → take (held - 1) (remove claims place) ≡ remove (take held claims) place
cut-take claims held place within early = rw (cut claims held place within early) (take_at (remove (take held claims) place) (drop held claims) (held - 1) (cut-long claims held place within early))

cut-drop : (claims : List Claim) (held place : ℕ) → held ≤ length claims → place < held → drop (held - 1) (remove claims place) ≡ drop held claims
cut-drop claims held place within early = rw (cut claims held place within early) (drop_at (remove (take held claims) place) (drop held claims) (held - 1) (cut-long claims held place within early))

pub release_keeps : (s : ScopeId) (claims : List Claim) (held place : ℕ) → IsLock claims held → IsPlace claims held s place → IsLock (remove claims place) (held - 1)
release_keeps s claims held place is at =
    let long = length-take-le held claims is.within in
    let w = is.within in
    let holds : place < held = at.holds in
    record {
      within = let less = length-remove claims place at.inside in omega arith;
      once = apart_removed claimant claims place is.once at.inside;
      together = rw (cut-take claims held place is.within at.holds) (all_pairs_remove ReadTogether (take held claims) place (omega arith) is.together);
    }

pub release_shows : (s : ScopeId) (claims : List Claim) (held place room more : ℕ) → IsLock claims held → IsPlace claims held s place → IsReleased (view_of claims held room) (view_of (remove claims place) (held - 1) more) s
release_shows s claims held place room more is at =
    let long = length-take-le held claims is.within in
    let holds : place < held = at.holds in
    let inside : place < length (take held claims) = omega arith in
    record {
      holders = λ t. ap (λ xs. by_scope claimant xs t) (cut-take claims held place is.within at.holds)
          ∙ found_removed claimant (take held claims) s place (apart_taken claims held is.within is.once) inside
          (λ d. rw (get_or-take held claims place d holds) (at.is d)) t;
      queue = cut-drop claims held place is.within at.holds;
    }

-- a scope that doesn't hold the lock lets nothing go
pub unheld_shows : (s : ScopeId) (l : LockView) → by_scope claimant l.holders s ≡ None → IsReleased l l s
unheld_shows s l none = record {
  holders = λ t. elim (one_or_two t s) [
    | inl same ↦ ap (by_scope claimant l.holders) same ∙ none ∙ sym (set_for-here (by_scope claimant l.holders) s None) ∙ ap (set_for (by_scope claimant l.holders) s None) (sym same)
    | inr other ↦ sym (set_for-there (by_scope claimant l.holders) s t None other)
  ];
  queue = refl;
}

pub unheld_lists : (s : ScopeId) (l : LockView) → by_scope claimant l.holders s ≡ None → l ≡ released s l
unheld_lists s l none = rw none refl

-- a scope whose claim is at a place is found
has_there : (s : ScopeId) (claims : List Claim) (i : ℕ) → i < length claims → ((d : Claim) → is_scope (slice_index_or claims i d).scope s ≡ true) → has s claims ≡ true
has_there s [] i inside is = absurd (omega arith)
has_there s (c ∷ claims) zero inside is = rw (is c) refl
has_there s (c ∷ claims) (suc i) inside is = ⊎_elim
    (λ (here : is_scope c.scope s ≡ true). rw here refl)
    (λ (other : is_scope c.scope s ≡ false). rw other (has_there s claims i (omega arith) is))
    (cases_Bool (is_scope c.scope s))

-- what is taken out is the scope's first claim
pub taken_out : (s : ScopeId) (claims : List Claim) (i : ℕ) → AllPairs (AreOfTwoScopes claimant) claims → i < length claims → ((d : Claim) → is_scope (slice_index_or claims i d).scope s ≡ true) → remove claims i ≡ without_claim s claims
taken_out s [] i apart inside is = absurd (omega arith)
taken_out s (c ∷ claims) zero apart inside is = rw (is c) refl
taken_out s (c ∷ claims) (suc i) apart inside is =
    let within : i < length claims = omega arith in
    let other : is_scope c.scope s ≡ false = subst (λ t. is_scope c.scope t ≡ false) (scopes_same (slice_index_or claims i c).scope s (is c)) (apart_head claimant c claims apart i c within) in
    rw other (ap (λ cs. c ∷ cs) (taken_out s claims i (apart_tail claimant c claims apart) within is))

pub release_lists : (s : ScopeId) (claims : List Claim) (held place room more : ℕ) → IsLock claims held → IsPlace claims held s place → more ≡ room + 1 → view_of (remove claims place) (held - 1) more ≡ released s (view_of claims held room)
release_lists s claims held place room more is at one =
    let long = length-take-le held claims is.within in
    let holds : place < held = at.holds in
    let inside : place < length (take held claims) = omega arith in
    let holders : take (held - 1) (remove claims place) ≡ without_claim s (take held claims) =
    cut-take claims held place is.within at.holds
    ∙ taken_out s (take held claims) place (apart_taken claims held is.within is.once) inside (λ d. rw (get_or-take held claims place d holds) (at.is d)) in
    let queue : drop (held - 1) (remove claims place) ≡ drop held claims = cut-drop claims held place is.within at.holds in
    let has_it : has s (take held claims) ≡ true = has_there s (take held claims) place inside (λ d. rw (get_or-take held claims place d holds) (at.is d)) in
    rw has_it (λ i. record { holders = holders i; queue = queue i; room = one i })

-- ---- locks that nobody claims

pub none_there : (claims : List Claim) (held : ℕ) → length claims ≡ 0 → IsFreeLock (mode_of (take held claims)) (drop held claims)
none_there [] held is =
    record { unheld = λ s. ap (λ (cs : List Claim). mode_of cs s) (take_all held [] (omega arith)); none_waits = drop_all held [] (omega arith) }
none_there (c ∷ claims) held is = absurd (omega arith)

pub some_there : (claims : List Claim) (held : ℕ) → IsLock claims held → length claims ≢ 0 → IsFreeLock (mode_of (take held claims)) (drop held claims) → ⊥
some_there [] held lock many is = many (omega arith)
some_there (c ∷ claims) zero lock many is = let none : c ∷ claims ≡ [] = is.none_waits in cc
some_there (c ∷ claims) (suc held) lock many is =
    let apart = apart_taken (c ∷ claims) (suc held) lock.within lock.once in
    let long = length-take-le (suc held) (c ∷ claims) lock.within in
    let holds = holds_at (take (suc held) (c ∷ claims)) 0 c apart (omega arith) in
    absurd (none-some (slice_index_or (take (suc held) (c ∷ claims)) 0 c).mode (sym (is.unheld (slice_index_or (take (suc held) (c ∷ claims)) 0 c).scope) ∙ holds))

-- ---- a claim comes where there is none

alone_lock : (c : Claim) → IsLock (c ∷ []) 0
alone_lock c = request_keeps [] 0 c (record { within = omega arith; once = λ i j d before late. absurd (omega (arith, late)); together = λ i j d before late. absurd (omega (arith, late)) }) refl refl

pub free_keeps : (claims : List Claim) (c : Claim) → length claims ≡ 0 → IsLock (claims ++ c ∷ []) 1
free_keeps [] c none = grant_keeps (c ∷ []) 0 c (alone_lock c) (next_alone (c ∷ []) 0 c refl (omega arith) refl)
free_keeps (d ∷ claims) c none = absurd (omega arith)

pub free_shows : (claims : List Claim) (held room : ℕ) (c : Claim) → length claims ≡ 0 → IsLock claims held → IsTaken (requested c (view_of claims held room)) (view_of (claims ++ c ∷ []) 1 (room - 1)) c
free_shows [] held room c none is =
    let zero : held ≡ 0 = let within = is.within in omega arith in
    subst (λ (h : ℕ). IsTaken (requested c (view_of [] h room)) (view_of (c ∷ []) 1 (room - 1)) c) (sym zero)
    (grant_shows (c ∷ []) 0 (room - 1) c (alone_lock c) (next_alone (c ∷ []) 0 c refl (omega arith) refl))
free_shows (d ∷ claims) held room c none is = absurd (omega arith)

-- the last claim is taken out
pub remove_last : (claims : List Claim) (i : ℕ) → i + 1 ≡ length claims → remove claims i ≡ take i claims
remove_last [] i last = absurd (omega (arith, last))
remove_last (c ∷ []) zero last = refl
remove_last (c ∷ d ∷ claims) zero last = absurd (omega (arith, last))
remove_last (c ∷ claims) (suc i) last = ap (λ (cs : List Claim). c ∷ cs) (remove_last claims i (omega (arith, last)))
