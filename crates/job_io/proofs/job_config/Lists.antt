-- Steps over lists of values, keys and failures.
use Rattle.std.proofs.Common.{◌≡◌, ◌∙◌, ◌+◌, ◌<◌, ◌≤◌, ℕ, suc, Bool, cond, true, false, List, [], ◌∷◌, ◌++◌, Option, Some, None, String, Global, length, map, drop, take, refl, sym, ap, arith, get_or, is_some, filter_map, add-one, codes, length-take, option_map, string_bytes, ◌==◌, eq-eqb, ne_eqb, Err, true≢false, append_assoc, append-nil}
use Rattle.std.specs.List.{list_all}
use Rattle.std.specs.Map.{keys_of}
use Rattle.std.specs.Option.{unwrap_or}
use Rattle.gl_base.specs.declared.job_faults.Key.TheVariants as key
use Rattle.job_io.specs.declared.job_config.values.KeyFault.TheVariants.{WrongKind}
use Rattle.std.specs.Prelude.{option_and_then}
use Rattle.serde_json.specs.Find.{as_array, as_object, get}
use Rattle.job_io.specs.job_config.Values.{whole_number}
use Rattle.std.proofs.lemmas.List.{at_drop_all, take_more}
use Rattle.std.proofs.Math.Seq.{drop-cons}
use Rattle.gl_base.specs.declared.jobs.FailureAt.{FailureAt}
use Rattle.serde_json.specs.Data.{Data, Members}
use Rattle.serde_json.specs.View.{items_of, items_view, members_view, view}
use Rattle.serde_json.specs.declared.value.Value.{Value}
use Rattle.job_io.specs.job_config.Failures.{failure, failure_in, failure_list, failures_of, first_faulty, is_faulty, listed_failures, keys_in, unless_faulty, values_in}

-- the keys of a map's members
pub names-keys : (es : List (String Global × Value)) → keys_in (members_view es) ≡ map string_bytes (keys_of es)
names-keys [] = refl
names-keys (e ∷ es) = ap (λ ks. string_bytes e.0 ∷ ks) (names-keys es)

pub length-names : (es : List (String Global × Value)) → length (keys_in (members_view es)) ≡ length es
length-names [] = refl
length-names (e ∷ es) = ap suc (length-names es)

values-items : (ds : List Data) → values_in (items_of ds) ≡ ds
values-items [] = refl
values-items (d ∷ ds) = ap (λ xs. d ∷ xs) (values-items ds)

-- the values of a list are those of the code's list
pub values-view : (vs : List Value) → values_in (items_view vs) ≡ map view vs
values-view vs = values-items (map view vs)

-- the failure at a place, and those after it
split_at : (fs : List FailureAt) (i : ℕ) (d : FailureAt) → i < length fs → drop i fs ≡ get_or fs i d ∷ drop (i + 1) fs
split_at fs i d lt = rw (add-one, drop-cons fs i d)

faulty_step : (machines i : ℕ) (fs : List FailureAt) (d : FailureAt) → i < length fs
    → first_faulty machines (take i fs) (drop i fs)
    ≡ cond (is_faulty machines (take i fs) (get_or fs i d)) (Some (length (take i fs))) (first_faulty machines (take (i + 1) fs) (drop (i + 1) fs))
faulty_step machines i fs d lt =
    ap (first_faulty machines (take i fs)) (split_at fs i d lt)
    ∙ ap (λ xs. cond (is_faulty machines (take i fs) (get_or fs i d)) (Some (length (take i fs))) (first_faulty machines xs (drop (i + 1) fs))) (sym (take_more fs i d lt))

-- the failure at a place is out of its range
pub faulty_here : (machines i : ℕ) (fs : List FailureAt) (d : FailureAt) → i < length fs → is_faulty machines (take i fs) (get_or fs i d) ≡ true
    → first_faulty machines (take i fs) (drop i fs) ≡ Some i
faulty_here machines i fs d lt e =
    let size : length (take i fs) ≡ i = simp length-take (omega arith) in
    faulty_step machines i fs d lt ∙ ap (λ b. cond b (Some (length (take i fs))) (first_faulty machines (take (i + 1) fs) (drop (i + 1) fs))) e ∙ ap Some size

-- it is not
pub faulty_next : (machines i : ℕ) (fs : List FailureAt) (d : FailureAt) → i < length fs → is_faulty machines (take i fs) (get_or fs i d) ≡ false
    → first_faulty machines (take i fs) (drop i fs) ≡ first_faulty machines (take (i + 1) fs) (drop (i + 1) fs)
faulty_next machines i fs d lt e =
    faulty_step machines i fs d lt ∙ ap (λ b. cond b (Some (length (take i fs))) (first_faulty machines (take (i + 1) fs) (drop (i + 1) fs))) e

abbrev two_numbers : Data → Option FailureAt
two_numbers d = option_and_then (λ machine. option_map (failure machine)
    (option_and_then whole_number (get (codes "after") d))) (option_and_then whole_number (get (codes "machine") d))

object_is : (d : Data) (ms : Members) → Some ms ≡ as_object d → failure_in d ≡ cond (length (keys_in ms) == 2) (two_numbers d) None
object_is d ms e = ap (option_and_then (λ (xs : Members). cond (length (keys_in xs) == 2) (two_numbers d) None)) (sym e)

pub other_object : (d : Data) (ms : Members) → Some ms ≡ as_object d → (length (keys_in ms) == 2) ≡ false → failure_in d ≡ None
other_object d ms e other = object_is d ms e ∙ ap (λ b. cond b (two_numbers d) None) other

pub two_members : (d : Data) (ms : Members) (m a : ℕ) → Some ms ≡ as_object d → (length (keys_in ms) == 2) ≡ true
    → option_and_then whole_number (get (codes "machine") d) ≡ Some m → option_and_then whole_number (get (codes "after") d) ≡ Some a → failure_in d ≡ Some (failure m a)
two_members d ms m a e two machine after = object_is d ms e ∙ ap (λ b. cond b (two_numbers d) None) two
    ∙ ap (option_and_then (λ machine. option_map (failure machine) (option_and_then whole_number (get (codes "after") d)))) machine ∙ ap (option_map (failure m)) after

-- the failures so far, and those that the rest are
abbrev pub gathered : List FailureAt → List Data → Option (List FailureAt)
gathered done ds = cond (list_all (λ d. is_some (failure_in d)) ds) (Some (done ++ filter_map failure_in ds)) None

-- the failures that the values are
abbrev pub each_of : List Value → Option (List FailureAt)
each_of vs = cond (list_all (λ d. is_some (failure_in d)) (map view vs)) (Some (filter_map failure_in (map view vs))) None

-- an item is read after others, or it is none
read_more : {A B : Type 0} (read : A → Option B) (done : List B) (x : A) (y : B) (xs : List A) → read x ≡ Some y
    → cond (list_all (λ d. is_some (read d)) xs) (Some ((done ++ y ∷ []) ++ filter_map read xs)) None
    ≡ cond (list_all (λ d. is_some (read d)) (x ∷ xs)) (Some (done ++ filter_map read (x ∷ xs))) None
read_more read done x y xs e = rw (e, append_assoc) refl

read_none : {A B : Type 0} (read : A → Option B) (done : List B) (x : A) (xs : List A) → read x ≡ None
    → cond (list_all (λ d. is_some (read d)) (x ∷ xs)) (Some (done ++ filter_map read (x ∷ xs))) None ≡ None
read_none read done x xs e = rw e refl

-- the value at a place, and those after it
values_at : (vs : List Value) (i : ℕ) (v : Value) → i < length vs → v ≡ get_or vs i v
    → map view (drop i vs) ≡ view v ∷ map view (drop (i + 1) vs)
values_at vs i v lt is = rw (add-one, drop-cons vs i v) (ap (λ (x : Value). view x ∷ map view (drop (suc i) vs)) (sym is))

-- the value at a place is a failure
pub each_more : (vs : List Value) (i : ℕ) (v : Value) (y : FailureAt) (done : List FailureAt) → i < length vs → v ≡ get_or vs i v
    → failure_in (view v) ≡ Some y → gathered (done ++ y ∷ []) (map view (drop (i + 1) vs)) ≡ gathered done (map view (drop i vs))
each_more vs i v y done lt is e =
    read_more failure_in done (view v) y (map view (drop (i + 1) vs)) e ∙ ap (gathered done) (sym (values_at vs i v lt is))

-- it is none
pub each_none : (vs : List Value) (i : ℕ) (v : Value) (done : List FailureAt) → i < length vs → v ≡ get_or vs i v
    → failure_in (view v) ≡ None → gathered done (map view (drop i vs)) ≡ None
each_none vs i v done lt is e =
    ap (gathered done) (values_at vs i v lt is) ∙ read_none failure_in done (view v) (map view (drop (i + 1) vs)) e

-- there are no more values
pub each_end : (vs : List Value) (i : ℕ) (done : List FailureAt) → length vs ≤ i → gathered done (map view (drop i vs)) ≡ Some done
each_end vs i done past = at_drop_all (λ (xs : List Value). gathered done (map view xs)) vs i past ∙ ap Some (append-nil done)

-- the values of a list are all failures, or they are refused
pub none_each : (machines : ℕ) (ds : List Data) → cond (list_all (λ d. is_some (failure_in d)) ds) (Some (filter_map failure_in ds)) None ≡ None
    → failure_list machines ds ≡ Err (WrongKind key.Failures)
none_each machines ds e = go (list_all (λ d. is_some (failure_in d)) ds) e
  where
    go : (b : Bool) → cond b (Some (filter_map failure_in ds)) None ≡ None
        → cond b (unless_faulty (first_faulty machines [] (filter_map failure_in ds)) (filter_map failure_in ds)) (Err (WrongKind key.Failures)) ≡ Err (WrongKind key.Failures)
    go true h = absurd (true≢false (ap is_some h))
    go false h = refl

pub some_each : (machines : ℕ) (ds : List Data) (fs : List FailureAt) → cond (list_all (λ d. is_some (failure_in d)) ds) (Some (filter_map failure_in ds)) None ≡ Some fs
    → failure_list machines ds ≡ unless_faulty (first_faulty machines [] fs) fs
some_each machines ds fs e = go (list_all (λ d. is_some (failure_in d)) ds) e
  where
    go : (b : Bool) → cond b (Some (filter_map failure_in ds)) None ≡ Some fs
        → cond b (unless_faulty (first_faulty machines [] (filter_map failure_in ds)) (filter_map failure_in ds)) (Err (WrongKind key.Failures)) ≡ unless_faulty (first_faulty machines [] fs) fs
    go true h = ap (λ o. unless_faulty (first_faulty machines [] (unwrap_or o fs)) (unwrap_or o fs)) h
    go false h = absurd (true≢false (ap is_some (sym h)))

pub listed : (machines : ℕ) (d : Data) (vs : List Value) → Some (items_view vs) ≡ as_array d → failures_of machines (Some d) ≡ failure_list machines (map view vs)
listed machines d vs e = ap (listed_failures machines) (sym e) ∙ ap (failure_list machines) (values-view vs)

pub not_two : (n m : ℕ) → n ≡ m → (m ≡ 2 → ⊥) → (n == 2) ≡ false
not_two n m e h = ne_eqb n 2 (λ t. h (sym e ∙ t))

pub is_two : (n m : ℕ) → n ≡ m → m ≡ 2 → (n == 2) ≡ true
is_two n m e h = eq-eqb n 2 (e ∙ h)
