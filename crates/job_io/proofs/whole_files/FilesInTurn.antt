-- Files that are written in turn.
use Rattle.std.proofs.Common.{◌≡◌, ◌≢◌, ◌<◌, ◌≤◌, ◌+◌, ◌⊎◌, inl, inr, ℕ, zero, suc, List, [], ◌∷◌, ◌++◌, length, take, map, Option, None, Some, IfSome, refl, sym, ap, ◌∙◌, subst, ⊎_elim, arith}
use Rattle.std.specs.Prelude.{Contains}
use Rattle.std.specs.List.{range_with_len}
use Rattle.std.proofs.Math.Seq.{take-length}
use Rattle.std.proofs.lemmas.Bool.{cases_lt}
use Rattle.std.proofs.lemmas.List.FromFn.{get_or-map-range_with_len, length-map-range_with_len, map-range_with_len_more, take-map-range_with_len}
use Rattle.gl_outside.specs.FilesState.{FilesState}
use Rattle.gl_outside.specs.Names.{AppendsNames}
use Rattle.gl_outside.proofs.Opening.{ChangesSinks-trans}
use Rattle.job_io.specs.whole_files.FilesUsed.{OpensInOrder, WritesFiles}
use Rattle.job_io.specs.whole_files.InTurn.{LeavesFiles, LeavesFronts, WroteFiles, first_names}
use Rattle.job_io.specs.whole_files.Leaves.{GivesText, KeepsOrGives}
use Rattle.job_io.proofs.whole_files.FilesCreated.{gives-before, other-kept, writes-nothing}
use Rattle.job_io.proofs.whole_files.NamesHanded.{AppendsNames-nil, AppendsNames-trans, OpensInOrder-refused}

-- the name at a place is one of the first
pub contains-name : (name : ℕ → List ℕ) (n k : ℕ) → k < n → Contains (first_names name n) (name k)
contains-name name n k inside =
    (k, rw (length-map-range_with_len name 0 n) inside, get_or-map-range_with_len name 0 n k k (name k) inside (omega arith))

-- what was handed on is a front of all names
pub hands-first : (name : ℕ → List ℕ) (n k : ℕ) (a b : Option (List (List ℕ))) → k ≤ n → AppendsNames a b (first_names name k) → OpensInOrder a b (first_names name n)
hands-first name n k a b few handed = (k, subst (AppendsNames a b) (sym (take-map-range_with_len name 0 n k few)) handed)

-- one name more was handed on
pub hands-more : (name : ℕ → List ℕ) (k : ℕ) (a b c : Option (List (List ℕ))) → AppendsNames a b (first_names name k) → AppendsNames b c (name k ∷ [])
    → AppendsNames a c (first_names name (k + 1))
hands-more name k a b c first then =
    subst (AppendsNames a c) (sym (map-range_with_len_more name 0 k k (omega arith))) (AppendsNames-trans a b c (first_names name k) (name k ∷ []) first then)

-- one name more was handed on, or none
pub hands-last : (name : ℕ → List ℕ) (n k : ℕ) (a b c : Option (List (List ℕ))) → k < n → AppendsNames a b (first_names name k) → OpensInOrder b c (name k ∷ [])
    → OpensInOrder a c (first_names name n)
hands-last name n k a b c inside first (zero, then) =
    hands-first name n k a c (omega (arith, inside)) (subst (AppendsNames a c) (append-none (first_names name k)) (AppendsNames-trans a b c (first_names name k) [] first then))
  where
    append-none : (l : List (List ℕ)) → l ++ [] ≡ l
    append-none [] = refl
    append-none (x ∷ xs) = ap (λ (t : List (List ℕ)). x ∷ t) (append-none xs)
hands-last name n k a b c inside first (suc j, then) =
    hands-first name n (k + 1) a c (omega (arith, inside)) (hands-more name k a b c first (taken j then))
  where
    taken : (j : ℕ) → AppendsNames b c (take (suc j) (name k ∷ [])) → AppendsNames b c (name k ∷ [])
    taken zero p = p
    taken (suc i) p = p

module _ (name text : ℕ → List ℕ) (n : ℕ) (apart : (i j : ℕ) → i < n → j < n → name i ≡ name j → i ≡ j) where
  -- nothing was written
  pub wrote-none : (files : FilesState) → WroteFiles name text n 0 files files
  wrote-none files = record {
    wrote = writes-nothing (first_names name n) files;
    handed = AppendsNames-nil files.sinks.names;
    given = nothing files.sinks.names;
    rest = λ k many inside. refl;
  }
    where
      nothing : (told : Option (List (List ℕ))) → IfSome told (λ names. (k : ℕ) → k < 0 → files.contents (name k) ≡ Some (text k))
      nothing None = tt
      nothing (Some names) = λ k inside. absurd (omega (arith, inside))

  -- another name keeps what it gives
  kept : (mid new : FilesState) (k i : ℕ) → k < n → i < n → i ≢ k → WritesFiles (name k ∷ []) mid new → new.contents (name i) ≡ mid.contents (name i)
  kept mid new k i inside other differ wrote = other-kept (name k) (name i) mid new wrote (λ same. differ (apart i k other inside same))

  -- what all files leave but their names
  wrote-all : (old mid new : FilesState) (k : ℕ) → k < n → WritesFiles (first_names name n) old mid → AppendsNames old.sinks.names mid.sinks.names (first_names name k)
      → WritesFiles (name k ∷ []) mid new → WritesFiles (first_names name n) old new
  wrote-all old mid new k inside first handed then =
      let one = first.later in
      let two = then.later in
      record {
        frame = ChangesSinks-trans old mid new first.frame then.frame;
        handed = hands-last name n k old.sinks.names mid.sinks.names new.sinks.names inside handed then.handed;
        others = λ other none. other-kept (name k) other mid new then (λ same. none (subst (Contains (first_names name n)) (sym same) (contains-name name n k inside)))
            ∙ first.others other none;
        later = omega (arith, one, two);
      }

  -- one file more was written
  pub wrote-more : (old mid new : FilesState) (k : ℕ) → k < n → WroteFiles name text n k old mid → WritesFiles (name k ∷ []) mid new
      → AppendsNames mid.sinks.names new.sinks.names (name k ∷ []) → IfSome mid.sinks.names (λ told. new.contents (name k) ≡ Some (text k))
      → WroteFiles name text n (k + 1) old new
  wrote-more old mid new k inside w wrote handed gives = record {
    wrote = wrote-all old mid new k inside w.wrote w.handed wrote;
    handed = hands-more name k old.sinks.names mid.sinks.names new.sinks.names w.handed handed;
    given = both old.sinks.names mid.sinks.names w.handed w.given gives;
    rest = λ i many under. kept mid new k i inside under (λ same. absurd (omega (arith, same, many))) wrote ∙ w.rest i (omega (arith, many)) under;
  }
    where
      both : (a b : Option (List (List ℕ))) → AppendsNames a b (first_names name k) → IfSome a (λ told. (i : ℕ) → i < k → mid.contents (name i) ≡ Some (text i))
          → IfSome b (λ told. new.contents (name k) ≡ Some (text k)) → IfSome a (λ told. (i : ℕ) → i < k + 1 → new.contents (name i) ≡ Some (text i))
      both None b noted first last = tt
      both (Some x) None noted first last = absurd noted
      both (Some x) (Some y) noted first last = λ i under.
          ⊎_elim
          (λ low. kept mid new k i inside (omega (arith, low, inside)) (λ same. absurd (omega (arith, same, low))) wrote ∙ first i low)
          (λ high.
          let same : i ≡ k = omega (arith, high, under) in
          subst (λ (j : ℕ). new.contents (name j) ≡ Some (text j)) (sym same) last)
          (cases_lt i k)

  -- the files that were written, and the others, have fronts of their texts at most
  pub wrote-fronts : (old new : FilesState) (k : ℕ) → WroteFiles name text n k old new → LeavesFronts name text n old new
  wrote-fronts old new k w i inside =
      ⊎_elim (λ low. inr (whole old.sinks.names low w.given)) (λ high. inl (w.rest i high inside)) (cases_lt i k)
    where
      whole : (told : Option (List (List ℕ))) → i < k → IfSome told (λ names. (j : ℕ) → j < k → new.contents (name j) ≡ Some (text j))
          → IfSome told (λ names. GivesText (new.contents (name i)) (λ bytes. (count : ℕ) × (bytes ≡ take count (text i))))
      whole None low given = tt
      whole (Some names) low given = (text i, given i low, (length (text i), sym (take-length (text i))))

  -- the next file was not written to its end
  pub wrote-stops : (old mid new : FilesState) (k : ℕ) → k < n → WroteFiles name text n k old mid → WritesFiles (name k ∷ []) mid new
      → KeepsOrGives mid.sinks.names (mid.contents (name k)) (new.contents (name k)) (λ bytes. (count : ℕ) × (bytes ≡ take count (text k)))
      → WritesFiles (first_names name n) old new × LeavesFronts name text n old new
  wrote-stops old mid new k inside w wrote front = (wrote-all old mid new k inside w.wrote w.handed wrote, fronts)
    where
      Front : ℕ → List ℕ → Type 0
      Front i bytes = (count : ℕ) × (bytes ≡ take count (text i))

      own : KeepsOrGives old.sinks.names (old.contents (name k)) (new.contents (name k)) (Front k)
      own = ⊎_elim (λ same. inl (same ∙ w.rest k (omega arith) inside))
          (λ gives. inr (gives-before old.sinks.names mid.sinks.names (first_names name k) (GivesText (new.contents (name k)) (Front k)) w.handed gives)) front

      fronts : LeavesFronts name text n old new
      fronts i under = ⊎_elim
          (λ low. subst (λ (given : Option (List ℕ)). KeepsOrGives old.sinks.names (old.contents (name i)) given (Front i))
          (sym (kept mid new k i inside under (λ same. absurd (omega (arith, same, low))) wrote)) (wrote-fronts old mid k w i under))
          (λ high. ⊎_elim
          (λ above. subst (λ (given : Option (List ℕ)). KeepsOrGives old.sinks.names (old.contents (name i)) given (Front i))
          (sym (kept mid new k i inside under (λ same. absurd (omega (arith, same, above))) wrote)) (wrote-fronts old mid k w i under))
          (λ not. let same : i ≡ k = omega (arith, high, not) in
          subst (λ (j : ℕ). KeepsOrGives old.sinks.names (old.contents (name j)) (new.contents (name j)) (Front j)) (sym same) own)
          (cases_lt k i))
          (cases_lt i k)
