-- Waves and snapshots among what is on the way to a machine, as calls come and go.
use Rattle.std.proofs.Common.{◌≡◌, ℕ, suc, ◌≤◌, Bool, true, false, List, [], ◌∷◌, ◌++◌, length, refl, sym, ◌∙◌, ap, subst, le_refl, le_of_eq, append-nil, arith}
use Rattle.std.proofs.lemmas.Bool.{both_ways}
use Rattle.cluster_laws.specs.cluster_model.Calls.{Begin, Call, Committed, Step, Wave, begins_in}
use Rattle.whole_laws.specs.cluster_whole.Steps.{Holds, IsCalled, Tells, Told, Turn}
use Rattle.whole_laws.proofs.cluster_whole.Pieces.{begins-append}
use Rattle.whole_laws.specs.cluster_ending.Watched.{behind_wave, told_behind, waves_in}

suc_low : (n : ℕ) → n ≤ suc n
suc_low n = omega arith

has_some : {X : Type 0} → List X → Bool
has_some [] = false
has_some (x ∷ xs) = true

no_cons : {X : Type 0} (x : X) (xs : List X) → x ∷ xs ≡ [] → ⊥
unfolding has_some
no_cons x xs is = both_ways false refl (sym (ap has_some is))

pub waves-append : (xs ys : List Call) → waves_in (xs ++ ys) ≡ waves_in xs ++ waves_in ys
waves-append [] ys = refl
waves-append (Begin k ∷ xs) ys = waves-append xs ys
waves-append (Committed k ∷ xs) ys = waves-append xs ys
waves-append (Wave k ∷ xs) ys = ap (λ (cs : List Call). Wave k ∷ cs) (waves-append xs ys)
waves-append (Step colour ∷ xs) ys = waves-append xs ys

-- What the waves see of what is on the way to a machine: the same waves, and no more snapshots.
pub record IsLikeCalls (old new : List Call) : Type 0 where
  pub waves : waves_in new ≡ waves_in old
  pub begins : length (begins_in new) ≤ length (begins_in old)
  pub behind : length (begins_in (behind_wave new)) ≤ length (begins_in (behind_wave old))

pub calls_again : (calls : List Call) → IsLikeCalls calls calls
calls_again calls = record { waves = refl; begins = le_refl (length (begins_in calls)); behind = le_refl (length (begins_in (behind_wave calls))) }

pub calls_same : (old new : List Call) → new ≡ old → IsLikeCalls old new
calls_same old new same = subst (IsLikeCalls old) (sym same) (calls_again old)

pub like_behind : (turn : Turn) (old new : List Call) → IsLikeCalls old new → length (begins_in (told_behind turn new)) ≤ length (begins_in (told_behind turn old))
like_behind IsCalled old new like = like.behind
like_behind Holds old new like = like.begins
like_behind (Tells counts) old new like = like.begins
like_behind (Told counts) old new like = like.begins

-- the first call goes, and it is no wave
pub call_gone : (call : Call) (calls : List Call) → waves_in (call ∷ []) ≡ [] → IsLikeCalls (call ∷ calls) calls
call_gone (Begin k) calls none = record { waves = refl; begins = suc_low (length (begins_in calls)); behind = le_refl (length (begins_in (behind_wave calls))) }
call_gone (Committed k) calls none = record { waves = refl; begins = le_refl (length (begins_in calls)); behind = le_refl (length (begins_in (behind_wave calls))) }
call_gone (Wave k) calls none = absurd (no_cons (Wave k) [] none)
call_gone (Step colour) calls none = record { waves = refl; begins = le_refl (length (begins_in calls)); behind = le_refl (length (begins_in (behind_wave calls))) }

behind_came : (xs : List Call) (call : Call) → waves_in (call ∷ []) ≡ [] → begins_in (call ∷ []) ≡ [] → begins_in (behind_wave (xs ++ call ∷ [])) ≡ begins_in (behind_wave xs)
behind_came [] (Begin k) none no_begin = absurd (no_cons k [] no_begin)
behind_came [] (Committed k) none no_begin = refl
behind_came [] (Wave k) none no_begin = refl
behind_came [] (Step colour) none no_begin = refl
behind_came (Begin k ∷ xs) call none no_begin = behind_came xs call none no_begin
behind_came (Committed k ∷ xs) call none no_begin = behind_came xs call none no_begin
behind_came (Wave k ∷ xs) call none no_begin = begins-append xs (call ∷ []) ∙ ap (λ (ks : List ℕ). begins_in xs ++ ks) no_begin ∙ append-nil (begins_in xs)
behind_came (Step colour ∷ xs) call none no_begin = behind_came xs call none no_begin

-- one call comes, and it is neither a wave nor a new snapshot
pub call_came : (xs : List Call) (call : Call) → waves_in (call ∷ []) ≡ [] → begins_in (call ∷ []) ≡ [] → IsLikeCalls xs (xs ++ call ∷ [])
call_came xs call none no_begin =
    record {
      waves = waves-append xs (call ∷ []) ∙ ap (λ (cs : List Call). waves_in xs ++ cs) none ∙ append-nil (waves_in xs);
      begins = le_of_eq (ap (λ (ks : List ℕ). length ks) (begins-append xs (call ∷ []) ∙ ap (λ (ks : List ℕ). begins_in xs ++ ks) no_begin ∙ append-nil (begins_in xs)));
      behind = le_of_eq (ap (λ (ks : List ℕ). length ks) (behind_came xs call none no_begin));
    }

-- a new snapshot is told
pub begins_came : (xs : List Call) (k : ℕ) → length (begins_in (xs ++ Begin k ∷ [])) ≡ suc (length (begins_in xs))
begins_came [] k = refl
begins_came (Begin j ∷ xs) k = ap suc (begins_came xs k)
begins_came (Committed j ∷ xs) k = begins_came xs k
begins_came (Wave j ∷ xs) k = begins_came xs k
begins_came (Step colour ∷ xs) k = begins_came xs k

begin_behind : (xs : List Call) (k : ℕ) → length (begins_in (behind_wave (xs ++ Begin k ∷ []))) ≤ suc (length (begins_in (behind_wave xs)))
begin_behind [] k = suc_low 0
begin_behind (Begin j ∷ xs) k = begin_behind xs k
begin_behind (Committed j ∷ xs) k = begin_behind xs k
begin_behind (Wave j ∷ xs) k = le_of_eq (begins_came xs k)
begin_behind (Step colour ∷ xs) k = begin_behind xs k

pub begins_behind : (turn : Turn) (xs : List Call) (k : ℕ) → length (begins_in (told_behind turn (xs ++ Begin k ∷ []))) ≤ suc (length (begins_in (told_behind turn xs)))
begins_behind IsCalled xs k = begin_behind xs k
begins_behind Holds xs k = le_of_eq (begins_came xs k)
begins_behind (Tells counts) xs k = le_of_eq (begins_came xs k)
begins_behind (Told counts) xs k = le_of_eq (begins_came xs k)

-- a wave is told, and nothing is behind it
pub wave_came : (xs : List Call) (k : ℕ) → waves_in xs ≡ [] → behind_wave (xs ++ Wave k ∷ []) ≡ []
wave_came [] k none = refl
wave_came (Begin j ∷ xs) k none = wave_came xs k none
wave_came (Committed j ∷ xs) k none = wave_came xs k none
wave_came (Wave j ∷ xs) k none = absurd (no_cons (Wave j) (waves_in xs) none)
wave_came (Step colour ∷ xs) k none = wave_came xs k none
