-- A cluster goes on, by events one after another.
use Rattle.std.proofs.Common.{List, [], ap, refl, subst, sym, ◌++◌, ◌∙◌, ◌∷◌, ◌≡◌, ℕ}
use Rattle.std.specs.List.{AllByRecursion}
use Rattle.cluster_laws.specs.cluster_model.Events as law
use Rattle.call_laws.proofs.cluster_attempts.Joining.{done_kept}
use Rattle.whole_laws.proofs.cluster_ending.Traces.{setting_same}
use Rattle.whole_laws.specs.cluster_whole.Whole.{IsNoRecovery}
use Rattle.call_laws.specs.whole_calls.Following.{FollowJob}
use Rattle.wire_board.specs.Going.{ArePassing, Cluster, FailureAt, GoesOn, GoesTo, Machine, Parts, Setting}

-- events that pass begin no attempt
pub passing_others : (events : List law.Event) → ArePassing events → AllByRecursion IsNoRecovery events
passing_others [] all = tt
passing_others (e ∷ events) all = (all.0.1, passing_others events all.1)

pub passing_append : (xs ys : List law.Event) → ArePassing xs → ArePassing ys → ArePassing (xs ++ ys)
passing_append [] ys one other = other
passing_append (x ∷ xs) ys one other = (one.0, passing_append xs ys one.1 other)

pub traces_append : (xs ys : List law.Event) → AllByRecursion IsNoRecovery xs → (st : Setting) (a b c : Cluster) → law.IsTrace st a xs b → law.IsTrace st b ys c → law.IsTrace st a (xs ++ ys) c
traces_append [] ys all st a b c one other = subst (λ (x : Cluster). law.IsTrace st x ys c) one other
traces_append (x ∷ xs) ys all st a b c one other = (
  one.0,
  traces_append xs ys all.1 (law.setting_after st x) (law.after_event st a x) b c one.1 (subst (λ (s : Setting). law.IsTrace s b ys c) (sym (setting_same st x all.0)) other),
)

pub follows_append : (failures : List FailureAt) (xs ys : List law.Event) → AllByRecursion IsNoRecovery xs → (st : Setting) (a b : Cluster) → law.IsTrace st a xs b
    → FollowJob st failures a xs → FollowJob st failures b ys → FollowJob st failures a (xs ++ ys)
follows_append failures [] ys all st a b trace one other = subst (λ (x : Cluster). FollowJob st failures x ys) trace other
follows_append failures (x ∷ xs) ys all st a b trace one other = (
  one.0,
  follows_append failures xs ys all.1 (law.setting_after st x) (law.after_event st a x) b trace.1 one.1 (subst (λ (s : Setting). FollowJob s failures b ys) (sym (setting_same st x all.0)) other),
)

-- what machines had completed as the attempt began stays
pub done_stays : (events : List law.Event) → AllByRecursion IsNoRecovery events → (st : Setting) (a b : Cluster) → law.IsTrace st a events b → (k : ℕ) → (b.machine k).done ≡ (a.machine k).done
done_stays [] all st a b trace k = ap (λ (x : Cluster). (x.machine k).done) trace
done_stays (e ∷ events) all st a b trace k =
    done_stays events all.1 st (law.after_event st a e) b (subst (λ (s : Setting). law.IsTrace s (law.after_event st a e) events b) (setting_same st e all.0) trace.1) k
    ∙ done_kept st a k e trace.0.1 all.0

module _ {X : Type 0} (represents : Setting → ℕ → Machine → X → Type 0) (failures : List FailureAt) (done : List ℕ) where
  pub goes_nowhere : (p : Parts X) → GoesOn represents failures done p p
  goes_nowhere p st c setting of = record { events = []; passing = tt; later = c; trace = refl; follows = λ counts. tt; code = of }

  pub goes_on_then : (p q r : Parts X) → GoesOn represents failures done p q → GoesOn represents failures done q r → GoesOn represents failures done p r
  goes_on_then p q r one other st c setting of =
      let first : GoesTo represents failures done q st c = one st c setting of in
      let second : GoesTo represents failures done r st first.later = other st first.later setting first.code in
      let others : AllByRecursion IsNoRecovery first.events = passing_others first.events first.passing in
      record {
        events = first.events ++ second.events;
        passing = passing_append first.events second.events first.passing second.passing;
        later = second.later;
        trace = traces_append first.events second.events others st c first.later second.later first.trace second.trace;
        follows = λ counts. follows_append failures first.events second.events others st c first.later first.trace (first.follows counts)
            (second.follows (λ a low. done_stays first.events others st c first.later first.trace a ∙ counts a low));
        code = second.code;
      }
