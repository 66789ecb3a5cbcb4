-- A course whose cluster was out for a while.
use Rattle.std.proofs.Common.{ap, length, ◌∙◌, ◌≡◌, ℕ}
use Rattle.cluster_step.specs.trace.Later.{IsLaterInAttempt, apart_now, with_cluster}
use Rattle.cluster_step.specs.trace.Traces.{IsSameAttempt, Machine, Parts, Setting, TraceView}

-- it remembers where it is
pub later_remembered : {M : Type 0} (represents : Setting → ℕ → Machine → M → Type 0) (v : TraceView M) (q : Parts M) → IsLaterInAttempt represents v (record v { now = q }) → IsLaterInAttempt represents v (with_cluster v q)
later_remembered represents v q later st o events c is =
    let one = later st o events c is in
    (one.0, one.1, one.2, record { setting = one.3.setting; trace = one.3.trace; code = one.3.code; done = one.3.done })

-- the cluster goes out
pub goes_out : {M : Type 0} (v own : TraceView M) (was : Parts M) → v ≡ own → was ≡ v.now → record v { since = was; now = was } ≡ apart_now own
goes_out v own was is same = (λ i. record v { since = same i; now = same i }) ∙ ap apart_now is

-- another one comes back
pub comes_back : {M : Type 0} (v own : TraceView M) (q since : Parts M) → v ≡ own → since ≡ q → record v { since = since; now = q } ≡ with_cluster own q
comes_back v own q since is same = (λ i. record v { since = same i; now = q }) ∙ ap (λ (x : TraceView _). with_cluster x q) is

pub same_attempt : {M : Type 0} (own : TraceView M) (q : Parts M) (new : TraceView M) → new ≡ with_cluster own q → length q.machines.items ≡ length own.now.machines.items → q.stopped ≡ own.now.stopped → IsSameAttempt (record own { since = q }) new
same_attempt own q new is many stopped = record {
  start = ap (λ x. x.start) is;
  failures = ap (λ x. x.failures) is;
  done = ap (λ x. x.done) is;
  since = ap (λ x. x.since) is;
  many = ap (λ x. length x.now.machines.items) is ∙ many;
  stopped = ap (λ x. x.now.stopped) is ∙ stopped;
}
