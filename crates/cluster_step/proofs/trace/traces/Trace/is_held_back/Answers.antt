-- The event is held back where its machine has reached a count, or has not.
use Rattle.std.proofs.Common.{◌≡◌, Bool, true, false, length, refl, sym, ◌∙◌}
use Rattle.std.proofs.Math.Bool.{beq, not}
use Rattle.cluster_step.proofs.trace.Going.{one_held, others_held, watched_in}
use Rattle.cluster_step.proofs.trace.traces.Trace.is_held_back.Goals as goal

differs : (a b : Bool) → not (beq a b) ≡ true → a ≡ b → ⊥
differs true true is same = absurd (cc)
differs true false is same = absurd (cc)
differs false true is same = absurd (cc)
differs false false is same = absurd (cc)

agrees : (a b : Bool) → not (beq a b) ≡ false → a ≡ b
agrees true true is = refl
agrees true false is = absurd (cc)
agrees false true is = absurd (cc)
agrees false false is = refl

pub has_reached-requires : goal.has_reached-requires
has_reached-requires g c =
    watched_in (length c.args.self.now.now.machines.items) c.args.event c.in-Some.m c.in-Some.wanted c.requires (sym c.watched.ensures ∙ c.in-Some.is)

pub returns-in-Some : goal.returns-in-Some
returns-in-Some g c = λ st o events own is.
    one_held c.args.self.now.failures st o events own c.args.event c.in-Some.m c.in-Some.wanted (sym c.watched.ensures ∙ c.in-Some.is) c.has_reached.result (c.has_reached.ensures st o events own is)
    (not (beq c.has_reached.result c.in-Some.wanted)) (differs c.has_reached.result c.in-Some.wanted) (agrees c.has_reached.result c.in-Some.wanted)

pub returns-in-None : goal.returns-in-None
returns-in-None g c = λ st o events own is. others_held c.args.self.now.failures st o events own c.args.event (sym c.watched.ensures ∙ c.in-None.is)
