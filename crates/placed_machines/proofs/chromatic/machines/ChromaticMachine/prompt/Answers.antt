-- The answer to a wave.
use Rattle.std.proofs.Common.{length, sym, ap, ◌∙◌, subst}
use Rattle.cluster_laws.specs.cluster_core.Parts.{Part}
use Rattle.cluster_laws.specs.cluster_model.Machines.{is_idle}
use Rattle.snapshot_machines.proofs.locking.AnswerLemmas.{room_made}
use Rattle.placed_machines.specs.chromatic.Prompting.{HasPrompted}
use Rattle.placed_machines.proofs.chromatic.AnswerLemmas.{left_by, not_closed}
use Rattle.placed_machines.proofs.chromatic.PromptLemmas.{answered, prompt_busy, prompt_ended, prompt_free}
use Rattle.placed_machines.proofs.chromatic.machines.ChromaticMachine.prompt.Goals as goal

pub returns-then-not-holds_wave : goal.returns-then-not-holds_wave
returns-then-not-holds_wave g c = rw (← c.self.view_is) (prompt_free g.P.Program.meaning (record { machine = c.self.inside.machine; counts = c.self.inside.counts; window = c.self.inside.window; reports = c.self.inside.reports }) c.core-core.ensures.outside (sym c.holds_wave.ensures ∙ c.if-not-holds_wave.true))

pub returns-in_default : goal.returns-in_default
returns-in_default g c = rw (← c.self.view_is) (prompt_ended g.P.Program.meaning (record { machine = c.self.inside.machine; counts = c.self.inside.counts; window = c.self.inside.window; reports = c.self.inside.reports }) c.core-core.ensures.outside c.waiting.result c.waiting.ensures (sym c.holds_wave.ensures ∙ c.if-not-holds_wave.false) c.in_default.ensures.ends)

pub returns-then-is_err : goal.returns-then-is_err
returns-then-is_err g c =
    let is = sym c.is_err.ensures.value ∙ c.if-is_err.true in
    rw (← c.self.view_is)
    (subst (λ m. HasPrompted g.P.Program.meaning (record { machine = c.self.inside.machine; counts = c.self.inside.counts; window = c.self.inside.window; reports = c.self.inside.reports }) (record { machine = m; counts = c.self.inside.counts; window = c.self.inside.window; reports = c.self.inside.reports })) (sym (left_by c.close.result _ is c.close.ensures.unchanged))
    (prompt_busy g.P.Program.meaning (record { machine = c.self.inside.machine; counts = c.self.inside.counts; window = c.self.inside.window; reports = c.self.inside.reports }) c.core-core.ensures.outside (not_closed c.close.result _ is c.close.ensures.not_now c.close.ensures.memory)))

pub returns-in-Some : goal.returns-in-Some
returns-in-Some g c =
    let is = sym c.is_err.ensures.value ∙ c.if-is_err.false in
    let closed = room_made c.close.result _ is c.close.ensures.closed in
    rw (← c.self.view_is)
    (answered g.P.Program.meaning (record { machine = c.self.inside.machine; counts = c.self.inside.counts; window = c.self.inside.window; reports = c.self.inside.reports }) c.core-core.ensures.outside (room_made c.close.result _ is c.close.ensures.done) c.waiting.result c.in-Ok.sent c.count-updates.result c.is_idle-idle.result c.answer.new.self c.answer.result c.answer.ensures c.waiting.ensures
    c.in-Ok.ensures.told c.in-Ok.ensures.put_out (c.count-updates.ensures ∙ ap length c.log.ensures ∙ ap (λ (p : Part). length p.log) closed) (λ st here. c.is_idle-idle.ensures st (c.close.ensures.same.settings st here) ∙ ap (is_idle st) closed)
    c.in-Some.answer c.in-Some.is c.close.new.self closed c.close.ensures.rest c.put.new.self c.put.ensures)
