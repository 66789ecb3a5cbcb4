-- One restart more.
use Rattle.std.proofs.Common.{◌++◌, ◌∷◌, ◌∙◌, [], List, add-one, ap, append_assoc, sym, ℕ}
use Rattle.gl_base.specs.declared.entries.Entry.{Entry}
use Rattle.gl_base.specs.declared.entries.Entry.TheVariants.{Restart}
use Rattle.recovery.specs.restarts.Missing.{restarts}
use Rattle.recovery.proofs.restarts.Lacking.{restarts_push}
use Rattle.recovery.proofs.restarts.missing.push_restarts.Goals as goal

pub loop-preserved : goal.loop-preserved
loop-preserved c =
    c.in_ok-push.ensures.items
    ∙ ap (λ (es : List Entry). es ++ Restart c.args.ticket ∷ []) c.loop.invariant
    ∙ append_assoc c.args.missing.now.items (restarts c.loop.counter c.args.ticket) (Restart c.args.ticket ∷ [])
    ∙ ap (λ (es : List Entry). c.args.missing.now.items ++ es) (restarts_push c.loop.counter c.args.ticket ∙ ap (λ (n : ℕ). restarts n c.args.ticket) (sym (add-one c.loop.counter)))
