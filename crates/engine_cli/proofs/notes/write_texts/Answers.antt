use Rattle.std.proofs.Common.{rules}
use Rattle.std.proofs.lemmas.Result.{err_from_is_err_and}
use Rattle.gl_outside.proofs.Fronts.{Rose-later}
use Rattle.engine_cli.proofs.TextsJoined.{joined-next, joined-stopped, text_at}
use Rattle.engine_cli.proofs.notes.write_texts.Goals as goal

pub returns-in_err-write_all-clause-note : goal.returns-in_err-write_all-clause-note
returns-in_err-write_all-clause-note g c =
    let exit = err_from_is_err_and c.from_residual.result c.from_residual.ensures.1 in
    let at = text_at c.args.texts.now c.loop-text.text-index _ (search rules) c.as_bytes.ensures.value in
    rw exit.1 (
      Rose-later _ _ _ c.loop-text.invariant.later c.in_err-write_all.ensures.fault,
      joined-stopped _ _ _ _ c.loop-text.text-index _ at.0 at.1 c.loop-text.invariant.told c.in_err-write_all.ensures.front,
    )

pub loop-text-preserved : goal.loop-text-preserved
loop-text-preserved g c =
    let at = text_at c.args.texts.now c.loop-text.text-index _ (search rules) c.as_bytes.ensures.value in
    record {
      told = joined-next _ _ _ _ c.loop-text.text-index _ at.0 at.1 c.loop-text.invariant.told c.in_ok-write_all.ensures.ok;
      later = search rules;
      same = search rules;
    }
