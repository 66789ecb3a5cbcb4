use Rattle.job_io.proofs.job_stores.making.make_on.Goals as goal

pub returns-in-Ok-clause-made : goal.returns-in-Ok-clause-made
returns-in-Ok-clause-made g c = λ told.
    let made = c.in-Ok.ensures in
    record { empty = made.empty told; bytes = made.bytes told; images = made.images told; stands = made.stands told }
