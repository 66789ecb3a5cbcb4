-- Each wave, computed.
use Rattle.std.proofs.Common.{refl, subst, sym}
use Rattle.cluster_laws.specs.cluster_model.TwoWaves.{ShowTheEnd}
use Rattle.whole_laws.specs.cluster_ending.FourWaves.{early_answers, late_answers}
use Rattle.whole_laws.proofs.cluster_ending.WorkedWaves.{first_not, first_waves, fourth_over, fourth_waves, late_shows, second_waves, third_waves, uneven}
use Rattle.whole_laws.proofs.cluster_ending.examples.waves_of_a_pair.Goals as goal

pub returns-clause-first : goal.returns-clause-first
returns-clause-first c = (first_waves, λ shows. first_not (subst ShowTheEnd first_waves shows))

pub returns-clause-second : goal.returns-clause-second
returns-clause-second c = (second_waves, refl, refl, λ shows. uneven early_answers (subst ShowTheEnd second_waves shows))

pub returns-clause-third : goal.returns-clause-third
returns-clause-third c = (third_waves, refl, refl, λ shows. uneven late_answers (subst ShowTheEnd third_waves shows))

pub returns-clause-fourth : goal.returns-clause-fourth
returns-clause-fourth c = (fourth_waves, record { whole = fourth_over; shown = subst ShowTheEnd (sym fourth_waves) late_shows })
