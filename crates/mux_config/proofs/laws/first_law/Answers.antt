use Rattle.mux_config.proofs.Faultless.{none_noted}
use Rattle.mux_config.proofs.Least.{first_is_least}
use Rattle.mux_config.proofs.laws.first_law.Goals as goal

pub returns-clause-first : goal.returns-clause-first
returns-clause-first c = λ fs f e. first_is_least fs f e

pub returns-clause-none : goal.returns-clause-none
returns-clause-none c = λ fs e. none_noted fs e
