use Rattle.response_route.proofs.ReadLaw.{reads_some}
use Rattle.response_route.proofs.Rising.{message_rise}
use Rattle.response_route.proofs.laws.edits_law.Goals as goal

pub returns-clause-rise : goal.returns-clause-rise
returns-clause-rise c = message_rise

pub returns-clause-read : goal.returns-clause-read
returns-clause-read c = reads_some
