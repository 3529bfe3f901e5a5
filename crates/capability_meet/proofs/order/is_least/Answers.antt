use Rattle.capability_meet.proofs.Pairs.{least_null, least_other}
use Rattle.capability_meet.proofs.order.is_least.Goals as goal

pub returns-in-Null : goal.returns-in-Null
returns-in-Null c = λ t a. least_null c.kind.result t (c.kind.ensures t a) c.in-Null.is

pub returns-in_default : goal.returns-in_default
returns-in_default c = λ t a. least_other c.kind.result t (c.kind.ensures t a) c.in_default.not-Null c.in_default.not-False
