use Rattle.group_facts.proofs.OwnMoments.{moment_own, own_agrees}
use Rattle.group_facts.proofs.laws.own_moments.Goals as goal

pub returns-clause-moments : goal.returns-clause-moments
returns-clause-moments c = λ settings history own s n e id events later whole k. moment_own settings history own s n e id events later whole k

pub returns-clause-agreed : goal.returns-clause-agreed
returns-clause-agreed c = λ settings s e events u digits own k. own_agrees settings s e events u digits own k
