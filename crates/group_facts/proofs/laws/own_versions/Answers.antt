use Rattle.group_facts.proofs.OwnVersions.{own_versions_hold}
use Rattle.group_facts.proofs.laws.own_versions.Goals as goal

pub returns : goal.returns
returns c = λ settings range history legal. own_versions_hold settings range history legal
