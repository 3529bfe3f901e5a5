use Rattle.json_text.proofs.Laws.{tree_law}
use Rattle.json_text.proofs.tree.tree_of_law.Goals as goal

pub returns : goal.returns
returns c = λ bytes j. tree_law bytes j
