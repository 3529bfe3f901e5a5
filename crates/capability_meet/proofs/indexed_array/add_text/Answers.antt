use Rattle.capability_meet.specs.ValueText.{value_text}
use Rattle.capability_meet.proofs.Lists.{one_text}
use Rattle.capability_meet.proofs.indexed_array.add_text.Goals as goal

pub returns : goal.returns
returns c = λ u a text. one_text c.args.texts.now c.insert.new.self c.in_ok-text.text (value_text u) (c.in_ok-text.ensures u a) c.in_ok-insert.ensures.keys text
