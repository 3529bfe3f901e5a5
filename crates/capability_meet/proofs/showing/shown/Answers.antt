use Rattle.capability_meet.specs.Shown.{shown_text}
use Rattle.json_nodes.specs.Values.{doc_of}
use Rattle.capability_meet.proofs.Reading.{told_of_read}
use Rattle.capability_meet.proofs.showing.shown.Goals as goal

pub returns : goal.returns
returns c = told_of_read shown_text c.in_ok-tape.tape (doc_of c.values.result) c.args.answer.now c.root.result c.in_ok-shown_in.field-0.items c.new.result c.in_ok-tape.ensures c.values.ensures.same c.root.ensures.value c.in_ok-shown_in.ensures c.new.ensures
