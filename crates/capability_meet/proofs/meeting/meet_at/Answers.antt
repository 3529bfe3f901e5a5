use Rattle.json_nodes.specs.Values.{doc_of}
use Rattle.capability_meet.proofs.Meets.{meet_read}
use Rattle.capability_meet.proofs.meeting.meet_at.Goals as goal

pub returns : goal.returns
returns c = meet_read c.in_ok-left.left c.in_ok-right.right (doc_of c.values.result) (doc_of c.values-2.result) c.args.a.now c.args.b.now c.root.result c.root-2.result c.in_ok-text.text.items c.new.result c.args.spot c.in_ok-left.ensures c.in_ok-right.ensures c.values.ensures.same c.values-2.ensures.same c.root.ensures.value c.root-2.ensures.value c.in_ok-text.ensures c.new.ensures
