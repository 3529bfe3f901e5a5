use Rattle.std.proofs.Common.{◌∙◌, sym}
use Rattle.base_frame.proofs.Laws.{whole_fewer, cuts_pushed}
use Rattle.base_frame.proofs.reader.split.Goals as goal

pub loop-content-smaller : goal.loop-content-smaller
loop-content-smaller c = whole_fewer c.args.limit c.loop-content.rest.now c.in-Whole.content.now c.in-Whole.more.now (sym c.in-Whole.ensures)

pub loop-content-preserved : goal.loop-content-preserved
loop-content-preserved c =
    cuts_pushed c.args.limit c.args.bytes.now c.loop-content.ready.items c.push_back.new.self.items c.loop-content.rest.now c.in-Whole.content.now c.in-Whole.more.now c.new.result
    c.loop-content.invariant c.in-Whole.ensures c.in_ok-push_back.ensures.items (c.new.ensures ∙ c.in_ok-from_slice.ensures.items)
