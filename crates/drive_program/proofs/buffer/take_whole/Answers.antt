use Rattle.drive_program.proofs.Consumes.{moved_whole}
use Rattle.drive_program.proofs.Cuts.{passed_whole}
use Rattle.drive_program.proofs.buffer.take_whole.Goals as goal

pub returns-then-branch-clause-moved : goal.returns-then-branch-clause-moved
returns-then-branch-clause-moved c = λ _. moved_whole c.args.feed c.args.buffer.now c.take.new.self c.args.line.now.items c.take.new.line.items c.requires.feed (c.in_ok-take.ensures.taken c.if-branch.true)

pub returns-else-branch-clause-passed : goal.returns-else-branch-clause-passed
returns-else-branch-clause-passed c = λ left _. passed_whole c.args.feed c.args.buffer.now c.args.line.now.items left c.requires.feed (c.in_ok-take.ensures.passed c.if-branch.false)
