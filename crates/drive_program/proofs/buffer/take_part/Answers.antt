use Rattle.drive_program.proofs.Consumes.{moved_part}
use Rattle.drive_program.proofs.Cuts.{cut_part, passed_part}
use Rattle.drive_program.proofs.buffer.take_part.Goals as goal

pub returns-then-branch-clause-part : goal.returns-then-branch-clause-part
returns-then-branch-clause-part c = λ left _. cut_part c.len-count.result c.args.buffer.now c.take.new.self c.args.line.now.items c.take.new.line.items left
    c.requires.feed c.len-count.ensures.value c.requires.there (c.in_ok-take.ensures.taken c.if-branch.true)

pub returns-then-branch-clause-moved : goal.returns-then-branch-clause-moved
returns-then-branch-clause-moved c = λ _. moved_part c.len-count.result c.args.buffer.now c.take.new.self c.args.line.now.items c.take.new.line.items
    c.requires.feed c.len-count.ensures.value (c.in_ok-take.ensures.taken c.if-branch.true)

pub returns-else-branch-clause-passed : goal.returns-else-branch-clause-passed
returns-else-branch-clause-passed c = λ left _. passed_part c.len-count.result c.args.buffer.now c.args.line.now.items left
    c.requires.feed c.len-count.ensures.value c.requires.there (c.in_ok-take.ensures.passed c.if-branch.false)
