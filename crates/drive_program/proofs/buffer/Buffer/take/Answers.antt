use Rattle.std.proofs.Common.{◌-◌, ◌+◌, ◌++◌, take, drop, ap, refl, arith, ◌∙◌}
use Rattle.drive_program.proofs.Windows.{taken_of}
use Rattle.drive_program.proofs.buffer.Buffer.take.Goals as goal

pub returns-clause-taken : goal.returns-clause-taken
returns-clause-taken c = λ _. taken_of c.args.count c.args.skipped _ _ c.args.line.now.items _ c.self.inside.at c.self.inside.to c.self.inside.used c.self.inside.bytes.items
    c.self.view_is refl c.requires.there (omega arith)
    (c.in_ok-extend_from_slice.ensures.items ∙ ap (λ l. c.args.line.now.items ++ take (c.self.inside.at + c.args.count - c.self.inside.at) (drop c.self.inside.at l)) c.deref.ensures.value)
