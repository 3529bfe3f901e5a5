use Rattle.std.proofs.Common.{IfOk}
use Rattle.json_text.specs.Changes.{edits_of}
use Rattle.json_text.specs.Json.{Json}
use Rattle.json_text.specs.Replace.{Rise}
use Rattle.json_nodes.specs.At.{At}
use Rattle.json_span.proofs.Tapes.{every_node}
use Rattle.json_span.proofs.tape.Tape.puts.Goals as goal

pub returns-clause-edits : goal.returns-clause-edits
returns-clause-edits c = rw (← c.values.ensures.same) c.puts.ensures.edits

pub returns-clause-within : goal.returns-clause-within
returns-clause-within c = rw (← c.values.ensures.same) c.puts.ensures.within

pub returns-clause-rise : goal.returns-clause-rise
returns-clause-rise c =
    let all : (t : Json) → At c.args.self.now c.args.node t → IfOk c.puts.result (λ changes. Rise c.args.self.now.bytes (edits_of changes.items)) = rw (← c.values.ensures.same) c.puts.ensures.rise in
    let found : (t : Json) × At c.args.self.now c.args.node t = every_node c.args.self.now c.values.ensures.text.0 c.args.node c.values.ensures.text.1 c.requires in
    all found.0 found.1
