use Rattle.std.proofs.Common.{◌≡◌, true, reverse}
use Rattle.std.specs.Char.{is_ascii_digit}
use Rattle.json_text.specs.Json.{is_space}
use Rattle.json_token.specs.Runs.{takes_digits}
use Rattle.json_span.specs.Views.{state_of}
use Rattle.json_span.proofs.Passed.{passed_from, keeps_in, crosses_in, digits_keep, space_keeps, rests_else}
use Rattle.json_span.proofs.state.Reader.run_end.Goals as goal

pub returns-in_default-clause-same : goal.returns-in_default-clause-same
returns-in_default-clause-same c =
    let r = c.args.self.now in
    let else = c.in_default in
    passed_from 1024 c.args.at c.blank_end.result is_space (state_of r) (space_keeps 1024 r.mode r.name (reverse r.stack.items) r.nodes.items (rests_else r.mode else.not-InWord else.not-InNumber else.not-InText else.not-InKey)) c.args.bytes.now c.blank_end.ensures.value

pub returns-in-InText-clause-same : goal.returns-in-InText-clause-same
returns-in-InText-clause-same c =
    let r = c.args.self.now in
    let m = c.in-InText in
    crosses_in c.args.bytes.now c.args.at c.string_run_end.result r.mode _ m.is (c.string_run_end.ensures.text m.field-0) r.name (reverse r.stack.items) r.nodes.items

pub returns-in-InKey-clause-same : goal.returns-in-InKey-clause-same
returns-in-InKey-clause-same c =
    let r = c.args.self.now in
    let m = c.in-InKey in
    crosses_in c.args.bytes.now c.args.at c.string_run_end-in-InKey.result r.mode _ m.is (c.string_run_end-in-InKey.ensures.key m.field-0) r.name (reverse r.stack.items) r.nodes.items

pub returns-in-InNumber-clause-same : goal.returns-in-InNumber-clause-same
returns-in-InNumber-clause-same c =
    let r = c.args.self.now in
    let m = c.in-InNumber in
    let t : takes_digits m.part ≡ true = cc in
    let k = digits_keep 1024 m.field-0 m.part r.name (reverse r.stack.items) r.nodes.items t in
    passed_from 1024 c.args.at c.digits_end.result is_ascii_digit (state_of r) (keeps_in 1024 is_ascii_digit r.mode _ r.name (reverse r.stack.items) r.nodes.items m.is k) c.args.bytes.now c.digits_end.ensures.value
