-- Those of a list are refused.
use Rattle.std.proofs.Common.{◌≡◌, ap, rules, ◌∙◌, get_or}
use Rattle.rpc_message.specs.Texts.{error_text, request_failed}
use Rattle.mux_tables.proofs.Refusing.{refusals_more, refusals_whole}
use Rattle.mux_tables.proofs.asks.refuse_all.Goals as goal

pub loop-ask-preserved : goal.loop-ask-preserved
loop-ask-preserved c =
    let x = c.ask-item.result in
    let is : x ≡ get_or c.args.asks.now c.loop-ask.ask-index x = search rules in
    refusals_more c.args.s c.loop-ask.ask-index c.args.asks.now x c.args.outs.now c.loop-ask.outs c.push.new.self c.in_ok-text.text c.loop-ask-test.true is (c.in_ok-text.ensures ∙ ap (λ w. error_text w request_failed) c.bytes.ensures) c.loop-ask.invariant c.in_ok-push.ensures.ok

pub returns : goal.returns
returns c = refusals_whole c.args.s c.loop-ask.ask-index c.args.asks.now c.args.outs.now c.loop-ask.outs c.loop-ask-test.false c.loop-ask.invariant
