-- A notification goes on behind a sync.
use Rattle.std.proofs.Common.{ap, ◌∙◌}
use Rattle.event_model.specs.Event.{with_cause}
use Rattle.mux_history.specs.declared.cause.Cause.TheVariants.{FromEditor}
use Rattle.rpc_message.specs.Message.{message_of}
use Rattle.mux_editors.proofs.Passing.{passed_synced, passes_on}
use Rattle.mux_editors.proofs.Synced.{at_work}
use Rattle.mux_editors.proofs.passed.go_on.Goals as goal

pub returns-clause-does : goal.returns-clause-does
returns-clause-does c = λ settings before body method params s read says going asked at x here.
    let e = c.args.e in
    let text = c.new-text.result in
    let is = c.new-text.ensures ∙ (c.in_ok-from_slice.ensures.items ∙ (c.bytes.ensures.bytes ∙ read.bytes_are)) in
    let goes = ap message_of is ∙ says in
    passes_on method params going settings c.args.tables.now c.pass_notice.new.self before body text e x.life.group s c.args.outs.now c.pass_notice.new.outs asked is says
    (c.in_ok-pass_notice.ensures.does settings (with_cause before (FromEditor e body)) s method params at goes (passed_synced method params going text goes) (at_work settings before body e c.args.outs.now asked) x here)
