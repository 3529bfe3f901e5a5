-- A request goes on behind a sync.
use Rattle.std.proofs.Common.{refl, ◌∙◌}
use Rattle.event_model.specs.Event.{with_cause}
use Rattle.mux_history.specs.declared.cause.Cause.TheVariants.{FromEditor}
use Rattle.mux_editors.proofs.Asking.{goes_on, sends, works}
use Rattle.mux_editors.proofs.Classes.{not_own, passes, serves}
use Rattle.mux_editors.proofs.requests.send_on.Goals as goal

pub returns-clause-does : goal.returns-clause-does
returns-clause-does c = λ settings before body method id params s read says other asked at z here.
    let t = c.args.tables.now in
    let n = c.next_number-n.result in
    let takes = c.requires.takes z here in
    let next = c.next_number-n.ensures z here in
    let serve = serves method (not_own method other) in
    let passed = passes method (not_own method other) in
    goes_on settings t before body method id params c.args.e c.args.g s n z c.args.outs.now asked here at takes.0 next takes.1 says serve passed c.ask.new.self c.in_ok-text.text c.ask.new.outs (c.in_ok-text.ensures body method id params read says)
    (λ name new goes. c.in_ok-ask.ensures.does settings (with_cause before (FromEditor c.args.e body)) s name method new at goes passed
    (sends settings t before body method id params c.args.e c.args.g s n z c.args.outs.now asked here at takes.0 next takes.1 says serve passed c.new-id.result c.in_ok-work.work c.in_ok-partial.partial (c.new-id.ensures ∙ (c.in_ok-from_slice.ensures.items ∙ c.id_bytes.ensures body read))
    (c.in_ok-work.ensures refl body method id params read says) (c.in_ok-partial.ensures refl body method id params read says))
    (works settings t before body method id params c.args.e c.args.g s n z c.args.outs.now asked here at takes.0 next takes.1 says serve passed) z here)
