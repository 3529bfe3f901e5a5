-- It is.
use Rattle.std.proofs.Common.{◌≡◌, [], subst}
use Rattle.std.specs.Prelude.{MatchOption}
use Rattle.event_model.specs.Event.{behind}
use Rattle.group_rows.specs.Waiting.{waiting_of}
use Rattle.mux_tables.specs.Documents.{nothing_owed}
use Rattle.mux_starts.specs.Held.{IsRefused}
use Rattle.mux_starts.proofs.Passing.{refuses_one}
use Rattle.mux_starts.proofs.held.refuse_next.Goals as goal

pub returns-in_ok-answer_first-in-Some-clause-does : goal.returns-in_ok-answer_first-in-Some-clause-does
returns-in_ok-answer_first-in-Some-clause-does c = λ settings base s room. λ k.
    let g = c.args.group in
    let now = behind base c.args.outs.now in
    let is = subst (λ o. MatchOption o (waiting_of settings g now ≡ []) (IsRefused settings g now)) c.in-Some.is (c.in_ok-first.ensures.first settings now k.0) in
    refuses_one settings c.args.tables.now c.answer_first.new.self base s g c.in-Some.refusal c.args.outs.now c.answer_first.new.outs is c.answer_first.ensures.waiting room
    (λ r first mine keeps answers. c.in_ok-answer_first-in-Some.ensures.does settings base r first mine keeps answers) (λ ds. c.in_ok-answer_first-in-Some.ensures.documents settings nothing_owed base ds) k
