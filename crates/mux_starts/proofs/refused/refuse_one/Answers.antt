-- An editor that waits gets the error.
use Rattle.std.proofs.Common.{ap, subst, sym, ◌∙◌}
use Rattle.event_model.proofs.Places.{same_item}
use Rattle.mux_history.specs.declared.out.Out.TheVariants.{CloseEditor, ToEditor}
use Rattle.rpc_message.specs.Texts.{with_id_text}
use Rattle.mux_tables.specs.Documents.{nothing_owed}
use Rattle.mux_tables.specs.mux_waits.specs.Stands.{AnswersId}
use Rattle.mux_starts.specs.Refusing.{IsUnready}
use Rattle.mux_starts.proofs.PutOut.{adds_none, adds_one, adds_then, refuses, same_home}
use Rattle.mux_turns.proofs.Welcoming.{kept_none}
use Rattle.mux_starts.proofs.refused.refuse_one.Goals as goal

pub returns-in-None-clause-adds : goal.returns-in-None-clause-adds
returns-in-None-clause-adds c = adds_none c.args.outs.now

pub returns-in-None-clause-does : goal.returns-in-None-clause-does
returns-in-None-clause-does c = λ settings base body g read first unready home asks kept. kept_none (c.in-None.ensures ∙ kept)

pub returns-in_ok-put_out-in-Some-clause-adds : goal.returns-in_ok-put_out-in-Some-clause-adds
returns-in_ok-put_out-in-Some-clause-adds c = adds_then c.args.outs.now c.answer.new.outs c.put_out.new.outs
    (adds_one c.args.outs.now c.answer.new.outs (ToEditor c.args.e c.in_ok-text-in-Some.text) c.in_ok-answer-in-Some.ensures.outs) (adds_one c.answer.new.outs c.put_out.new.outs (CloseEditor c.args.e) c.in_ok-put_out-in-Some.ensures.outs)

pub returns-in_ok-put_out-in-Some-clause-does : goal.returns-in_ok-put_out-in-Some-clause-does
returns-in_ok-put_out-in-Some-clause-does c = λ settings base body g read first unready home asks kept.
    let it = c.in_ok-own-in-Some.ensures ∙ same_item (c.in-Some.ensures ∙ kept) in
    let own = c.bytes.ensures ∙ it in
    let told = adds_one c.args.outs.now c.answer.new.outs (ToEditor c.args.e c.in_ok-text-in-Some.text) c.in_ok-answer-in-Some.ensures.outs in
    refuses settings c.args.tables.now c.answer.new.self c.put_out.new.tables base c.args.outs.now c.answer.new.outs c.put_out.new.outs c.args.e g body c.in_ok-text-in-Some.text first asks
    (c.in_ok-text-in-Some.ensures body read ∙ ap (λ w. with_id_text body w) own)
    (λ keeps answers. c.in_ok-answer-in-Some.ensures.does settings base keeps (subst (λ w. AnswersId w c.in_ok-text-in-Some.text) (sym (c.bytes-in-Some.ensures ∙ it)) answers)) (λ ds. c.in_ok-answer-in-Some.ensures.documents settings nothing_owed base ds)
    (c.in_ok-put_out-in-Some.ensures.does settings base g (subst (λ ls. IsUnready g ls.items) (sym c.in_ok-answer-in-Some.ensures.lasts) unready) (same_home base c.args.outs.now c.answer.new.outs told settings c.args.e ∙ home))
