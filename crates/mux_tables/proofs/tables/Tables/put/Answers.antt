-- An editor is asked, which is kept.
use Rattle.std.proofs.Common.{decimal, subst}
use Rattle.mux_history.specs.declared.out.Out.TheVariants.{ToEditor}
use Rattle.rpc_message.specs.Texts.{with_id_text}
use Rattle.event_model.specs.Does.{Does}
use Rattle.event_model.specs.Event.{behind}
use Rattle.event_model.specs.Row.{send}
use Rattle.mux_tables.specs.Stands.{Stands}
use Rattle.mux_tables.proofs.Numbering.{none_numbered, one_numbered}
use Rattle.mux_tables.proofs.Putting.{next_says}
use Rattle.mux_tables.proofs.tables.Tables.put.Goals as goal

pub returns-in_default-clause-does : goal.returns-in_default-clause-does
returns-in_default-clause-does c = λ settings base body method id params x at ready read says creates runs work.
    none_numbered (λ t events. Stands settings t events) (λ n. send (ToEditor c.args.e (with_id_text body (decimal n)))) c.args.e base c.args.outs.now c.args.self.now
    (λ st. c.in_default.ensures settings (behind base c.args.outs.now) runs st)

pub returns-clause-does : goal.returns-clause-does
returns-clause-does c = λ settings base body method id params x at ready read says creates runs work.
    let t = c.args.self.now in
    let u = c.put_text.new.self in
    let xs = c.args.outs.now in
    let ys = c.put_text.new.outs in
    let now = behind base xs in
    let e = c.args.e in
    let n = c.in-Some.n in
    let is = c.in_ok-text.ensures body read in
    one_numbered (λ t events. Stands settings t events) (λ n. send (ToEditor e (with_id_text body (decimal n)))) e base xs t n (λ st. c.in-Some.ensures settings now runs st) u ys
    (λ left next. subst (λ w. Does (λ t events. Stands settings t events) (send (ToEditor e w)) base t xs u ys) is
    (c.in_ok-put_text.ensures.does settings base body method id params x at ready read creates runs (next_says body c.in_ok-text.text method id params e n now left next says is) work))
