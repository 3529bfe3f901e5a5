-- It is noted of each editor that runs in the group.
use Rattle.std.proofs.Common.{◌∙◌, ap, not, subst, sym}
use Rattle.std.specs.Prelude.{Some}
use Rattle.std.proofs.lemmas.Bool.{and_parts}
use Rattle.event_model.specs.Event.{with_cause}
use Rattle.event_model.specs.Stages.{is_ready, life_of}
use Rattle.group_rows.specs.Asks.{asking_of, is_taken, running_in}
use Rattle.group_rows.specs.Debts.{wants_refresh}
use Rattle.group_rows.specs.Live.{is_heard}
use Rattle.mux_history.specs.declared.cause.Cause.TheVariants.{FromServer}
use Rattle.rpc_message.specs.Message.{message_of}
use Rattle.mux_turns.proofs.Ready.{is_that_ready}
use Rattle.mux_debts.specs.Noted.{all_noted}
use Rattle.mux_debts.specs.Stands.{DebtsStand}
use Rattle.mux_debts.proofs.Noting.{noted_stands, stage_now, wanted_by}
use Rattle.mux_debts.proofs.notes.note_wanted.Goals as goal

pub returns : goal.returns
returns c = λ settings before body x read known here on st ds owed.
    let s = x.life.start in
    let q = wanted_by settings s before (message_of body) on in
    let parts = and_parts (wants_refresh q.method) (is_heard settings s before q.id) q.anew in
    let heard = and_parts (is_ready (life_of s before).stage) (not (is_taken (Some q.id) (asking_of settings s before))) parts.1 in
    let ready = is_that_ready x.life.stage (sym (ap is_ready (stage_now settings c.args.tables.now before c.args.g x here st)) ∙ heard.0) in
    let numbers = c.deref.ensures.value ∙ (c.in_ok-numbers.ensures.those settings before st ∙ ap (λ h. running_in settings h before) (c.group_number-group.ensures x here)) in
    let noted = c.in_ok-note_all.ensures settings before body q.method q.id q.params x read q.is parts.0 here ready st ds in
    subst (λ rows. DebtsStand settings rows (with_cause before (FromServer s body))) (sym (noted ∙ ap (λ es. all_noted settings s before body q.method es c.args.debts.now) numbers))
    (noted_stands settings c.args.debts.now before owed s body q.method q.id q.params x.life.group q.is q.anew (st.lasts.each c.args.g x here).home known.editors)
