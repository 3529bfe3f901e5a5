-- Whether a request of an editor that runs goes on.
use Rattle.std.proofs.Common.{ap, subst, sym, ◌∙◌}
use Rattle.event_model.specs.Requests.{open_of}
use Rattle.event_model.specs.Stages.{is_ready}
use Rattle.group_rows.specs.Debts.{goes_forth}
use Rattle.rpc_message.specs.ValueTexts.{IsIdText}
use Rattle.rpc_message.proofs.Ids.{request_id_bytes}
use Rattle.mux_turns.specs.group_facts.specs.Built.{doubles}
use Rattle.mux_debts.proofs.Going.{room_left, sends_aside, sends_doubled, sends_open, sends_reserved}
use Rattle.mux_debts.proofs.Noting.{number_there, stage_now}
use Rattle.mux_debts.proofs.pays.sends_on.Goals as goal

pub returns-then-is_aside : goal.returns-then-is_aside
returns-then-is_aside c = λ settings before body method id params x read says known settled here ready runs st.
    sym (ap (goes_forth settings x.life.start before c.args.e body) says ∙ sends_aside settings before c.args.e body x.life.start id method params (sym (c.is_aside.ensures body method id params read says) ∙ c.if-is_aside.true))

pub returns-then-doubles : goal.returns-then-doubles
returns-then-doubles c = λ settings before body method id params x read says known settled here ready runs st.
    let text = subst (λ w. IsIdText id w) (sym (c.id_bytes.ensures body read)) (request_id_bytes body id method params says) in
    let open_now = sym (c.doubles.ensures settings before id known settled st text (c.phase.ensures settings before st) ∙ ap (λ p. doubles p id (open_of c.args.e before)) (c.phase.ensures settings before st ∙ runs)) ∙ c.if-doubles.true in
    sym (ap (goes_forth settings x.life.start before c.args.e body) says ∙ sends_doubled settings before c.args.e body x.life.start id method params open_now)

pub returns-then-reserved : goal.returns-then-reserved
returns-then-reserved c = λ settings before body method id params x read says known settled here ready runs st.
    sym (ap (goes_forth settings x.life.start before c.args.e body) says ∙ sends_reserved settings before c.args.e body x.life.start id method params (sym (c.in_ok-reserved.ensures body method id params read says) ∙ c.if-reserved.true))

pub returns : goal.returns
returns c = λ settings before body method id params x read says known settled here ready runs st.
    let s = x.life.start in
    let e = c.args.e in
    let text = subst (λ w. IsIdText id w) (sym (c.id_bytes.ensures body read)) (request_id_bytes body id method params says) in
    let aside = sym (c.is_aside.ensures body method id params read says) ∙ c.if-is_aside.false in
    let single = sym (c.doubles.ensures settings before id known settled st text (c.phase.ensures settings before st) ∙ ap (λ p. doubles p id (open_of e before)) (c.phase.ensures settings before st ∙ runs)) ∙ c.if-doubles.false in
    let free = sym (c.in_ok-reserved.ensures body method id params read says) ∙ c.if-reserved.false in
    let up = ap is_ready (stage_now settings c.args.tables.now before c.args.g x here st) ∙ ap is_ready ready in
    c.can_ask.ensures.stands settings before s (number_there c.args.tables.now.lasts.items c.args.g x c.requires here) st
    ∙ (room_left settings before e body s id method params up ∙ sym (ap (goes_forth settings s before e body) says ∙ sends_open settings before e body s id method params aside single free))
