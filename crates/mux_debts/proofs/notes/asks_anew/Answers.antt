-- Whether a request wants something asked anew.
use Rattle.std.proofs.Common.{◌&&◌, ap, sym, ◌∙◌}
use Rattle.group_rows.specs.Debts.{names_refresh}
use Rattle.group_rows.specs.Live.{is_heard}
use Rattle.mux_debts.proofs.Noting.{other_class}
use Rattle.mux_debts.proofs.notes.asks_anew.Goals as goal

pub returns-in-Refresh : goal.returns-in-Refresh
returns-in-Refresh c = λ settings before body method id params x read says here st.
    let kind = sym (c.asked_class.ensures body method id params read says) ∙ c.in-Refresh.is in
    c.is_heard.ensures settings before body method id params x read says here st ∙ sym (ap (λ k. names_refresh k && is_heard settings x.life.start before id) kind)

pub returns-in_default : goal.returns-in_default
returns-in_default c = λ settings before body method id params x read says here st.
    let other = ap names_refresh (sym (c.asked_class.ensures body method id params read says)) ∙ other_class c.asked_class.result c.in_default.not-Refresh in
    sym (ap (λ b. b && is_heard settings x.life.start before id) other)
