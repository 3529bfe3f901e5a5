-- The editor in focus.
use Rattle.std.proofs.Common.{◌<◌, length, ap, ◌∙◌}
use Rattle.group_rows.specs.AskRows.{last_among}
use Rattle.group_rows.specs.Asks.{first_in, running_in}
use Rattle.group_rows.specs.Forwarded.{forwarding_of}
use Rattle.mux_starts.proofs.Singles.{contains_within, first_some, focus_is, focus_none}
use Rattle.mux_starts.proofs.single.in_focus.Goals as goal

pub returns-in-Some-clause-inside : goal.returns-in-Some-clause-inside
returns-in-Some-clause-inside c = contains_within (λ e. e < length c.args.tables.now.editors) c.in_ok-numbers.numbers.items c.in-Some.e c.in_ok-numbers.ensures.inside c.deref.result.now c.deref.ensures.value c.in-Some.ensures.one

pub returns-in-Some-clause-focus : goal.returns-in-Some-clause-focus
returns-in-Some-clause-focus c = λ settings before s x here at st.
    let those = c.deref.ensures.value ∙ (c.in_ok-numbers.ensures.those settings before st ∙ ap (λ h. running_in settings h before) (c.group_number-group.ensures x here)) in
    focus_is (running_in settings x.life.group before) (forwarding_of settings s before).open_requests c.last_among.result _ c.in-Some.is
    (c.last_among.ensures.last settings before s at st ∙ ap (λ ns. last_among ns (forwarding_of settings s before).open_requests) those)

pub returns-clause-inside : goal.returns-clause-inside
returns-clause-inside c = first_some (λ e. e < length c.args.tables.now.editors) c.in_ok-numbers.numbers.items c.lowest.result c.in_ok-numbers.ensures.inside (c.lowest.ensures ∙ ap first_in c.deref-in-None.ensures.value)

pub returns-clause-focus : goal.returns-clause-focus
returns-clause-focus c = λ settings before s x here at st.
    let those = c.in_ok-numbers.ensures.those settings before st ∙ ap (λ h. running_in settings h before) (c.group_number-group.ensures x here) in
    c.lowest.ensures ∙ (ap first_in (c.deref-in-None.ensures.value ∙ those)
    ∙ focus_none (running_in settings x.life.group before) (forwarding_of settings s before).open_requests c.last_among.result c.in-None.is
    (c.last_among.ensures.last settings before s at st ∙ ap (λ ns. last_among ns (forwarding_of settings s before).open_requests) (c.deref.ensures.value ∙ those)))
