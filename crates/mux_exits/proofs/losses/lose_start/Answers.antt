-- An editor that runs loses a start.
use Rattle.std.proofs.Common.{◌≡◌, [], ◌∷◌, ◌++◌, append_assoc, ap, ap₂, sym, ◌∙◌}
use Rattle.event_model.proofs.Places.{same_item}
use Rattle.group_rows.specs.Created.{created_text}
use Rattle.group_rows.specs.ExitRows.{end_text}
use Rattle.group_rows.specs.Leaves.{cancel_text}
use Rattle.group_rows.specs.Lists.{lists_of}
use Rattle.mux_tables.proofs.DocumentOwed.{number_there}
use Rattle.mux_exits.specs.declared.losses.Loss.TheVariants.{Unregistered}
use Rattle.mux_exits.specs.Losses.{cancelled, emptied, ended}
use Rattle.mux_exits.proofs.Gathering.{four_joined, one_inside, told_inside}
use Rattle.mux_exits.proofs.losses.lose_start.Goals as goal

pub returns-clause-inside : goal.returns-clause-inside
returns-clause-inside c = λ n less h.
    let e = c.args.e in
    let one = told_inside n e (λ k. end_text (created_text c.start_number-s.result k)) c.deref.result.now c.args.losses.now.items c.end_each.new.losses.items c.in_ok-end_each.ensures h in
    let two = told_inside n e cancel_text c.deref-2.result.now c.end_each.new.losses.items c.cancel_each.new.losses.items c.in_ok-cancel_each.ensures one in
    let three = told_inside n e cancel_text c.deref-3.result.now c.cancel_each.new.losses.items c.cancel_each-2.new.losses.items c.in_ok-cancel_each-2.ensures two in
    c.in_ok-empty_each.ensures.inside n less (one_inside n (Unregistered e) c.cancel_each-2.new.losses.items c.push.new.self.items c.in_ok-push.ensures.items less three)

pub returns-clause-lost : goal.returns-clause-lost
returns-clause-lost c = λ settings before x here ready runs st.
    let e = c.args.e in
    let own : c.start_number-s.result ≡ x.life.start = same_item (sym c.start_number-s.ensures ∙ number_there c.args.tables.now.lasts.items c.args.g x here) in
    let lists = emptied before e (lists_of x.life.start before) in
    let asked = c.cancel_each-2.new.losses.items in
    four_joined c.args.losses.now.items _ _ _ (Unregistered e ∷ lists) c.end_each.new.losses.items c.cancel_each.new.losses.items asked c.empty_each.new.losses.items
    (c.in_ok-end_each.ensures ∙ ap₂ (λ s ns. c.args.losses.now.items ++ ended s e ns) own (c.deref.ensures.value ∙ c.in_ok-tokens.ensures settings before x here st))
    (c.in_ok-cancel_each.ensures ∙ ap (λ ns. c.end_each.new.losses.items ++ cancelled e ns) (c.deref-2.ensures.value ∙ c.in_ok-takes.ensures settings before x here st))
    (c.in_ok-cancel_each-2.ensures ∙ ap (λ ns. c.cancel_each.new.losses.items ++ cancelled e ns) (c.deref-3.ensures.value ∙ c.in_ok-asks.ensures settings before x here ready st))
    (c.in_ok-empty_each.ensures.lost settings before x here ready runs st ∙ (ap (λ ws. ws ++ lists) c.in_ok-push.ensures.items ∙ append_assoc asked (Unregistered e ∷ []) lists))
