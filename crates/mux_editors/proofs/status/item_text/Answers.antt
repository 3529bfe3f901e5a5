-- What is told of a group.
use Rattle.std.proofs.Common.{rules, ◌∙◌}
use Rattle.mux_editors.proofs.Telling.{item_written}
use Rattle.mux_editors.proofs.status.item_text.Goals as goal

pub returns : goal.returns
returns c = c.new.ensures ∙ item_written (record { group = c.args.group; server = c.args.name.now; start = c.args.start; stage = c.args.stage; editors = c.args.editors.now; asked = c.args.asked })
    c.bytes.result.now c.bytes-2.result.now c.bytes-3.result.now c.bytes-4.result.now c.bytes-5.result.now
    c.add.new.text.items c.add-2.new.text.items c.add-3.new.text.items c.extend_from_slice.new.self.items c.add_state.new.text.items c.add-4.new.text.items c.add-5.new.text.items c.push.new.self.items
    (c.bytes.ensures ∙ c.in_ok-group.ensures) (c.bytes-2.ensures ∙ c.in_ok-name.ensures) (c.bytes-3.ensures ∙ c.in_ok-start.ensures) (c.bytes-4.ensures ∙ c.in_ok-editors.ensures) (c.bytes-5.ensures ∙ c.in_ok-asked.ensures)
    (search rules) c.in_ok-add-2.ensures c.in_ok-add-3.ensures (search rules) c.in_ok-add_state.ensures c.in_ok-add-4.ensures c.in_ok-add-5.ensures c.in_ok-push.ensures.items
