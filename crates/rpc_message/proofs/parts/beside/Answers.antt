use Rattle.std.proofs.Common.{◌∙◌, ap}
use Rattle.json_text.specs.Changes.{edits_of}
use Rattle.rpc_message.specs.Changed.{is_in_front}
use Rattle.rpc_message.proofs.Changed.{goes_first, goes_last}
use Rattle.rpc_message.proofs.parts.beside.Goals as goal
use Rattle.rpc_message.proofs.parts.beside.Goals.{then-is_in_front+in_ok-insert, else-is_in_front+in_ok-push}

pub returns : goal.returns
returns c = elim c.if-is_in_front.branch [
  | then-is_in_front+in_ok-insert w ↦ goes_first c.args.changes.items c.if-is_in_front.changes.items c.args.change c.is_in_front.result (c.is_in_front.ensures ∙ ap (λ cs. is_in_front c.args.change.span (edits_of cs)) c.deref.ensures.value) w.if-is_in_front.true (ap (λ v. v.items) w.changes-is ∙ w.in_ok-insert.ensures.items)
  | else-is_in_front+in_ok-push w ↦ goes_last c.args.changes.items c.if-is_in_front.changes.items c.args.change c.is_in_front.result (c.is_in_front.ensures ∙ ap (λ cs. is_in_front c.args.change.span (edits_of cs)) c.deref.ensures.value) w.if-is_in_front.false (ap (λ v. v.items) w.changes-is ∙ w.in_ok-push.ensures.items)
]
