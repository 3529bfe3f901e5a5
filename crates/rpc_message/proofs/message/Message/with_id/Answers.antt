use Rattle.std.proofs.Common.{◌≡◌, List, sym, ◌∙◌, ap, subst, IfOk}
use Rattle.json_text.specs.declared.change.Change.{Change}
use Rattle.json_text.specs.Changes.{edits_of}
use Rattle.json_text.specs.Replace.{Rise}
use Rattle.rpc_message.specs.Changed.{changed_text, id_edits}
use Rattle.rpc_message.proofs.Alone.{alone_text, id_alone}
use Rattle.rpc_message.proofs.message.Message.with_id.Goals as goal

pub with_changes-requires : goal.with_changes-requires
with_changes-requires c = subst (λ (z : List Change). Rise c.args.self.now.doc.bytes (id_edits c.args.self.now.doc.bytes c.args.id.now (edits_of z))) (sym c.new.ensures.items) (id_alone c.args.self.now.doc.bytes c.args.id.now)

pub returns : goal.returns
returns c = λ bytes r. subst (λ z. IfOk c.with_changes.result (λ body. body ≡ z)) (ap (λ (z : List Change). changed_text bytes c.args.id.now (edits_of z)) c.new.ensures.items ∙ alone_text bytes c.args.id.now) (c.with_changes.ensures bytes r)
