use Rattle.std.proofs.Common.{◌≡◌, ◌∙◌, IfOk, ap, ap₂, sym, subst}
use Rattle.json_text.specs.Changes.{edits_of}
use Rattle.json_text.specs.Replace.{Rise, replace}
use Rattle.rpc_message.specs.Changed.{id_edits}
use Rattle.rpc_message.specs.Parsed.{Parsed, IsRead}
use Rattle.rpc_message.proofs.Changed.{made_edits}
use Rattle.rpc_message.proofs.message.Message.with_changes.Goals as goal

pub splice-requires : goal.splice-requires
splice-requires c =
    let read : IsRead c.args.self.now c.args.self.now.doc.bytes = subst (λ (p : Parsed). IsRead p p.doc.bytes) c.self.view_is c.self.invariant in
    let edits : edits_of c.deref.result.now ≡ id_edits c.args.self.now.doc.bytes c.args.id.now (edits_of c.args.changes.items)
    = made_edits c.args.self.now.doc.bytes c.args.id.now (edits_of c.args.changes.items) (edits_of c.deref.result.now) c.id.result (c.id.ensures c.args.self.now.doc.bytes read) (ap edits_of c.deref.ensures.value ∙ c.in_ok-changes.ensures) in
    subst (λ b. Rise b (edits_of c.deref.result.now)) (sym (c.bytes.ensures ∙ ap (λ (p : Parsed). p.doc.bytes) c.self.view_is)) (subst (Rise c.args.self.now.doc.bytes) (sym edits) c.requires)

pub returns : goal.returns
returns c = λ bytes r.
    let edits : edits_of c.deref.result.now ≡ id_edits bytes c.args.id.now (edits_of c.args.changes.items)
    = made_edits bytes c.args.id.now (edits_of c.args.changes.items) (edits_of c.deref.result.now) c.id.result (c.id.ensures bytes r) (ap edits_of c.deref.ensures.value ∙ c.in_ok-changes.ensures) in
    subst (λ z. IfOk c.splice.result (λ body. body ≡ z)) (ap₂ replace (c.bytes.ensures ∙ ap (λ (p : Parsed). p.doc.bytes) c.self.view_is ∙ r.bytes_are) edits) c.splice.ensures
