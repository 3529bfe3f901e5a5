use Rattle.std.proofs.Common.{Some, None, sym, ◌∙◌, ap, subst, find, option_map}
use Rattle.json_nodes.specs.At.{At}
use Rattle.json_nodes.specs.Doc.{Doc}
use Rattle.document_table.specs.document_model.specs.Notices.{did_change}
use Rattle.document_table.specs.document_model.specs.Opens.{is_open_at}
use Rattle.document_table.specs.Shown.{shown}
use Rattle.focus_switch.specs.Documents.{Documents}
use Rattle.focus_switch.specs.Noted.{FoundChange}
use Rattle.focus_switch.proofs.Changing.{seen, opened, old_found, nothing_changed, something_changed}
use Rattle.focus_switch.proofs.shared.Shared.change.Goals as goal

pub returns-in_default-2 : goal.returns-in_default-2
returns-in_default-2 g c = λ t a.
    let bytes = g.T.Text.bytes in
    let s = c.args.self.now in
    let stands : At c.tape-tape.result.now 0 t = subst (λ (d : Doc). At d 0 t) (sym c.tape-tape.ensures) a in
    let f = seen c.tape-tape.result.now (did_change t) c.in-Some.change (subst (λ z. FoundChange c.tape-tape.result.now (did_change t) z) c.in-Some.is (c.in_ok-change.ensures.shape t stands)) in
    let there = c.in-Some-find.ensures ∙ ap (λ (z : Documents). find (is_open_at c.args.e c.bytes.result.now) z.opens) c.self.view_is in
    nothing_changed c.args.e c.args.message.now.doc.bytes t s f.0 c.new-in_default-2.result f.1
    (opened c.args.e c.args.message.now.doc.bytes t s f.0 c.bytes.result.now (c.bytes.ensures ∙ f.2.0) (shown bytes c.in-Some-find.opening.now) there None
    (sym (ap (λ o. option_map (shown bytes) o) c.in_default-2.is) ∙ c.in_ok-changed.ensures f.0 f.2)) c.new-in_default-2.ensures

pub returns : goal.returns
returns g c = λ t a.
    let bytes = g.T.Text.bytes in
    let s = c.args.self.now in
    let stands : At c.tape-tape.result.now 0 t = subst (λ (d : Doc). At d 0 t) (sym c.tape-tape.ensures) a in
    let f = seen c.tape-tape.result.now (did_change t) c.in-Some.change (subst (λ z. FoundChange c.tape-tape.result.now (did_change t) z) c.in-Some.is (c.in_ok-change.ensures.shape t stands)) in
    let there = c.in-Some-find.ensures ∙ ap (λ (z : Documents). find (is_open_at c.args.e c.bytes.result.now) z.opens) c.self.view_is in
    let old = shown bytes c.in-Some-find.opening.now in
    let new = shown bytes c.in-Some-2.changed in
    let made = sym (ap (λ o. option_map (shown bytes) o) c.in-Some-2.is) ∙ c.in_ok-changed.ensures f.0 f.2 in
    let same = c.bytes.ensures ∙ f.2.0 in
    let found = old_found c.args.e c.args.message.now.doc.bytes t s f.0 c.bytes.result.now same old there new made in
    something_changed c.args.e c.args.message.now.doc.bytes t s f.0 new c.in_ok-telling.telling c.as_bytes.result.now c.in_ok-outs.outs c.tell.new.self c.touch.new.self f.1
    (opened c.args.e c.args.message.now.doc.bytes t s f.0 c.bytes.result.now same old there (Some new) made)
    (rw c.tape-tape.ensures at (c.in_ok-telling.ensures t stands found)) c.as_bytes.ensures.value c.in_ok-outs.ensures c.in_ok-touch.ensures
