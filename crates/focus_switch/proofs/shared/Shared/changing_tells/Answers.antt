use Rattle.std.proofs.Common.{◌∙◌, sym, ap, option_map}
use Rattle.document_table.specs.document_model.specs.Opens.{holder}
use Rattle.document_table.specs.Shown.{shown}
use Rattle.focus_switch.specs.Documents.{Documents, version_held}
use Rattle.focus_switch.proofs.Changing.{change_told}
use Rattle.focus_switch.proofs.shared.Shared.changing_tells.Goals as goal

pub returns : goal.returns
returns g c = λ t a there.
    let bytes = g.T.Text.bytes in
    let s = c.args.self.now in
    let held = c.in-Some.ensures ∙ ap (λ u. version_held u c.self.inside.helds) c.as_bytes.ensures.value ∙ ap (λ (z : Documents). version_held (shown bytes c.args.new.now).uri z.helds) c.self.view_is in
    let is = c.holder-holder.ensures ∙ ap (λ u. holder u c.self.inside.opens) c.as_bytes-2.ensures.value ∙ ap (λ (z : Documents). holder (shown bytes c.args.new.now).uri z.opens) c.self.view_is in
    change_told (shown bytes c.args.new.now) (shown bytes c.args.old.now) c.args.tape.now.bytes t s c.in-Some.version (option_map (λ o. shown bytes o.now) c.holder-holder.result) held is c.in_ok-telling.telling
    (sym c.is_alike.ensures ∙ c.if-is_alike.false) there (c.in_ok-telling.ensures t a)
