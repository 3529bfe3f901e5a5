-- One on which the start doesn't agree.
use Rattle.std.proofs.Common.{◌≡◌, Bool, List, ap, false, ℕ, sym, ◌∙◌}
use Rattle.std.proofs.lemmas.List.Folds.{list_all-map, list_all_at}
use Rattle.focus_switch.specs.Rows.{agreement, is_agreed}
use Rattle.focus_switch.proofs.shared.Shared.agrees_on_each.Goals as goal

pub returns-then-not-is_agreed : goal.returns-then-not-is_agreed
returns-then-not-is_agreed g c =
    let agrees : List ℕ → Bool = λ u. is_agreed (agreement c.args.e u c.args.self.now) in
    let differs : agrees c.uri-item.result.bytes.items ≡ false = ap agrees (sym c.as_bytes.ensures.value) ∙ (ap is_agreed (sym c.agrees.ensures) ∙ (sym c.is_agreed.ensures ∙ c.if-not-is_agreed.true)) in
    sym (list_all-map agrees (λ t. t.bytes.items) c.args.uris.now ∙ list_all_at (λ t. agrees t.bytes.items) c.args.uris.now c.loop-uri.uri-index c.uri-item.result c.loop-uri-test.true (ap (λ t. agrees t.bytes.items) (sym c.uri-item.is) ∙ differs))
