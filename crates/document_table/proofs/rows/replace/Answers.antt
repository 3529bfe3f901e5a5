use Rattle.std.proofs.Common.{◌∙◌, ap, sym}
use Rattle.std.specs.Prelude.{option_map}
use Rattle.std.specs.Ordering.{nat_cmp}
use Rattle.std.specs.BTreeMap.{is_at}
use Rattle.document_table.specs.Shown.{shown, all_numbered}
use Rattle.document_table.proofs.Mapping.{looked_up, set_shown, set_none}
use Rattle.document_table.proofs.rows.replace.Goals as goal

pub returns-in-Some : goal.returns-in-Some
returns-in-Some g c = ap (all_numbered g.T.Text.bytes) (c.get_mut.follows.holds c.args.opening).0 ∙ set_shown g.T.Text.bytes (is_at (nat_cmp c.args.number)) c.args.rows.now.entries c.args.opening

pub returns-in_default : goal.returns-in_default
returns-in_default g c = ap (λ m. all_numbered g.T.Text.bytes m.entries) c.get_mut.follows.holds-at-none
    ∙ set_none g.T.Text.bytes (is_at (nat_cmp c.args.number)) (all_numbered g.T.Text.bytes c.args.rows.now.entries) (shown g.T.Text.bytes c.args.opening)
    (sym (looked_up g.T.Text.bytes (is_at (nat_cmp c.args.number)) c.args.rows.now.entries) ∙ ap (option_map (shown g.T.Text.bytes)) (sym c.in_default.ensures.value))
