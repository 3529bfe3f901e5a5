use Rattle.std.proofs.Common.{◌≡◌, ◌∙◌, sym, true, rules}
use Rattle.std.specs.Ordering.{nat_cmp}
use Rattle.std.specs.BTreeMap.{is_at}
use Rattle.progress_route.proofs.Telling.{set_absent}
use Rattle.progress_route.proofs.editor.note.Goals as goal

pub returns-in_default : goal.returns-in_default
returns-in_default c =
    let e : c.get_mut.follows.lender-at-none.entries ≡ c.args.accepted.now.entries = search rules in
    e ∙ set_absent (is_at (nat_cmp c.args.token)) c.args.accepted.now.entries true (sym c.in_default.ensures.value)
