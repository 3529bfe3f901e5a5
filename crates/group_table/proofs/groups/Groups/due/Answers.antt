use Rattle.std.proofs.Common.{refl, sym, ap, ◌∙◌}
use Rattle.group_words.specs.Placing.{is_due}
use Rattle.number_table.specs.Numbers.{numbers_in}
use Rattle.group_table.specs.Tables.{Table}
use Rattle.group_table.proofs.Walks.{numbers_all}
use Rattle.group_table.proofs.groups.Groups.due.Goals as goal

pub returns : goal.returns
returns c = c.in_ok-due.ensures ∙ (ap (λ n. numbers_in (is_due n c.args.now) c.as_slice.result.now) (ap (λ (t : Table). t.idle) c.self.view_is)
    ∙ (ap (numbers_in (is_due c.args.self.now.idle c.args.now)) c.as_slice.ensures.value ∙ sym (numbers_all (is_due c.args.self.now.idle c.args.now) refl c.self.inside.count c.self.inside.live.items c.args.self.now.groups (ap (λ (t : Table). t.groups) c.self.view_is) c.self.invariant.0)))
