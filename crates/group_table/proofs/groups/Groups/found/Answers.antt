use Rattle.std.proofs.Common.{refl, sym}
use Rattle.group_words.specs.Placing.{founded}
use Rattle.group_table.proofs.Places.{founded_order, length_is, one_founded, summed}
use Rattle.group_table.proofs.groups.Groups.found.Goals as goal

pub invariant_of-self-2 : goal.invariant_of-self-2
invariant_of-self-2 c =
    let order = founded_order c.self.inside.limit c.self.inside.idle c.self.inside.count c.self.inside.live.items c.args.self.now c.self.view_is c.self.invariant.0 (founded c.args.key c.args.declared) _ c.in_ok-push.ensures.items c.self.invariant.1 refl c.in_ok-next.next (summed c.checked_add.result _ _ _ c.checked_add.ensures c.in_ok-next.ensures.ok_part) in
    (order.0, order.1, c.self.invariant.2)

pub returns-clause-ok : goal.returns-clause-ok
returns-clause-ok c = one_founded c.self.inside.limit c.self.inside.idle c.self.inside.count c.self.inside.live.items c.args.self.now c.self.view_is c.self.invariant.0 (founded c.args.key c.args.declared) _ c.in_ok-push.ensures.items c.in_ok-next.next (summed c.checked_add.result _ _ _ c.checked_add.ensures c.in_ok-next.ensures.ok_part)

pub returns-clause-number : goal.returns-clause-number
returns-clause-number c = sym (length_is c.self.inside.limit c.self.inside.idle c.self.inside.count c.self.inside.live.items c.args.self.now c.self.view_is c.self.invariant.0)
