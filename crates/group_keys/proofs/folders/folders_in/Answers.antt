use Rattle.std.proofs.Common.{Some}
use Rattle.group_keys.proofs.Gathering.{gathering_ends, gathering_on}
use Rattle.group_keys.proofs.folders.folders_in.Goals as goal

pub loop-next-preserved : goal.loop-next-preserved
loop-next-preserved c = gathering_on c.args.tape.now c.args.list c.loop-next.folders.items c.add_folder.new.folders.items c.loop-next.next c.next_value-next.result c.in-Some.folder c.loop-next.invariant c.in-Some.is
    c.next_value-next.ensures.rest c.next_value-next.ensures.inside (λ t a. c.in_ok-add_folder.ensures.adds (Some t) a) (λ t a. c.in_ok-add_folder.ensures.texts (Some t) a)

pub returns-clause-items : goal.returns-clause-items
returns-clause-items c = λ o f. gathering_ends c.args.tape.now c.args.list c.loop-next.folders.items c.loop-next.next c.loop-next.invariant c.in_default.is o f

pub returns-clause-texts : goal.returns-clause-texts
returns-clause-texts c = λ o f. c.loop-next.invariant.texts o f
