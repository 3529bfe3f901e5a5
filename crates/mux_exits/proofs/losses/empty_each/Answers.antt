-- Lists are to be empty.
use Rattle.std.proofs.Common.{◌≤◌, append-nil, subst, sym}
use Rattle.group_rows.specs.Lists.{lists_of}
use Rattle.mux_exits.proofs.Gathering.{emptied_next, emptied_whole}
use Rattle.mux_exits.proofs.losses.empty_each.Goals as goal

pub loop-n-init : goal.loop-n-init
loop-n-init c = record {
  inside = λ n less h. h;
  lost = λ settings before x here ready runs st. sym (append-nil c.args.losses.now.items);
}

pub loop-n-preserved : goal.loop-n-preserved
loop-n-preserved c = record {
  inside = λ n less h. c.in_ok-empty_at.ensures.inside n less (c.loop-n.invariant.inside n less h);
  lost = λ settings before x here ready runs st. emptied_next before c.args.e (lists_of x.life.start before) c.loop-n.n c.args.losses.now.items c.loop-n.losses.items c.empty_at.new.losses.items
      (c.loop-n.invariant.lost settings before x here ready runs st) (c.in_ok-empty_at.ensures.lost settings before x here ready runs st);
}

pub returns-clause-inside : goal.returns-clause-inside
returns-clause-inside c = λ n less h. c.loop-n.invariant.inside n less h

pub returns-clause-lost : goal.returns-clause-lost
returns-clause-lost c = λ settings before x here ready runs st.
    let past = subst (λ n. n ≤ c.loop-n.n) (c.list_count-n-end.ensures settings before x here ready st) c.loop-n-test.false in
    emptied_whole before c.args.e (lists_of x.life.start before) c.loop-n.n c.args.losses.now.items c.loop-n.losses.items past (c.loop-n.invariant.lost settings before x here ready runs st)
