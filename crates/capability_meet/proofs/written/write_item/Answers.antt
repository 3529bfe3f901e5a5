use Rattle.capability_meet.specs.OnePass.{items_met}
use Rattle.capability_meet.specs.Order.{is_among}
use Rattle.std.proofs.Common.{refl}
use Rattle.capability_meet.specs.Compact.{compact}
use Rattle.capability_meet.proofs.Meets.{item_dropped, item_kept}
use Rattle.capability_meet.proofs.written.write_item.Goals as goal

pub returns-then-not-has : goal.returns-then-not-has
returns-then-not-has c = λ r u rest ks a b.
    item_dropped c.args.out.now.items (compact c.args.left.bytes.now u) (items_met c.args.left.bytes.now rest ks) c.args.started c.has.result (is_among u ks) (c.has.ensures u r ks a b) c.if-not-has.true

pub returns : goal.returns
returns c = λ r u rest ks a b.
    item_kept c.args.out.now.items c.write_comma.new.out.items c.write_compact.new.out.items (compact c.args.left.bytes.now u) (compact c.args.left.bytes.now u) (items_met c.args.left.bytes.now rest ks) c.args.started c.has.result (is_among u ks) (c.has.ensures u r ks a b) c.if-not-has.false
    c.in_ok-write_comma.ensures (c.in_ok-write_compact.ensures u a) refl
