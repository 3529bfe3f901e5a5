use Rattle.std.proofs.Common.{length, arith}
use Rattle.std.specs.Str.{chars}
use Rattle.std.proofs.lemmas.Iterator.{YieldsList-from_chars}
use Rattle.std.proofs.lemmas.Iterator.Consumers.{YieldsList-turn, YieldsList-end}
use Rattle.std.proofs.lemmas.List.{length_push}
use Rattle.position_codec.proofs.Advancing.{behind_on, behind_all}
use Rattle.position_codec.proofs.spot.Spot.behind.Goals as goal

pub loop-c-preserved : goal.loop-c-preserved
loop-c-preserved c =
    let t = YieldsList-turn (YieldsList-from_chars c.args.text.now c.utf8.text cc) c.loop-c.yielded _ c.loop-c.yielded_by _ _ c.in-Some.c c.in-Some.is c.next.ensures.steps in
    behind_on c.args.encoding c.args.self (chars c.args.text.now) (length c.loop-c.yielded) _ c.in-Some.c c.loop-c.spot c.in_ok-spot.spot c.loop-c.invariant t (length_push c.loop-c.yielded c.in-Some.c) c.in_ok-spot.ensures.some

pub returns : goal.returns
returns c =
    let t = YieldsList-end (YieldsList-from_chars c.args.text.now c.utf8.text cc) c.loop-c.yielded _ c.loop-c.yielded_by _ _ c.in-None.is c.next.ensures.steps in
    record { some = behind_all c.args.encoding c.args.self (chars c.args.text.now) (length c.loop-c.yielded) c.loop-c.spot c.loop-c.invariant (omega (arith, t.1)) }
