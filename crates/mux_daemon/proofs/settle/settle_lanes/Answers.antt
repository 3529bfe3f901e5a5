use Rattle.std.proofs.Common.{rules, ◌≡◌, true, arith}
use Rattle.mux_daemon.proofs.Settling.{all_settled}
use Rattle.mux_daemon.proofs.settle.settle_lanes.Goals as goal
use Rattle.mux_daemon.proofs.settle.settle_lanes.Goals.{then-clock, else-clock, then-berths, else-berths, then-own, else-own}

pub returns-clause-settled : goal.returns-clause-settled
returns-clause-settled g c =
    let n = c.requires.count in
    let e1 = c.settle_last-clock.ensures in
    let e2 = c.settle_jobs-berths.ensures in
    let e3 = c.settle_last-own.ensures in
    let e4 = c.settle_jobs-ports.ensures in
    let l1 = e1.left (omega (arith, n)) in
    let l2 = e2.left in
    let l3 = e3.left (omega (arith, n, l1, l2)) in
    let all : c.if-own.result ≡ true → (c.settle_last-clock.result ≡ true) × (c.settle_jobs-berths.result ≡ true) × (c.settle_last-own.result ≡ true) × (c.settle_jobs-ports.result ≡ true) = search rules in
    all_settled c.args.lanes.now c.args.hubs.items c.settle_last-clock.new.hubs.items c.settle_jobs-berths.new.hubs.items c.settle_last-own.new.hubs.items c.settle_last-clock.result c.settle_jobs-berths.result c.settle_last-own.result c.settle_jobs-ports.result c.requires
    e1.settled l1 e1.front e2.settled l2 e2.front e3.settled l3 e3.front e4.settled c.if-own.result all
