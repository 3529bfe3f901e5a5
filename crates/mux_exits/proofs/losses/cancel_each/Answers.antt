-- Requests are cancelled.
use Rattle.std.proofs.Common.{[], ◌∷◌, ◌++◌, append-nil, ap, sym, ◌∙◌}
use Rattle.group_rows.specs.Leaves.{cancel_text}
use Rattle.mux_exits.specs.declared.losses.Loss.TheVariants.{Told}
use Rattle.mux_exits.proofs.Gathering.{map_next, map_whole}
use Rattle.mux_exits.proofs.losses.cancel_each.Goals as goal

pub loop-n-init : goal.loop-n-init
loop-n-init c = sym (append-nil c.args.losses.now.items)

pub loop-n-preserved : goal.loop-n-preserved
loop-n-preserved c =
    let e = c.args.e in
    let xs = c.loop-n.losses.items in
    map_next (λ n. Told e (cancel_text n)) c.args.numbers.now c.loop-n.n-index 0 c.args.losses.now.items xs c.push.new.self.items c.loop-n-test.true c.loop-n.invariant
    (c.in_ok-push.ensures.items ∙ ap (λ w. xs ++ Told e w ∷ []) c.in_ok-text.ensures)

pub returns : goal.returns
returns c = map_whole (λ n. Told c.args.e (cancel_text n)) c.args.numbers.now c.loop-n.n-index c.args.losses.now.items c.loop-n.losses.items c.loop-n-test.false c.loop-n.invariant
