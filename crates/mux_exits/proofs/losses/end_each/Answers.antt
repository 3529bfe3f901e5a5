-- Tokens end.
use Rattle.std.proofs.Common.{[], ◌∷◌, ◌++◌, append-nil, ap, sym, ◌∙◌}
use Rattle.group_rows.specs.Created.{created_text}
use Rattle.group_rows.specs.ExitRows.{end_text}
use Rattle.mux_exits.specs.declared.losses.Loss.TheVariants.{Told}
use Rattle.mux_exits.proofs.Gathering.{map_next, map_whole}
use Rattle.mux_exits.proofs.losses.end_each.Goals as goal

pub loop-k-init : goal.loop-k-init
loop-k-init c = sym (append-nil c.args.losses.now.items)

pub loop-k-preserved : goal.loop-k-preserved
loop-k-preserved c =
    let e = c.args.e in
    let xs = c.loop-k.losses.items in
    map_next (λ k. Told e (end_text (created_text c.args.s k))) c.args.tokens.now c.loop-k.k-index 0 c.args.losses.now.items xs c.push.new.self.items c.loop-k-test.true c.loop-k.invariant
    (c.in_ok-push.ensures.items ∙ ap (λ w. xs ++ Told e w ∷ []) c.in_ok-text.ensures)

pub returns : goal.returns
returns c = map_whole (λ k. Told c.args.e (end_text (created_text c.args.s k))) c.args.tokens.now c.loop-k.k-index c.args.losses.now.items c.loop-k.losses.items c.loop-k-test.false c.loop-k.invariant
