-- Requests fail.
use Rattle.std.proofs.Common.{[], ◌∷◌, ◌++◌, append-nil, ap, sym, ◌∙◌}
use Rattle.mux_exits.specs.declared.losses.Loss.TheVariants.{Refused}
use Rattle.mux_exits.proofs.Gathering.{map_next, map_whole}
use Rattle.mux_exits.proofs.losses.refuse_each.Goals as goal

pub loop-id-init : goal.loop-id-init
loop-id-init c = sym (append-nil c.args.losses.now.items)

pub loop-id-preserved : goal.loop-id-preserved
loop-id-preserved c =
    let e = c.args.e in
    let xs = c.loop-id.losses.items in
    map_next (λ id. Refused e id) c.args.ids.now c.loop-id.id-index c.id-item.result c.args.losses.now.items xs c.push.new.self.items c.loop-id-test.true c.loop-id.invariant
    (c.in_ok-push.ensures.items ∙ ap (λ w. xs ++ Refused e w ∷ []) (c.in_ok-own.ensures ∙ c.id-item.is))

pub returns : goal.returns
returns c = map_whole (λ id. Refused c.args.e id) c.args.ids.now c.loop-id.id-index c.args.losses.now.items c.loop-id.losses.items c.loop-id-test.false c.loop-id.invariant
