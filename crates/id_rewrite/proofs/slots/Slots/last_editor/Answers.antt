use Rattle.std.proofs.Common.{◌∙◌, ◌+◌, ◌-◌, ◌≡◌, sym, ap, subst, arith}
use Rattle.id_rewrite.specs.Slots.{Open}
use Rattle.id_rewrite.specs.Tables.{last_editor}
use Rattle.id_rewrite.proofs.Slotting.{LastWithin, last_before, last_here}
use Rattle.id_rewrite.proofs.slots.Slots.last_editor.Goals as goal

pub returns-in-Some : goal.returns-in-Some
returns-in-Some c =
    let i = c.loop-end.invariant in
    let test = c.loop-end-test.true in
    let back : c.loop-end.end ≡ c.loop-end.end - 1 + 1 = omega arith in
    last_here c.args.among.now c.self.inside.slots.items (c.loop-end.end - 1) c.index.result.now c.in-Some.editor (subst (LastWithin c.args.among.now c.self.inside.slots.items) back i.1) (omega (arith, i.0)) c.index.ensures (sym c.listed.ensures ∙ c.in-Some.is)
    ∙ ap (λ (o : Open). last_editor c.args.among.now o.requests) c.self.view_is

pub loop-end-preserved : goal.loop-end-preserved
loop-end-preserved c =
    let i = c.loop-end.invariant in
    let test = c.loop-end-test.true in
    let back : c.loop-end.end ≡ c.loop-end.end - 1 + 1 = omega arith in
    (omega (arith, i.0), last_before c.args.among.now c.self.inside.slots.items (c.loop-end.end - 1) c.index.result.now (subst (LastWithin c.args.among.now c.self.inside.slots.items) back i.1) (omega (arith, i.0)) c.index.ensures (sym c.listed.ensures ∙ c.in_default.is))
