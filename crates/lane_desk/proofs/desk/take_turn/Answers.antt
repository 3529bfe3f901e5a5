use Rattle.std.proofs.Common.{◌≡◌, ℕ, not, true, false, ap, sym, ◌∙◌, subst, None}
use Rattle.lane_desk.specs.declared.desk.Turned.{Turned}
use Rattle.lane_desk.specs.Stops.{last_behind}
use Rattle.lane_desk.specs.Desks.{Became, FoundNothing, Kept, TooMany, Took}
use Rattle.lane_desk.proofs.Ends.{became_ids, became_same, emptied_at}
use Rattle.lane_desk.proofs.Turns.{acted_ids, kept_over, kept_same, kept_stray, kept_silent, kept_acted}
use Rattle.lane_desk.proofs.desk.take_turn.Goals as goal

pub returns-in_default-clause-kept : goal.returns-in_default-clause-kept
returns-in_default-clause-kept g c =
    subst (λ (t : Turned). Kept g.K.Steps.stands (TooMany g.K.Steps.stands g.K.Steps.allows g.K.Steps.passes) c.args.counts.editors c.args.counts.servers (not t.spent) c.args.last.now t.why c.args.core.now c.args.ends.now.items c.args.seats.now) (sym c.over.ensures)
    (kept_over g.K.Steps.stands (TooMany g.K.Steps.stands g.K.Steps.allows g.K.Steps.passes) c.args.counts.editors c.args.counts.servers c.args.last.now None c.args.core.now c.args.ends.now.items c.args.seats.now c.args.seats.now c.requires.kept)

pub returns-then-not-has-clause-kept : goal.returns-then-not-has-clause-kept
returns-then-not-has-clause-kept g c =
    subst (λ (t : Turned). Kept g.K.Steps.stands (TooMany g.K.Steps.stands g.K.Steps.allows g.K.Steps.passes) c.args.counts.editors c.args.counts.servers (not t.spent) c.args.last.now t.why c.args.core.now c.args.ends.now.items c.args.seats.now) (sym c.over-then-not-has.ensures)
    (kept_over g.K.Steps.stands (TooMany g.K.Steps.stands g.K.Steps.allows g.K.Steps.passes) c.args.counts.editors c.args.counts.servers c.args.last.now None c.args.core.now c.args.ends.now.items c.args.seats.now c.args.seats.now c.requires.kept)

pub returns-in_default-take_item-clause-kept : goal.returns-in_default-take_item-clause-kept
returns-in_default-take_item-clause-kept g c =
    subst (λ (t : Turned). Kept g.K.Steps.stands (TooMany g.K.Steps.stands g.K.Steps.allows g.K.Steps.passes) c.args.counts.editors c.args.counts.servers (not t.spent) c.args.last.now t.why c.args.core.now c.take_item.new.ends.items c.args.seats.now) (sym c.nothing.ensures)
    (kept_same g.K.Steps.stands (TooMany g.K.Steps.stands g.K.Steps.allows g.K.Steps.passes) c.args.counts.editors c.args.counts.servers c.args.last.now c.args.core.now c.in-Some.place c.args.ends.now.items c.take_item.new.ends.items c.args.seats.now (became_same c.in-Some.place c.args.ends.now.items c.take_item.new.ends.items c.in_default-take_item.ensures) c.requires.kept)

pub returns-in_default-take_item-clause-ids : goal.returns-in_default-take_item-clause-ids
returns-in_default-take_item-clause-ids g c = became_ids c.in-Some.place FoundNothing c.args.ends.now.items c.take_item.new.ends.items c.in_default-take_item.ensures (λ p q s. s.same.ids)

pub returns-in-Silent-clause-kept : goal.returns-in-Silent-clause-kept
returns-in-Silent-clause-kept g c =
    subst (λ (t : Turned). Kept g.K.Steps.stands (TooMany g.K.Steps.stands g.K.Steps.allows g.K.Steps.passes) c.args.counts.editors c.args.counts.servers (not t.spent) c.args.last.now t.why c.args.core.now c.take_item.new.ends.items c.mark.new.self) (sym c.on.ensures)
    (kept_silent g.K.Steps.stands (TooMany g.K.Steps.stands g.K.Steps.allows g.K.Steps.passes) c.args.counts.editors c.args.counts.servers c.args.lane c.in-Some-take_item.item (let p = c.in-Some.ensures in p.1) c.args.ends.now.items c.take_item.new.ends.items c.requires.ends
    (subst (λ (i : ℕ). Became i (Took c.in-Some-take_item.item) c.args.ends.now.items c.take_item.new.ends.items) (let p = c.in-Some.ensures in p.0) c.in-Some-take_item.ensures)
    c.args.last.now c.args.core.now c.args.seats.now c.mark.new.self (sym (let m = c.in-Silent.ensures in m.means)) (rw c.mark_of-mark.ensures at c.mark.ensures) c.requires.kept)

pub returns-in-Silent-clause-ids : goal.returns-in-Silent-clause-ids
returns-in-Silent-clause-ids g c = became_ids c.in-Some.place (Took c.in-Some-take_item.item) c.args.ends.now.items c.take_item.new.ends.items c.in-Some-take_item.ensures (λ p q t. t.ids)

pub returns-in-Stray-clause-kept : goal.returns-in-Stray-clause-kept
returns-in-Stray-clause-kept g c =
    subst (λ (t : Turned). Kept g.K.Steps.stands (TooMany g.K.Steps.stands g.K.Steps.allows g.K.Steps.passes) c.args.counts.editors c.args.counts.servers (not t.spent) c.args.last.now t.why c.args.core.now c.take_item.new.ends.items c.args.seats.now) (sym c.over-in-Stray.ensures)
    (kept_stray g.K.Steps.stands (TooMany g.K.Steps.stands g.K.Steps.allows g.K.Steps.passes) c.args.counts.editors c.args.counts.servers c.args.lane c.in-Some-take_item.item (let p = c.in-Some.ensures in p.1) c.args.ends.now.items c.take_item.new.ends.items c.requires.ends
    (subst (λ (i : ℕ). Became i (Took c.in-Some-take_item.item) c.args.ends.now.items c.take_item.new.ends.items) (let p = c.in-Some.ensures in p.0) c.in-Some-take_item.ensures)
    c.args.last.now None c.args.core.now c.args.core.now c.args.seats.now c.args.seats.now (λ e. absurd cc) (λ history h. h) c.requires.kept)

pub returns-in-Stray-clause-ids : goal.returns-in-Stray-clause-ids
returns-in-Stray-clause-ids g c = became_ids c.in-Some.place (Took c.in-Some-take_item.item) c.args.ends.now.items c.take_item.new.ends.items c.in-Some-take_item.ensures (λ p q t. t.ids)

pub returns-then-turned-clause-kept : goal.returns-then-turned-clause-kept
returns-then-turned-clause-kept g c =
    kept_acted g.K.Steps.stands (TooMany g.K.Steps.stands g.K.Steps.allows g.K.Steps.passes) c.args.counts.editors c.args.counts.servers c.args.lane c.in-Some-take_item.item (let p = c.in-Some.ensures in p.1) c.args.ends.now.items c.take_item.new.ends.items c.requires.ends
    (subst (λ (i : ℕ). Became i (Took c.in-Some-take_item.item) c.args.ends.now.items c.take_item.new.ends.items) (let p = c.in-Some.ensures in p.0) c.in-Some-take_item.ensures)
    c.in-Means.cause (not c.act-turned.result.spent) c.args.last.now c.last_behind-is_last.result c.act-turned.result.why c.args.core.now c.act-turned.new.core c.act-turned.new.ends.items c.args.seats.now c.act-turned.new.seats (sym (let m = c.in-Means.ensures in m.means))
    (λ e. (sym c.act-turned.ensures.goes ∙ c.if-turned.true, ap (λ k. last_behind c.args.counts.editors c.args.seats.now c.args.lane k c.args.last.now) (sym c.kind_of.ensures) ∙ sym c.last_behind-is_last.ensures ∙ e)) (rw c.mark_of-mark.ensures at c.act-turned.ensures.acted) c.requires.kept

pub returns-then-turned-clause-ids : goal.returns-then-turned-clause-ids
returns-then-turned-clause-ids g c =
    acted_ids g.K.Steps.stands (TooMany g.K.Steps.stands g.K.Steps.allows g.K.Steps.passes) c.args.counts.editors c.args.counts.servers c.args.lane c.mark_of-mark.result c.in-Means.cause (not c.act-turned.result.spent) c.act-turned.result.why c.args.core.now c.act-turned.new.core c.take_item.new.ends.items c.act-turned.new.ends.items c.args.seats.now c.act-turned.new.seats c.act-turned.ensures.acted
    ∙ became_ids c.in-Some.place (Took c.in-Some-take_item.item) c.args.ends.now.items c.take_item.new.ends.items c.in-Some-take_item.ensures (λ p q t. t.ids)

pub returns-else-turned-clause-kept : goal.returns-else-turned-clause-kept
returns-else-turned-clause-kept g c =
    kept_acted g.K.Steps.stands (TooMany g.K.Steps.stands g.K.Steps.allows g.K.Steps.passes) c.args.counts.editors c.args.counts.servers c.args.lane c.in-Some-take_item.item (let p = c.in-Some.ensures in p.1) c.args.ends.now.items c.take_item.new.ends.items c.requires.ends
    (subst (λ (i : ℕ). Became i (Took c.in-Some-take_item.item) c.args.ends.now.items c.take_item.new.ends.items) (let p = c.in-Some.ensures in p.0) c.in-Some-take_item.ensures)
    c.in-Means.cause (not c.act-turned.result.spent) c.args.last.now c.act-turned.result.took c.act-turned.result.why c.args.core.now c.act-turned.new.core c.act-turned.new.ends.items c.args.seats.now c.act-turned.new.seats (sym (let m = c.in-Means.ensures in m.means))
    (λ e. let f : true ≡ false = sym e ∙ c.if-turned.false in absurd cc) (rw c.mark_of-mark.ensures at c.act-turned.ensures.acted) c.requires.kept

pub returns-else-turned-clause-ids : goal.returns-else-turned-clause-ids
returns-else-turned-clause-ids g c =
    acted_ids g.K.Steps.stands (TooMany g.K.Steps.stands g.K.Steps.allows g.K.Steps.passes) c.args.counts.editors c.args.counts.servers c.args.lane c.mark_of-mark.result c.in-Means.cause (not c.act-turned.result.spent) c.act-turned.result.why c.args.core.now c.act-turned.new.core c.take_item.new.ends.items c.act-turned.new.ends.items c.args.seats.now c.act-turned.new.seats c.act-turned.ensures.acted
    ∙ became_ids c.in-Some.place (Took c.in-Some-take_item.item) c.args.ends.now.items c.take_item.new.ends.items c.in-Some-take_item.ensures (λ p q t. t.ids)

pub returns-in_default-take_item-clause-nothing : goal.returns-in_default-take_item-clause-nothing
returns-in_default-take_item-clause-nothing g c = λ took spent x at. emptied_at c.in-Some.place _ c.args.ends.now.items c.take_item.new.ends.items x c.in_default-take_item.ensures (let p = c.in-Some.ensures in p.0) at
