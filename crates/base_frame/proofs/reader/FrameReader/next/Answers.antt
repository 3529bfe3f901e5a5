use Rattle.std.proofs.Common.{rules, sym, subst}
use Rattle.base_frame.specs.Reader.{Held, Stands}
use Rattle.base_frame.proofs.Readers.{next_bad, next_short, next_whole, found_at}
use Rattle.base_frame.proofs.reader.FrameReader.next.Goals as goal

pub returns-in-Fault-clause-gives : goal.returns-in-Fault-clause-gives
returns-in-Fault-clause-gives c = λ fed given h.
    next_bad c.self.inside.limit c.self.inside.ready.items c.pop_front.new.self.items c.self.inside.rest.items fed given c.in-Fault.at c.in-Fault.why c.in_default.ensures.items (search rules) c.in-Fault.ensures
    (subst (λ (r : Held). Stands r fed given) (sym c.self.view_is) h)

pub returns-in-Fault-clause-bad : goal.returns-in-Fault-clause-bad
returns-in-Fault-clause-bad c = λ u. found_at c.self.inside.limit c.self.inside.rest.items c.in-Fault.at c.in-Fault.why c.in-Fault.ensures

pub returns-in-Short-clause-gives : goal.returns-in-Short-clause-gives
returns-in-Short-clause-gives c = λ fed given h.
    next_short c.self.inside.limit c.self.inside.ready.items c.pop_front.new.self.items c.self.inside.rest.items fed given c.in_default.ensures.items (search rules) c.in-Short.ensures
    (subst (λ (r : Held). Stands r fed given) (sym c.self.view_is) h)

pub returns-in-Whole-clause-gives : goal.returns-in-Whole-clause-gives
returns-in-Whole-clause-gives c = λ fed given h.
    absurd (next_whole c.self.inside.limit c.self.inside.ready.items c.self.inside.rest.items fed given c.in-Whole.field-0.now c.in-Whole.field-1.now c.in-Whole.ensures
    (subst (λ (r : Held). Stands r fed given) (sym c.self.view_is) h))
