use Rattle.std.proofs.Common.{◌≡◌, ◌++◌, not}
use Rattle.std.specs.Prelude.{filter}
use Rattle.registrations.specs.declared.registration.Registration.{Registration}
use Rattle.registrations.specs.Names.{stands_under}
use Rattle.registrations.proofs.live.Live.take.Given as goal

abbrev pub invariant-loop-item : goal.invariant-loop-item
invariant-loop-item l =
    (l.gone.items ++ filter (λ (r : Registration). stands_under l.names r.name) l.item-iterator.rest.items ≡ filter (λ (r : Registration). stands_under l.names r.name) l.fn.self)
    × (l.left.items ++ filter (λ (r : Registration). not (stands_under l.names r.name)) l.item-iterator.rest.items ≡ filter (λ (r : Registration). not (stands_under l.names r.name)) l.fn.self)
