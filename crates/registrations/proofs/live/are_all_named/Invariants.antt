use Rattle.std.proofs.Common.{◌≡◌, true, take}
use Rattle.std.specs.List.{list_all}
use Rattle.registrations.specs.Names.{stands_under}
use Rattle.registrations.specs.declared.registration.Registration.{Registration}
use Rattle.registrations.proofs.live.are_all_named.Given as goal

abbrev pub invariant-loop-item : goal.invariant-loop-item
invariant-loop-item l = list_all (λ (r : Registration). stands_under l.names r.name) (take l.item-index l.items) ≡ true
