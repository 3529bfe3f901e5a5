use Rattle.std.proofs.Common.{ap, length, ◌∙◌}
use Rattle.std.proofs.lemmas.List.{length-set}
use Rattle.group_words.specs.Placing.{home_by}
use Rattle.mux_tables.proofs.Seated.{seated, unseated, twice_length}
use Rattle.mux_tables.proofs.seats.seat.Goals as goal

pub returns-in-Joins-clause-sits : goal.returns-in-Joins-clause-sits
returns-in-Joins-clause-sits c = λ x at there. seated c.args.editors.now c.set.new.self c.place.new.self c.args.e c.in-Joins.g c.args.id c.args.placed x c.requires at there c.set.ensures c.place.ensures (λ o. ap (λ p. home_by p o) c.in-Joins.is)

pub returns-in-Joins-clause-count : goal.returns-in-Joins-clause-count
returns-in-Joins-clause-count c = twice_length c.args.editors.now c.set.new.self c.place.new.self c.args.e _ _ c.set.ensures c.place.ensures

pub returns-in-New-clause-sits : goal.returns-in-New-clause-sits
returns-in-New-clause-sits c = λ x at there. seated c.args.editors.now c.set.new.self c.place-in-New.new.self c.args.e c.in-New.g c.args.id c.args.placed x c.requires at there c.set.ensures c.place-in-New.ensures (λ o. ap (λ p. home_by p o) c.in-New.is)

pub returns-in-New-clause-count : goal.returns-in-New-clause-count
returns-in-New-clause-count c = twice_length c.args.editors.now c.set.new.self c.place-in-New.new.self c.args.e _ _ c.set.ensures c.place-in-New.ensures

pub returns-in-Evicts-clause-sits : goal.returns-in-Evicts-clause-sits
returns-in-Evicts-clause-sits c = λ x at there. seated c.args.editors.now c.set.new.self c.place-in-Evicts.new.self c.args.e c.in-Evicts.g c.args.id c.args.placed x c.requires at there c.set.ensures c.place-in-Evicts.ensures (λ o. ap (λ p. home_by p o) c.in-Evicts.is)

pub returns-in-Evicts-clause-count : goal.returns-in-Evicts-clause-count
returns-in-Evicts-clause-count c = twice_length c.args.editors.now c.set.new.self c.place-in-Evicts.new.self c.args.e _ _ c.set.ensures c.place-in-Evicts.ensures

pub returns-in-TooMany-clause-sits : goal.returns-in-TooMany-clause-sits
returns-in-TooMany-clause-sits c = λ x at there. unseated c.args.editors.now c.set.new.self c.args.e x c.args.id c.args.placed at there c.set.ensures (λ o. ap (λ p. home_by p o) c.in-TooMany.is)

pub returns-in-TooMany-clause-count : goal.returns-in-TooMany-clause-count
returns-in-TooMany-clause-count c = ap length c.set.ensures ∙ length-set c.args.editors.now c.args.e _
