use Rattle.std.proofs.Common.{◌<◌, ℕ, length, refl, sym, ap, subst, ◌∙◌}
use Rattle.std.specs.Prelude.{Option, MatchOption}
use Rattle.group_words.specs.Placing.{takes}
use Rattle.group_table.specs.Live.{first_in}
use Rattle.group_table.specs.Tables.{Table}
use Rattle.group_table.proofs.Places.{length_is}
use Rattle.group_table.proofs.Walks.{first_all, first_inside}
use Rattle.group_table.proofs.groups.Groups.taking.Goals as goal

pub returns-clause-first : goal.returns-clause-first
returns-clause-first c = c.in_ok-first.ensures ∙ (ap (first_in (takes c.args.key.now c.args.declared.now)) c.as_slice.ensures.value ∙ sym (first_all (takes c.args.key.now c.args.declared.now) refl c.self.inside.count c.self.inside.live.items c.args.self.now.groups (ap (λ (t : Table). t.groups) c.self.view_is) c.self.invariant.0))

pub returns-clause-inside : goal.returns-clause-inside
returns-clause-inside c = subst (λ (o : Option ℕ). MatchOption o (Unit {0}) (λ g. g < length c.args.self.now.groups)) (sym (c.in_ok-first.ensures ∙ ap (first_in (takes c.args.key.now c.args.declared.now)) c.as_slice.ensures.value)) (first_inside (takes c.args.key.now c.args.declared.now) refl c.self.inside.count c.self.inside.live.items c.args.self.now.groups (ap (λ (t : Table). t.groups) c.self.view_is) c.self.invariant.0 (length c.args.self.now.groups) (length_is c.self.inside.limit c.self.inside.idle c.self.inside.count c.self.inside.live.items c.args.self.now c.self.view_is c.self.invariant.0))
