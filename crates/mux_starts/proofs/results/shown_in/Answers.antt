-- Those of a group that were shown a result.
use Rattle.std.proofs.Common.{ap, sym, subst, ◌<◌, length, filter, ◌∙◌}
use Rattle.std.specs.List.{All}
use Rattle.event_model.specs.Phases.{desk_of}
use Rattle.group_rows.specs.Earlier.{was_shown}
use Rattle.mux_starts.proofs.Parting.{shown_members}
use Rattle.mux_starts.proofs.results.shown_in.Goals as goal

pub shown_among-requires : goal.shown_among-requires
shown_among-requires c = subst (All (λ e. e < length c.args.tables.now.editors)) (sym c.deref.ensures.value) c.in_ok-members.ensures.inside

pub returns-clause-those : goal.returns-clause-those
returns-clause-those c = λ settings events st.
    c.in_ok-all.ensures.those settings events st ∙ (ap (filter (λ e. was_shown (desk_of e events).phase)) (c.deref.ensures.value ∙ c.in_ok-members.ensures.those settings events st) ∙ shown_members settings c.args.g events)
