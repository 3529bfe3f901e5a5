-- The starts that are overdue.
use Rattle.std.proofs.Common.{rules, ap, filter, ◌∙◌}
use Rattle.std.proofs.lemmas.Fn.{filter_same}
use Rattle.group_words.specs.Placing.{is_since}
use Rattle.mux_tables.specs.Stops.{awaited_stop}
use Rattle.mux_tables.proofs.Overdue.{overdue_kept}
use Rattle.mux_tables.proofs.tables.Tables.overdue.Goals as goal

pub returns : goal.returns
returns c = λ settings before grace st.
    filter_same _ (λ s. is_since c.args.grace c.later-now.result (awaited_stop s before)) _ (λ x b f k. search rules) _ _ c.retain.ensures.filtered
    ∙ ap (filter (λ s. is_since c.args.grace c.later-now.result (awaited_stop s before))) (c.in_ok-late.ensures.items ∙ c.as_slice.ensures.value)
    ∙ overdue_kept settings c.args.self.now before st c.args.now c.later-now.result c.args.grace grace c.later-now.ensures
