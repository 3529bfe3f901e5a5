-- How many of these editors are there.
use Rattle.std.proofs.Common.{◌≡◌, rules, ap, length, ◌∙◌}
use Rattle.std.specs.Prelude.{filter, slice_get}
use Rattle.std.proofs.lemmas.Fn.{filter_same}
use Rattle.event_model.specs.Phases.{is_there}
use Rattle.mux_tables.specs.Stands.{phase_in}
use Rattle.mux_tables.proofs.statuses.count_there.Goals as goal

pub returns : goal.returns
returns c =
    let kept : c.retain.new.self.items ≡ filter (λ e. is_there (phase_in (slice_get c.args.editors.now e))) c.args.numbers.items = filter_same _ (λ e. is_there (phase_in (slice_get c.args.editors.now e))) _ (λ x b f k. search rules) _ _ c.retain.ensures.filtered in
    let long : c.len.result ≡ length c.retain.new.self.items = search rules in
    long ∙ ap length kept
