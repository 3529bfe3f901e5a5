-- The open requests that weren't cancelled.
use Rattle.std.proofs.Common.{rules, ap, ◌∙◌}
use Rattle.std.specs.Prelude.{filter}
use Rattle.std.proofs.lemmas.Fn.{filter_same}
use Rattle.id_rewrite.specs.Tables.{pending_of}
use Rattle.mux_tables.specs.Cancels.{is_uncancelled}
use Rattle.mux_tables.proofs.Homes.{open_kept}
use Rattle.mux_tables.proofs.places.uncancelled_of.Goals as goal

pub returns : goal.returns
returns c = λ order. open_kept c.args.e c.args.ids.now _ order
    (filter_same _ (λ n. is_uncancelled (pending_of n c.args.ids.now.requests)) _ (λ x b f k. search rules) _ _ c.retain.ensures.filtered ∙ ap (filter (λ n. is_uncancelled (pending_of n c.args.ids.now.requests))) c.in_ok-numbers.ensures)
