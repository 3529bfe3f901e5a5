-- What is told of all live groups.
use Rattle.std.proofs.Common.{◌++◌, codes, flat_map, map, ap, sym, subst, ◌∙◌}
use Rattle.std.specs.List.{AllByRecursion}
use Rattle.capability_meet.specs.Parts.{bracketed}
use Rattle.group_rows.specs.Status.{item_in, item_text}
use Rattle.mux_editors.specs.Tellings.{Runs}
use Rattle.mux_editors.proofs.Telling.{live_run}
use Rattle.mux_editors.proofs.status.status_text.Goals as goal

pub returns : goal.returns
returns c = λ settings before servers settled st.
    let is = c.as_slice.ensures.value ∙ c.in_ok-groups.ensures settings before st in
    let runs = subst (AllByRecursion (λ g. Runs g before)) (sym is) (live_run settings before settled) in
    let items = c.in_ok-items.ensures settings before servers runs st ∙ ap (λ gs. map item_text (flat_map (item_in settings before) gs)) is in
    c.in_ok-told.ensures ∙ ap (λ parts. codes "{\"groups\":" ++ bracketed parts ++ codes "}") (c.as_slice-2.ensures.value ∙ items)
