-- Worked cancels of editors' requests.
use Rattle.std.specs.Prelude.{List, [], ◌∷◌, ◌++◌, codes, flat_map}
use Rattle.mux_history.specs.declared.cause.Cause.{Cause}
use Rattle.mux_history.specs.declared.cause.Cause.TheVariants.{FromEditor, FromServer}
use Rattle.mux_history.specs.declared.out.Out.{Out}
use Rattle.mux_history.specs.declared.out.Out.TheVariants.{ToEditor, ToServer}
use Rattle.event_model.specs.Event.{Event}
use Rattle.group_words.specs.Example.{with_groups}
use Rattle.group_rows.specs.Example.{events_behind, two_editors}
use Rattle.group_rows.specs.Rows.{outs_from}

-- two editors ask; their requests have the numbers 2 to 4
abbrev pub three_asked : List Event
three_asked = events_behind (with_groups 8) [] (two_editors
    ++ FromEditor 0 (codes "{\"jsonrpc\":\"2.0\",\"id\":\"a\",\"method\":\"textDocument/hover\",\"params\":{}}")
    ∷ FromEditor 0 (codes "{\"jsonrpc\":\"2.0\",\"id\":1,\"method\":\"textDocument/hover\",\"params\":{}}")
    ∷ FromEditor 1 (codes "{\"jsonrpc\":\"2.0\",\"id\":7,\"method\":\"textDocument/hover\",\"params\":{}}")
    ∷ [])

abbrev pub outs_then : List Cause → List Out
outs_then causes = flat_map (λ xs. xs) (outs_from (with_groups 8) three_asked causes)

-- a string that is written in another way, and again, as it was cancelled; the id of another editor's request, and ids that are none; an answered request; and an id that stands twice, of which the last one counts
abbrev pub cancelling : List Cause
cancelling =
    FromEditor 0 (codes "{\"jsonrpc\":\"2.0\",\"method\":\"$/cancelRequest\", \"params\":{\"id\":\"\\u0061\"}}")
    ∷ FromEditor 0 (codes "{\"jsonrpc\":\"2.0\",\"method\":\"$/cancelRequest\",\"params\":{\"id\":\"a\"}}")
    ∷ FromEditor 0 (codes "{\"jsonrpc\":\"2.0\",\"method\":\"$/cancelRequest\",\"params\":{\"id\":7}}")
    ∷ FromEditor 1 (codes "{\"jsonrpc\":\"2.0\",\"method\":\"$/cancelRequest\",\"params\":{\"id\":\"7\"}}")
    ∷ FromEditor 1 (codes "{\"jsonrpc\":\"2.0\",\"method\":\"$/cancelRequest\"}")
    ∷ FromServer 0 (codes "{\"jsonrpc\":\"2.0\",\"id\":3,\"result\":null}")
    ∷ FromEditor 0 (codes "{\"jsonrpc\":\"2.0\",\"method\":\"$/cancelRequest\",\"params\":{\"id\":1}}")
    ∷ FromEditor 1 (codes "{\"jsonrpc\":\"2.0\",\"method\":\"$/cancelRequest\",\"params\":{\"id\":null,\"x\":[1], \"i\\u0064\":7 }}")
    ∷ []

abbrev pub cancelling_outs : List Out
cancelling_outs =
    ToServer 0 (codes "{\"jsonrpc\":\"2.0\",\"method\":\"$/cancelRequest\", \"params\":{\"id\":2}}")
    ∷ ToEditor 0 (codes "{\"jsonrpc\":\"2.0\",\"id\":1,\"result\":null}")
    ∷ ToServer 0 (codes "{\"jsonrpc\":\"2.0\",\"method\":\"$/cancelRequest\",\"params\":{\"id\":4,\"x\":[1], \"i\\u0064\":4 }}")
    ∷ []
