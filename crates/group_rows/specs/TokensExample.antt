-- Worked tokens for progress of editors' requests.
use Rattle.std.specs.Prelude.{List, [], ◌∷◌, ◌++◌, codes, flat_map}
use Rattle.mux_history.specs.declared.cause.Cause.{Cause}
use Rattle.mux_history.specs.declared.cause.Cause.TheVariants.{FromEditor, FromServer}
use Rattle.mux_history.specs.declared.out.Out.{Out}
use Rattle.mux_history.specs.declared.out.Out.TheVariants.{CloseEditor, ToEditor, ToServer}
use Rattle.event_model.specs.Event.{Event}
use Rattle.group_words.specs.Example.{with_groups}
use Rattle.group_rows.specs.Example.{events_behind, two_editors}
use Rattle.group_rows.specs.Rows.{outs_from}

-- a token for work done, one for partial results, and none; both, where of a doubled name the last one counts and each gives way; and where the last one is no token, and all stays
abbrev pub marking : List Cause
marking =
    FromEditor 0 (codes "{\"jsonrpc\":\"2.0\",\"id\":1,\"method\":\"textDocument/hover\",\"params\":{\"workDoneToken\":\"w\"}}")
    ∷ FromEditor 1 (codes "{\"jsonrpc\":\"2.0\",\"method\":\"textDocument/references\", \"params\":{\"partialResultToken\":7,\"x\":[1] },\"id\":\"p\"}")
    ∷ FromEditor 0 (codes "{\"jsonrpc\":\"2.0\",\"id\":2,\"method\":\"textDocument/references\",\"params\":{\"workDoneToken\":null,\"partialResultToken\":3, \"workDone\\u0054oken\":\"v\"}}")
    ∷ FromEditor 0 (codes "{\"jsonrpc\":\"2.0\",\"id\":3,\"method\":\"textDocument/hover\",\"params\":{\"workDoneToken\":\"u\",\"workDoneToken\":null}}")
    ∷ []

abbrev pub marking_outs : List Out
marking_outs =
    ToServer 0 (codes "{\"jsonrpc\":\"2.0\",\"id\":2,\"method\":\"textDocument/hover\",\"params\":{\"workDoneToken\":\"lspmux:4\"}}")
    ∷ ToServer 0 (codes "{\"jsonrpc\":\"2.0\",\"method\":\"textDocument/references\", \"params\":{\"partialResultToken\":\"lspmux:7\",\"x\":[1] },\"id\":3}")
    ∷ ToServer 0 (codes "{\"jsonrpc\":\"2.0\",\"id\":4,\"method\":\"textDocument/references\",\"params\":{\"workDoneToken\":\"lspmux:8\",\"partialResultToken\":\"lspmux:9\", \"workDone\\u0054oken\":\"lspmux:8\"}}")
    ∷ ToServer 0 (codes "{\"jsonrpc\":\"2.0\",\"id\":5,\"method\":\"textDocument/hover\",\"params\":{\"workDoneToken\":\"u\",\"workDoneToken\":null}}")
    ∷ []

-- tokens that begin as the daemon's do are refused, however they are written
abbrev pub reserved : List Cause
reserved =
    FromEditor 0 (codes "{\"jsonrpc\":\"2.0\",\"id\":1,\"method\":\"textDocument/hover\",\"params\":{\"workDoneToken\":\"lspmux:\"}}")
    ∷ FromEditor 1 (codes "{\"jsonrpc\":\"2.0\",\"id\":1,\"method\":\"textDocument/hover\",\"params\":{\"partialResultToken\":\"\\u006cspmux:4\"}}")
    ∷ FromEditor 1 (codes "{\"jsonrpc\":\"2.0\",\"id\":2,\"method\":\"textDocument/hover\",\"params\":{\"workDoneToken\":\"lspmux\"}}")
    ∷ []

abbrev pub reserved_outs : List Out
reserved_outs =
    ToEditor 0 (codes "{\"jsonrpc\":\"2.0\",\"id\":1,\"error\":{\"code\":-32602,\"message\":\"Invalid params\"}}")
    ∷ ToEditor 1 (codes "{\"jsonrpc\":\"2.0\",\"id\":1,\"error\":{\"code\":-32602,\"message\":\"Invalid params\"}}")
    ∷ ToServer 0 (codes "{\"jsonrpc\":\"2.0\",\"id\":2,\"method\":\"textDocument/hover\",\"params\":{\"workDoneToken\":\"lspmux:4\"}}")
    ∷ []

abbrev pub marked : List Event
marked = events_behind (with_groups 8) [] (two_editors ++ marking)

abbrev pub outs_of_marked : List Cause → List Out
outs_of_marked causes = flat_map (λ xs. xs) (outs_from (with_groups 8) marked causes)

-- each editor is told with its own token, in each place; a token that no request brought, one that is no text of the daemon's, and one whose request was answered give nothing
abbrev pub progressing : List Cause
progressing =
    FromServer 0 (codes "{\"jsonrpc\":\"2.0\",\"method\":\"$/progress\",\"params\":{\"token\":\"lspmux:4\",\"value\":{\"kind\":\"begin\",\"title\":\"t\"}}}")
    ∷ FromServer 0 (codes "{\"jsonrpc\":\"2.0\",\"method\":\"$/progress\",\"params\":{\"token\":\"lspmux:7\", \"value\":[]}}")
    ∷ FromServer 0 (codes "{\"jsonrpc\":\"2.0\",\"method\":\"$/progress\",\"params\":{\"token\":0,\"value\":[],\"token\":\"lspmux:9\"}}")
    ∷ FromServer 0 (codes "{\"jsonrpc\":\"2.0\",\"method\":\"$/progress\",\"params\":{\"token\":\"lspmux:5\",\"value\":[]}}")
    ∷ FromServer 0 (codes "{\"jsonrpc\":\"2.0\",\"method\":\"$/progress\",\"params\":{\"token\":\"lspmux:04\",\"value\":[]}}")
    ∷ FromServer 0 (codes "{\"jsonrpc\":\"2.0\",\"method\":\"$/progress\",\"params\":{\"token\":\"w\",\"value\":[]}}")
    ∷ FromServer 0 (codes "{\"jsonrpc\":\"2.0\",\"id\":2,\"result\":null}")
    ∷ FromServer 0 (codes "{\"jsonrpc\":\"2.0\",\"method\":\"$/progress\",\"params\":{\"token\":\"lspmux:4\",\"value\":{\"kind\":\"end\"}}}")
    ∷ []

abbrev pub progressing_outs : List Out
progressing_outs =
    ToEditor 0 (codes "{\"jsonrpc\":\"2.0\",\"method\":\"$/progress\",\"params\":{\"token\":\"w\",\"value\":{\"kind\":\"begin\",\"title\":\"t\"}}}")
    ∷ ToEditor 1 (codes "{\"jsonrpc\":\"2.0\",\"method\":\"$/progress\",\"params\":{\"token\":7, \"value\":[]}}")
    ∷ ToEditor 0 (codes "{\"jsonrpc\":\"2.0\",\"method\":\"$/progress\",\"params\":{\"token\":3,\"value\":[],\"token\":3}}")
    ∷ ToEditor 0 (codes "{\"jsonrpc\":\"2.0\",\"id\":1,\"result\":null}")
    ∷ []

-- an editor cancels work of its own, twice, by its token however it is written; another's, a token for partial results, none, and one whose request was answered give nothing
abbrev pub working : List Cause
working =
    FromEditor 0 (codes "{\"jsonrpc\":\"2.0\",\"method\":\"window/workDoneProgress/cancel\",\"params\":{\"token\":\"w\"}}")
    ∷ FromEditor 0 (codes "{\"jsonrpc\":\"2.0\",\"method\":\"window/workDoneProgress/cancel\", \"params\":{\"token\":1,\"token\":\"\\u0077\"}}")
    ∷ FromEditor 1 (codes "{\"jsonrpc\":\"2.0\",\"method\":\"window/workDoneProgress/cancel\",\"params\":{\"token\":\"w\"}}")
    ∷ FromEditor 1 (codes "{\"jsonrpc\":\"2.0\",\"method\":\"window/workDoneProgress/cancel\",\"params\":{\"token\":7}}")
    ∷ FromEditor 0 (codes "{\"jsonrpc\":\"2.0\",\"method\":\"window/workDoneProgress/cancel\"}")
    ∷ FromServer 0 (codes "{\"jsonrpc\":\"2.0\",\"id\":4,\"result\":null}")
    ∷ FromEditor 0 (codes "{\"jsonrpc\":\"2.0\",\"method\":\"window/workDoneProgress/cancel\",\"params\":{\"token\":\"v\"}}")
    ∷ []

abbrev pub working_outs : List Out
working_outs =
    ToServer 0 (codes "{\"jsonrpc\":\"2.0\",\"method\":\"window/workDoneProgress/cancel\",\"params\":{\"token\":\"lspmux:4\"}}")
    ∷ ToServer 0 (codes "{\"jsonrpc\":\"2.0\",\"method\":\"window/workDoneProgress/cancel\", \"params\":{\"token\":\"lspmux:4\",\"token\":\"lspmux:4\"}}")
    ∷ ToEditor 0 (codes "{\"jsonrpc\":\"2.0\",\"id\":2,\"result\":null}")
    ∷ []

-- an editor that is down is told of its open request, and one whose link is to be ended isn't
abbrev pub parting_work : List Cause
parting_work =
    FromEditor 0 (codes "{\"jsonrpc\":\"2.0\",\"id\":9,\"method\":\"shutdown\"}")
    ∷ FromServer 0 (codes "{\"jsonrpc\":\"2.0\",\"method\":\"$/progress\",\"params\":{\"token\":\"lspmux:4\",\"value\":{\"kind\":\"end\"}}}")
    ∷ FromEditor 0 (codes "{\"jsonrpc\":\"2.0\",\"method\":\"exit\"}")
    ∷ FromServer 0 (codes "{\"jsonrpc\":\"2.0\",\"method\":\"$/progress\",\"params\":{\"token\":\"lspmux:8\",\"value\":{\"kind\":\"end\"}}}")
    ∷ []

abbrev pub parting_work_outs : List Out
parting_work_outs =
    ToEditor 0 (codes "{\"jsonrpc\":\"2.0\",\"id\":9,\"result\":null}")
    ∷ ToServer 0 (codes "{\"jsonrpc\":\"2.0\",\"method\":\"$/cancelRequest\",\"params\":{\"id\":2}}")
    ∷ ToServer 0 (codes "{\"jsonrpc\":\"2.0\",\"method\":\"$/cancelRequest\",\"params\":{\"id\":4}}")
    ∷ ToServer 0 (codes "{\"jsonrpc\":\"2.0\",\"method\":\"$/cancelRequest\",\"params\":{\"id\":5}}")
    ∷ ToEditor 0 (codes "{\"jsonrpc\":\"2.0\",\"method\":\"$/progress\",\"params\":{\"token\":\"w\",\"value\":{\"kind\":\"end\"}}}")
    ∷ CloseEditor 0
    ∷ []
