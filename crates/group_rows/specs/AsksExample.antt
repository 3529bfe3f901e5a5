-- Worked histories of what a start asks of two editors and tells them.
use Rattle.std.specs.Prelude.{List, [], ◌∷◌, codes}
use Rattle.mux_history.specs.declared.cause.Cause.{Cause}
use Rattle.mux_history.specs.declared.cause.Cause.TheVariants.{Joined, FromEditor, Started, FromServer}
use Rattle.mux_history.specs.declared.out.Out.{Out}
use Rattle.mux_history.specs.declared.out.Out.TheVariants.{ToEditor, ToServer}
use Rattle.event_model.specs.Event.{Event}
use Rattle.group_words.specs.Example.{with_groups}
use Rattle.group_rows.specs.Example.{events_behind, two_editors}
use Rattle.group_rows.specs.Rows.{outs_from}

-- two editors run, and nothing is asked
abbrev pub two_run : List Event
two_run = events_behind (with_groups 8) [] two_editors

-- what each of these causes gives behind that
abbrev pub played : List Cause → List (List Out)
played causes = outs_from (with_groups 8) two_run causes

-- the first editor is asked twice, and answers in the other order; no number stands for a second answer, nor for another editor's
abbrev pub two_asked : List Cause
two_asked = FromServer 0 (codes "{\"jsonrpc\":\"2.0\",\"id\":\"a\",\"method\":\"window/showMessageRequest\"}")
    ∷ FromServer 0 (codes "{\"jsonrpc\":\"2.0\",\"id\":7,\"method\":\"workspace/configuration\"}")
    ∷ FromEditor 0 (codes "{\"jsonrpc\":\"2.0\",\"id\":2,\"result\":[]}")
    ∷ FromEditor 1 (codes "{\"jsonrpc\":\"2.0\",\"id\":1,\"result\":null}")
    ∷ FromEditor 0 (codes "{\"jsonrpc\":\"2.0\",\"id\":1,\"error\":{\"code\":1,\"message\":\"\"}}")
    ∷ FromEditor 0 (codes "{\"jsonrpc\":\"2.0\",\"id\":1,\"result\":null}")
    ∷ []

abbrev pub two_asked_outs : List (List Out)
two_asked_outs = (ToEditor 0 (codes "{\"jsonrpc\":\"2.0\",\"id\":1,\"method\":\"window/showMessageRequest\"}") ∷ [])
    ∷ (ToEditor 0 (codes "{\"jsonrpc\":\"2.0\",\"id\":2,\"method\":\"workspace/configuration\"}") ∷ [])
    ∷ (ToServer 0 (codes "{\"jsonrpc\":\"2.0\",\"id\":7,\"result\":[]}") ∷ [])
    ∷ []
    ∷ (ToServer 0 (codes "{\"jsonrpc\":\"2.0\",\"id\":\"a\",\"error\":{\"code\":1,\"message\":\"\"}}") ∷ [])
    ∷ []
    ∷ []

-- a request under the id of an open ask gives nothing, and once that is answered it is asked
abbrev pub asked_again : List Cause
asked_again = FromServer 0 (codes "{\"jsonrpc\":\"2.0\",\"id\":7,\"method\":\"x\"}")
    ∷ FromServer 0 (codes "{\"jsonrpc\":\"2.0\",\"id\":7,\"method\":\"workspace/codeLens/refresh\"}")
    ∷ FromEditor 0 (codes "{\"jsonrpc\":\"2.0\",\"id\":1,\"result\":1}")
    ∷ FromServer 0 (codes "{\"jsonrpc\":\"2.0\",\"id\":7,\"method\":\"x\"}")
    ∷ []

abbrev pub asked_again_outs : List (List Out)
asked_again_outs = (ToEditor 0 (codes "{\"jsonrpc\":\"2.0\",\"id\":1,\"method\":\"x\"}") ∷ [])
    ∷ []
    ∷ (ToServer 0 (codes "{\"jsonrpc\":\"2.0\",\"id\":7,\"result\":1}") ∷ [])
    ∷ (ToEditor 0 (codes "{\"jsonrpc\":\"2.0\",\"id\":2,\"method\":\"x\"}") ∷ [])
    ∷ []

-- the start is answered at once and each editor is asked; their answers go nowhere, and a notification goes to each
abbrev pub both_told : List Cause
both_told = FromServer 0 (codes "{\"jsonrpc\":\"2.0\",\"id\":7,\"method\":\"workspace/codeLens/refresh\"}")
    ∷ FromEditor 1 (codes "{\"jsonrpc\":\"2.0\",\"id\":1,\"result\":null}")
    ∷ FromServer 0 (codes "{\"jsonrpc\":\"2.0\",\"method\":\"window/logMessage\"}")
    ∷ []

abbrev pub both_told_outs : List (List Out)
both_told_outs = (
    ToServer 0 (codes "{\"jsonrpc\":\"2.0\",\"id\":7,\"result\":null}")
    ∷ ToEditor 0 (codes "{\"jsonrpc\":\"2.0\",\"id\":1,\"method\":\"workspace/codeLens/refresh\"}")
    ∷ ToEditor 1 (codes "{\"jsonrpc\":\"2.0\",\"id\":1,\"method\":\"workspace/codeLens/refresh\"}")
    ∷ []
    )
    ∷ []
    ∷ (ToEditor 0 (codes "{\"jsonrpc\":\"2.0\",\"method\":\"window/logMessage\"}") ∷ ToEditor 1 (codes "{\"jsonrpc\":\"2.0\",\"method\":\"window/logMessage\"}") ∷ [])
    ∷ []

-- the editor that asked last is in focus
abbrev pub focused : List Cause
focused = FromEditor 1 (codes "{\"jsonrpc\":\"2.0\",\"id\":1,\"method\":\"textDocument/hover\"}")
    ∷ FromServer 0 (codes "{\"jsonrpc\":\"2.0\",\"id\":7,\"method\":\"window/showDocument\"}")
    ∷ FromEditor 0 (codes "{\"jsonrpc\":\"2.0\",\"id\":1,\"method\":\"textDocument/hover\"}")
    ∷ FromServer 0 (codes "{\"jsonrpc\":\"2.0\",\"id\":8,\"method\":\"window/showDocument\"}")
    ∷ []

abbrev pub focused_outs : List (List Out)
focused_outs = (ToServer 0 (codes "{\"jsonrpc\":\"2.0\",\"id\":2,\"method\":\"textDocument/hover\"}") ∷ [])
    ∷ (ToEditor 1 (codes "{\"jsonrpc\":\"2.0\",\"id\":1,\"method\":\"window/showDocument\"}") ∷ [])
    ∷ (ToServer 0 (codes "{\"jsonrpc\":\"2.0\",\"id\":3,\"method\":\"textDocument/hover\"}") ∷ [])
    ∷ (ToEditor 0 (codes "{\"jsonrpc\":\"2.0\",\"id\":1,\"method\":\"window/showDocument\"}") ∷ [])
    ∷ []

-- the start cancels its request, which may be done twice, until it is answered
abbrev pub taken_back : List Cause
taken_back = FromServer 0 (codes "{\"jsonrpc\":\"2.0\",\"id\":7,\"method\":\"x\"}")
    ∷ FromServer 0 (codes "{\"jsonrpc\":\"2.0\",\"method\":\"$/cancelRequest\",\"params\":{\"id\":7}}")
    ∷ FromServer 0 (codes "{\"jsonrpc\":\"2.0\",\"method\":\"$/cancelRequest\",\"params\":{\"id\":\"7\"}}")
    ∷ FromEditor 0 (codes "{\"jsonrpc\":\"2.0\",\"id\":1,\"result\":1}")
    ∷ FromServer 0 (codes "{\"jsonrpc\":\"2.0\",\"method\":\"$/cancelRequest\",\"params\":{\"id\":7}}")
    ∷ []

abbrev pub taken_back_outs : List (List Out)
taken_back_outs = (ToEditor 0 (codes "{\"jsonrpc\":\"2.0\",\"id\":1,\"method\":\"x\"}") ∷ [])
    ∷ (ToEditor 0 (codes "{\"jsonrpc\":\"2.0\",\"method\":\"$/cancelRequest\",\"params\":{\"id\":1}}") ∷ [])
    ∷ []
    ∷ (ToServer 0 (codes "{\"jsonrpc\":\"2.0\",\"id\":7,\"result\":1}") ∷ [])
    ∷ []
    ∷ []

-- an editor that was asked leaves: the start is refused, and the other editor is asked from then on
abbrev pub asked_leaves : List Cause
asked_leaves = FromServer 0 (codes "{\"jsonrpc\":\"2.0\",\"id\":7,\"method\":\"x\"}")
    ∷ FromServer 0 (codes "{\"jsonrpc\":\"2.0\",\"id\":8,\"method\":\"x\"}")
    ∷ FromEditor 0 (codes "{\"jsonrpc\":\"2.0\",\"id\":1,\"method\":\"shutdown\"}")
    ∷ FromServer 0 (codes "{\"jsonrpc\":\"2.0\",\"id\":7,\"method\":\"x\"}")
    ∷ []

abbrev pub asked_leaves_outs : List (List Out)
asked_leaves_outs = (ToEditor 0 (codes "{\"jsonrpc\":\"2.0\",\"id\":1,\"method\":\"x\"}") ∷ [])
    ∷ (ToEditor 0 (codes "{\"jsonrpc\":\"2.0\",\"id\":2,\"method\":\"x\"}") ∷ [])
    ∷ (
    ToEditor 0 (codes "{\"jsonrpc\":\"2.0\",\"id\":1,\"result\":null}")
    ∷ ToServer 0 (codes "{\"jsonrpc\":\"2.0\",\"id\":7,\"error\":{\"code\":-32803,\"message\":\"Request failed\"}}")
    ∷ ToServer 0 (codes "{\"jsonrpc\":\"2.0\",\"id\":8,\"error\":{\"code\":-32803,\"message\":\"Request failed\"}}")
    ∷ []
    )
    ∷ (ToEditor 1 (codes "{\"jsonrpc\":\"2.0\",\"id\":1,\"method\":\"x\"}") ∷ [])
    ∷ []

-- no editor runs yet
abbrev pub none_runs : List Cause
none_runs = Joined 0
    ∷ FromEditor 0 (codes "{\"jsonrpc\":\"2.0\",\"id\":0,\"method\":\"initialize\",\"params\":{\"rootUri\":\"file:///w\",\"capabilities\":{}}}")
    ∷ Started 0
    ∷ FromServer 0 (codes "{\"jsonrpc\":\"2.0\",\"id\":1,\"result\":{\"capabilities\":{}}}")
    ∷ []

abbrev pub unfocused : List Cause
unfocused = FromServer 0 (codes "{\"jsonrpc\":\"2.0\",\"id\":7,\"method\":\"window/showMessageRequest\"}")
    ∷ FromServer 0 (codes "{\"jsonrpc\":\"2.0\",\"id\":8,\"method\":\"workspace/inlayHint/refresh\"}")
    ∷ []

abbrev pub unfocused_outs : List (List Out)
unfocused_outs = (ToServer 0 (codes "{\"jsonrpc\":\"2.0\",\"id\":7,\"error\":{\"code\":-32803,\"message\":\"Request failed\"}}") ∷ [])
    ∷ (ToServer 0 (codes "{\"jsonrpc\":\"2.0\",\"id\":8,\"result\":null}") ∷ [])
    ∷ []

-- what it asks of one editor waits until one runs; its id is taken, to cancel it gives nothing, and the message by which the editor begins to run answers nothing of it
abbrev pub parked : List Cause
parked = FromServer 0 (codes "{\"jsonrpc\":\"2.0\",\"id\":3,\"method\":\"workspace/configuration\"}")
    ∷ FromServer 0 (codes "{\"jsonrpc\":\"2.0\",\"id\":3,\"method\":\"workspace/codeLens/refresh\"}")
    ∷ FromServer 0 (codes "{\"jsonrpc\":\"2.0\",\"id\":4,\"method\":\"x\"}")
    ∷ FromServer 0 (codes "{\"jsonrpc\":\"2.0\",\"method\":\"$/cancelRequest\",\"params\":{\"id\":3}}")
    ∷ FromEditor 0 (codes "{\"jsonrpc\":\"2.0\",\"id\":1,\"result\":null}")
    ∷ FromEditor 0 (codes "{\"jsonrpc\":\"2.0\",\"id\":2,\"result\":2}")
    ∷ FromEditor 0 (codes "{\"jsonrpc\":\"2.0\",\"id\":1,\"result\":1}")
    ∷ []

abbrev pub parked_outs : List (List Out)
parked_outs = []
    ∷ []
    ∷ []
    ∷ []
    ∷ (ToEditor 0 (codes "{\"jsonrpc\":\"2.0\",\"id\":1,\"method\":\"workspace/configuration\"}") ∷ ToEditor 0 (codes "{\"jsonrpc\":\"2.0\",\"id\":2,\"method\":\"x\"}") ∷ [])
    ∷ (ToServer 0 (codes "{\"jsonrpc\":\"2.0\",\"id\":4,\"result\":2}") ∷ [])
    ∷ (ToServer 0 (codes "{\"jsonrpc\":\"2.0\",\"id\":3,\"result\":1}") ∷ [])
    ∷ []

-- an edit has the editor's own versions, and null for a document that isn't open there; one that stands for a text that the editor doesn't have isn't applied; and the folders of the group
abbrev pub one_opens : List Cause
one_opens = FromEditor 0 (codes "{\"jsonrpc\":\"2.0\",\"method\":\"textDocument/didOpen\",\"params\":{\"textDocument\":{\"uri\":\"u\",\"languageId\":\"l\",\"version\":7,\"text\":\"a\"}}}") ∷ []

abbrev pub edits : List Cause
edits = FromServer 0 (codes "{\"jsonrpc\":\"2.0\",\"id\":3,\"method\":\"workspace/applyEdit\",\"params\":{\"edit\":{\"documentChanges\":[{\"textDocument\":{\"uri\":\"u\",\"version\":1},\"edits\":[]},{\"textDocument\":{\"uri\":\"v\",\"version\":1}}]}}}")
    ∷ FromServer 0 (codes "{\"jsonrpc\":\"2.0\",\"id\":4,\"method\":\"workspace/applyEdit\",\"params\":{\"edit\":{\"documentChanges\":[{\"textDocument\":{\"uri\":\"u\",\"version\":7}}]}}}")
    ∷ FromServer 0 (codes "{\"jsonrpc\":\"2.0\",\"id\":5,\"method\":\"workspace/workspaceFolders\"}")
    ∷ []

abbrev pub edits_outs : List (List Out)
edits_outs =
    (ToEditor 0 (codes "{\"jsonrpc\":\"2.0\",\"id\":1,\"method\":\"workspace/applyEdit\",\"params\":{\"edit\":{\"documentChanges\":[{\"textDocument\":{\"uri\":\"u\",\"version\":7},\"edits\":[]},{\"textDocument\":{\"uri\":\"v\",\"version\":null}}]}}}") ∷ [])
    ∷ (ToServer 0 (codes "{\"jsonrpc\":\"2.0\",\"id\":4,\"result\":{\"applied\":false,\"failureReason\":\"Content modified\"}}") ∷ [])
    ∷ (ToServer 0 (codes "{\"jsonrpc\":\"2.0\",\"id\":5,\"result\":[{\"uri\":\"file:///w\",\"name\":\"file:///w\"}]}") ∷ [])
    ∷ []
