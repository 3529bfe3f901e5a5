-- Worked histories of two editors that share a start, and of two groups.
use Rattle.std.specs.Prelude.{ℕ, List, [], ◌∷◌, ◌++◌, codes, flat_map, map}
use Rattle.std.specs.Prelude.{None}
use Rattle.mux_history.specs.declared.cause.Cause.{Cause}
use Rattle.mux_history.specs.declared.cause.Cause.TheVariants.{Joined, FromEditor, EditorGone, Started, FromServer, ServerGone, Tick}
use Rattle.mux_history.specs.declared.cause.Why.TheVariants.{End}
use Rattle.mux_history.specs.declared.out.Out.{Out}
use Rattle.mux_history.specs.declared.out.Out.TheVariants.{ToEditor, ToServer, CloseEditor, EndServer, Spawn}
use Rattle.response_route.specs.document_model.specs.Opens.{Open}
use Rattle.event_model.specs.Event.{Event, behind, with_cause}
use Rattle.event_model.specs.Row.{outs}
use Rattle.event_model.specs.Settings.{Settings}
use Rattle.group_words.specs.Example.{with_groups}
use Rattle.group_rows.specs.Leaves.{cancel_text, leave_row}
use Rattle.group_rows.specs.Rows.{outs_from, outs_of}

-- all outs, one entry behind the other
abbrev pub outs_with : ℕ → List Cause → List Out
outs_with groups causes = flat_map (λ xs. xs) (outs_from (with_groups groups) [] causes)

abbrev pub all_outs : List Cause → List Out
all_outs causes = outs_with 8 causes

abbrev pub events_behind : Settings → List Event → List Cause → List Event
events_behind settings events [] = events
events_behind settings events (cause ∷ causes) = events_behind settings (behind (with_cause events cause) (outs_of settings events cause)) causes

-- a request before `initialize`, and bodies that are no message
abbrev pub too_early : List Cause
too_early = Joined 0
    ∷ FromEditor 0 (codes "{\"jsonrpc\":\"2.0\",\"id\":1,\"method\":\"textDocument/hover\",\"params\":{}}")
    ∷ FromEditor 0 (codes "{\"jsonrpc\":\"2.0\",\"method\":\"x\"}")
    ∷ FromEditor 0 (codes "{")
    ∷ FromEditor 0 (codes "[]")
    ∷ []

abbrev pub too_early_outs : List Out
too_early_outs = ToEditor 0 (codes "{\"jsonrpc\":\"2.0\",\"id\":1,\"error\":{\"code\":-32002,\"message\":\"Server not initialized\"}}")
    ∷ ToEditor 0 (codes "{\"jsonrpc\":\"2.0\",\"id\":null,\"error\":{\"code\":-32700,\"message\":\"Parse error\"}}")
    ∷ ToEditor 0 (codes "{\"jsonrpc\":\"2.0\",\"id\":null,\"error\":{\"code\":-32600,\"message\":\"Invalid Request\"}}")
    ∷ []

-- requests that aren't taken before the answer to `initialize`, and a notification and a response that give nothing
abbrev pub refused_early : List Cause
refused_early = Joined 0
    ∷ FromEditor 0 (codes "{\"jsonrpc\":\"2.0\",\"id\":1,\"method\":\"shutdown\"}")
    ∷ FromEditor 0 (codes "{\"jsonrpc\":\"2.0\",\"id\":2,\"method\":\"$/setTrace\"}")
    ∷ FromEditor 0 (codes "{\"jsonrpc\":\"2.0\",\"method\":\"textDocument/didSave\"}")
    ∷ FromEditor 0 (codes "{\"jsonrpc\":\"2.0\",\"id\":1,\"result\":null}")
    ∷ []

abbrev pub refused_early_outs : List Out
refused_early_outs = ToEditor 0 (codes "{\"jsonrpc\":\"2.0\",\"id\":1,\"error\":{\"code\":-32002,\"message\":\"Server not initialized\"}}")
    ∷ ToEditor 0 (codes "{\"jsonrpc\":\"2.0\",\"id\":2,\"error\":{\"code\":-32601,\"message\":\"Method not found\"}}")
    ∷ []

-- two editors share a start
abbrev pub two_editors : List Cause
two_editors = Joined 0
    ∷ FromEditor 0 (codes "{\"jsonrpc\":\"2.0\",\"id\":0,\"method\":\"initialize\",\"params\":{\"rootUri\":\"file:///w\",\"capabilities\":{}}}")
    ∷ Joined 1
    ∷ FromEditor 1 (codes "{\"jsonrpc\":\"2.0\",\"id\":0,\"method\":\"initialize\",\"params\":{\"rootUri\":\"file:///w\",\"capabilities\":{}}}")
    ∷ Started 0
    ∷ FromServer 0 (codes "{\"jsonrpc\":\"2.0\",\"id\":1,\"result\":{\"capabilities\":{}}}")
    ∷ FromEditor 0 (codes "{\"jsonrpc\":\"2.0\",\"method\":\"initialized\",\"params\":{}}")
    ∷ FromEditor 1 (codes "{\"jsonrpc\":\"2.0\",\"method\":\"initialized\",\"params\":{}}")
    ∷ []

abbrev pub two_editors_outs : List Out
two_editors_outs = Spawn 0 0
    ∷ ToServer 0 (codes "{\"jsonrpc\":\"2.0\",\"id\":1,\"method\":\"initialize\",\"params\":{\"processId\":null,\"clientInfo\":{\"name\":\"lspmux\"},\"rootUri\":\"file:///w\",\"capabilities\":{},\"trace\":\"off\"}}")
    ∷ ToServer 0 (codes "{\"jsonrpc\":\"2.0\",\"method\":\"initialized\",\"params\":{}}")
    ∷ ToEditor 0 (codes "{\"jsonrpc\":\"2.0\",\"id\":0,\"result\":{\"capabilities\":{}}}")
    ∷ ToEditor 1 (codes "{\"jsonrpc\":\"2.0\",\"id\":0,\"result\":{\"capabilities\":{}}}")
    ∷ []

-- both ask under one id, and are answered out of order
abbrev pub both_ask : List Cause
both_ask = two_editors
    ++ FromEditor 0 (codes "{\"jsonrpc\":\"2.0\",\"id\":1,\"method\":\"textDocument/hover\",\"params\":{}}")
    ∷ FromEditor 1 (codes "{\"jsonrpc\":\"2.0\",\"id\":1,\"method\":\"textDocument/hover\",\"params\":{}}")
    ∷ FromServer 0 (codes "{\"jsonrpc\":\"2.0\",\"id\":3,\"result\":null}")
    ∷ FromServer 0 (codes "{\"jsonrpc\":\"2.0\",\"id\":2,\"result\":null}")
    ∷ FromServer 0 (codes "{\"jsonrpc\":\"2.0\",\"id\":2,\"result\":null}")
    ∷ []

abbrev pub both_ask_outs : List Out
both_ask_outs = two_editors_outs
    ++ ToServer 0 (codes "{\"jsonrpc\":\"2.0\",\"id\":2,\"method\":\"textDocument/hover\",\"params\":{}}")
    ∷ ToServer 0 (codes "{\"jsonrpc\":\"2.0\",\"id\":3,\"method\":\"textDocument/hover\",\"params\":{}}")
    ∷ ToEditor 1 (codes "{\"jsonrpc\":\"2.0\",\"id\":1,\"result\":null}")
    ∷ ToEditor 0 (codes "{\"jsonrpc\":\"2.0\",\"id\":1,\"result\":null}")
    ∷ []

-- requests under the names of notifications, a notification that goes nowhere, and a response: none goes on
abbrev pub wrong_names : List Cause
wrong_names = two_editors
    ++ FromEditor 0 (codes "{\"jsonrpc\":\"2.0\",\"id\":1,\"method\":\"initialized\"}")
    ∷ FromEditor 0 (codes "{\"jsonrpc\":\"2.0\",\"id\":2,\"method\":\"$/progress\"}")
    ∷ FromEditor 0 (codes "{\"jsonrpc\":\"2.0\",\"method\":\"$/setTrace\",\"params\":{\"value\":\"off\"}}")
    ∷ FromEditor 1 (codes "{\"jsonrpc\":\"2.0\",\"id\":1,\"result\":null}")
    ∷ []

abbrev pub wrong_names_outs : List Out
wrong_names_outs = two_editors_outs
    ++ ToEditor 0 (codes "{\"jsonrpc\":\"2.0\",\"id\":1,\"error\":{\"code\":-32600,\"message\":\"Invalid Request\"}}")
    ∷ ToEditor 0 (codes "{\"jsonrpc\":\"2.0\",\"id\":2,\"error\":{\"code\":-32601,\"message\":\"Method not found\"}}")
    ∷ []

-- both have a document open, in two texts: the start is switched to the text of the one that asks
abbrev pub switching : List Cause
switching = two_editors
    ++ FromEditor 0 (codes "{\"jsonrpc\":\"2.0\",\"method\":\"textDocument/didOpen\",\"params\":{\"textDocument\":{\"uri\":\"file:///u\",\"languageId\":\"x\",\"version\":5,\"text\":\"a\"}}}")
    ∷ FromEditor 1 (codes "{\"jsonrpc\":\"2.0\",\"method\":\"textDocument/didOpen\",\"params\":{\"textDocument\":{\"uri\":\"file:///u\",\"languageId\":\"x\",\"version\":9,\"text\":\"b\"}}}")
    ∷ FromEditor 0 (codes "{\"jsonrpc\":\"2.0\",\"id\":1,\"method\":\"textDocument/hover\",\"params\":{}}")
    ∷ FromEditor 1 (codes "{\"jsonrpc\":\"2.0\",\"id\":1,\"method\":\"textDocument/hover\",\"params\":{}}")
    ∷ FromEditor 1 (codes "{\"jsonrpc\":\"2.0\",\"id\":2,\"method\":\"textDocument/hover\",\"params\":{}}")
    ∷ []

abbrev pub switching_outs : List Out
switching_outs = two_editors_outs
    ++ ToServer 0 (codes "{\"jsonrpc\":\"2.0\",\"method\":\"textDocument/didOpen\",\"params\":{\"textDocument\":{\"uri\":\"file:///u\",\"languageId\":\"x\",\"version\":1,\"text\":\"a\"}}}")
    ∷ ToServer 0 (codes "{\"jsonrpc\":\"2.0\",\"method\":\"textDocument/didChange\",\"params\":{\"textDocument\":{\"uri\":\"file:///u\",\"version\":2},\"contentChanges\":[{\"text\":\"b\"}]}}")
    ∷ ToServer 0 (codes "{\"jsonrpc\":\"2.0\",\"method\":\"textDocument/didChange\",\"params\":{\"textDocument\":{\"uri\":\"file:///u\",\"version\":3},\"contentChanges\":[{\"text\":\"a\"}]}}")
    ∷ ToServer 0 (codes "{\"jsonrpc\":\"2.0\",\"id\":2,\"method\":\"textDocument/hover\",\"params\":{}}")
    ∷ ToServer 0 (codes "{\"jsonrpc\":\"2.0\",\"method\":\"textDocument/didChange\",\"params\":{\"textDocument\":{\"uri\":\"file:///u\",\"version\":4},\"contentChanges\":[{\"text\":\"b\"}]}}")
    ∷ ToServer 0 (codes "{\"jsonrpc\":\"2.0\",\"id\":3,\"method\":\"textDocument/hover\",\"params\":{}}")
    ∷ ToServer 0 (codes "{\"jsonrpc\":\"2.0\",\"id\":4,\"method\":\"textDocument/hover\",\"params\":{}}")
    ∷ []

-- the first editor tells of its configuration, with two texts of a document open: the start is switched to its text, the body goes on as it came, and the second one's notification switches back. Class Dropped goes nowhere
abbrev pub notifying : List Cause
notifying = two_editors
    ++ FromEditor 0 (codes "{\"jsonrpc\":\"2.0\",\"method\":\"textDocument/didOpen\",\"params\":{\"textDocument\":{\"uri\":\"file:///u\",\"languageId\":\"x\",\"version\":5,\"text\":\"a\"}}}")
    ∷ FromEditor 1 (codes "{\"jsonrpc\":\"2.0\",\"method\":\"textDocument/didOpen\",\"params\":{\"textDocument\":{\"uri\":\"file:///u\",\"languageId\":\"x\",\"version\":9,\"text\":\"b\"}}}")
    ∷ FromEditor 0 (codes "{ \"jsonrpc\":\"2.0\",\"method\":\"workspace/didChangeConfiguration\",\"params\":{\"settings\":null}}")
    ∷ FromEditor 0 (codes "{\"jsonrpc\":\"2.0\",\"method\":\"$/setTrace\",\"params\":{\"value\":\"off\"}}")
    ∷ FromEditor 1 (codes "{\"jsonrpc\":\"2.0\",\"method\":\"x/y\"}")
    ∷ []

abbrev pub notifying_outs : List Out
notifying_outs = two_editors_outs
    ++ ToServer 0 (codes "{\"jsonrpc\":\"2.0\",\"method\":\"textDocument/didOpen\",\"params\":{\"textDocument\":{\"uri\":\"file:///u\",\"languageId\":\"x\",\"version\":1,\"text\":\"a\"}}}")
    ∷ ToServer 0 (codes "{\"jsonrpc\":\"2.0\",\"method\":\"textDocument/didChange\",\"params\":{\"textDocument\":{\"uri\":\"file:///u\",\"version\":2},\"contentChanges\":[{\"text\":\"b\"}]}}")
    ∷ ToServer 0 (codes "{\"jsonrpc\":\"2.0\",\"method\":\"textDocument/didChange\",\"params\":{\"textDocument\":{\"uri\":\"file:///u\",\"version\":3},\"contentChanges\":[{\"text\":\"a\"}]}}")
    ∷ ToServer 0 (codes "{ \"jsonrpc\":\"2.0\",\"method\":\"workspace/didChangeConfiguration\",\"params\":{\"settings\":null}}")
    ∷ ToServer 0 (codes "{\"jsonrpc\":\"2.0\",\"method\":\"textDocument/didChange\",\"params\":{\"textDocument\":{\"uri\":\"file:///u\",\"version\":4},\"contentChanges\":[{\"text\":\"b\"}]}}")
    ∷ ToServer 0 (codes "{\"jsonrpc\":\"2.0\",\"method\":\"x/y\"}")
    ∷ []

-- and changed by each of the two
abbrev pub changing : List Cause
changing = switching
    ++ FromEditor 0 (codes "{\"jsonrpc\":\"2.0\",\"method\":\"textDocument/didChange\",\"params\":{\"textDocument\":{\"uri\":\"file:///u\",\"version\":6},\"contentChanges\":[{\"range\":{\"start\":{\"line\":0,\"character\":1},\"end\":{\"line\":0,\"character\":1}},\"text\":\"x\"}]}}")
    ∷ FromEditor 0 (codes "{\"jsonrpc\":\"2.0\",\"method\":\"textDocument/didChange\",\"params\":{\"textDocument\":{\"uri\":\"file:///u\",\"version\":7},\"contentChanges\":[{\"range\":{\"start\":{\"line\":0,\"character\":0},\"end\":{\"line\":0,\"character\":1}},\"text\":\"\"}]}}")
    ∷ FromEditor 1 (codes "{\"jsonrpc\":\"2.0\",\"method\":\"textDocument/didChange\",\"params\":{\"textDocument\":{\"uri\":\"file:///u\",\"version\":10},\"contentChanges\":[{\"text\":\"x\"}]}}")
    ∷ FromEditor 0 (codes "{\"jsonrpc\":\"2.0\",\"method\":\"textDocument/didChange\",\"params\":{\"textDocument\":{\"uri\":\"file:///u\",\"version\":8},\"contentChanges\":7}}")
    ∷ []

abbrev pub changing_outs : List Out
changing_outs = switching_outs
    ++ ToServer 0 (codes "{\"jsonrpc\":\"2.0\",\"method\":\"textDocument/didChange\",\"params\":{\"textDocument\":{\"uri\":\"file:///u\",\"version\":5},\"contentChanges\":[{\"text\":\"ax\"}]}}")
    ∷ ToServer 0 (codes "{\"jsonrpc\":\"2.0\",\"method\":\"textDocument/didChange\",\"params\":{\"textDocument\":{\"uri\":\"file:///u\",\"version\":6},\"contentChanges\":[{\"range\":{\"start\":{\"line\":0,\"character\":0},\"end\":{\"line\":0,\"character\":1}},\"text\":\"\"}]}}")
    ∷ []

-- and closed by each of the two
abbrev pub closing : List Cause
closing = two_editors
    ++ FromEditor 0 (codes "{\"jsonrpc\":\"2.0\",\"method\":\"textDocument/didOpen\",\"params\":{\"textDocument\":{\"uri\":\"file:///u\",\"languageId\":\"x\",\"version\":1,\"text\":\"a\"}}}")
    ∷ FromEditor 1 (codes "{\"jsonrpc\":\"2.0\",\"method\":\"textDocument/didOpen\",\"params\":{\"textDocument\":{\"uri\":\"file:///u\",\"languageId\":\"x\",\"version\":1,\"text\":\"b\"}}}")
    ∷ FromEditor 1 (codes "{\"jsonrpc\":\"2.0\",\"method\":\"textDocument/didClose\",\"params\":{\"textDocument\":{\"uri\":\"file:///u\"}}}")
    ∷ FromEditor 0 (codes "{\"jsonrpc\":\"2.0\",\"method\":\"textDocument/didClose\",\"params\":{\"textDocument\":{\"uri\":\"file:///u\"}}}")
    ∷ FromEditor 0 (codes "{\"jsonrpc\":\"2.0\",\"method\":\"textDocument/didClose\",\"params\":{\"textDocument\":{\"uri\":\"file:///u\"}}}")
    ∷ []

abbrev pub closing_outs : List Out
closing_outs = two_editors_outs
    ++ ToServer 0 (codes "{\"jsonrpc\":\"2.0\",\"method\":\"textDocument/didOpen\",\"params\":{\"textDocument\":{\"uri\":\"file:///u\",\"languageId\":\"x\",\"version\":1,\"text\":\"a\"}}}")
    ∷ ToServer 0 (codes "{\"jsonrpc\":\"2.0\",\"method\":\"textDocument/didChange\",\"params\":{\"textDocument\":{\"uri\":\"file:///u\",\"version\":2},\"contentChanges\":[{\"text\":\"b\"}]}}")
    ∷ ToServer 0 (codes "{\"jsonrpc\":\"2.0\",\"method\":\"textDocument/didChange\",\"params\":{\"textDocument\":{\"uri\":\"file:///u\",\"version\":3},\"contentChanges\":[{\"text\":\"a\"}]}}")
    ∷ ToServer 0 (codes "{\"jsonrpc\":\"2.0\",\"method\":\"textDocument/didClose\",\"params\":{\"textDocument\":{\"uri\":\"file:///u\"}}}")
    ∷ []

-- two editors in two groups, each with the same document open before its start is ready
abbrev pub two_groups : List Cause
two_groups = Joined 0
    ∷ FromEditor 0 (codes "{\"jsonrpc\":\"2.0\",\"id\":0,\"method\":\"initialize\",\"params\":{\"rootUri\":\"file:///w\",\"capabilities\":{}}}")
    ∷ Joined 1
    ∷ FromEditor 1 (codes "{\"jsonrpc\":\"2.0\",\"id\":0,\"method\":\"initialize\",\"params\":{\"rootUri\":\"file:///v\",\"capabilities\":{}}}")
    ∷ Started 0
    ∷ FromServer 0 (codes "{\"jsonrpc\":\"2.0\",\"id\":1,\"result\":{\"capabilities\":{\"positionEncoding\":\"utf-8\"}}}")
    ∷ FromEditor 0 (codes "{\"jsonrpc\":\"2.0\",\"method\":\"textDocument/didOpen\",\"params\":{\"textDocument\":{\"uri\":\"file:///u\",\"languageId\":\"x\",\"version\":1,\"text\":\"a\"}}}")
    ∷ Started 1
    ∷ FromServer 1 (codes "{\"jsonrpc\":\"2.0\",\"id\":1,\"result\":{\"capabilities\":{}}}")
    ∷ FromEditor 1 (codes "{\"jsonrpc\":\"2.0\",\"method\":\"textDocument/didOpen\",\"params\":{\"textDocument\":{\"uri\":\"file:///u\",\"languageId\":\"x\",\"version\":1,\"text\":\"b\"}}}")
    ∷ []

-- the first group's start exits, and another is spawned for it, which gives no result yet
abbrev pub an_exit : List Event
an_exit = behind (with_cause (events_behind (with_groups 8) [] two_groups) (ServerGone 0)) (Spawn 2 0 ∷ [])

-- the texts of a group, without more
abbrev pub texts_in : List Open → List (List ℕ)
texts_in opens = map (λ (o : Open). o.text) opens

abbrev pub touches_in : List Open → List ℕ
touches_in opens = map (λ (o : Open). o.touched) opens

-- an editor with two open requests, one of which it cancelled
abbrev pub one_cancelled : List Event
one_cancelled = behind (events_behind (with_groups 8) [] (two_editors
    ++ FromEditor 0 (codes "{\"jsonrpc\":\"2.0\",\"method\":\"textDocument/didOpen\",\"params\":{\"textDocument\":{\"uri\":\"file:///u\",\"languageId\":\"x\",\"version\":1,\"text\":\"a\"}}}")
    ∷ FromEditor 0 (codes "{\"jsonrpc\":\"2.0\",\"id\":1,\"method\":\"textDocument/hover\",\"params\":{}}")
    ∷ FromEditor 1 (codes "{\"jsonrpc\":\"2.0\",\"id\":1,\"method\":\"textDocument/hover\",\"params\":{}}")
    ∷ FromEditor 0 (codes "{\"jsonrpc\":\"2.0\",\"id\":2,\"method\":\"textDocument/hover\",\"params\":{}}")
    ∷ [])) (ToServer 0 (cancel_text 2) ∷ [])

abbrev pub left_outs : ℕ → List Event → List Out
left_outs e events = outs (leave_row (with_groups 8) events e) events

-- a second `initialize`; `shutdown`, a request behind it, and `exit`; and a request under an id that is open
abbrev pub parting : List Cause
parting = two_editors
    ++ FromEditor 0 (codes "{\"jsonrpc\":\"2.0\",\"method\":\"textDocument/didOpen\",\"params\":{\"textDocument\":{\"uri\":\"file:///u\",\"languageId\":\"x\",\"version\":1,\"text\":\"a\"}}}")
    ∷ FromEditor 0 (codes "{\"jsonrpc\":\"2.0\",\"id\":1,\"method\":\"textDocument/hover\",\"params\":{}}")
    ∷ FromEditor 1 (codes "{\"jsonrpc\":\"2.0\",\"id\":1,\"method\":\"textDocument/hover\",\"params\":{}}")
    ∷ FromEditor 0 (codes "{\"jsonrpc\":\"2.0\",\"id\":2,\"method\":\"initialize\",\"params\":{}}")
    ∷ FromEditor 0 (codes "{\"jsonrpc\":\"2.0\",\"id\":3,\"method\":\"shutdown\"}")
    ∷ FromEditor 0 (codes "{\"jsonrpc\":\"2.0\",\"id\":4,\"method\":\"textDocument/hover\",\"params\":{}}")
    ∷ FromEditor 0 (codes "{\"jsonrpc\":\"2.0\",\"method\":\"exit\"}")
    ∷ FromEditor 0 (codes "{\"jsonrpc\":\"2.0\",\"id\":5,\"method\":\"textDocument/hover\",\"params\":{}}")
    ∷ EditorGone 0 End
    ∷ FromEditor 1 (codes "{\"jsonrpc\":\"2.0\",\"id\":1,\"method\":\"textDocument/hover\",\"params\":{}}")
    ∷ EditorGone 1 End
    ∷ []

abbrev pub parting_outs : List Out
parting_outs = two_editors_outs
    ++ ToServer 0 (codes "{\"jsonrpc\":\"2.0\",\"method\":\"textDocument/didOpen\",\"params\":{\"textDocument\":{\"uri\":\"file:///u\",\"languageId\":\"x\",\"version\":1,\"text\":\"a\"}}}")
    ∷ ToServer 0 (codes "{\"jsonrpc\":\"2.0\",\"id\":2,\"method\":\"textDocument/hover\",\"params\":{}}")
    ∷ ToServer 0 (codes "{\"jsonrpc\":\"2.0\",\"id\":3,\"method\":\"textDocument/hover\",\"params\":{}}")
    ∷ ToEditor 0 (codes "{\"jsonrpc\":\"2.0\",\"id\":2,\"error\":{\"code\":-32600,\"message\":\"Invalid Request\"}}")
    ∷ ToEditor 0 (codes "{\"jsonrpc\":\"2.0\",\"id\":3,\"result\":null}")
    ∷ ToServer 0 (codes "{\"jsonrpc\":\"2.0\",\"method\":\"$/cancelRequest\",\"params\":{\"id\":2}}")
    ∷ ToServer 0 (codes "{\"jsonrpc\":\"2.0\",\"method\":\"textDocument/didClose\",\"params\":{\"textDocument\":{\"uri\":\"file:///u\"}}}")
    ∷ ToEditor 0 (codes "{\"jsonrpc\":\"2.0\",\"id\":4,\"error\":{\"code\":-32600,\"message\":\"Invalid Request\"}}")
    ∷ CloseEditor 0
    ∷ CloseEditor 1
    ∷ ToServer 0 (codes "{\"jsonrpc\":\"2.0\",\"method\":\"$/cancelRequest\",\"params\":{\"id\":3}}")
    ∷ []

-- links that end: of an editor that has a document and a request open, and of one that sent nothing
abbrev pub links_end : List Cause
links_end = two_editors
    ++ FromEditor 0 (codes "{\"jsonrpc\":\"2.0\",\"method\":\"textDocument/didOpen\",\"params\":{\"textDocument\":{\"uri\":\"file:///u\",\"languageId\":\"x\",\"version\":1,\"text\":\"a\"}}}")
    ∷ FromEditor 0 (codes "{\"jsonrpc\":\"2.0\",\"id\":1,\"method\":\"textDocument/hover\",\"params\":{}}")
    ∷ EditorGone 0 End
    ∷ Joined 2
    ∷ EditorGone 2 End
    ∷ []

abbrev pub links_end_outs : List Out
links_end_outs = two_editors_outs
    ++ ToServer 0 (codes "{\"jsonrpc\":\"2.0\",\"method\":\"textDocument/didOpen\",\"params\":{\"textDocument\":{\"uri\":\"file:///u\",\"languageId\":\"x\",\"version\":1,\"text\":\"a\"}}}")
    ∷ ToServer 0 (codes "{\"jsonrpc\":\"2.0\",\"id\":2,\"method\":\"textDocument/hover\",\"params\":{}}")
    ∷ ToServer 0 (codes "{\"jsonrpc\":\"2.0\",\"method\":\"$/cancelRequest\",\"params\":{\"id\":2}}")
    ∷ ToServer 0 (codes "{\"jsonrpc\":\"2.0\",\"method\":\"textDocument/didClose\",\"params\":{\"textDocument\":{\"uri\":\"file:///u\"}}}")
    ∷ []

-- `lspmux/status` of a new editor, of one that waits while its start's program is to begin, and behind its result; one editor is down, another's link ended, and a request is open of each
abbrev pub asking_status : List Cause
asking_status = Joined 0
    ∷ FromEditor 0 (codes "{\"jsonrpc\":\"2.0\",\"id\":1,\"method\":\"lspmux/status\"}")
    ∷ FromEditor 0 (codes "{\"jsonrpc\":\"2.0\",\"id\":0,\"method\":\"initialize\",\"params\":{\"rootUri\":\"file:///w\",\"capabilities\":{}}}")
    ∷ FromEditor 0 (codes "{\"jsonrpc\":\"2.0\",\"id\":1,\"method\":\"lspmux/status\"}")
    ∷ Started 0
    ∷ Joined 1
    ∷ FromEditor 1 (codes "{\"jsonrpc\":\"2.0\",\"id\":0,\"method\":\"initialize\",\"params\":{\"rootUri\":\"file:///w\",\"capabilities\":{}}}")
    ∷ FromServer 0 (codes "{\"jsonrpc\":\"2.0\",\"id\":1,\"result\":{\"capabilities\":{}}}")
    ∷ FromEditor 0 (codes "{\"jsonrpc\":\"2.0\",\"id\":1,\"method\":\"textDocument/hover\",\"params\":{}}")
    ∷ FromEditor 1 (codes "{\"jsonrpc\":\"2.0\",\"id\":1,\"method\":\"textDocument/hover\",\"params\":{}}")
    ∷ FromEditor 1 (codes "{\"jsonrpc\":\"2.0\",\"id\":2,\"method\":\"shutdown\"}")
    ∷ FromEditor 1 (codes "{\"jsonrpc\":\"2.0\",\"id\":3,\"method\":\"lspmux/status\"}")
    ∷ EditorGone 1 End
    ∷ FromEditor 0 (codes "{\"jsonrpc\":\"2.0\",\"id\":2,\"method\":\"lspmux/status\"}")
    ∷ []

abbrev pub asking_status_outs : List Out
asking_status_outs = ToEditor 0 (codes "{\"jsonrpc\":\"2.0\",\"id\":1,\"result\":{\"groups\":[]}}")
    ∷ Spawn 0 0
    ∷ ToEditor 0 (codes "{\"jsonrpc\":\"2.0\",\"id\":1,\"result\":{\"groups\":[{\"group\":0,\"server\":\"main\",\"start\":0,\"state\":\"spawning\",\"editors\":[0],\"open\":0}]}}")
    ∷ ToServer 0 (codes "{\"jsonrpc\":\"2.0\",\"id\":1,\"method\":\"initialize\",\"params\":{\"processId\":null,\"clientInfo\":{\"name\":\"lspmux\"},\"rootUri\":\"file:///w\",\"capabilities\":{},\"trace\":\"off\"}}")
    ∷ ToServer 0 (codes "{\"jsonrpc\":\"2.0\",\"method\":\"initialized\",\"params\":{}}")
    ∷ ToEditor 0 (codes "{\"jsonrpc\":\"2.0\",\"id\":0,\"result\":{\"capabilities\":{}}}")
    ∷ ToEditor 1 (codes "{\"jsonrpc\":\"2.0\",\"id\":0,\"result\":{\"capabilities\":{}}}")
    ∷ ToServer 0 (codes "{\"jsonrpc\":\"2.0\",\"id\":2,\"method\":\"textDocument/hover\",\"params\":{}}")
    ∷ ToServer 0 (codes "{\"jsonrpc\":\"2.0\",\"id\":3,\"method\":\"textDocument/hover\",\"params\":{}}")
    ∷ ToEditor 1 (codes "{\"jsonrpc\":\"2.0\",\"id\":2,\"result\":null}")
    ∷ ToServer 0 (codes "{\"jsonrpc\":\"2.0\",\"method\":\"$/cancelRequest\",\"params\":{\"id\":3}}")
    ∷ ToEditor 1 (codes "{\"jsonrpc\":\"2.0\",\"id\":3,\"result\":{\"groups\":[{\"group\":0,\"server\":\"main\",\"start\":0,\"state\":\"ready\",\"editors\":[0,1],\"open\":2}]}}")
    ∷ ToEditor 0 (codes "{\"jsonrpc\":\"2.0\",\"id\":2,\"result\":{\"groups\":[{\"group\":0,\"server\":\"main\",\"start\":0,\"state\":\"ready\",\"editors\":[0],\"open\":1}]}}")
    ∷ []

-- two servers, of which the first is the default
abbrev pub two_servers : Settings
two_servers = record {
  limits = record { groups = 8; restarts = 5; idle = 300; grace = 5; backlog = 134217728; requests = 2147483647; versions = 2147483647 };
  servers = record { name = codes "main"; ceiling = None } ∷ record { name = codes "aux"; ceiling = None } ∷ [];
  default = 0;
}

-- the first editor means the default server, the second another one, which it names by an escape; the third names no server, and a list of params names none
abbrev pub opening_servers : List Cause
opening_servers = Joined 0
    ∷ FromEditor 0 (codes "{\"jsonrpc\":\"2.0\",\"id\":0,\"method\":\"initialize\",\"params\":{\"rootUri\":\"file:///w\",\"capabilities\":{}}}")
    ∷ Joined 1
    ∷ FromEditor 1 (codes "{\"jsonrpc\":\"2.0\",\"id\":1,\"method\":\"lspmux/open\",\"params\":{\"server\":\"\\u0061ux\"}}")
    ∷ FromEditor 1 (codes "{\"jsonrpc\":\"2.0\",\"id\":2,\"method\":\"lspmux/open\",\"params\":{\"server\":\"main\"}}")
    ∷ FromEditor 1 (codes "{\"jsonrpc\":\"2.0\",\"id\":0,\"method\":\"initialize\",\"params\":{\"rootUri\":\"file:///w\",\"capabilities\":{}}}")
    ∷ FromEditor 1 (codes "{\"jsonrpc\":\"2.0\",\"id\":3,\"method\":\"lspmux/open\",\"params\":{\"server\":\"main\"}}")
    ∷ Joined 2
    ∷ FromEditor 2 (codes "{\"jsonrpc\":\"2.0\",\"id\":1,\"method\":\"lspmux/open\",\"params\":{\"server\":\"none\"}}")
    ∷ FromEditor 2 (codes "{\"jsonrpc\":\"2.0\",\"id\":2,\"method\":\"lspmux/open\",\"params\":{\"server\":\"aux\"}}")
    ∷ FromEditor 2 (codes "{\"jsonrpc\":\"2.0\",\"id\":0,\"method\":\"initialize\",\"params\":{\"rootUri\":\"file:///w\",\"capabilities\":{}}}")
    ∷ Joined 3
    ∷ FromEditor 3 (codes "{\"jsonrpc\":\"2.0\",\"id\":1,\"method\":\"lspmux/open\",\"params\":[\"aux\"]}")
    ∷ FromEditor 1 (codes "{\"jsonrpc\":\"2.0\",\"id\":0,\"method\":\"lspmux/open\"}")
    ∷ FromEditor 1 (codes "{\"jsonrpc\":\"2.0\",\"id\":4,\"method\":\"lspmux/open\"}")
    ∷ []

abbrev pub opening_servers_outs : List Out
opening_servers_outs = Spawn 0 0
    ∷ ToEditor 1 (codes "{\"jsonrpc\":\"2.0\",\"id\":1,\"result\":null}")
    ∷ ToEditor 1 (codes "{\"jsonrpc\":\"2.0\",\"id\":2,\"error\":{\"code\":-32600,\"message\":\"Invalid Request\"}}")
    ∷ Spawn 1 1
    ∷ ToEditor 1 (codes "{\"jsonrpc\":\"2.0\",\"id\":3,\"error\":{\"code\":-32600,\"message\":\"Invalid Request\"}}")
    ∷ ToEditor 2 (codes "{\"jsonrpc\":\"2.0\",\"id\":1,\"error\":{\"code\":-32602,\"message\":\"Invalid params\"}}")
    ∷ ToEditor 2 (codes "{\"jsonrpc\":\"2.0\",\"id\":2,\"error\":{\"code\":-32600,\"message\":\"Invalid Request\"}}")
    ∷ ToEditor 3 (codes "{\"jsonrpc\":\"2.0\",\"id\":1,\"error\":{\"code\":-32602,\"message\":\"Invalid params\"}}")
    ∷ CloseEditor 1
    ∷ []

-- an editor that got its result stays where it is by `lspmux/open`
abbrev pub opening_late : List Cause
opening_late = Joined 0
    ∷ FromEditor 0 (codes "{\"jsonrpc\":\"2.0\",\"id\":0,\"method\":\"initialize\",\"params\":{\"rootUri\":\"file:///w\",\"capabilities\":{}}}")
    ∷ Started 0
    ∷ FromServer 0 (codes "{\"jsonrpc\":\"2.0\",\"id\":1,\"result\":{\"capabilities\":{}}}")
    ∷ FromEditor 0 (codes "{\"jsonrpc\":\"2.0\",\"id\":1,\"method\":\"lspmux/open\",\"params\":{\"server\":\"aux\"}}")
    ∷ []

abbrev pub opening_late_out : Out
opening_late_out = ToEditor 0 (codes "{\"jsonrpc\":\"2.0\",\"id\":1,\"error\":{\"code\":-32600,\"message\":\"Invalid Request\"}}")

-- where one group is the limit, an idle one ends for another: its start answers `shutdown`, and its program ends
abbrev pub evicted : List Cause
evicted = Joined 0
    ∷ FromEditor 0 (codes "{\"jsonrpc\":\"2.0\",\"id\":0,\"method\":\"initialize\",\"params\":{\"rootUri\":\"file:///w\",\"capabilities\":{}}}")
    ∷ Started 0
    ∷ FromServer 0 (codes "{\"jsonrpc\":\"2.0\",\"id\":1,\"result\":{\"capabilities\":{}}}")
    ∷ EditorGone 0 End
    ∷ Joined 1
    ∷ FromEditor 1 (codes "{\"jsonrpc\":\"2.0\",\"id\":0,\"method\":\"initialize\",\"params\":{\"rootUri\":\"file:///v\",\"capabilities\":{}}}")
    ∷ FromServer 0 (codes "{\"jsonrpc\":\"2.0\",\"id\":1,\"result\":null}")
    ∷ FromServer 0 (codes "{\"jsonrpc\":\"2.0\",\"id\":2,\"result\":null}")
    ∷ FromServer 0 (codes "{\"jsonrpc\":\"2.0\",\"id\":2,\"result\":null}")
    ∷ ServerGone 0
    ∷ []

abbrev pub evicted_outs : List Out
evicted_outs = Spawn 0 0
    ∷ ToServer 0 (codes "{\"jsonrpc\":\"2.0\",\"id\":1,\"method\":\"initialize\",\"params\":{\"processId\":null,\"clientInfo\":{\"name\":\"lspmux\"},\"rootUri\":\"file:///w\",\"capabilities\":{},\"trace\":\"off\"}}")
    ∷ ToServer 0 (codes "{\"jsonrpc\":\"2.0\",\"method\":\"initialized\",\"params\":{}}")
    ∷ ToEditor 0 (codes "{\"jsonrpc\":\"2.0\",\"id\":0,\"result\":{\"capabilities\":{}}}")
    ∷ ToServer 0 (codes "{\"jsonrpc\":\"2.0\",\"id\":2,\"method\":\"shutdown\"}")
    ∷ Spawn 1 1
    ∷ ToServer 0 (codes "{\"jsonrpc\":\"2.0\",\"method\":\"exit\"}")
    ∷ EndServer 0
    ∷ []

-- a start of two editors that got its result ends, and one of them sends `shutdown`; another start is spawned for them, for which two more wait
abbrev pub before_refusal : List Event
before_refusal = events_behind (with_groups 8) (behind (with_cause (events_behind (with_groups 8) [] (two_editors ++ FromEditor 1 (codes "{\"jsonrpc\":\"2.0\",\"id\":1,\"method\":\"shutdown\"}") ∷ [])) (ServerGone 0)) (Spawn 1 0 ∷ []))
    (Joined 2
    ∷ FromEditor 2 (codes "{\"jsonrpc\":\"2.0\",\"id\":\"a\",\"method\":\"initialize\",\"params\":{\"rootUri\":\"file:///w\",\"capabilities\":{}}}")
    ∷ Joined 3
    ∷ FromEditor 3 (codes "{\"jsonrpc\":\"2.0\",\"id\":7,\"method\":\"initialize\",\"params\":{\"rootUri\":\"file:///w\",\"capabilities\":{}}}")
    ∷ Joined 4
    ∷ FromEditor 4 (codes "{\"jsonrpc\":\"2.0\",\"id\":8,\"method\":\"initialize\",\"params\":{\"rootUri\":\"file:///v\",\"capabilities\":{}}}")
    ∷ Started 1
    ∷ [])

-- it refuses its `initialize`: a response under another number isn't that; and nothing comes of what it says later
abbrev pub refusing : List Cause
refusing = FromServer 1 (codes "{\"jsonrpc\":\"2.0\",\"id\":2,\"error\":{\"code\":-32603,\"message\":\"no\"}}")
    ∷ FromServer 1 (codes "{\"jsonrpc\":\"2.0\", \"id\":1,\"error\":{\"code\":-32603,\"message\":\"no\"}}")
    ∷ FromServer 1 (codes "{\"jsonrpc\":\"2.0\",\"id\":1,\"error\":{\"code\":-32603,\"message\":\"no\"}}")
    ∷ ServerGone 1
    ∷ []

abbrev pub refusing_outs : List Out
refusing_outs = ToEditor 2 (codes "{\"jsonrpc\":\"2.0\", \"id\":\"a\",\"error\":{\"code\":-32603,\"message\":\"no\"}}")
    ∷ CloseEditor 2
    ∷ ToEditor 3 (codes "{\"jsonrpc\":\"2.0\", \"id\":7,\"error\":{\"code\":-32603,\"message\":\"no\"}}")
    ∷ CloseEditor 3
    ∷ CloseEditor 0
    ∷ CloseEditor 1
    ∷ EndServer 1
    ∷ []

abbrev pub outs_behind : List Event → List Cause → List Out
outs_behind events causes = flat_map (λ xs. xs) (outs_from (with_groups 8) events causes)

-- a group is idle since its editor's link is to be ended: at the moment it ends, its start is sent `shutdown`, and where that isn't answered, its program is ended
abbrev pub idling : List Cause
idling = Joined 0
    ∷ FromEditor 0 (codes "{\"jsonrpc\":\"2.0\",\"id\":0,\"method\":\"initialize\",\"params\":{\"rootUri\":\"file:///w\",\"capabilities\":{}}}")
    ∷ Started 0
    ∷ FromServer 0 (codes "{\"jsonrpc\":\"2.0\",\"id\":1,\"result\":{\"capabilities\":{}}}")
    ∷ FromEditor 0 (codes "{\"jsonrpc\":\"2.0\",\"method\":\"initialized\",\"params\":{}}")
    ∷ Tick 100
    ∷ FromEditor 0 (codes "{\"jsonrpc\":\"2.0\",\"id\":2,\"method\":\"shutdown\"}")
    ∷ FromEditor 0 (codes "{\"jsonrpc\":\"2.0\",\"id\":3,\"method\":\"textDocument/hover\",\"params\":{}}")
    ∷ FromEditor 0 (codes "{\"jsonrpc\":\"2.0\",\"method\":\"exit\"}")
    ∷ EditorGone 0 End
    ∷ Tick 399
    ∷ Tick 400
    ∷ Tick 404
    ∷ Tick 405
    ∷ Tick 406
    ∷ []

abbrev pub idling_outs : List Out
idling_outs = Spawn 0 0
    ∷ ToServer 0 (codes "{\"jsonrpc\":\"2.0\",\"id\":1,\"method\":\"initialize\",\"params\":{\"processId\":null,\"clientInfo\":{\"name\":\"lspmux\"},\"rootUri\":\"file:///w\",\"capabilities\":{},\"trace\":\"off\"}}")
    ∷ ToServer 0 (codes "{\"jsonrpc\":\"2.0\",\"method\":\"initialized\",\"params\":{}}")
    ∷ ToEditor 0 (codes "{\"jsonrpc\":\"2.0\",\"id\":0,\"result\":{\"capabilities\":{}}}")
    ∷ ToEditor 0 (codes "{\"jsonrpc\":\"2.0\",\"id\":2,\"result\":null}")
    ∷ ToEditor 0 (codes "{\"jsonrpc\":\"2.0\",\"id\":3,\"error\":{\"code\":-32600,\"message\":\"Invalid Request\"}}")
    ∷ CloseEditor 0
    ∷ ToServer 0 (codes "{\"jsonrpc\":\"2.0\",\"id\":2,\"method\":\"shutdown\"}")
    ∷ EndServer 0
    ∷ []

-- three groups end at one tick, two whose starts are ready, and one whose start gave no result yet; the editor of a fourth one is behind `shutdown`, so that one isn't idle. A smaller tick leaves the time
abbrev pub idling_groups : List Cause
idling_groups = two_groups
    ++ Joined 2
    ∷ FromEditor 2 (codes "{\"jsonrpc\":\"2.0\",\"id\":0,\"method\":\"initialize\",\"params\":{\"rootUri\":\"file:///x\",\"capabilities\":{}}}")
    ∷ Started 2
    ∷ Joined 3
    ∷ FromEditor 3 (codes "{\"jsonrpc\":\"2.0\",\"id\":0,\"method\":\"initialize\",\"params\":{\"rootUri\":\"file:///y\",\"capabilities\":{}}}")
    ∷ Started 3
    ∷ FromServer 3 (codes "{\"jsonrpc\":\"2.0\",\"id\":1,\"result\":{\"capabilities\":{}}}")
    ∷ FromEditor 3 (codes "{\"jsonrpc\":\"2.0\",\"id\":1,\"method\":\"shutdown\"}")
    ∷ Tick 7
    ∷ EditorGone 2 End
    ∷ EditorGone 0 End
    ∷ EditorGone 1 End
    ∷ []

abbrev pub ticking : List Cause
ticking = Tick 306 ∷ Tick 307 ∷ Tick 3 ∷ Tick 312 ∷ Tick 999 ∷ []

abbrev pub with_grace : ℕ → Settings
with_grace n = record (with_groups 8) { limits = record (with_groups 8).limits { grace = n } }

abbrev pub ticks_behind : ℕ → List (List Out)
ticks_behind grace = outs_from (with_grace grace) (events_behind (with_grace grace) [] idling_groups) ticking

abbrev pub end_outs : List Out
end_outs = ToServer 0 (codes "{\"jsonrpc\":\"2.0\",\"id\":2,\"method\":\"shutdown\"}")
    ∷ ToServer 1 (codes "{\"jsonrpc\":\"2.0\",\"id\":2,\"method\":\"shutdown\"}")
    ∷ EndServer 2
    ∷ []

abbrev pub late_outs : List Out
late_outs = EndServer 0 ∷ EndServer 1 ∷ []

-- two editors have one text of a document in two languages: the start is sent the document anew where the language is another one

abbrev pub two_languages : List Cause
two_languages = two_editors
    ++ FromEditor 0 (codes "{\"jsonrpc\":\"2.0\",\"method\":\"textDocument/didOpen\",\"params\":{\"textDocument\":{\"uri\":\"file:///u\",\"languageId\":\"x\",\"version\":1,\"text\":\"a\"}}}")
    ∷ FromEditor 1 (codes "{\"jsonrpc\":\"2.0\",\"method\":\"textDocument/didOpen\",\"params\":{\"textDocument\":{\"uri\":\"file:///u\",\"languageId\":\"y\",\"version\":1,\"text\":\"a\"}}}")
    ∷ FromEditor 0 (codes "{\"jsonrpc\":\"2.0\",\"id\":1,\"method\":\"textDocument/hover\",\"params\":{}}")
    ∷ FromEditor 1 (codes "{\"jsonrpc\":\"2.0\",\"method\":\"textDocument/didClose\",\"params\":{\"textDocument\":{\"uri\":\"file:///u\"}}}")
    ∷ []

abbrev pub two_languages_outs : List Out
two_languages_outs = two_editors_outs
    ++ ToServer 0 (codes "{\"jsonrpc\":\"2.0\",\"method\":\"textDocument/didOpen\",\"params\":{\"textDocument\":{\"uri\":\"file:///u\",\"languageId\":\"x\",\"version\":1,\"text\":\"a\"}}}")
    ∷ ToServer 0 (codes "{\"jsonrpc\":\"2.0\",\"method\":\"textDocument/didClose\",\"params\":{\"textDocument\":{\"uri\":\"file:///u\"}}}")
    ∷ ToServer 0 (codes "{\"jsonrpc\":\"2.0\",\"method\":\"textDocument/didOpen\",\"params\":{\"textDocument\":{\"uri\":\"file:///u\",\"languageId\":\"y\",\"version\":1,\"text\":\"a\"}}}")
    ∷ ToServer 0 (codes "{\"jsonrpc\":\"2.0\",\"method\":\"textDocument/didClose\",\"params\":{\"textDocument\":{\"uri\":\"file:///u\"}}}")
    ∷ ToServer 0 (codes "{\"jsonrpc\":\"2.0\",\"method\":\"textDocument/didOpen\",\"params\":{\"textDocument\":{\"uri\":\"file:///u\",\"languageId\":\"x\",\"version\":1,\"text\":\"a\"}}}")
    ∷ ToServer 0 (codes "{\"jsonrpc\":\"2.0\",\"id\":2,\"method\":\"textDocument/hover\",\"params\":{}}")
    ∷ []
