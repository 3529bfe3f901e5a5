-- Worked histories of exits, while the group lives.
use Rattle.std.specs.Prelude.{List, [], ◌∷◌, ◌++◌, codes}
use Rattle.mux_history.specs.declared.cause.Cause.{Cause}
use Rattle.mux_history.specs.declared.cause.Cause.TheVariants.{Joined, FromEditor, Started, StartFailed, FromServer, ServerGone}
use Rattle.mux_history.specs.declared.out.Out.{Out}
use Rattle.mux_history.specs.declared.out.Out.TheVariants.{ToEditor, ToServer, CloseEditor, Spawn}
use Rattle.group_rows.specs.Example.{two_editors, two_editors_outs}

-- of the editors of a group, whose start is ready, two run: one has a document open, took a token that has begun, and is asked something; the other one was asked whether it takes the token; the third one got its result, and the fourth one is down. But for that one each was told what is registered, and of the list of diagnostics as it runs; three have open requests
abbrev pub at_work : List Cause
at_work = two_editors
    ++ FromEditor 0 (codes "{\"jsonrpc\":\"2.0\",\"method\":\"textDocument/didOpen\",\"params\":{\"textDocument\":{\"uri\":\"file:///u\",\"languageId\":\"x\",\"version\":1,\"text\":\"a\"}}}")
    ∷ FromServer 0 (codes "{\"jsonrpc\":\"2.0\",\"id\":9,\"method\":\"client/registerCapability\",\"params\":{\"registrations\":[{\"id\":\"r\",\"method\":\"m\"}]}}")
    ∷ FromServer 0 (codes "{\"jsonrpc\":\"2.0\",\"id\":10,\"method\":\"window/workDoneProgress/create\",\"params\":{\"token\":\"t\"}}")
    ∷ FromEditor 0 (codes "{\"jsonrpc\":\"2.0\",\"id\":2,\"result\":null}")
    ∷ FromServer 0 (codes "{\"jsonrpc\":\"2.0\",\"method\":\"$/progress\",\"params\":{\"token\":\"t\",\"value\":{\"kind\":\"begin\",\"title\":\"x\"}}}")
    ∷ FromServer 0 (codes "{\"jsonrpc\":\"2.0\",\"id\":11,\"method\":\"workspace/configuration\",\"params\":{\"items\":[]}}")
    ∷ FromServer 0 (codes "{\"jsonrpc\":\"2.0\",\"method\":\"textDocument/publishDiagnostics\",\"params\":{\"uri\":\"file:///u\",\"diagnostics\":[{}]}}")
    ∷ FromEditor 1 (codes "{\"jsonrpc\":\"2.0\",\"id\":7,\"method\":\"textDocument/hover\",\"params\":{}}")
    ∷ FromEditor 0 (codes "{\"jsonrpc\":\"2.0\",\"id\":1,\"method\":\"textDocument/hover\",\"params\":{}}")
    ∷ FromEditor 0 (codes "{\"jsonrpc\":\"2.0\",\"id\":2,\"method\":\"textDocument/hover\",\"params\":{}}")
    ∷ Joined 2
    ∷ FromEditor 2 (codes "{\"jsonrpc\":\"2.0\",\"id\":0,\"method\":\"initialize\",\"params\":{\"rootUri\":\"file:///w\",\"capabilities\":{}}}")
    ∷ Joined 3
    ∷ FromEditor 3 (codes "{\"jsonrpc\":\"2.0\",\"id\":0,\"method\":\"initialize\",\"params\":{\"rootUri\":\"file:///w\",\"capabilities\":{}}}")
    ∷ FromEditor 3 (codes "{\"jsonrpc\":\"2.0\",\"id\":1,\"method\":\"textDocument/hover\",\"params\":{}}")
    ∷ FromEditor 3 (codes "{\"jsonrpc\":\"2.0\",\"id\":2,\"method\":\"shutdown\"}")
    ∷ []

abbrev pub at_work_outs : List Out
at_work_outs = two_editors_outs
    ++ ToServer 0 (codes "{\"jsonrpc\":\"2.0\",\"method\":\"textDocument/didOpen\",\"params\":{\"textDocument\":{\"uri\":\"file:///u\",\"languageId\":\"x\",\"version\":1,\"text\":\"a\"}}}")
    ∷ ToServer 0 (codes "{\"jsonrpc\":\"2.0\",\"id\":9,\"result\":null}")
    ∷ ToEditor 0 (codes "{\"jsonrpc\":\"2.0\",\"id\":1,\"method\":\"client/registerCapability\",\"params\":{\"registrations\":[{\"id\":\"r\",\"method\":\"m\"}]}}")
    ∷ ToEditor 1 (codes "{\"jsonrpc\":\"2.0\",\"id\":1,\"method\":\"client/registerCapability\",\"params\":{\"registrations\":[{\"id\":\"r\",\"method\":\"m\"}]}}")
    ∷ ToServer 0 (codes "{\"jsonrpc\":\"2.0\",\"id\":10,\"result\":null}")
    ∷ ToEditor 0 (codes "{\"jsonrpc\":\"2.0\",\"id\":2,\"method\":\"window/workDoneProgress/create\",\"params\":{\"token\":\"lspmux:0:1\"}}")
    ∷ ToEditor 1 (codes "{\"jsonrpc\":\"2.0\",\"id\":2,\"method\":\"window/workDoneProgress/create\",\"params\":{\"token\":\"lspmux:0:1\"}}")
    ∷ ToEditor 0 (codes "{\"jsonrpc\":\"2.0\",\"method\":\"$/progress\",\"params\":{\"token\":\"lspmux:0:1\",\"value\":{\"kind\":\"begin\",\"title\":\"x\"}}}")
    ∷ ToEditor 0 (codes "{\"jsonrpc\":\"2.0\",\"id\":3,\"method\":\"workspace/configuration\",\"params\":{\"items\":[]}}")
    ∷ ToEditor 0 (codes "{\"jsonrpc\":\"2.0\",\"method\":\"textDocument/publishDiagnostics\",\"params\":{\"uri\":\"file:///u\",\"diagnostics\":[{}]}}")
    ∷ ToEditor 1 (codes "{\"jsonrpc\":\"2.0\",\"method\":\"textDocument/publishDiagnostics\",\"params\":{\"uri\":\"file:///u\",\"diagnostics\":[{}]}}")
    ∷ ToServer 0 (codes "{\"jsonrpc\":\"2.0\",\"id\":2,\"method\":\"textDocument/hover\",\"params\":{}}")
    ∷ ToServer 0 (codes "{\"jsonrpc\":\"2.0\",\"id\":3,\"method\":\"textDocument/hover\",\"params\":{}}")
    ∷ ToServer 0 (codes "{\"jsonrpc\":\"2.0\",\"id\":4,\"method\":\"textDocument/hover\",\"params\":{}}")
    ∷ ToEditor 2 (codes "{\"jsonrpc\":\"2.0\",\"id\":0,\"result\":{\"capabilities\":{}}}")
    ∷ ToEditor 3 (codes "{\"jsonrpc\":\"2.0\",\"id\":0,\"result\":{\"capabilities\":{}}}")
    ∷ ToEditor 3 (codes "{\"jsonrpc\":\"2.0\",\"id\":1,\"method\":\"client/registerCapability\",\"params\":{\"registrations\":[{\"id\":\"r\",\"method\":\"m\"}]}}")
    ∷ ToEditor 3 (codes "{\"jsonrpc\":\"2.0\",\"id\":2,\"method\":\"window/workDoneProgress/create\",\"params\":{\"token\":\"lspmux:0:1\"}}")
    ∷ ToEditor 3 (codes "{\"jsonrpc\":\"2.0\",\"method\":\"textDocument/publishDiagnostics\",\"params\":{\"uri\":\"file:///u\",\"diagnostics\":[{}]}}")
    ∷ ToServer 0 (codes "{\"jsonrpc\":\"2.0\",\"id\":5,\"method\":\"textDocument/hover\",\"params\":{}}")
    ∷ ToEditor 3 (codes "{\"jsonrpc\":\"2.0\",\"id\":2,\"result\":null}")
    ∷ ToServer 0 (codes "{\"jsonrpc\":\"2.0\",\"method\":\"$/cancelRequest\",\"params\":{\"id\":5}}")
    ∷ []

-- what its editors are told
abbrev pub lost_to_editors : List Out
lost_to_editors = ToEditor 0 (codes "{\"jsonrpc\":\"2.0\",\"id\":1,\"error\":{\"code\":-32803,\"message\":\"Request failed\"}}")
    ∷ ToEditor 0 (codes "{\"jsonrpc\":\"2.0\",\"id\":2,\"error\":{\"code\":-32803,\"message\":\"Request failed\"}}")
    ∷ ToEditor 1 (codes "{\"jsonrpc\":\"2.0\",\"id\":7,\"error\":{\"code\":-32803,\"message\":\"Request failed\"}}")
    ∷ ToEditor 3 (codes "{\"jsonrpc\":\"2.0\",\"id\":1,\"error\":{\"code\":-32803,\"message\":\"Request failed\"}}")
    ∷ ToEditor 0 (codes "{\"jsonrpc\":\"2.0\",\"method\":\"$/progress\",\"params\":{\"token\":\"lspmux:0:1\",\"value\":{\"kind\":\"end\"}}}")
    ∷ ToEditor 0 (codes "{\"jsonrpc\":\"2.0\",\"method\":\"$/cancelRequest\",\"params\":{\"id\":3}}")
    ∷ ToEditor 0 (codes "{\"jsonrpc\":\"2.0\",\"id\":4,\"method\":\"client/unregisterCapability\",\"params\":{\"unregisterations\":[{\"id\":\"r\",\"method\":\"m\"}]}}")
    ∷ ToEditor 0 (codes "{\"jsonrpc\":\"2.0\",\"method\":\"textDocument/publishDiagnostics\",\"params\":{\"uri\":\"file:///u\",\"diagnostics\":[]}}")
    ∷ ToEditor 1 (codes "{\"jsonrpc\":\"2.0\",\"method\":\"$/cancelRequest\",\"params\":{\"id\":2}}")
    ∷ ToEditor 1 (codes "{\"jsonrpc\":\"2.0\",\"id\":3,\"method\":\"client/unregisterCapability\",\"params\":{\"unregisterations\":[{\"id\":\"r\",\"method\":\"m\"}]}}")
    ∷ ToEditor 1 (codes "{\"jsonrpc\":\"2.0\",\"method\":\"textDocument/publishDiagnostics\",\"params\":{\"uri\":\"file:///u\",\"diagnostics\":[]}}")
    ∷ []

-- the program ends: there is a new start, or the group ends
abbrev pub lost : List Cause
lost = at_work
    ++ ServerGone 0
    ∷ []

abbrev pub lost_outs : List Out
lost_outs = at_work_outs ++ lost_to_editors
    ++ Spawn 1 0
    ∷ []

abbrev pub over_outs : List Out
over_outs = at_work_outs ++ lost_to_editors
    ++ CloseEditor 0
    ∷ CloseEditor 1
    ∷ CloseEditor 2
    ∷ CloseEditor 3
    ∷ []

-- two editors wait as the program ends
abbrev pub lost_early : List Cause
lost_early = Joined 0
    ∷ FromEditor 0 (codes "{\"jsonrpc\":\"2.0\",\"id\":0,\"method\":\"initialize\",\"params\":{\"rootUri\":\"file:///w\",\"capabilities\":{}}}")
    ∷ Joined 1
    ∷ FromEditor 1 (codes "{\"jsonrpc\":\"2.0\",\"id\":\"a\",\"method\":\"initialize\",\"params\":{\"rootUri\":\"file:///w\",\"capabilities\":{}}}")
    ∷ Started 0
    ∷ ServerGone 0
    ∷ []

abbrev pub lost_early_outs : List Out
lost_early_outs = Spawn 0 0
    ∷ ToServer 0 (codes "{\"jsonrpc\":\"2.0\",\"id\":1,\"method\":\"initialize\",\"params\":{\"processId\":null,\"clientInfo\":{\"name\":\"lspmux\"},\"rootUri\":\"file:///w\",\"capabilities\":{},\"trace\":\"off\"}}")
    ∷ ToEditor 0 (codes "{\"jsonrpc\":\"2.0\",\"id\":0,\"error\":{\"code\":-32803,\"message\":\"Request failed\"}}")
    ∷ CloseEditor 0
    ∷ ToEditor 1 (codes "{\"jsonrpc\":\"2.0\",\"id\":\"a\",\"error\":{\"code\":-32803,\"message\":\"Request failed\"}}")
    ∷ CloseEditor 1
    ∷ []

-- no program can be run: the second time no new start is left, and the next editor founds another group
abbrev pub failed : List Cause
failed = Joined 0
    ∷ FromEditor 0 (codes "{\"jsonrpc\":\"2.0\",\"id\":0,\"method\":\"initialize\",\"params\":{\"rootUri\":\"file:///w\",\"capabilities\":{}}}")
    ∷ StartFailed 0
    ∷ StartFailed 1
    ∷ Joined 1
    ∷ FromEditor 1 (codes "{\"jsonrpc\":\"2.0\",\"id\":0,\"method\":\"initialize\",\"params\":{\"rootUri\":\"file:///w\",\"capabilities\":{}}}")
    ∷ []

abbrev pub failed_outs : List Out
failed_outs = Spawn 0 0
    ∷ Spawn 1 0
    ∷ ToEditor 0 (codes "{\"jsonrpc\":\"2.0\",\"id\":0,\"error\":{\"code\":-32803,\"message\":\"Request failed\"}}")
    ∷ CloseEditor 0
    ∷ Spawn 2 1
    ∷ []

-- the program of an idle group ends, and the group with it
abbrev pub lost_idle : List Cause
lost_idle = Joined 0
    ∷ FromEditor 0 (codes "{\"jsonrpc\":\"2.0\",\"id\":0,\"method\":\"initialize\",\"params\":{\"rootUri\":\"file:///w\",\"capabilities\":{}}}")
    ∷ Started 0
    ∷ FromServer 0 (codes "{\"jsonrpc\":\"2.0\",\"id\":1,\"result\":{\"capabilities\":{}}}")
    ∷ FromEditor 0 (codes "{\"jsonrpc\":\"2.0\",\"method\":\"exit\"}")
    ∷ ServerGone 0
    ∷ Joined 1
    ∷ FromEditor 1 (codes "{\"jsonrpc\":\"2.0\",\"id\":0,\"method\":\"initialize\",\"params\":{\"rootUri\":\"file:///w\",\"capabilities\":{}}}")
    ∷ []

abbrev pub lost_idle_outs : List Out
lost_idle_outs = Spawn 0 0
    ∷ ToServer 0 (codes "{\"jsonrpc\":\"2.0\",\"id\":1,\"method\":\"initialize\",\"params\":{\"processId\":null,\"clientInfo\":{\"name\":\"lspmux\"},\"rootUri\":\"file:///w\",\"capabilities\":{},\"trace\":\"off\"}}")
    ∷ ToServer 0 (codes "{\"jsonrpc\":\"2.0\",\"method\":\"initialized\",\"params\":{}}")
    ∷ ToEditor 0 (codes "{\"jsonrpc\":\"2.0\",\"id\":0,\"result\":{\"capabilities\":{}}}")
    ∷ CloseEditor 0
    ∷ Spawn 1 1
    ∷ []

-- a group all of whose editors are down needs no server
abbrev pub lost_down : List Cause
lost_down = two_editors
    ++ FromEditor 0 (codes "{\"jsonrpc\":\"2.0\",\"id\":1,\"method\":\"shutdown\"}")
    ∷ FromEditor 1 (codes "{\"jsonrpc\":\"2.0\",\"id\":1,\"method\":\"shutdown\"}")
    ∷ ServerGone 0
    ∷ []

abbrev pub lost_down_outs : List Out
lost_down_outs = two_editors_outs
    ++ ToEditor 0 (codes "{\"jsonrpc\":\"2.0\",\"id\":1,\"result\":null}")
    ∷ ToEditor 1 (codes "{\"jsonrpc\":\"2.0\",\"id\":1,\"result\":null}")
    ∷ CloseEditor 0
    ∷ CloseEditor 1
    ∷ []
