-- Worked histories of new starts: of what they are told, and of what editors are told of them.
use Rattle.std.specs.Prelude.{List, [], ◌∷◌, ◌++◌, codes}
use Rattle.mux_history.specs.declared.cause.Cause.{Cause}
use Rattle.mux_history.specs.declared.cause.Cause.TheVariants.{Joined, FromEditor, Started, FromServer, ServerGone}
use Rattle.mux_history.specs.declared.out.Out.{Out}
use Rattle.mux_history.specs.declared.out.Out.TheVariants.{ToEditor, ToServer, CloseEditor, Spawn}
use Rattle.group_rows.specs.Example.{two_editors, two_editors_outs}

-- two editors have a document open, in two texts, and one of them a second one; the start is told of a configuration, and registers something. Its program ends; then an editor tells of another configuration, one changes its text, one asks, and a third one comes. The new start has the holders' texts, and the last configuration; what was asked for the first start is answered no more, and what is registered is the new start's own
abbrev pub restarted : List Cause
restarted = two_editors
    ++ FromEditor 0 (codes "{\"jsonrpc\":\"2.0\",\"method\":\"textDocument/didOpen\",\"params\":{\"textDocument\":{\"uri\":\"file:///u\",\"languageId\":\"x\",\"version\":1,\"text\":\"a\"}}}")
    ∷ FromEditor 1 (codes "{\"jsonrpc\":\"2.0\",\"method\":\"textDocument/didOpen\",\"params\":{\"textDocument\":{\"uri\":\"file:///u\",\"languageId\":\"x\",\"version\":1,\"text\":\"b\"}}}")
    ∷ FromEditor 1 (codes "{\"jsonrpc\":\"2.0\",\"method\":\"textDocument/didOpen\",\"params\":{\"textDocument\":{\"uri\":\"file:///v\",\"languageId\":\"x\",\"version\":1,\"text\":\"c\"}}}")
    ∷ FromEditor 0 (codes "{\"jsonrpc\":\"2.0\",\"method\":\"workspace/didChangeConfiguration\",\"params\":{\"settings\":1}}")
    ∷ FromServer 0 (codes "{\"jsonrpc\":\"2.0\",\"id\":9,\"method\":\"client/registerCapability\",\"params\":{\"registrations\":[{\"id\":\"r\",\"method\":\"m\"}]}}")
    ∷ ServerGone 0
    ∷ FromEditor 0 (codes "{\"jsonrpc\":\"2.0\",\"method\":\"workspace/didChangeConfiguration\",\"params\":{\"settings\":2}}")
    ∷ FromEditor 1 (codes "{\"jsonrpc\":\"2.0\",\"method\":\"textDocument/didChange\",\"params\":{\"textDocument\":{\"uri\":\"file:///u\",\"version\":2},\"contentChanges\":[{\"text\":\"d\"}]}}")
    ∷ FromEditor 0 (codes "{\"jsonrpc\":\"2.0\",\"id\":1,\"method\":\"textDocument/hover\",\"params\":{}}")
    ∷ Joined 2
    ∷ FromEditor 2 (codes "{\"jsonrpc\":\"2.0\",\"id\":0,\"method\":\"initialize\",\"params\":{\"rootUri\":\"file:///w\",\"capabilities\":{}}}")
    ∷ Started 1
    ∷ FromServer 1 (codes "{\"jsonrpc\":\"2.0\",\"id\":1,\"result\":{\"capabilities\":{}}}")
    ∷ FromEditor 0 (codes "{\"jsonrpc\":\"2.0\",\"id\":1,\"result\":null}")
    ∷ FromServer 1 (codes "{\"jsonrpc\":\"2.0\",\"id\":9,\"method\":\"client/registerCapability\",\"params\":{\"registrations\":[{\"id\":\"r\",\"method\":\"m\"}]}}")
    ∷ FromEditor 0 (codes "{\"jsonrpc\":\"2.0\",\"id\":2,\"method\":\"textDocument/hover\",\"params\":{}}")
    ∷ FromServer 1 (codes "{\"jsonrpc\":\"2.0\",\"id\":2,\"result\":null}")
    ∷ []

abbrev pub restarted_outs : List Out
restarted_outs = two_editors_outs
    ++ ToServer 0 (codes "{\"jsonrpc\":\"2.0\",\"method\":\"textDocument/didOpen\",\"params\":{\"textDocument\":{\"uri\":\"file:///u\",\"languageId\":\"x\",\"version\":1,\"text\":\"a\"}}}")
    ∷ ToServer 0 (codes "{\"jsonrpc\":\"2.0\",\"method\":\"textDocument/didChange\",\"params\":{\"textDocument\":{\"uri\":\"file:///u\",\"version\":2},\"contentChanges\":[{\"text\":\"b\"}]}}")
    ∷ ToServer 0 (codes "{\"jsonrpc\":\"2.0\",\"method\":\"textDocument/didOpen\",\"params\":{\"textDocument\":{\"uri\":\"file:///v\",\"languageId\":\"x\",\"version\":1,\"text\":\"c\"}}}")
    ∷ ToServer 0 (codes "{\"jsonrpc\":\"2.0\",\"method\":\"textDocument/didChange\",\"params\":{\"textDocument\":{\"uri\":\"file:///u\",\"version\":3},\"contentChanges\":[{\"text\":\"a\"}]}}")
    ∷ ToServer 0 (codes "{\"jsonrpc\":\"2.0\",\"method\":\"workspace/didChangeConfiguration\",\"params\":{\"settings\":1}}")
    ∷ ToServer 0 (codes "{\"jsonrpc\":\"2.0\",\"id\":9,\"result\":null}")
    ∷ ToEditor 0 (codes "{\"jsonrpc\":\"2.0\",\"id\":1,\"method\":\"client/registerCapability\",\"params\":{\"registrations\":[{\"id\":\"r\",\"method\":\"m\"}]}}")
    ∷ ToEditor 1 (codes "{\"jsonrpc\":\"2.0\",\"id\":1,\"method\":\"client/registerCapability\",\"params\":{\"registrations\":[{\"id\":\"r\",\"method\":\"m\"}]}}")
    ∷ ToEditor 0 (codes "{\"jsonrpc\":\"2.0\",\"id\":2,\"method\":\"client/unregisterCapability\",\"params\":{\"unregisterations\":[{\"id\":\"r\",\"method\":\"m\"}]}}")
    ∷ ToEditor 1 (codes "{\"jsonrpc\":\"2.0\",\"id\":2,\"method\":\"client/unregisterCapability\",\"params\":{\"unregisterations\":[{\"id\":\"r\",\"method\":\"m\"}]}}")
    ∷ Spawn 1 0
    ∷ ToServer 1 (codes "{\"jsonrpc\":\"2.0\",\"id\":1,\"method\":\"initialize\",\"params\":{\"processId\":null,\"clientInfo\":{\"name\":\"lspmux\"},\"rootUri\":\"file:///w\",\"capabilities\":{},\"trace\":\"off\"}}")
    ∷ ToServer 1 (codes "{\"jsonrpc\":\"2.0\",\"method\":\"initialized\",\"params\":{}}")
    ∷ ToServer 1 (codes "{\"jsonrpc\":\"2.0\",\"method\":\"workspace/didChangeConfiguration\",\"params\":{\"settings\":2}}")
    ∷ ToServer 1 (codes "{\"jsonrpc\":\"2.0\",\"method\":\"textDocument/didOpen\",\"params\":{\"textDocument\":{\"uri\":\"file:///u\",\"languageId\":\"x\",\"version\":1,\"text\":\"d\"}}}")
    ∷ ToServer 1 (codes "{\"jsonrpc\":\"2.0\",\"method\":\"textDocument/didOpen\",\"params\":{\"textDocument\":{\"uri\":\"file:///v\",\"languageId\":\"x\",\"version\":1,\"text\":\"c\"}}}")
    ∷ ToEditor 2 (codes "{\"jsonrpc\":\"2.0\",\"id\":0,\"result\":{\"capabilities\":{}}}")
    ∷ ToServer 1 (codes "{\"jsonrpc\":\"2.0\",\"method\":\"textDocument/didChange\",\"params\":{\"textDocument\":{\"uri\":\"file:///u\",\"version\":2},\"contentChanges\":[{\"text\":\"a\"}]}}")
    ∷ ToServer 1 (codes "{\"jsonrpc\":\"2.0\",\"id\":2,\"method\":\"textDocument/hover\",\"params\":{}}")
    ∷ ToServer 1 (codes "{\"jsonrpc\":\"2.0\",\"id\":9,\"result\":null}")
    ∷ ToEditor 0 (codes "{\"jsonrpc\":\"2.0\",\"id\":3,\"method\":\"client/registerCapability\",\"params\":{\"registrations\":[{\"id\":\"r\",\"method\":\"m\"}]}}")
    ∷ ToEditor 1 (codes "{\"jsonrpc\":\"2.0\",\"id\":3,\"method\":\"client/registerCapability\",\"params\":{\"registrations\":[{\"id\":\"r\",\"method\":\"m\"}]}}")
    ∷ ToServer 1 (codes "{\"jsonrpc\":\"2.0\",\"id\":3,\"method\":\"textDocument/hover\",\"params\":{}}")
    ∷ ToEditor 0 (codes "{\"jsonrpc\":\"2.0\",\"id\":1,\"result\":null}")
    ∷ []

-- the new start's capabilities differ: of three editors that were shown the first ones, one with a document open, and one that is down, each link is to be ended; one that waited is shown the new ones. A third start gives these again
abbrev pub another_result : List Cause
another_result = two_editors
    ++ FromEditor 0 (codes "{\"jsonrpc\":\"2.0\",\"method\":\"textDocument/didOpen\",\"params\":{\"textDocument\":{\"uri\":\"file:///u\",\"languageId\":\"x\",\"version\":1,\"text\":\"a\"}}}")
    ∷ FromEditor 0 (codes "{\"jsonrpc\":\"2.0\",\"method\":\"workspace/didChangeConfiguration\",\"params\":{\"settings\":1}}")
    ∷ FromEditor 1 (codes "{\"jsonrpc\":\"2.0\",\"id\":1,\"method\":\"shutdown\"}")
    ∷ Joined 2
    ∷ FromEditor 2 (codes "{\"jsonrpc\":\"2.0\",\"id\":0,\"method\":\"initialize\",\"params\":{\"rootUri\":\"file:///w\",\"capabilities\":{}}}")
    ∷ ServerGone 0
    ∷ Joined 3
    ∷ FromEditor 3 (codes "{\"jsonrpc\":\"2.0\",\"id\":0,\"method\":\"initialize\",\"params\":{\"rootUri\":\"file:///w\",\"capabilities\":{}}}")
    ∷ Started 1
    ∷ FromServer 1 (codes "{\"jsonrpc\":\"2.0\",\"id\":1,\"result\":{\"capabilities\":{\"hoverProvider\":true}}}")
    ∷ ServerGone 1
    ∷ Started 2
    ∷ FromServer 2 (codes "{\"jsonrpc\":\"2.0\",\"id\":1,\"result\":{\"capabilities\":{\"hoverProvider\":true}}}")
    ∷ []

abbrev pub another_result_outs : List Out
another_result_outs = two_editors_outs
    ++ ToServer 0 (codes "{\"jsonrpc\":\"2.0\",\"method\":\"textDocument/didOpen\",\"params\":{\"textDocument\":{\"uri\":\"file:///u\",\"languageId\":\"x\",\"version\":1,\"text\":\"a\"}}}")
    ∷ ToServer 0 (codes "{\"jsonrpc\":\"2.0\",\"method\":\"workspace/didChangeConfiguration\",\"params\":{\"settings\":1}}")
    ∷ ToEditor 1 (codes "{\"jsonrpc\":\"2.0\",\"id\":1,\"result\":null}")
    ∷ ToEditor 2 (codes "{\"jsonrpc\":\"2.0\",\"id\":0,\"result\":{\"capabilities\":{}}}")
    ∷ Spawn 1 0
    ∷ ToServer 1 (codes "{\"jsonrpc\":\"2.0\",\"id\":1,\"method\":\"initialize\",\"params\":{\"processId\":null,\"clientInfo\":{\"name\":\"lspmux\"},\"rootUri\":\"file:///w\",\"capabilities\":{},\"trace\":\"off\"}}")
    ∷ CloseEditor 0
    ∷ CloseEditor 1
    ∷ CloseEditor 2
    ∷ ToServer 1 (codes "{\"jsonrpc\":\"2.0\",\"method\":\"initialized\",\"params\":{}}")
    ∷ ToServer 1 (codes "{\"jsonrpc\":\"2.0\",\"method\":\"workspace/didChangeConfiguration\",\"params\":{\"settings\":1}}")
    ∷ ToEditor 3 (codes "{\"jsonrpc\":\"2.0\",\"id\":0,\"result\":{\"capabilities\":{\"hoverProvider\":true}}}")
    ∷ Spawn 2 0
    ∷ ToServer 2 (codes "{\"jsonrpc\":\"2.0\",\"id\":1,\"method\":\"initialize\",\"params\":{\"processId\":null,\"clientInfo\":{\"name\":\"lspmux\"},\"rootUri\":\"file:///w\",\"capabilities\":{},\"trace\":\"off\"}}")
    ∷ ToServer 2 (codes "{\"jsonrpc\":\"2.0\",\"method\":\"initialized\",\"params\":{}}")
    ∷ ToServer 2 (codes "{\"jsonrpc\":\"2.0\",\"method\":\"workspace/didChangeConfiguration\",\"params\":{\"settings\":1}}")
    ∷ []

-- the first program ends before its result: the second one's isn't compared to any
abbrev pub never_ready : List Cause
never_ready = Joined 0
    ∷ FromEditor 0 (codes "{\"jsonrpc\":\"2.0\",\"id\":0,\"method\":\"initialize\",\"params\":{\"rootUri\":\"file:///w\",\"capabilities\":{}}}")
    ∷ Started 0
    ∷ ServerGone 0
    ∷ Started 1
    ∷ FromServer 1 (codes "{\"jsonrpc\":\"2.0\",\"id\":1,\"result\":{\"capabilities\":{}}}")
    ∷ FromEditor 0 (codes "{\"jsonrpc\":\"2.0\",\"method\":\"initialized\",\"params\":{}}")
    ∷ []

abbrev pub never_ready_outs : List Out
never_ready_outs = Spawn 0 0
    ∷ ToServer 0 (codes "{\"jsonrpc\":\"2.0\",\"id\":1,\"method\":\"initialize\",\"params\":{\"processId\":null,\"clientInfo\":{\"name\":\"lspmux\"},\"rootUri\":\"file:///w\",\"capabilities\":{},\"trace\":\"off\"}}")
    ∷ Spawn 1 0
    ∷ ToServer 1 (codes "{\"jsonrpc\":\"2.0\",\"id\":1,\"method\":\"initialize\",\"params\":{\"processId\":null,\"clientInfo\":{\"name\":\"lspmux\"},\"rootUri\":\"file:///w\",\"capabilities\":{},\"trace\":\"off\"}}")
    ∷ ToServer 1 (codes "{\"jsonrpc\":\"2.0\",\"method\":\"initialized\",\"params\":{}}")
    ∷ ToEditor 0 (codes "{\"jsonrpc\":\"2.0\",\"id\":0,\"result\":{\"capabilities\":{}}}")
    ∷ []
