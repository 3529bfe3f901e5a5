-- Worked histories of a stop.
use Rattle.std.specs.Prelude.{List, [], ◌∷◌, ◌++◌, codes}
use Rattle.mux_history.specs.declared.cause.Cause.{Cause}
use Rattle.mux_history.specs.declared.cause.Cause.TheVariants.{Joined, FromEditor, Started, FromServer, ServerGone}
use Rattle.mux_history.specs.declared.out.Out.{Out}
use Rattle.mux_history.specs.declared.out.Out.TheVariants.{ToEditor, ToServer, CloseEditor, EndServer, Spawn}
use Rattle.group_rows.specs.Example.{two_editors, two_editors_outs}

-- an editor that is new stops all: another one runs, whose start is ready; that start ends, and who joins then is sent away
abbrev pub stopping : List Cause
stopping = Joined 0
    ∷ FromEditor 0 (codes "{\"jsonrpc\":\"2.0\",\"id\":0,\"method\":\"initialize\",\"params\":{\"rootUri\":\"file:///w\",\"capabilities\":{}}}")
    ∷ Started 0
    ∷ FromServer 0 (codes "{\"jsonrpc\":\"2.0\",\"id\":1,\"result\":{\"capabilities\":{}}}")
    ∷ FromEditor 0 (codes "{\"jsonrpc\":\"2.0\",\"method\":\"initialized\",\"params\":{}}")
    ∷ Joined 1
    ∷ FromEditor 1 (codes "{\"jsonrpc\":\"2.0\",\"id\":1,\"method\":\"lspmux/stop\"}")
    ∷ FromServer 0 (codes "{\"jsonrpc\":\"2.0\",\"id\":2,\"result\":null}")
    ∷ ServerGone 0
    ∷ Joined 2
    ∷ []

abbrev pub stopping_outs : List Out
stopping_outs = Spawn 0 0
    ∷ ToServer 0 (codes "{\"jsonrpc\":\"2.0\",\"id\":1,\"method\":\"initialize\",\"params\":{\"processId\":null,\"clientInfo\":{\"name\":\"lspmux\"},\"rootUri\":\"file:///w\",\"capabilities\":{},\"trace\":\"off\"}}")
    ∷ ToServer 0 (codes "{\"jsonrpc\":\"2.0\",\"method\":\"initialized\",\"params\":{}}")
    ∷ ToEditor 0 (codes "{\"jsonrpc\":\"2.0\",\"id\":0,\"result\":{\"capabilities\":{}}}")
    ∷ ToEditor 1 (codes "{\"jsonrpc\":\"2.0\",\"id\":1,\"result\":null}")
    ∷ CloseEditor 0
    ∷ CloseEditor 1
    ∷ ToServer 0 (codes "{\"jsonrpc\":\"2.0\",\"id\":2,\"method\":\"shutdown\"}")
    ∷ ToServer 0 (codes "{\"jsonrpc\":\"2.0\",\"method\":\"exit\"}")
    ∷ EndServer 0
    ∷ CloseEditor 2
    ∷ []

-- of the two that run in the first group the second one has two open requests and the first one is down with one; a third one got its result there; a fourth one waits in a second group; a fifth one is to be closed already. The third one stops all
abbrev pub stopping_many : List Cause
stopping_many = two_editors
    ++ FromEditor 0 (codes "{\"jsonrpc\":\"2.0\",\"id\":1,\"method\":\"textDocument/hover\",\"params\":{}}")
    ∷ FromEditor 1 (codes "{\"jsonrpc\":\"2.0\",\"id\":7,\"method\":\"textDocument/hover\",\"params\":{}}")
    ∷ FromEditor 1 (codes "{\"jsonrpc\":\"2.0\",\"id\":\"a\",\"method\":\"textDocument/rename\",\"params\":{}}")
    ∷ FromEditor 0 (codes "{\"jsonrpc\":\"2.0\",\"id\":2,\"method\":\"shutdown\"}")
    ∷ Joined 2
    ∷ FromEditor 2 (codes "{\"jsonrpc\":\"2.0\",\"id\":0,\"method\":\"initialize\",\"params\":{\"rootUri\":\"file:///w\",\"capabilities\":{}}}")
    ∷ Joined 3
    ∷ FromEditor 3 (codes "{\"jsonrpc\":\"2.0\",\"id\":9,\"method\":\"initialize\",\"params\":{\"rootUri\":\"file:///v\",\"capabilities\":{}}}")
    ∷ Joined 4
    ∷ FromEditor 4 (codes "{\"jsonrpc\":\"2.0\",\"method\":\"exit\"}")
    ∷ FromEditor 2 (codes "{\"jsonrpc\":\"2.0\",\"id\":7,\"method\":\"lspmux/stop\"}")
    ∷ FromEditor 1 (codes "{\"jsonrpc\":\"2.0\",\"id\":8,\"method\":\"lspmux/stop\"}")
    ∷ []

abbrev pub stopping_many_outs : List Out
stopping_many_outs = two_editors_outs
    ++ ToServer 0 (codes "{\"jsonrpc\":\"2.0\",\"id\":2,\"method\":\"textDocument/hover\",\"params\":{}}")
    ∷ ToServer 0 (codes "{\"jsonrpc\":\"2.0\",\"id\":3,\"method\":\"textDocument/hover\",\"params\":{}}")
    ∷ ToServer 0 (codes "{\"jsonrpc\":\"2.0\",\"id\":4,\"method\":\"textDocument/rename\",\"params\":{}}")
    ∷ ToEditor 0 (codes "{\"jsonrpc\":\"2.0\",\"id\":2,\"result\":null}")
    ∷ ToServer 0 (codes "{\"jsonrpc\":\"2.0\",\"method\":\"$/cancelRequest\",\"params\":{\"id\":2}}")
    ∷ ToEditor 2 (codes "{\"jsonrpc\":\"2.0\",\"id\":0,\"result\":{\"capabilities\":{}}}")
    ∷ Spawn 1 1
    ∷ CloseEditor 4
    ∷ ToEditor 2 (codes "{\"jsonrpc\":\"2.0\",\"id\":7,\"result\":null}")
    ∷ ToEditor 0 (codes "{\"jsonrpc\":\"2.0\",\"id\":1,\"error\":{\"code\":-32803,\"message\":\"Request failed\"}}")
    ∷ ToEditor 1 (codes "{\"jsonrpc\":\"2.0\",\"id\":7,\"error\":{\"code\":-32803,\"message\":\"Request failed\"}}")
    ∷ ToEditor 1 (codes "{\"jsonrpc\":\"2.0\",\"id\":\"a\",\"error\":{\"code\":-32803,\"message\":\"Request failed\"}}")
    ∷ ToEditor 3 (codes "{\"jsonrpc\":\"2.0\",\"id\":9,\"error\":{\"code\":-32803,\"message\":\"Request failed\"}}")
    ∷ CloseEditor 0
    ∷ CloseEditor 1
    ∷ CloseEditor 2
    ∷ CloseEditor 3
    ∷ ToServer 0 (codes "{\"jsonrpc\":\"2.0\",\"id\":5,\"method\":\"shutdown\"}")
    ∷ EndServer 1
    ∷ []
