-- Histories that are legal, by the checker.
use Rattle.std.specs.Prelude.{Bool, true, ◌&&◌, List, [], ◌∷◌, ◌++◌, codes}
use Rattle.mux_history.specs.declared.cause.Cause.{Cause}
use Rattle.mux_history.specs.declared.cause.Cause.TheVariants.{Joined, FromEditor, Started, FromServer, ServerGone}
use Rattle.mux_history.specs.declared.entry.Entry.{Entry}
use Rattle.mux_history.specs.declared.out.Out.{Out}
use Rattle.mux_history.specs.declared.out.Out.TheVariants.{ToEditor, ToServer, CloseEditor, Spawn}
use Rattle.event_model.specs.Event.{Event, behind, events_of, with_cause}
use Rattle.event_model.specs.Settings.{Settings}
use Rattle.mux_model.specs.Fits.{fits_behind}
use Rattle.group_rows.specs.Example.{two_editors}
use Rattle.group_facts.specs.SlowRows.{entry_outs}

-- each of these causes fits behind the ones before it
abbrev pub taken_from : Settings → List Event → List Cause → Bool
taken_from settings events [] = true
taken_from settings events (cause ∷ causes) =
    fits_behind events cause && taken_from settings (behind (with_cause events cause) (entry_outs settings events cause)) causes

-- the entries of these causes, behind others
abbrev pub played_from : Settings → List Entry → List Cause → List Entry
played_from settings before [] = []
played_from settings before (cause ∷ causes) =
    let entry : Entry = record { cause = cause; outs = entry_outs settings (events_of before) cause } in entry ∷ played_from settings (before ++ entry ∷ []) causes

abbrev pub played : Settings → List Cause → List Entry
played settings causes = played_from settings [] causes

-- where one group is the limit, the second editor is turned away
abbrev pub one_group : List Cause
one_group = Joined 0
    ∷ FromEditor 0 (codes "{\"jsonrpc\":\"2.0\",\"id\":0,\"method\":\"initialize\",\"params\":{\"rootUri\":\"file:///w\",\"capabilities\":{}}}")
    ∷ Joined 1
    ∷ FromEditor 1 (codes "{\"jsonrpc\":\"2.0\",\"id\":0,\"method\":\"initialize\",\"params\":{\"rootUri\":\"file:///v\",\"capabilities\":{}}}")
    ∷ []

-- a request that comes too early, of an editor that waits
abbrev pub one_waits : List Cause
one_waits = Joined 0
    ∷ FromEditor 0 (codes "{\"jsonrpc\":\"2.0\",\"id\":0,\"method\":\"initialize\",\"params\":{\"rootUri\":\"file:///w\",\"capabilities\":{}}}")
    ∷ FromEditor 0 (codes "{\"jsonrpc\":\"2.0\",\"id\":1,\"method\":\"textDocument/hover\",\"params\":{}}")
    ∷ []

-- the start for which an editor waits refuses its `initialize`, and its program ends
abbrev pub one_refused : List Cause
one_refused = Joined 0
    ∷ FromEditor 0 (codes "{\"jsonrpc\":\"2.0\",\"id\":0,\"method\":\"initialize\",\"params\":{\"rootUri\":\"file:///w\",\"capabilities\":{}}}")
    ∷ Started 0
    ∷ FromServer 0 (codes "{\"jsonrpc\":\"2.0\",\"id\":1,\"error\":{\"code\":-32603,\"message\":\"no\"}}")
    ∷ ServerGone 0
    ∷ []

-- two editors ask under one id
abbrev pub two_ask : List Cause
two_ask = two_editors
    ++ FromEditor 0 (codes "{\"jsonrpc\":\"2.0\",\"id\":1,\"method\":\"textDocument/hover\",\"params\":{}}")
    ∷ FromEditor 1 (codes "{\"jsonrpc\":\"2.0\",\"id\":1,\"method\":\"textDocument/hover\",\"params\":{}}")
    ∷ []

-- a second `initialize`: while an editor waits, once it got its result, and behind its `shutdown`; under an id that is open; and of one that is closed
abbrev pub asking_again : List Cause
asking_again = Joined 0
    ∷ FromEditor 0 (codes "{\"jsonrpc\":\"2.0\",\"id\":0,\"method\":\"initialize\",\"params\":{\"rootUri\":\"file:///w\",\"capabilities\":{}}}")
    ∷ FromEditor 0 (codes "{\"jsonrpc\":\"2.0\",\"id\":1,\"method\":\"initialize\",\"params\":{\"rootUri\":\"file:///w\",\"capabilities\":{}}}")
    ∷ Joined 1
    ∷ FromEditor 1 (codes "{\"jsonrpc\":\"2.0\",\"id\":0,\"method\":\"initialize\",\"params\":{\"rootUri\":\"file:///w\",\"capabilities\":{}}}")
    ∷ FromEditor 1 (codes "{\"jsonrpc\":\"2.0\",\"id\":0,\"method\":\"initialize\",\"params\":{\"rootUri\":\"file:///w\",\"capabilities\":{}}}")
    ∷ FromEditor 1 (codes "{\"jsonrpc\":\"2.0\",\"id\":1,\"method\":\"initialize\",\"params\":{\"rootUri\":\"file:///w\",\"capabilities\":{}}}")
    ∷ Started 0
    ∷ FromServer 0 (codes "{\"jsonrpc\":\"2.0\",\"id\":1,\"result\":{\"capabilities\":{}}}")
    ∷ FromEditor 0 (codes "{\"jsonrpc\":\"2.0\",\"id\":1,\"method\":\"initialize\",\"params\":{\"rootUri\":\"file:///w\",\"capabilities\":{}}}")
    ∷ FromEditor 0 (codes "{\"jsonrpc\":\"2.0\",\"id\":2,\"method\":\"textDocument/hover\",\"params\":{}}")
    ∷ FromEditor 0 (codes "{\"jsonrpc\":\"2.0\",\"id\":3,\"method\":\"shutdown\"}")
    ∷ FromEditor 0 (codes "{\"jsonrpc\":\"2.0\",\"id\":4,\"method\":\"initialize\",\"params\":{\"rootUri\":\"file:///w\",\"capabilities\":{}}}")
    ∷ FromEditor 0 (codes "{\"jsonrpc\":\"2.0\",\"id\":2,\"method\":\"initialize\",\"params\":{\"rootUri\":\"file:///w\",\"capabilities\":{}}}")
    ∷ []

abbrev pub asking_again_outs : List Out
asking_again_outs = Spawn 0 0
    ∷ ToEditor 0 (codes "{\"jsonrpc\":\"2.0\",\"id\":1,\"error\":{\"code\":-32600,\"message\":\"Invalid Request\"}}")
    ∷ CloseEditor 1
    ∷ ToServer 0 (codes "{\"jsonrpc\":\"2.0\",\"id\":1,\"method\":\"initialize\",\"params\":{\"processId\":null,\"clientInfo\":{\"name\":\"lspmux\"},\"rootUri\":\"file:///w\",\"capabilities\":{},\"trace\":\"off\"}}")
    ∷ ToServer 0 (codes "{\"jsonrpc\":\"2.0\",\"method\":\"initialized\",\"params\":{}}")
    ∷ ToEditor 0 (codes "{\"jsonrpc\":\"2.0\",\"id\":0,\"result\":{\"capabilities\":{}}}")
    ∷ ToEditor 0 (codes "{\"jsonrpc\":\"2.0\",\"id\":1,\"error\":{\"code\":-32600,\"message\":\"Invalid Request\"}}")
    ∷ ToServer 0 (codes "{\"jsonrpc\":\"2.0\",\"id\":2,\"method\":\"textDocument/hover\",\"params\":{}}")
    ∷ ToEditor 0 (codes "{\"jsonrpc\":\"2.0\",\"id\":3,\"result\":null}")
    ∷ ToServer 0 (codes "{\"jsonrpc\":\"2.0\",\"method\":\"$/cancelRequest\",\"params\":{\"id\":2}}")
    ∷ ToEditor 0 (codes "{\"jsonrpc\":\"2.0\",\"id\":4,\"error\":{\"code\":-32600,\"message\":\"Invalid Request\"}}")
    ∷ CloseEditor 0
    ∷ []

-- a server that offers notebooks and workspace folders, which the multiplexer doesn't serve, beside others: an editor that waits and one that comes later are shown the others
abbrev pub offering_more : List Cause
offering_more = Joined 0
    ∷ FromEditor 0 (codes "{\"jsonrpc\":\"2.0\",\"id\":0,\"method\":\"initialize\",\"params\":{\"rootUri\":\"file:///w\",\"capabilities\":{}}}")
    ∷ Started 0
    ∷ FromServer 0 (codes "{\"jsonrpc\":\"2.0\",\"id\":1,\"result\":{\"capabilities\": {\"hoverProvider\": true, \"notebookDocumentSync\": {\"notebookSelector\": [{\"notebook\": \"*\"}]}, \"workspace\" : {\"workspaceFolders\": {\"supported\": true}, \"fileOperations\": {}}}, \"serverInfo\": {\"name\": \"s\"}}}")
    ∷ Joined 1
    ∷ FromEditor 1 (codes "{\"jsonrpc\":\"2.0\",\"id\":\"a\",\"method\":\"initialize\",\"params\":{\"rootUri\":\"file:///w\",\"capabilities\":{}}}")
    ∷ []

abbrev pub offering_more_outs : List Out
offering_more_outs = Spawn 0 0
    ∷ ToServer 0 (codes "{\"jsonrpc\":\"2.0\",\"id\":1,\"method\":\"initialize\",\"params\":{\"processId\":null,\"clientInfo\":{\"name\":\"lspmux\"},\"rootUri\":\"file:///w\",\"capabilities\":{},\"trace\":\"off\"}}")
    ∷ ToServer 0 (codes "{\"jsonrpc\":\"2.0\",\"method\":\"initialized\",\"params\":{}}")
    ∷ ToEditor 0 (codes "{\"jsonrpc\":\"2.0\",\"id\":0,\"result\":{\"capabilities\": {\"hoverProvider\": true,\"workspace\" : {\"fileOperations\": {}}}, \"serverInfo\": {\"name\": \"s\"}}}")
    ∷ ToEditor 1 (codes "{\"jsonrpc\":\"2.0\",\"id\":\"a\",\"result\":{\"capabilities\": {\"hoverProvider\": true,\"workspace\" : {\"fileOperations\": {}}}, \"serverInfo\": {\"name\": \"s\"}}}")
    ∷ []
