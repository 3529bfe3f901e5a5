-- Three editors, of which two have a key and capabilities in common; under two limits of groups; and what comes of groups that are idle.
use Rattle.std.specs.Prelude.{ℕ, List, [], ◌∷◌, ◌++◌, codes}
use Rattle.std.specs.Prelude.{None}
use Rattle.mux_history.specs.declared.cause.Cause.{Cause}
use Rattle.mux_history.specs.declared.cause.Cause.TheVariants.{Joined, FromEditor, EditorGone, Tick}
use Rattle.mux_history.specs.declared.out.Out.{Out}
use Rattle.mux_history.specs.declared.out.Out.TheVariants.{ToEditor, Spawn, CloseEditor, EndServer}
use Rattle.mux_history.specs.declared.cause.Why.TheVariants.{End}
use Rattle.event_model.specs.Settings.{Settings}

abbrev pub with_groups : ℕ → Settings
with_groups n = record {
  limits = record { groups = n; restarts = 5; idle = 300; grace = 5; backlog = 134217728; requests = 2147483647; versions = 2147483647 };
  servers = record { name = codes "main"; ceiling = None } ∷ [];
  default = 0;
}

abbrev pub three_editors : List Cause
three_editors = Joined 0
    ∷ FromEditor 0 (codes "{\"jsonrpc\":\"2.0\",\"id\":0,\"method\":\"initialize\",\"params\":{\"rootUri\":\"file:///w\",\"capabilities\":{\"workspace\":{\"applyEdit\":true}}}}")
    ∷ Joined 1
    ∷ FromEditor 1 (codes "{\"jsonrpc\":\"2.0\",\"id\":0,\"method\":\"initialize\",\"params\":{\"rootUri\":\"file:///w\",\"capabilities\":{}}}")
    ∷ Joined 2
    ∷ FromEditor 2 (codes "{\"jsonrpc\":\"2.0\",\"id\":0,\"method\":\"initialize\",\"params\":{\"rootUri\":\"file:///w\",\"capabilities\":{\"workspace\":{\"applyEdit\":true,\"configuration\":true}}}}")
    ∷ []

abbrev pub with_eight : List (List Out)
with_eight = [] ∷ (Spawn 0 0 ∷ []) ∷ [] ∷ (Spawn 1 1 ∷ []) ∷ [] ∷ [] ∷ []

abbrev pub with_one : List (List Out)
with_one = [] ∷ (Spawn 0 0 ∷ []) ∷ []
    ∷ (ToEditor 1 (codes "{\"jsonrpc\":\"2.0\",\"id\":0,\"error\":{\"code\":-32803,\"message\":\"Request failed\"}}") ∷ CloseEditor 1 ∷ [])
    ∷ [] ∷ [] ∷ []

-- the only group is idle, and ends for another
abbrev pub an_eviction : List Cause
an_eviction = Joined 0
    ∷ FromEditor 0 (codes "{\"jsonrpc\":\"2.0\",\"id\":0,\"method\":\"initialize\",\"params\":{\"rootUri\":\"file:///w\",\"capabilities\":{\"workspace\":{\"applyEdit\":true}}}}")
    ∷ Tick 7
    ∷ EditorGone 0 End
    ∷ Joined 1
    ∷ FromEditor 1 (codes "{\"jsonrpc\":\"2.0\",\"id\":0,\"method\":\"initialize\",\"params\":{\"rootUri\":\"file:///w\",\"capabilities\":{}}}")
    ∷ []

abbrev pub an_eviction_outs : List (List Out)
an_eviction_outs = [] ∷ (Spawn 0 0 ∷ []) ∷ [] ∷ [] ∷ [] ∷ (EndServer 0 ∷ Spawn 1 1 ∷ []) ∷ []

-- an editor comes to an idle group
abbrev pub a_return : List Cause
a_return = Joined 0
    ∷ FromEditor 0 (codes "{\"jsonrpc\":\"2.0\",\"id\":0,\"method\":\"initialize\",\"params\":{\"rootUri\":\"file:///w\",\"capabilities\":{}}}")
    ∷ Tick 7
    ∷ EditorGone 0 End
    ∷ Tick 300
    ∷ Joined 1
    ∷ FromEditor 1 (codes "{\"jsonrpc\":\"2.0\",\"id\":0,\"method\":\"initialize\",\"params\":{\"rootUri\":\"file:///w/\",\"capabilities\":{\"a\":1}}}")
    ∷ []

-- it is idle for 300 seconds
abbrev pub an_end : List Cause
an_end = Joined 0
    ∷ FromEditor 0 (codes "{\"jsonrpc\":\"2.0\",\"id\":0,\"method\":\"initialize\",\"params\":{\"rootUri\":\"file:///w\",\"capabilities\":{}}}")
    ∷ Tick 7
    ∷ EditorGone 0 End
    ∷ Tick 307
    ∷ []

-- the folders of a group are told where it declares them
abbrev pub with_folders : List Cause
with_folders = Joined 0
    ∷ FromEditor 0 (codes "{\"jsonrpc\":\"2.0\",\"id\":0,\"method\":\"initialize\",\"params\":{\"rootUri\":\"file:///w\",\"capabilities\":{\"workspace\":{\"applyEdit\":true,\"workspaceFolders\":true},\"textDocument\":{\"synchronization\":{\"dynamicRegistration\":false,\"didSave\":true}},\"general\":{\"positionEncodings\":[\"utf-16\"]}}}}")
    ∷ []

abbrev pub with_folders_text : List ℕ
with_folders_text = codes "{\"jsonrpc\":\"2.0\",\"id\":1,\"method\":\"initialize\",\"params\":{\"processId\":null,\"clientInfo\":{\"name\":\"lspmux\"},\"rootUri\":\"file:///w\",\"capabilities\":{\"workspace\":{\"applyEdit\":true,\"workspaceFolders\":true},\"textDocument\":{\"synchronization\":{\"didSave\":true}},\"general\":{\"positionEncodings\":[\"utf-16\"]}},\"trace\":\"off\",\"workspaceFolders\":[{\"uri\":\"file:///w\",\"name\":\"file:///w\"}]}}"

-- an ended group takes none
abbrev pub after_an_end : List Cause
after_an_end = an_end ++ (Joined 1 ∷ FromEditor 1 (codes "{\"jsonrpc\":\"2.0\",\"id\":0,\"method\":\"initialize\",\"params\":{\"rootUri\":\"file:///w\",\"capabilities\":{}}}") ∷ [])
