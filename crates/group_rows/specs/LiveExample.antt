-- Worked histories of registrations that a start asks for, and of what two editors are told of them.
use Rattle.std.specs.Prelude.{List, [], ◌∷◌, codes}
use Rattle.mux_history.specs.declared.cause.Cause.{Cause}
use Rattle.mux_history.specs.declared.cause.Cause.TheVariants.{FromEditor, FromServer}
use Rattle.mux_history.specs.declared.out.Out.{Out}
use Rattle.mux_history.specs.declared.out.Out.TheVariants.{ToEditor, ToServer}

-- each editor is told of what is registered, and under an id that comes again first that it is taken back; then it is taken back by its id alone
abbrev pub registers : List Cause
registers = FromServer 0 (codes "{\"jsonrpc\":\"2.0\",\"id\":7,\"method\":\"client/registerCapability\",\"params\":{\"registrations\":[{\"id\":\"a\",\"method\":\"workspace/didChangeWatchedFiles\",\"registerOptions\":{\"watchers\":[]}}]}}")
    ∷ FromServer 0 (codes "{\"jsonrpc\":\"2.0\",\"id\":\"r\",\"method\":\"client/registerCapability\",\"params\":{\"registrations\":[{\"id\":\"a\",\"method\":\"textDocument/formatting\"},{\"id\":\"b\",\"method\":\"textDocument/rename\"}]}}")
    ∷ FromServer 0 (codes "{\"jsonrpc\":\"2.0\",\"id\":8,\"method\":\"client/unregisterCapability\",\"params\":{\"unregisterations\":[{\"id\":\"a\",\"method\":\"workspace/didChangeWatchedFiles\"}]}}")
    ∷ []

abbrev pub registers_outs : List (List Out)
registers_outs = (
    ToServer 0 (codes "{\"jsonrpc\":\"2.0\",\"id\":7,\"result\":null}")
    ∷ ToEditor 0 (codes "{\"jsonrpc\":\"2.0\",\"id\":1,\"method\":\"client/registerCapability\",\"params\":{\"registrations\":[{\"id\":\"a\",\"method\":\"workspace/didChangeWatchedFiles\",\"registerOptions\":{\"watchers\":[]}}]}}")
    ∷ ToEditor 1 (codes "{\"jsonrpc\":\"2.0\",\"id\":1,\"method\":\"client/registerCapability\",\"params\":{\"registrations\":[{\"id\":\"a\",\"method\":\"workspace/didChangeWatchedFiles\",\"registerOptions\":{\"watchers\":[]}}]}}")
    ∷ []
    )
    ∷ (
    ToServer 0 (codes "{\"jsonrpc\":\"2.0\",\"id\":\"r\",\"result\":null}")
    ∷ ToEditor 0 (codes "{\"jsonrpc\":\"2.0\",\"id\":2,\"method\":\"client/unregisterCapability\",\"params\":{\"unregisterations\":[{\"id\":\"a\",\"method\":\"workspace/didChangeWatchedFiles\"}]}}")
    ∷ ToEditor 0 (codes "{\"jsonrpc\":\"2.0\",\"id\":3,\"method\":\"client/registerCapability\",\"params\":{\"registrations\":[{\"id\":\"a\",\"method\":\"textDocument/formatting\"},{\"id\":\"b\",\"method\":\"textDocument/rename\"}]}}")
    ∷ ToEditor 1 (codes "{\"jsonrpc\":\"2.0\",\"id\":2,\"method\":\"client/unregisterCapability\",\"params\":{\"unregisterations\":[{\"id\":\"a\",\"method\":\"workspace/didChangeWatchedFiles\"}]}}")
    ∷ ToEditor 1 (codes "{\"jsonrpc\":\"2.0\",\"id\":3,\"method\":\"client/registerCapability\",\"params\":{\"registrations\":[{\"id\":\"a\",\"method\":\"textDocument/formatting\"},{\"id\":\"b\",\"method\":\"textDocument/rename\"}]}}")
    ∷ []
    )
    ∷ (
    ToServer 0 (codes "{\"jsonrpc\":\"2.0\",\"id\":8,\"result\":null}")
    ∷ ToEditor 0 (codes "{\"jsonrpc\":\"2.0\",\"id\":4,\"method\":\"client/unregisterCapability\",\"params\":{\"unregisterations\":[{\"id\":\"a\",\"method\":\"textDocument/formatting\"}]}}")
    ∷ ToEditor 1 (codes "{\"jsonrpc\":\"2.0\",\"id\":4,\"method\":\"client/unregisterCapability\",\"params\":{\"unregisterations\":[{\"id\":\"a\",\"method\":\"textDocument/formatting\"}]}}")
    ∷ []
    )
    ∷ []

-- no item without an id, no doubled id, and none that is not live; nothing is registered of them
abbrev pub refused_items : List Cause
refused_items = FromServer 0 (codes "{\"jsonrpc\":\"2.0\",\"id\":1,\"method\":\"client/registerCapability\",\"params\":{\"registrations\":[{\"id\":\"b\",\"method\":\"textDocument/rename\"},{\"method\":\"x\"}]}}")
    ∷ FromServer 0 (codes "{\"jsonrpc\":\"2.0\",\"id\":2,\"method\":\"client/registerCapability\",\"params\":{\"registrations\":[{\"id\":\"b\",\"method\":\"textDocument/rename\"},{\"id\":\"b\",\"method\":\"y\"}]}}")
    ∷ FromServer 0 (codes "{\"jsonrpc\":\"2.0\",\"id\":3,\"method\":\"client/registerCapability\",\"params\":{\"registrations\":1}}")
    ∷ FromServer 0 (codes "{\"jsonrpc\":\"2.0\",\"id\":4,\"method\":\"client/unregisterCapability\",\"params\":{\"unregisterations\":[{\"id\":\"b\",\"method\":\"textDocument/rename\"}]}}")
    ∷ FromServer 0 (codes "{\"jsonrpc\":\"2.0\",\"id\":5,\"method\":\"client/unregisterCapability\",\"params\":{\"unregisterations\":[{\"id\":1,\"method\":\"x\"}]}}")
    ∷ []

abbrev pub refused_items_outs : List (List Out)
refused_items_outs = (ToServer 0 (codes "{\"jsonrpc\":\"2.0\",\"id\":1,\"error\":{\"code\":-32602,\"message\":\"Invalid params\"}}") ∷ [])
    ∷ (ToServer 0 (codes "{\"jsonrpc\":\"2.0\",\"id\":2,\"error\":{\"code\":-32602,\"message\":\"Invalid params\"}}") ∷ [])
    ∷ (ToServer 0 (codes "{\"jsonrpc\":\"2.0\",\"id\":3,\"error\":{\"code\":-32602,\"message\":\"Invalid params\"}}") ∷ [])
    ∷ (ToServer 0 (codes "{\"jsonrpc\":\"2.0\",\"id\":4,\"error\":{\"code\":-32602,\"message\":\"Invalid params\"}}") ∷ [])
    ∷ (ToServer 0 (codes "{\"jsonrpc\":\"2.0\",\"id\":5,\"error\":{\"code\":-32602,\"message\":\"Invalid params\"}}") ∷ [])
    ∷ []

-- no editor runs yet: what is live then is told to one that begins to run, in one request, before what waits
abbrev pub registered_early : List Cause
registered_early = FromServer 0 (codes "{\"jsonrpc\":\"2.0\",\"id\":2,\"method\":\"client/registerCapability\",\"params\":{\"registrations\":[{\"id\":\"a\",\"method\":\"workspace/didChangeWatchedFiles\",\"registerOptions\":{\"watchers\":[]}}]}}")
    ∷ FromServer 0 (codes "{\"jsonrpc\":\"2.0\",\"id\":3,\"method\":\"workspace/configuration\",\"params\":{}}")
    ∷ FromServer 0 (codes "{\"jsonrpc\":\"2.0\",\"id\":4,\"method\":\"client/registerCapability\",\"params\":{\"registrations\":[{\"id\":\"b\",\"method\":\"textDocument/rename\"}]}}")
    ∷ FromEditor 0 (codes "{\"jsonrpc\":\"2.0\",\"id\":1,\"result\":null}")
    ∷ FromEditor 0 (codes "{\"jsonrpc\":\"2.0\",\"id\":2,\"result\":[]}")
    ∷ []

abbrev pub registered_early_outs : List (List Out)
registered_early_outs = (ToServer 0 (codes "{\"jsonrpc\":\"2.0\",\"id\":2,\"result\":null}") ∷ [])
    ∷ []
    ∷ (ToServer 0 (codes "{\"jsonrpc\":\"2.0\",\"id\":4,\"result\":null}") ∷ [])
    ∷ (
    ToEditor 0 (codes "{\"jsonrpc\":\"2.0\",\"id\":1,\"method\":\"client/registerCapability\",\"params\":{\"registrations\":[{\"id\":\"a\",\"method\":\"workspace/didChangeWatchedFiles\",\"registerOptions\":{\"watchers\":[]}},{\"id\":\"b\",\"method\":\"textDocument/rename\"}]}}")
    ∷ ToEditor 0 (codes "{\"jsonrpc\":\"2.0\",\"id\":2,\"method\":\"workspace/configuration\",\"params\":{}}")
    ∷ []
    )
    ∷ (ToServer 0 (codes "{\"jsonrpc\":\"2.0\",\"id\":3,\"result\":[]}") ∷ [])
    ∷ []
