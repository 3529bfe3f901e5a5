-- Worked histories of tokens for progress that a start creates, and of what two editors are asked and told of them.
use Rattle.std.specs.Prelude.{ℕ, true, false, List, [], ◌∷◌, ◌++◌, codes, replicate}
use Rattle.std.specs.Prelude.{Some, None}
use Rattle.mux_history.specs.declared.cause.Cause.{Cause}
use Rattle.mux_history.specs.declared.cause.Cause.TheVariants.{Joined, FromEditor, FromServer}
use Rattle.mux_history.specs.declared.out.Out.{Out}
use Rattle.mux_history.specs.declared.out.Out.TheVariants.{CloseEditor, ToEditor, ToServer}
use Rattle.rpc_message.specs.Message.{integer, text}
use Rattle.event_model.specs.Event.{Event, heard}
use Rattle.group_words.specs.Example.{with_groups}
use Rattle.group_rows.specs.AsksExample.{two_run}
use Rattle.group_rows.specs.Created.{Created}
use Rattle.group_rows.specs.Example.{events_behind}

-- one editor accepts and gets what was held, the other refuses and gets nothing, then or later
abbrev pub taken_by_one : List Cause
taken_by_one =
    FromServer 0 (codes "{\"jsonrpc\":\"2.0\",\"id\":5,\"method\":\"window/workDoneProgress/create\",\"params\":{\"token\":\"p\"}}")
    ∷ FromServer 0 (codes "{\"jsonrpc\":\"2.0\",\"method\":\"$/progress\",\"params\":{\"token\":\"p\",\"value\":{\"kind\":\"begin\",\"title\":\"x\"}}}")
    ∷ FromServer 0 (codes "{\"jsonrpc\":\"2.0\",\"method\":\"$/progress\",\"params\":{\"token\":\"p\",\"value\":{\"kind\":\"report\"}}}")
    ∷ FromEditor 0 (codes "{\"jsonrpc\":\"2.0\",\"id\":1,\"result\":null}")
    ∷ FromEditor 1 (codes "{\"jsonrpc\":\"2.0\",\"id\":1,\"error\":{\"code\":-32803,\"message\":\"Request failed\"}}")
    ∷ FromServer 0 (codes "{\"jsonrpc\":\"2.0\",\"method\":\"$/progress\",\"params\":{\"token\":\"p\",\"value\":{\"kind\":\"end\"}}}")
    ∷ FromServer 0 (codes "{\"jsonrpc\":\"2.0\",\"method\":\"$/progress\",\"params\":{\"token\":\"p\",\"value\":{\"kind\":\"report\"}}}")
    ∷ []

abbrev pub taken_by_one_outs : List (List Out)
taken_by_one_outs =
    (ToServer 0 (codes "{\"jsonrpc\":\"2.0\",\"id\":5,\"result\":null}") ∷ ToEditor 0 (codes "{\"jsonrpc\":\"2.0\",\"id\":1,\"method\":\"window/workDoneProgress/create\",\"params\":{\"token\":\"lspmux:0:1\"}}") ∷ ToEditor 1 (codes "{\"jsonrpc\":\"2.0\",\"id\":1,\"method\":\"window/workDoneProgress/create\",\"params\":{\"token\":\"lspmux:0:1\"}}") ∷ [])
    ∷ []
    ∷ []
    ∷ (ToEditor 0 (codes "{\"jsonrpc\":\"2.0\",\"method\":\"$/progress\",\"params\":{\"token\":\"lspmux:0:1\",\"value\":{\"kind\":\"begin\",\"title\":\"x\"}}}") ∷ ToEditor 0 (codes "{\"jsonrpc\":\"2.0\",\"method\":\"$/progress\",\"params\":{\"token\":\"lspmux:0:1\",\"value\":{\"kind\":\"report\"}}}") ∷ [])
    ∷ []
    ∷ (ToEditor 0 (codes "{\"jsonrpc\":\"2.0\",\"method\":\"$/progress\",\"params\":{\"token\":\"lspmux:0:1\",\"value\":{\"kind\":\"end\"}}}") ∷ [])
    ∷ []
    ∷ []

-- a token that has ended is created again under the next number; an editor that answers late gets the end that was held of the first one, and one answer counts
abbrev pub created_again : List Cause
created_again =
    FromServer 0 (codes "{\"jsonrpc\":\"2.0\",\"id\":5,\"method\":\"window/workDoneProgress/create\",\"params\":{\"token\":7}}")
    ∷ FromEditor 0 (codes "{\"jsonrpc\":\"2.0\",\"id\":1,\"result\":null}")
    ∷ FromServer 0 (codes "{\"jsonrpc\":\"2.0\",\"method\":\"$/progress\",\"params\":{\"token\":7,\"value\":{\"kind\":\"begin\",\"title\":\"x\"}}}")
    ∷ FromServer 0 (codes "{\"jsonrpc\":\"2.0\",\"method\":\"$/progress\",\"params\":{\"token\":7,\"value\":{\"kind\":\"end\"}}}")
    ∷ FromServer 0 (codes "{\"jsonrpc\":\"2.0\",\"id\":5,\"method\":\"window/workDoneProgress/create\",\"params\":{\"token\":7}}")
    ∷ FromServer 0 (codes "{\"jsonrpc\":\"2.0\",\"method\":\"$/progress\",\"params\":{\"token\":7,\"value\":{\"kind\":\"report\"}}}")
    ∷ FromEditor 1 (codes "{\"jsonrpc\":\"2.0\",\"id\":1,\"result\":null}")
    ∷ FromEditor 1 (codes "{\"jsonrpc\":\"2.0\",\"id\":1,\"result\":null}")
    ∷ FromEditor 0 (codes "{\"jsonrpc\":\"2.0\",\"id\":2,\"result\":null}")
    ∷ FromServer 0 (codes "{\"jsonrpc\":\"2.0\",\"method\":\"$/progress\",\"params\":{\"token\":7,\"value\":{\"kind\":\"end\"}}}")
    ∷ FromEditor 1 (codes "{\"jsonrpc\":\"2.0\",\"id\":2,\"result\":null}")
    ∷ []

abbrev pub created_again_outs : List (List Out)
created_again_outs =
    (ToServer 0 (codes "{\"jsonrpc\":\"2.0\",\"id\":5,\"result\":null}") ∷ ToEditor 0 (codes "{\"jsonrpc\":\"2.0\",\"id\":1,\"method\":\"window/workDoneProgress/create\",\"params\":{\"token\":\"lspmux:0:1\"}}") ∷ ToEditor 1 (codes "{\"jsonrpc\":\"2.0\",\"id\":1,\"method\":\"window/workDoneProgress/create\",\"params\":{\"token\":\"lspmux:0:1\"}}") ∷ [])
    ∷ []
    ∷ (ToEditor 0 (codes "{\"jsonrpc\":\"2.0\",\"method\":\"$/progress\",\"params\":{\"token\":\"lspmux:0:1\",\"value\":{\"kind\":\"begin\",\"title\":\"x\"}}}") ∷ [])
    ∷ (ToEditor 0 (codes "{\"jsonrpc\":\"2.0\",\"method\":\"$/progress\",\"params\":{\"token\":\"lspmux:0:1\",\"value\":{\"kind\":\"end\"}}}") ∷ [])
    ∷ (ToServer 0 (codes "{\"jsonrpc\":\"2.0\",\"id\":5,\"result\":null}") ∷ ToEditor 0 (codes "{\"jsonrpc\":\"2.0\",\"id\":2,\"method\":\"window/workDoneProgress/create\",\"params\":{\"token\":\"lspmux:0:2\"}}") ∷ ToEditor 1 (codes "{\"jsonrpc\":\"2.0\",\"id\":2,\"method\":\"window/workDoneProgress/create\",\"params\":{\"token\":\"lspmux:0:2\"}}") ∷ [])
    ∷ []
    ∷ (ToEditor 1 (codes "{\"jsonrpc\":\"2.0\",\"method\":\"$/progress\",\"params\":{\"token\":\"lspmux:0:1\",\"value\":{\"kind\":\"begin\",\"title\":\"x\"}}}") ∷ ToEditor 1 (codes "{\"jsonrpc\":\"2.0\",\"method\":\"$/progress\",\"params\":{\"token\":\"lspmux:0:1\",\"value\":{\"kind\":\"end\"}}}") ∷ [])
    ∷ []
    ∷ (ToEditor 0 (codes "{\"jsonrpc\":\"2.0\",\"method\":\"$/progress\",\"params\":{\"token\":\"lspmux:0:2\",\"value\":{\"kind\":\"report\"}}}") ∷ [])
    ∷ (ToEditor 0 (codes "{\"jsonrpc\":\"2.0\",\"method\":\"$/progress\",\"params\":{\"token\":\"lspmux:0:2\",\"value\":{\"kind\":\"end\"}}}") ∷ [])
    ∷ (ToEditor 1 (codes "{\"jsonrpc\":\"2.0\",\"method\":\"$/progress\",\"params\":{\"token\":\"lspmux:0:2\",\"value\":{\"kind\":\"report\"}}}") ∷ ToEditor 1 (codes "{\"jsonrpc\":\"2.0\",\"method\":\"$/progress\",\"params\":{\"token\":\"lspmux:0:2\",\"value\":{\"kind\":\"end\"}}}") ∷ [])
    ∷ []

-- an editor that comes later is asked to take what lives, in order, by a message that answers none of it; of a token that has begun it gets the first `begin`, and what came since it was asked
abbrev pub asked_later : List Cause
asked_later =
    FromServer 0 (codes "{\"jsonrpc\":\"2.0\",\"id\":5,\"method\":\"window/workDoneProgress/create\",\"params\":{\"token\":\"p\"}}")
    ∷ FromServer 0 (codes "{\"jsonrpc\":\"2.0\",\"id\":6,\"method\":\"window/workDoneProgress/create\",\"params\":{\"token\":\"q\"}}")
    ∷ FromEditor 0 (codes "{\"jsonrpc\":\"2.0\",\"id\":2,\"result\":null}")
    ∷ FromServer 0 (codes "{\"jsonrpc\":\"2.0\",\"method\":\"$/progress\",\"params\":{\"token\":\"q\",\"value\":{\"kind\":\"begin\",\"title\":\"x\"}}}")
    ∷ FromServer 0 (codes "{\"jsonrpc\":\"2.0\",\"method\":\"$/progress\",\"params\":{\"token\":\"q\",\"value\":{\"kind\":\"report\"}}}")
    ∷ Joined 2
    ∷ FromEditor 2 (codes "{\"jsonrpc\":\"2.0\",\"id\":0,\"method\":\"initialize\",\"params\":{\"rootUri\":\"file:///w\",\"capabilities\":{}}}")
    ∷ FromEditor 2 (codes "{\"jsonrpc\":\"2.0\",\"id\":2,\"result\":null}")
    ∷ FromServer 0 (codes "{\"jsonrpc\":\"2.0\",\"method\":\"$/progress\",\"params\":{\"token\":\"q\",\"value\":{\"kind\":\"report\",\"percentage\":9}}}")
    ∷ FromEditor 2 (codes "{\"jsonrpc\":\"2.0\",\"id\":2,\"result\":null}")
    ∷ FromEditor 2 (codes "{\"jsonrpc\":\"2.0\",\"id\":1,\"result\":null}")
    ∷ FromServer 0 (codes "{\"jsonrpc\":\"2.0\",\"method\":\"$/progress\",\"params\":{\"token\":\"q\",\"value\":{\"kind\":\"end\"}}}")
    ∷ []

abbrev pub asked_later_outs : List (List Out)
asked_later_outs =
    (ToServer 0 (codes "{\"jsonrpc\":\"2.0\",\"id\":5,\"result\":null}") ∷ ToEditor 0 (codes "{\"jsonrpc\":\"2.0\",\"id\":1,\"method\":\"window/workDoneProgress/create\",\"params\":{\"token\":\"lspmux:0:1\"}}") ∷ ToEditor 1 (codes "{\"jsonrpc\":\"2.0\",\"id\":1,\"method\":\"window/workDoneProgress/create\",\"params\":{\"token\":\"lspmux:0:1\"}}") ∷ [])
    ∷ (ToServer 0 (codes "{\"jsonrpc\":\"2.0\",\"id\":6,\"result\":null}") ∷ ToEditor 0 (codes "{\"jsonrpc\":\"2.0\",\"id\":2,\"method\":\"window/workDoneProgress/create\",\"params\":{\"token\":\"lspmux:0:2\"}}") ∷ ToEditor 1 (codes "{\"jsonrpc\":\"2.0\",\"id\":2,\"method\":\"window/workDoneProgress/create\",\"params\":{\"token\":\"lspmux:0:2\"}}") ∷ [])
    ∷ []
    ∷ (ToEditor 0 (codes "{\"jsonrpc\":\"2.0\",\"method\":\"$/progress\",\"params\":{\"token\":\"lspmux:0:2\",\"value\":{\"kind\":\"begin\",\"title\":\"x\"}}}") ∷ [])
    ∷ (ToEditor 0 (codes "{\"jsonrpc\":\"2.0\",\"method\":\"$/progress\",\"params\":{\"token\":\"lspmux:0:2\",\"value\":{\"kind\":\"report\"}}}") ∷ [])
    ∷ []
    ∷ (ToEditor 2 (codes "{\"jsonrpc\":\"2.0\",\"id\":0,\"result\":{\"capabilities\":{}}}") ∷ [])
    ∷ (ToEditor 2 (codes "{\"jsonrpc\":\"2.0\",\"id\":1,\"method\":\"window/workDoneProgress/create\",\"params\":{\"token\":\"lspmux:0:1\"}}") ∷ ToEditor 2 (codes "{\"jsonrpc\":\"2.0\",\"id\":2,\"method\":\"window/workDoneProgress/create\",\"params\":{\"token\":\"lspmux:0:2\"}}") ∷ [])
    ∷ (ToEditor 0 (codes "{\"jsonrpc\":\"2.0\",\"method\":\"$/progress\",\"params\":{\"token\":\"lspmux:0:2\",\"value\":{\"kind\":\"report\",\"percentage\":9}}}") ∷ [])
    ∷ (ToEditor 2 (codes "{\"jsonrpc\":\"2.0\",\"method\":\"$/progress\",\"params\":{\"token\":\"lspmux:0:2\",\"value\":{\"kind\":\"begin\",\"title\":\"x\"}}}") ∷ ToEditor 2 (codes "{\"jsonrpc\":\"2.0\",\"method\":\"$/progress\",\"params\":{\"token\":\"lspmux:0:2\",\"value\":{\"kind\":\"report\",\"percentage\":9}}}") ∷ [])
    ∷ []
    ∷ (ToEditor 0 (codes "{\"jsonrpc\":\"2.0\",\"method\":\"$/progress\",\"params\":{\"token\":\"lspmux:0:2\",\"value\":{\"kind\":\"end\"}}}") ∷ ToEditor 2 (codes "{\"jsonrpc\":\"2.0\",\"method\":\"$/progress\",\"params\":{\"token\":\"lspmux:0:2\",\"value\":{\"kind\":\"end\"}}}") ∷ [])
    ∷ []

-- no editor runs yet: one that begins to run is told of what is registered, asked to take what lives, and then asked what waited
abbrev pub created_early : List Cause
created_early =
    FromServer 0 (codes "{\"jsonrpc\":\"2.0\",\"id\":2,\"method\":\"client/registerCapability\",\"params\":{\"registrations\":[{\"id\":\"a\",\"method\":\"workspace/didChangeWatchedFiles\"}]}}")
    ∷ FromServer 0 (codes "{\"jsonrpc\":\"2.0\",\"id\":3,\"method\":\"window/workDoneProgress/create\",\"params\":{\"token\":\"p\"}}")
    ∷ FromServer 0 (codes "{\"jsonrpc\":\"2.0\",\"id\":4,\"method\":\"workspace/configuration\",\"params\":{}}")
    ∷ FromServer 0 (codes "{\"jsonrpc\":\"2.0\",\"method\":\"$/progress\",\"params\":{\"token\":\"p\",\"value\":{\"kind\":\"begin\",\"title\":\"x\"}}}")
    ∷ FromServer 0 (codes "{\"jsonrpc\":\"2.0\",\"id\":5,\"method\":\"window/workDoneProgress/create\",\"params\":{\"token\":\"q\"}}")
    ∷ FromServer 0 (codes "{\"jsonrpc\":\"2.0\",\"method\":\"$/progress\",\"params\":{\"token\":\"q\",\"value\":{\"kind\":\"end\"}}}")
    ∷ FromEditor 0 (codes "{\"jsonrpc\":\"2.0\",\"id\":2,\"result\":null}")
    ∷ FromEditor 0 (codes "{\"jsonrpc\":\"2.0\",\"id\":3,\"result\":[]}")
    ∷ FromEditor 0 (codes "{\"jsonrpc\":\"2.0\",\"id\":2,\"result\":null}")
    ∷ []

abbrev pub created_early_outs : List (List Out)
created_early_outs =
    (ToServer 0 (codes "{\"jsonrpc\":\"2.0\",\"id\":2,\"result\":null}") ∷ [])
    ∷ (ToServer 0 (codes "{\"jsonrpc\":\"2.0\",\"id\":3,\"result\":null}") ∷ [])
    ∷ []
    ∷ []
    ∷ (ToServer 0 (codes "{\"jsonrpc\":\"2.0\",\"id\":5,\"result\":null}") ∷ [])
    ∷ []
    ∷ (ToEditor 0 (codes "{\"jsonrpc\":\"2.0\",\"id\":1,\"method\":\"client/registerCapability\",\"params\":{\"registrations\":[{\"id\":\"a\",\"method\":\"workspace/didChangeWatchedFiles\"}]}}") ∷ ToEditor 0 (codes "{\"jsonrpc\":\"2.0\",\"id\":2,\"method\":\"window/workDoneProgress/create\",\"params\":{\"token\":\"lspmux:0:1\"}}") ∷ ToEditor 0 (codes "{\"jsonrpc\":\"2.0\",\"id\":3,\"method\":\"workspace/configuration\",\"params\":{}}") ∷ [])
    ∷ (ToServer 0 (codes "{\"jsonrpc\":\"2.0\",\"id\":4,\"result\":[]}") ∷ [])
    ∷ (ToEditor 0 (codes "{\"jsonrpc\":\"2.0\",\"method\":\"$/progress\",\"params\":{\"token\":\"lspmux:0:1\",\"value\":{\"kind\":\"begin\",\"title\":\"x\"}}}") ∷ [])
    ∷ []

-- what is no integer or string, what begins as the daemon's own tokens do, and what lives, however it is written; an integer and a string differ, and none counts that was refused
abbrev pub refused_tokens : List Cause
refused_tokens =
    FromServer 0 (codes "{\"jsonrpc\":\"2.0\",\"id\":1,\"method\":\"window/workDoneProgress/create\",\"params\":{\"token\":null}}")
    ∷ FromServer 0 (codes "{\"jsonrpc\":\"2.0\",\"id\":2,\"method\":\"window/workDoneProgress/create\",\"params\":{\"token\":1.5}}")
    ∷ FromServer 0 (codes "{\"jsonrpc\":\"2.0\",\"id\":3,\"method\":\"window/workDoneProgress/create\"}")
    ∷ FromServer 0 (codes "{\"jsonrpc\":\"2.0\",\"id\":4,\"method\":\"window/workDoneProgress/create\",\"params\":{\"token\":\"\\u006cspmux:\"}}")
    ∷ FromServer 0 (codes "{\"jsonrpc\":\"2.0\",\"id\":5,\"method\":\"window/workDoneProgress/create\",\"params\":{\"token\":\"1\"}}")
    ∷ FromServer 0 (codes "{\"jsonrpc\":\"2.0\",\"id\":6,\"method\":\"window/workDoneProgress/create\",\"params\":{\"token\":\"\\u0031\"}}")
    ∷ FromServer 0 (codes "{\"jsonrpc\":\"2.0\",\"id\":7,\"method\":\"window/workDoneProgress/create\",\"params\":{\"token\":1}}")
    ∷ []

abbrev pub refused_tokens_outs : List (List Out)
refused_tokens_outs =
    (ToServer 0 (codes "{\"jsonrpc\":\"2.0\",\"id\":1,\"error\":{\"code\":-32602,\"message\":\"Invalid params\"}}") ∷ [])
    ∷ (ToServer 0 (codes "{\"jsonrpc\":\"2.0\",\"id\":2,\"error\":{\"code\":-32602,\"message\":\"Invalid params\"}}") ∷ [])
    ∷ (ToServer 0 (codes "{\"jsonrpc\":\"2.0\",\"id\":3,\"error\":{\"code\":-32602,\"message\":\"Invalid params\"}}") ∷ [])
    ∷ (ToServer 0 (codes "{\"jsonrpc\":\"2.0\",\"id\":4,\"error\":{\"code\":-32602,\"message\":\"Invalid params\"}}") ∷ [])
    ∷ (ToServer 0 (codes "{\"jsonrpc\":\"2.0\",\"id\":5,\"result\":null}") ∷ ToEditor 0 (codes "{\"jsonrpc\":\"2.0\",\"id\":1,\"method\":\"window/workDoneProgress/create\",\"params\":{\"token\":\"lspmux:0:1\"}}") ∷ ToEditor 1 (codes "{\"jsonrpc\":\"2.0\",\"id\":1,\"method\":\"window/workDoneProgress/create\",\"params\":{\"token\":\"lspmux:0:1\"}}") ∷ [])
    ∷ (ToServer 0 (codes "{\"jsonrpc\":\"2.0\",\"id\":6,\"error\":{\"code\":-32602,\"message\":\"Invalid params\"}}") ∷ [])
    ∷ (ToServer 0 (codes "{\"jsonrpc\":\"2.0\",\"id\":7,\"result\":null}") ∷ ToEditor 0 (codes "{\"jsonrpc\":\"2.0\",\"id\":2,\"method\":\"window/workDoneProgress/create\",\"params\":{\"token\":\"lspmux:0:2\"}}") ∷ ToEditor 1 (codes "{\"jsonrpc\":\"2.0\",\"id\":2,\"method\":\"window/workDoneProgress/create\",\"params\":{\"token\":\"lspmux:0:2\"}}") ∷ [])
    ∷ []

-- an editor cancels work that it accepted to hear of, by the daemon's token, which goes on as the start wrote it; one that it didn't accept, the start's own token, no token and one that has ended give nothing
abbrev pub work_cancelled : List Cause
work_cancelled =
    FromServer 0 (codes "{\"jsonrpc\":\"2.0\",\"id\":5,\"method\":\"window/workDoneProgress/create\",\"params\":{\"token\":\"\\u0070\"}}")
    ∷ FromEditor 0 (codes "{\"jsonrpc\":\"2.0\",\"id\":1,\"result\":null}")
    ∷ FromEditor 0 (codes "{\"jsonrpc\":\"2.0\",\"method\":\"window/workDoneProgress/cancel\",\"params\":{\"token\":\"\\u006cspmux:0:1\"}}")
    ∷ FromEditor 1 (codes "{\"jsonrpc\":\"2.0\",\"method\":\"window/workDoneProgress/cancel\",\"params\":{\"token\":\"lspmux:0:1\"}}")
    ∷ FromEditor 0 (codes "{\"jsonrpc\":\"2.0\",\"method\":\"window/workDoneProgress/cancel\",\"params\":{\"token\":\"p\"}}")
    ∷ FromEditor 0 (codes "{\"jsonrpc\":\"2.0\",\"method\":\"window/workDoneProgress/cancel\",\"params\":{\"token\":\"lspmux:0:2\"}}")
    ∷ FromEditor 0 (codes "{\"jsonrpc\":\"2.0\",\"method\":\"window/workDoneProgress/cancel\",\"params\":{\"token\":1}}")
    ∷ FromServer 0 (codes "{\"jsonrpc\":\"2.0\",\"method\":\"$/progress\",\"params\":{\"token\":\"p\",\"value\":{\"kind\":\"end\"}}}")
    ∷ FromEditor 0 (codes "{\"jsonrpc\":\"2.0\",\"method\":\"window/workDoneProgress/cancel\",\"params\":{\"token\":\"lspmux:0:1\"}}")
    ∷ []

abbrev pub work_cancelled_outs : List (List Out)
work_cancelled_outs =
    (ToServer 0 (codes "{\"jsonrpc\":\"2.0\",\"id\":5,\"result\":null}") ∷ ToEditor 0 (codes "{\"jsonrpc\":\"2.0\",\"id\":1,\"method\":\"window/workDoneProgress/create\",\"params\":{\"token\":\"lspmux:0:1\"}}") ∷ ToEditor 1 (codes "{\"jsonrpc\":\"2.0\",\"id\":1,\"method\":\"window/workDoneProgress/create\",\"params\":{\"token\":\"lspmux:0:1\"}}") ∷ [])
    ∷ []
    ∷ (ToServer 0 (codes "{\"jsonrpc\":\"2.0\",\"method\":\"window/workDoneProgress/cancel\",\"params\":{\"token\":\"\\u0070\"}}") ∷ [])
    ∷ []
    ∷ []
    ∷ []
    ∷ []
    ∷ (ToEditor 0 (codes "{\"jsonrpc\":\"2.0\",\"method\":\"$/progress\",\"params\":{\"token\":\"lspmux:0:1\",\"value\":{\"kind\":\"end\"}}}") ∷ [])
    ∷ []
    ∷ []

-- one token is an editor's for work done and for partial results, of two requests, and the start's: each is told apart, and the editor cancels the work of its request, while that is open
abbrev pub one_token_thrice : List Cause
one_token_thrice =
    FromEditor 0 (codes "{\"jsonrpc\":\"2.0\",\"id\":1,\"method\":\"textDocument/references\",\"params\":{\"workDoneToken\":\"t\"}}")
    ∷ FromEditor 0 (codes "{\"jsonrpc\":\"2.0\",\"id\":2,\"method\":\"textDocument/references\",\"params\":{\"partialResultToken\":\"t\"}}")
    ∷ FromServer 0 (codes "{\"jsonrpc\":\"2.0\",\"id\":1,\"method\":\"window/workDoneProgress/create\",\"params\":{\"token\":\"t\"}}")
    ∷ FromEditor 0 (codes "{\"jsonrpc\":\"2.0\",\"id\":1,\"result\":null}")
    ∷ FromServer 0 (codes "{\"jsonrpc\":\"2.0\",\"method\":\"$/progress\",\"params\":{\"token\":\"lspmux:4\",\"value\":{\"kind\":\"begin\",\"title\":\"x\"}}}")
    ∷ FromServer 0 (codes "{\"jsonrpc\":\"2.0\",\"method\":\"$/progress\",\"params\":{\"token\":\"lspmux:7\",\"value\":[]}}")
    ∷ FromServer 0 (codes "{\"jsonrpc\":\"2.0\",\"method\":\"$/progress\",\"params\":{\"token\":\"t\",\"value\":{\"kind\":\"begin\",\"title\":\"x\"}}}")
    ∷ FromEditor 0 (codes "{\"jsonrpc\":\"2.0\",\"method\":\"window/workDoneProgress/cancel\",\"params\":{\"token\":\"t\"}}")
    ∷ FromServer 0 (codes "{\"jsonrpc\":\"2.0\",\"id\":2,\"result\":null}")
    ∷ FromEditor 0 (codes "{\"jsonrpc\":\"2.0\",\"method\":\"window/workDoneProgress/cancel\",\"params\":{\"token\":\"t\"}}")
    ∷ FromEditor 0 (codes "{\"jsonrpc\":\"2.0\",\"method\":\"window/workDoneProgress/cancel\",\"params\":{\"token\":\"lspmux:0:1\"}}")
    ∷ []

abbrev pub one_token_thrice_outs : List (List Out)
one_token_thrice_outs =
    (ToServer 0 (codes "{\"jsonrpc\":\"2.0\",\"id\":2,\"method\":\"textDocument/references\",\"params\":{\"workDoneToken\":\"lspmux:4\"}}") ∷ [])
    ∷ (ToServer 0 (codes "{\"jsonrpc\":\"2.0\",\"id\":3,\"method\":\"textDocument/references\",\"params\":{\"partialResultToken\":\"lspmux:7\"}}") ∷ [])
    ∷ (ToServer 0 (codes "{\"jsonrpc\":\"2.0\",\"id\":1,\"result\":null}") ∷ ToEditor 0 (codes "{\"jsonrpc\":\"2.0\",\"id\":1,\"method\":\"window/workDoneProgress/create\",\"params\":{\"token\":\"lspmux:0:1\"}}") ∷ ToEditor 1 (codes "{\"jsonrpc\":\"2.0\",\"id\":1,\"method\":\"window/workDoneProgress/create\",\"params\":{\"token\":\"lspmux:0:1\"}}") ∷ [])
    ∷ []
    ∷ (ToEditor 0 (codes "{\"jsonrpc\":\"2.0\",\"method\":\"$/progress\",\"params\":{\"token\":\"t\",\"value\":{\"kind\":\"begin\",\"title\":\"x\"}}}") ∷ [])
    ∷ (ToEditor 0 (codes "{\"jsonrpc\":\"2.0\",\"method\":\"$/progress\",\"params\":{\"token\":\"t\",\"value\":[]}}") ∷ [])
    ∷ (ToEditor 0 (codes "{\"jsonrpc\":\"2.0\",\"method\":\"$/progress\",\"params\":{\"token\":\"lspmux:0:1\",\"value\":{\"kind\":\"begin\",\"title\":\"x\"}}}") ∷ [])
    ∷ (ToServer 0 (codes "{\"jsonrpc\":\"2.0\",\"method\":\"window/workDoneProgress/cancel\",\"params\":{\"token\":\"lspmux:4\"}}") ∷ [])
    ∷ (ToEditor 0 (codes "{\"jsonrpc\":\"2.0\",\"id\":1,\"result\":null}") ∷ [])
    ∷ []
    ∷ (ToServer 0 (codes "{\"jsonrpc\":\"2.0\",\"method\":\"window/workDoneProgress/cancel\",\"params\":{\"token\":\"t\"}}") ∷ [])
    ∷ []

-- an editor that leaves hears of no token, nor does its answer count; the other one does, and what comes with no kind is a message too
abbrev pub takers_leave : List Cause
takers_leave =
    FromServer 0 (codes "{\"jsonrpc\":\"2.0\",\"id\":5,\"method\":\"window/workDoneProgress/create\",\"params\":{\"token\":\"p\"}}")
    ∷ FromEditor 0 (codes "{\"jsonrpc\":\"2.0\",\"id\":1,\"result\":null}")
    ∷ FromEditor 0 (codes "{\"jsonrpc\":\"2.0\",\"id\":9,\"method\":\"shutdown\"}")
    ∷ FromServer 0 (codes "{\"jsonrpc\":\"2.0\",\"method\":\"$/progress\",\"params\":{\"token\":\"p\",\"value\":1}}")
    ∷ FromEditor 1 (codes "{\"jsonrpc\":\"2.0\",\"id\":1,\"result\":null}")
    ∷ FromEditor 1 (codes "{\"jsonrpc\":\"2.0\",\"method\":\"exit\"}")
    ∷ FromServer 0 (codes "{\"jsonrpc\":\"2.0\",\"method\":\"$/progress\",\"params\":{\"token\":\"p\",\"value\":{\"kind\":\"end\"}}}")
    ∷ []

abbrev pub takers_leave_outs : List (List Out)
takers_leave_outs =
    (ToServer 0 (codes "{\"jsonrpc\":\"2.0\",\"id\":5,\"result\":null}") ∷ ToEditor 0 (codes "{\"jsonrpc\":\"2.0\",\"id\":1,\"method\":\"window/workDoneProgress/create\",\"params\":{\"token\":\"lspmux:0:1\"}}") ∷ ToEditor 1 (codes "{\"jsonrpc\":\"2.0\",\"id\":1,\"method\":\"window/workDoneProgress/create\",\"params\":{\"token\":\"lspmux:0:1\"}}") ∷ [])
    ∷ []
    ∷ (ToEditor 0 (codes "{\"jsonrpc\":\"2.0\",\"id\":9,\"result\":null}") ∷ [])
    ∷ []
    ∷ (ToEditor 1 (codes "{\"jsonrpc\":\"2.0\",\"method\":\"$/progress\",\"params\":{\"token\":\"lspmux:0:1\",\"value\":1}}") ∷ [])
    ∷ (CloseEditor 1 ∷ [])
    ∷ []
    ∷ []

-- behind a create and a `begin`, the start reports so often; that gives nothing, since no editor has answered
abbrev pub one_begins : List Cause
one_begins =
    FromServer 0 (codes "{\"jsonrpc\":\"2.0\",\"id\":5,\"method\":\"window/workDoneProgress/create\",\"params\":{\"token\":\"p\"}}")
    ∷ FromServer 0 (codes "{\"jsonrpc\":\"2.0\",\"method\":\"$/progress\",\"params\":{\"token\":\"p\",\"value\":{\"kind\":\"begin\",\"title\":\"x\"}}}")
    ∷ []

abbrev pub report : Event
report = heard (FromServer 0 (codes "{\"jsonrpc\":\"2.0\",\"method\":\"$/progress\",\"params\":{\"token\":\"p\",\"value\":{\"kind\":\"report\"}}}"))

abbrev pub reported : ℕ → List Event
reported n = events_behind (with_groups 8) two_run one_begins ++ replicate n report

-- then the token ends, and an editor accepts: it gets the `begin` and the reports that were held, and behind them the end
abbrev pub much_held : List Cause
much_held =
    FromServer 0 (codes "{\"jsonrpc\":\"2.0\",\"method\":\"$/progress\",\"params\":{\"token\":\"p\",\"value\":{\"kind\":\"end\"}}}")
    ∷ FromEditor 0 (codes "{\"jsonrpc\":\"2.0\",\"id\":1,\"result\":null}")
    ∷ []

abbrev pub reports_out : ℕ → List Out
reports_out n = replicate n (ToEditor 0 (codes "{\"jsonrpc\":\"2.0\",\"method\":\"$/progress\",\"params\":{\"token\":\"lspmux:0:1\",\"value\":{\"kind\":\"report\"}}}"))

abbrev pub much_held_outs : ℕ → List (List Out)
much_held_outs n =
    []
    ∷ (ToEditor 0 (codes "{\"jsonrpc\":\"2.0\",\"method\":\"$/progress\",\"params\":{\"token\":\"lspmux:0:1\",\"value\":{\"kind\":\"begin\",\"title\":\"x\"}}}")
    ∷ reports_out n
    ++ ToEditor 0 (codes "{\"jsonrpc\":\"2.0\",\"method\":\"$/progress\",\"params\":{\"token\":\"lspmux:0:1\",\"value\":{\"kind\":\"end\"}}}")
    ∷ [])
    ∷ []

-- what is kept: of two tokens the first has begun; the first editor accepted it and was sent its `begin`, the second one hasn't answered, nor has any of the other token
abbrev pub two_created : List Cause
two_created =
    FromServer 0 (codes "{\"jsonrpc\":\"2.0\",\"id\":5,\"method\":\"window/workDoneProgress/create\",\"params\":{\"token\":\"p\"}}")
    ∷ FromEditor 0 (codes "{\"jsonrpc\":\"2.0\",\"id\":1,\"result\":null}")
    ∷ FromServer 0 (codes "{\"jsonrpc\":\"2.0\",\"method\":\"$/progress\",\"params\":{\"token\":\"p\",\"value\":{\"kind\":\"begin\",\"title\":\"x\"}}}")
    ∷ FromServer 0 (codes "{\"jsonrpc\":\"2.0\",\"id\":6,\"method\":\"window/workDoneProgress/create\",\"params\":{\"token\":7}}")
    ∷ []

abbrev pub two_kept : Created
two_kept = record {
  next = 3;
  tokens = record { number = 1; id = text (codes "p"); text = codes "\"p\""; begin = Some (codes "{\"jsonrpc\":\"2.0\",\"method\":\"$/progress\",\"params\":{\"token\":\"p\",\"value\":{\"kind\":\"begin\",\"title\":\"x\"}}}") } ∷ record { number = 2; id = integer (codes "7"); text = codes "7"; begin = None } ∷ [];
  takings = record { editor = 0; number = 1; token = 1; accepted = true; held = []; begun = true }
      ∷ record { editor = 1; number = 1; token = 1; accepted = false; held = (codes "{\"jsonrpc\":\"2.0\",\"method\":\"$/progress\",\"params\":{\"token\":\"p\",\"value\":{\"kind\":\"begin\",\"title\":\"x\"}}}") ∷ []; begun = true }
      ∷ record { editor = 0; number = 2; token = 2; accepted = false; held = []; begun = false }
      ∷ record { editor = 1; number = 2; token = 2; accepted = false; held = []; begun = false }
      ∷ [];
}
