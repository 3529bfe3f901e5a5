-- Worked histories of what a start wants asked anew, where two editors have a document open in two texts.
use Rattle.std.specs.Prelude.{List, [], ◌∷◌, ◌++◌, codes}
use Rattle.mux_history.specs.declared.cause.Cause.{Cause}
use Rattle.mux_history.specs.declared.cause.Cause.TheVariants.{Joined, FromEditor, Started, FromServer, ServerGone}
use Rattle.mux_history.specs.declared.out.Out.{Out}
use Rattle.mux_history.specs.declared.out.Out.TheVariants.{ToEditor, ToServer, Spawn}
use Rattle.event_model.specs.Event.{Event}
use Rattle.group_words.specs.Example.{with_groups}
use Rattle.group_rows.specs.Example.{events_behind, two_editors}
use Rattle.group_rows.specs.Rows.{outs_from}

-- two editors run, with two texts of a document; the start has the second one's
abbrev pub two_texts : List Event
two_texts = events_behind (with_groups 8) [] (two_editors
    ++ FromEditor 0 (codes "{\"jsonrpc\":\"2.0\",\"method\":\"textDocument/didOpen\",\"params\":{\"textDocument\":{\"uri\":\"file:///u\",\"languageId\":\"x\",\"version\":1,\"text\":\"a\"}}}")
    ∷ FromEditor 1 (codes "{\"jsonrpc\":\"2.0\",\"method\":\"textDocument/didOpen\",\"params\":{\"textDocument\":{\"uri\":\"file:///u\",\"languageId\":\"x\",\"version\":1,\"text\":\"b\"}}}")
    ∷ [])

-- what each of these causes gives behind that
abbrev pub played : List Cause → List (List Out)
played causes = outs_from (with_groups 8) two_texts causes

-- two editors have a document open in two texts: what the start wants asked anew goes to the one whose text it has, which asks, and nothing is switched; the other one is owed it, and asked behind its own request, which switches. The start wants it again: it goes to that one, and as long as only that one asks, nothing is switched any more
abbrev pub no_rest : List Cause
no_rest = FromServer 0 (codes "{\"jsonrpc\":\"2.0\",\"id\":7,\"method\":\"workspace/semanticTokens/refresh\"}")
    ∷ FromEditor 1 (codes "{\"jsonrpc\":\"2.0\",\"id\":1,\"method\":\"textDocument/semanticTokens/full\"}")
    ∷ FromEditor 0 (codes "{\"jsonrpc\":\"2.0\",\"id\":1,\"method\":\"textDocument/semanticTokens/full\"}")
    ∷ FromServer 0 (codes "{\"jsonrpc\":\"2.0\",\"id\":8,\"method\":\"workspace/semanticTokens/refresh\"}")
    ∷ FromEditor 0 (codes "{\"jsonrpc\":\"2.0\",\"id\":2,\"method\":\"textDocument/semanticTokens/full\"}")
    ∷ FromServer 0 (codes "{\"jsonrpc\":\"2.0\",\"id\":9,\"method\":\"workspace/semanticTokens/refresh\"}")
    ∷ FromEditor 0 (codes "{\"jsonrpc\":\"2.0\",\"id\":3,\"method\":\"textDocument/semanticTokens/full\"}")
    ∷ []

abbrev pub no_rest_outs : List (List Out)
no_rest_outs = (
    ToServer 0 (codes "{\"jsonrpc\":\"2.0\",\"id\":7,\"result\":null}")
    ∷ ToEditor 1 (codes "{\"jsonrpc\":\"2.0\",\"id\":1,\"method\":\"workspace/semanticTokens/refresh\"}")
    ∷ []
    )
    ∷ (ToServer 0 (codes "{\"jsonrpc\":\"2.0\",\"id\":2,\"method\":\"textDocument/semanticTokens/full\"}") ∷ [])
    ∷ (
    ToServer 0 (codes "{\"jsonrpc\":\"2.0\",\"method\":\"textDocument/didChange\",\"params\":{\"textDocument\":{\"uri\":\"file:///u\",\"version\":3},\"contentChanges\":[{\"text\":\"a\"}]}}")
    ∷ ToServer 0 (codes "{\"jsonrpc\":\"2.0\",\"id\":3,\"method\":\"textDocument/semanticTokens/full\"}")
    ∷ ToEditor 0 (codes "{\"jsonrpc\":\"2.0\",\"id\":1,\"method\":\"workspace/semanticTokens/refresh\"}")
    ∷ []
    )
    ∷ (
    ToServer 0 (codes "{\"jsonrpc\":\"2.0\",\"id\":8,\"result\":null}")
    ∷ ToEditor 0 (codes "{\"jsonrpc\":\"2.0\",\"id\":2,\"method\":\"workspace/semanticTokens/refresh\"}")
    ∷ []
    )
    ∷ (ToServer 0 (codes "{\"jsonrpc\":\"2.0\",\"id\":4,\"method\":\"textDocument/semanticTokens/full\"}") ∷ [])
    ∷ (
    ToServer 0 (codes "{\"jsonrpc\":\"2.0\",\"id\":9,\"result\":null}")
    ∷ ToEditor 0 (codes "{\"jsonrpc\":\"2.0\",\"id\":3,\"method\":\"workspace/semanticTokens/refresh\"}")
    ∷ []
    )
    ∷ (ToServer 0 (codes "{\"jsonrpc\":\"2.0\",\"id\":5,\"method\":\"textDocument/semanticTokens/full\"}") ∷ [])
    ∷ []

-- what is owed is the last of each method, in the order in which the methods came to be owed; it goes behind a notification too, once
abbrev pub of_methods : List Cause
of_methods = FromServer 0 (codes "{\"jsonrpc\":\"2.0\",\"id\":7,\"method\":\"workspace/semanticTokens/refresh\"}")
    ∷ FromServer 0 (codes "{\"jsonrpc\":\"2.0\",\"id\":8,\"method\":\"workspace/inlayHint/refresh\"}")
    ∷ FromServer 0 (codes "{\"jsonrpc\":\"2.0\",\"id\":9,\"method\":\"workspace/semanticTokens/refresh\",\"params\":{\"x\":1}}")
    ∷ FromEditor 0 (codes "{\"jsonrpc\":\"2.0\",\"method\":\"workspace/didChangeConfiguration\"}")
    ∷ FromEditor 0 (codes "{\"jsonrpc\":\"2.0\",\"method\":\"x/y\"}")
    ∷ []

abbrev pub of_methods_outs : List (List Out)
of_methods_outs = (
    ToServer 0 (codes "{\"jsonrpc\":\"2.0\",\"id\":7,\"result\":null}")
    ∷ ToEditor 1 (codes "{\"jsonrpc\":\"2.0\",\"id\":1,\"method\":\"workspace/semanticTokens/refresh\"}")
    ∷ []
    )
    ∷ (
    ToServer 0 (codes "{\"jsonrpc\":\"2.0\",\"id\":8,\"result\":null}")
    ∷ ToEditor 1 (codes "{\"jsonrpc\":\"2.0\",\"id\":2,\"method\":\"workspace/inlayHint/refresh\"}")
    ∷ []
    )
    ∷ (
    ToServer 0 (codes "{\"jsonrpc\":\"2.0\",\"id\":9,\"result\":null}")
    ∷ ToEditor 1 (codes "{\"jsonrpc\":\"2.0\",\"id\":3,\"method\":\"workspace/semanticTokens/refresh\",\"params\":{\"x\":1}}")
    ∷ []
    )
    ∷ (
    ToServer 0 (codes "{\"jsonrpc\":\"2.0\",\"method\":\"textDocument/didChange\",\"params\":{\"textDocument\":{\"uri\":\"file:///u\",\"version\":3},\"contentChanges\":[{\"text\":\"a\"}]}}")
    ∷ ToServer 0 (codes "{\"jsonrpc\":\"2.0\",\"method\":\"workspace/didChangeConfiguration\"}")
    ∷ ToEditor 0 (codes "{\"jsonrpc\":\"2.0\",\"id\":1,\"method\":\"workspace/semanticTokens/refresh\",\"params\":{\"x\":1}}")
    ∷ ToEditor 0 (codes "{\"jsonrpc\":\"2.0\",\"id\":2,\"method\":\"workspace/inlayHint/refresh\"}")
    ∷ []
    )
    ∷ (ToServer 0 (codes "{\"jsonrpc\":\"2.0\",\"method\":\"x/y\"}") ∷ [])
    ∷ []

-- a response, a cancel, a refused request and one of the multiplexer's own don't go on: what is owed stays; where the editor agrees as the start wants the same again, it is asked at once, and owed that no more
abbrev pub not_forth : List Cause
not_forth = FromServer 0 (codes "{\"jsonrpc\":\"2.0\",\"id\":7,\"method\":\"workspace/semanticTokens/refresh\"}")
    ∷ FromEditor 0 (codes "{\"jsonrpc\":\"2.0\",\"id\":5,\"result\":null}")
    ∷ FromEditor 0 (codes "{\"jsonrpc\":\"2.0\",\"method\":\"$/cancelRequest\",\"params\":{\"id\":1}}")
    ∷ FromEditor 0 (codes "{\"jsonrpc\":\"2.0\",\"id\":1,\"method\":\"initialized\"}")
    ∷ FromEditor 1 (codes "{\"jsonrpc\":\"2.0\",\"method\":\"textDocument/didChange\",\"params\":{\"textDocument\":{\"uri\":\"file:///u\",\"version\":2},\"contentChanges\":[{\"text\":\"a\"}]}}")
    ∷ FromServer 0 (codes "{\"jsonrpc\":\"2.0\",\"id\":8,\"method\":\"workspace/semanticTokens/refresh\"}")
    ∷ FromEditor 0 (codes "{\"jsonrpc\":\"2.0\",\"id\":1,\"method\":\"textDocument/semanticTokens/full\"}")
    ∷ []

abbrev pub not_forth_outs : List (List Out)
not_forth_outs = (
    ToServer 0 (codes "{\"jsonrpc\":\"2.0\",\"id\":7,\"result\":null}")
    ∷ ToEditor 1 (codes "{\"jsonrpc\":\"2.0\",\"id\":1,\"method\":\"workspace/semanticTokens/refresh\"}")
    ∷ []
    )
    ∷ []
    ∷ []
    ∷ (ToEditor 0 (codes "{\"jsonrpc\":\"2.0\",\"id\":1,\"error\":{\"code\":-32600,\"message\":\"Invalid Request\"}}") ∷ [])
    ∷ (ToServer 0 (codes "{\"jsonrpc\":\"2.0\",\"method\":\"textDocument/didChange\",\"params\":{\"textDocument\":{\"uri\":\"file:///u\",\"version\":3},\"contentChanges\":[{\"text\":\"a\"}]}}") ∷ [])
    ∷ (
    ToServer 0 (codes "{\"jsonrpc\":\"2.0\",\"id\":8,\"result\":null}")
    ∷ ToEditor 0 (codes "{\"jsonrpc\":\"2.0\",\"id\":1,\"method\":\"workspace/semanticTokens/refresh\"}")
    ∷ ToEditor 1 (codes "{\"jsonrpc\":\"2.0\",\"id\":2,\"method\":\"workspace/semanticTokens/refresh\"}")
    ∷ []
    )
    ∷ (ToServer 0 (codes "{\"jsonrpc\":\"2.0\",\"id\":2,\"method\":\"textDocument/semanticTokens/full\"}") ∷ [])
    ∷ []

-- what a start wants is owed no more once its program ended
abbrev pub gone_between : List Cause
gone_between = FromServer 0 (codes "{\"jsonrpc\":\"2.0\",\"id\":7,\"method\":\"workspace/semanticTokens/refresh\"}")
    ∷ ServerGone 0
    ∷ Started 1
    ∷ FromServer 1 (codes "{\"jsonrpc\":\"2.0\",\"id\":1,\"result\":{\"capabilities\":{}}}")
    ∷ FromEditor 0 (codes "{\"jsonrpc\":\"2.0\",\"id\":1,\"method\":\"textDocument/semanticTokens/full\"}")
    ∷ []

abbrev pub gone_between_outs : List (List Out)
gone_between_outs = (
    ToServer 0 (codes "{\"jsonrpc\":\"2.0\",\"id\":7,\"result\":null}")
    ∷ ToEditor 1 (codes "{\"jsonrpc\":\"2.0\",\"id\":1,\"method\":\"workspace/semanticTokens/refresh\"}")
    ∷ []
    )
    ∷ (Spawn 1 0 ∷ [])
    ∷ (ToServer 1 (codes "{\"jsonrpc\":\"2.0\",\"id\":1,\"method\":\"initialize\",\"params\":{\"processId\":null,\"clientInfo\":{\"name\":\"lspmux\"},\"rootUri\":\"file:///w\",\"capabilities\":{},\"trace\":\"off\"}}") ∷ [])
    ∷ (
    ToServer 1 (codes "{\"jsonrpc\":\"2.0\",\"method\":\"initialized\",\"params\":{}}")
    ∷ ToServer 1 (codes "{\"jsonrpc\":\"2.0\",\"method\":\"textDocument/didOpen\",\"params\":{\"textDocument\":{\"uri\":\"file:///u\",\"languageId\":\"x\",\"version\":1,\"text\":\"b\"}}}")
    ∷ []
    )
    ∷ (
    ToServer 1 (codes "{\"jsonrpc\":\"2.0\",\"method\":\"textDocument/didChange\",\"params\":{\"textDocument\":{\"uri\":\"file:///u\",\"version\":2},\"contentChanges\":[{\"text\":\"a\"}]}}")
    ∷ ToServer 1 (codes "{\"jsonrpc\":\"2.0\",\"id\":2,\"method\":\"textDocument/semanticTokens/full\"}")
    ∷ []
    )
    ∷ []

-- a third editor that doesn't run yet is owed nothing. Then it has the text of the second one: both are asked, and the first one is owed it; behind the first one's request both are owed it, and once the one asks, both agree
abbrev pub of_three : List Cause
of_three = Joined 2
    ∷ FromEditor 2 (codes "{\"jsonrpc\":\"2.0\",\"id\":0,\"method\":\"initialize\",\"params\":{\"rootUri\":\"file:///w\",\"capabilities\":{}}}")
    ∷ FromServer 0 (codes "{\"jsonrpc\":\"2.0\",\"id\":7,\"method\":\"workspace/semanticTokens/refresh\"}")
    ∷ FromEditor 2 (codes "{\"jsonrpc\":\"2.0\",\"method\":\"textDocument/didOpen\",\"params\":{\"textDocument\":{\"uri\":\"file:///u\",\"languageId\":\"x\",\"version\":1,\"text\":\"b\"}}}")
    ∷ FromServer 0 (codes "{\"jsonrpc\":\"2.0\",\"id\":8,\"method\":\"workspace/semanticTokens/refresh\"}")
    ∷ FromEditor 0 (codes "{\"jsonrpc\":\"2.0\",\"id\":1,\"method\":\"textDocument/semanticTokens/full\"}")
    ∷ FromServer 0 (codes "{\"jsonrpc\":\"2.0\",\"id\":9,\"method\":\"workspace/semanticTokens/refresh\"}")
    ∷ FromEditor 2 (codes "{\"jsonrpc\":\"2.0\",\"id\":1,\"method\":\"textDocument/semanticTokens/full\"}")
    ∷ FromServer 0 (codes "{\"jsonrpc\":\"2.0\",\"id\":10,\"method\":\"workspace/semanticTokens/refresh\"}")
    ∷ FromEditor 1 (codes "{\"jsonrpc\":\"2.0\",\"id\":1,\"method\":\"textDocument/semanticTokens/full\"}")
    ∷ []

abbrev pub of_three_outs : List (List Out)
of_three_outs = []
    ∷ (ToEditor 2 (codes "{\"jsonrpc\":\"2.0\",\"id\":0,\"result\":{\"capabilities\":{}}}") ∷ [])
    ∷ (
    ToServer 0 (codes "{\"jsonrpc\":\"2.0\",\"id\":7,\"result\":null}")
    ∷ ToEditor 1 (codes "{\"jsonrpc\":\"2.0\",\"id\":1,\"method\":\"workspace/semanticTokens/refresh\"}")
    ∷ []
    )
    ∷ []
    ∷ (
    ToServer 0 (codes "{\"jsonrpc\":\"2.0\",\"id\":8,\"result\":null}")
    ∷ ToEditor 1 (codes "{\"jsonrpc\":\"2.0\",\"id\":2,\"method\":\"workspace/semanticTokens/refresh\"}")
    ∷ ToEditor 2 (codes "{\"jsonrpc\":\"2.0\",\"id\":1,\"method\":\"workspace/semanticTokens/refresh\"}")
    ∷ []
    )
    ∷ (
    ToServer 0 (codes "{\"jsonrpc\":\"2.0\",\"method\":\"textDocument/didChange\",\"params\":{\"textDocument\":{\"uri\":\"file:///u\",\"version\":3},\"contentChanges\":[{\"text\":\"a\"}]}}")
    ∷ ToServer 0 (codes "{\"jsonrpc\":\"2.0\",\"id\":2,\"method\":\"textDocument/semanticTokens/full\"}")
    ∷ ToEditor 0 (codes "{\"jsonrpc\":\"2.0\",\"id\":1,\"method\":\"workspace/semanticTokens/refresh\"}")
    ∷ []
    )
    ∷ (
    ToServer 0 (codes "{\"jsonrpc\":\"2.0\",\"id\":9,\"result\":null}")
    ∷ ToEditor 0 (codes "{\"jsonrpc\":\"2.0\",\"id\":2,\"method\":\"workspace/semanticTokens/refresh\"}")
    ∷ []
    )
    ∷ (
    ToServer 0 (codes "{\"jsonrpc\":\"2.0\",\"method\":\"textDocument/didChange\",\"params\":{\"textDocument\":{\"uri\":\"file:///u\",\"version\":4},\"contentChanges\":[{\"text\":\"b\"}]}}")
    ∷ ToServer 0 (codes "{\"jsonrpc\":\"2.0\",\"id\":3,\"method\":\"textDocument/semanticTokens/full\"}")
    ∷ ToEditor 2 (codes "{\"jsonrpc\":\"2.0\",\"id\":2,\"method\":\"workspace/semanticTokens/refresh\"}")
    ∷ []
    )
    ∷ (
    ToServer 0 (codes "{\"jsonrpc\":\"2.0\",\"id\":10,\"result\":null}")
    ∷ ToEditor 1 (codes "{\"jsonrpc\":\"2.0\",\"id\":3,\"method\":\"workspace/semanticTokens/refresh\"}")
    ∷ ToEditor 2 (codes "{\"jsonrpc\":\"2.0\",\"id\":3,\"method\":\"workspace/semanticTokens/refresh\"}")
    ∷ []
    )
    ∷ (ToServer 0 (codes "{\"jsonrpc\":\"2.0\",\"id\":4,\"method\":\"textDocument/semanticTokens/full\"}") ∷ [])
    ∷ []

-- an editor that left is owed nothing, and one that begins to run by a request isn't either
abbrev pub left_between : List Cause
left_between = Joined 2
    ∷ FromEditor 2 (codes "{\"jsonrpc\":\"2.0\",\"id\":0,\"method\":\"initialize\",\"params\":{\"rootUri\":\"file:///w\",\"capabilities\":{}}}")
    ∷ FromServer 0 (codes "{\"jsonrpc\":\"2.0\",\"id\":7,\"method\":\"workspace/semanticTokens/refresh\"}")
    ∷ FromEditor 2 (codes "{\"jsonrpc\":\"2.0\",\"id\":1,\"method\":\"textDocument/semanticTokens/full\"}")
    ∷ FromEditor 0 (codes "{\"jsonrpc\":\"2.0\",\"id\":1,\"method\":\"shutdown\"}")
    ∷ FromEditor 0 (codes "{\"jsonrpc\":\"2.0\",\"method\":\"x/y\"}")
    ∷ FromServer 0 (codes "{\"jsonrpc\":\"2.0\",\"id\":8,\"method\":\"workspace/semanticTokens/refresh\"}")
    ∷ []

abbrev pub left_between_outs : List (List Out)
left_between_outs = []
    ∷ (ToEditor 2 (codes "{\"jsonrpc\":\"2.0\",\"id\":0,\"result\":{\"capabilities\":{}}}") ∷ [])
    ∷ (
    ToServer 0 (codes "{\"jsonrpc\":\"2.0\",\"id\":7,\"result\":null}")
    ∷ ToEditor 1 (codes "{\"jsonrpc\":\"2.0\",\"id\":1,\"method\":\"workspace/semanticTokens/refresh\"}")
    ∷ []
    )
    ∷ (ToServer 0 (codes "{\"jsonrpc\":\"2.0\",\"id\":2,\"method\":\"textDocument/semanticTokens/full\"}") ∷ [])
    ∷ (ToEditor 0 (codes "{\"jsonrpc\":\"2.0\",\"id\":1,\"result\":null}") ∷ [])
    ∷ []
    ∷ (
    ToServer 0 (codes "{\"jsonrpc\":\"2.0\",\"id\":8,\"result\":null}")
    ∷ ToEditor 1 (codes "{\"jsonrpc\":\"2.0\",\"id\":2,\"method\":\"workspace/semanticTokens/refresh\"}")
    ∷ ToEditor 2 (codes "{\"jsonrpc\":\"2.0\",\"id\":1,\"method\":\"workspace/semanticTokens/refresh\"}")
    ∷ []
    )
    ∷ []
