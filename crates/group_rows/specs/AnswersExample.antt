-- Worked answers with versions of documents.
use Rattle.std.specs.Prelude.{ℕ, List, [], ◌∷◌, ◌++◌, codes}
use Rattle.mux_history.specs.declared.cause.Cause.TheVariants.{FromEditor, FromServer}
use Rattle.mux_history.specs.declared.out.Out.{Out}
use Rattle.event_model.specs.Event.{Event}
use Rattle.group_words.specs.Example.{with_groups}
use Rattle.group_rows.specs.Example.{events_behind, two_editors}
use Rattle.group_rows.specs.Rows.{outs_of}

-- what the first start's answer gives behind these causes
abbrev pub answered : List Event → List ℕ → List Out
answered before body = outs_of (with_groups 8) before (FromServer 0 body)

-- an editor opens a document as version 5, asks, and changes it to version 6; the start's versions of it are 1 and 2
abbrev pub changed_behind : List Event
changed_behind = events_behind (with_groups 8) [] (two_editors
    ++ FromEditor 0 (codes "{\"jsonrpc\":\"2.0\",\"method\":\"textDocument/didOpen\",\"params\":{\"textDocument\":{\"uri\":\"file:///u\",\"languageId\":\"x\",\"version\":5,\"text\":\"a\"}}}")
    ∷ FromEditor 0 (codes "{\"jsonrpc\":\"2.0\",\"id\":1,\"method\":\"textDocument/rename\",\"params\":{}}")
    ∷ FromEditor 0 (codes "{\"jsonrpc\":\"2.0\",\"method\":\"textDocument/didChange\",\"params\":{\"textDocument\":{\"uri\":\"file:///u\",\"version\":6},\"contentChanges\":[{\"text\":\"b\"}]}}")
    ∷ [])

-- two editors have a document in two texts, as versions 5 and 9; the first one asks, which makes the start's version 3, and then the second one, which makes it 4 (numbers 2 and 3)
abbrev pub switched_behind : List Event
switched_behind = events_behind (with_groups 8) [] (two_editors
    ++ FromEditor 0 (codes "{\"jsonrpc\":\"2.0\",\"method\":\"textDocument/didOpen\",\"params\":{\"textDocument\":{\"uri\":\"file:///u\",\"languageId\":\"x\",\"version\":5,\"text\":\"a\"}}}")
    ∷ FromEditor 1 (codes "{\"jsonrpc\":\"2.0\",\"method\":\"textDocument/didOpen\",\"params\":{\"textDocument\":{\"uri\":\"file:///u\",\"languageId\":\"x\",\"version\":9,\"text\":\"b\"}}}")
    ∷ FromEditor 0 (codes "{\"jsonrpc\":\"2.0\",\"id\":1,\"method\":\"textDocument/rename\",\"params\":{}}")
    ∷ FromEditor 1 (codes "{\"jsonrpc\":\"2.0\",\"id\":1,\"method\":\"textDocument/rename\",\"params\":{}}")
    ∷ [])

-- then the first one closes it
abbrev pub closed_behind : List Event
closed_behind = events_behind (with_groups 8) switched_behind (FromEditor 0 (codes "{\"jsonrpc\":\"2.0\",\"method\":\"textDocument/didClose\",\"params\":{\"textDocument\":{\"uri\":\"file:///u\"}}}") ∷ [])
