-- Worked histories of the lists of diagnostics that a start publishes, and of what editors are shown of them.
use Rattle.std.specs.Prelude.{true, false, List, [], ◌∷◌, ◌++◌, ℕ, codes}
use Rattle.mux_history.specs.declared.cause.Cause.{Cause}
use Rattle.mux_history.specs.declared.cause.Cause.TheVariants.{Joined, FromEditor, FromServer}
use Rattle.mux_history.specs.declared.out.Out.{Out}
use Rattle.mux_history.specs.declared.out.Out.TheVariants.{ToEditor, ToServer}
use Rattle.diagnostics_route.specs.declared.last_list.LastList.{LastList}
use Rattle.diagnostics_route.specs.declared.last_list.Version.TheVariants.{Absent, Integer}

-- notifications by their params
abbrev pub list_text : List ℕ → List ℕ
list_text params = codes "{\"jsonrpc\":\"2.0\",\"method\":\"textDocument/publishDiagnostics\",\"params\":" ++ params ++ codes "}"

abbrev pub open_text : List ℕ → List ℕ
open_text document = codes "{\"jsonrpc\":\"2.0\",\"method\":\"textDocument/didOpen\",\"params\":{\"textDocument\":" ++ document ++ codes "}}"

abbrev pub change_text : List ℕ → List ℕ
change_text params = codes "{\"jsonrpc\":\"2.0\",\"method\":\"textDocument/didChange\",\"params\":" ++ params ++ codes "}"

-- an editor that has the document is shown its list with its own version, and one that hasn't it with none; a change that comes behind the list makes it too old
abbrev pub shown_to_two : List Cause
shown_to_two =
    FromEditor 0 (open_text (codes "{\"uri\":\"file:///u\",\"languageId\":\"x\",\"version\":5,\"text\":\"a\"}"))
    ∷ FromServer 0 (list_text (codes "{\"uri\":\"file:///u\",\"version\":1,\"diagnostics\":[{}]}"))
    ∷ FromEditor 1 (open_text (codes "{\"uri\":\"file:///u\",\"languageId\":\"x\",\"version\":1,\"text\":\"b\"}"))
    ∷ []

abbrev pub shown_to_two_outs : List (List Out)
shown_to_two_outs =
    (ToServer 0 (open_text (codes "{\"uri\":\"file:///u\",\"languageId\":\"x\",\"version\":1,\"text\":\"a\"}")) ∷ [])
    ∷ (ToEditor 0 (list_text (codes "{\"uri\":\"file:///u\",\"version\":5,\"diagnostics\":[{}]}")) ∷ ToEditor 1 (list_text (codes "{\"uri\":\"file:///u\",\"diagnostics\":[{}]}")) ∷ [])
    ∷ (ToServer 0 (change_text (codes "{\"textDocument\":{\"uri\":\"file:///u\",\"version\":2},\"contentChanges\":[{\"text\":\"b\"}]}")) ∷ [])
    ∷ []

-- a version that isn't the held one fits no editor that has the document, nor does one that is no integer; null fits, and so does none
abbrev pub of_versions : List Cause
of_versions =
    FromEditor 0 (open_text (codes "{\"uri\":\"file:///u\",\"languageId\":\"x\",\"version\":5,\"text\":\"a\"}"))
    ∷ FromServer 0 (list_text (codes "{\"uri\":\"file:///u\",\"version\":2,\"diagnostics\":[{}]}"))
    ∷ FromServer 0 (list_text (codes "{\"uri\":\"file:///u\",\"version\":\"1\",\"diagnostics\":[{}]}"))
    ∷ FromServer 0 (list_text (codes "{\"uri\":\"file:///u\",\"version\":null,\"diagnostics\":[{}]}"))
    ∷ FromServer 0 (list_text (codes "{\"uri\":\"file:///u\", \"diagnostics\":[{}]}"))
    ∷ []

abbrev pub of_versions_outs : List (List Out)
of_versions_outs =
    (ToServer 0 (open_text (codes "{\"uri\":\"file:///u\",\"languageId\":\"x\",\"version\":1,\"text\":\"a\"}")) ∷ [])
    ∷ (ToEditor 1 (list_text (codes "{\"uri\":\"file:///u\",\"diagnostics\":[{}]}")) ∷ [])
    ∷ (ToEditor 1 (list_text (codes "{\"uri\":\"file:///u\",\"diagnostics\":[{}]}")) ∷ [])
    ∷ (ToEditor 0 (list_text (codes "{\"uri\":\"file:///u\",\"version\":null,\"diagnostics\":[{}]}")) ∷ ToEditor 1 (list_text (codes "{\"uri\":\"file:///u\",\"diagnostics\":[{}]}")) ∷ [])
    ∷ (ToEditor 0 (list_text (codes "{\"uri\":\"file:///u\", \"diagnostics\":[{}]}")) ∷ ToEditor 1 (list_text (codes "{\"uri\":\"file:///u\", \"diagnostics\":[{}]}")) ∷ [])
    ∷ []

-- the list of another text isn't shown, until the start is switched to the editor's own, and publishes again
abbrev pub of_two_texts : List Cause
of_two_texts =
    FromEditor 0 (open_text (codes "{\"uri\":\"file:///u\",\"languageId\":\"x\",\"version\":5,\"text\":\"a\"}"))
    ∷ FromEditor 1 (open_text (codes "{\"uri\":\"file:///u\",\"languageId\":\"x\",\"version\":1,\"text\":\"b\"}"))
    ∷ FromServer 0 (list_text (codes "{\"uri\":\"file:///u\",\"version\":2,\"diagnostics\":[{}]}"))
    ∷ FromEditor 0 (codes "{\"jsonrpc\":\"2.0\",\"id\":1,\"method\":\"textDocument/hover\",\"params\":{}}")
    ∷ FromServer 0 (list_text (codes "{\"uri\":\"file:///u\",\"version\":3,\"diagnostics\":[{}]}"))
    ∷ []

abbrev pub of_two_texts_outs : List (List Out)
of_two_texts_outs =
    (ToServer 0 (open_text (codes "{\"uri\":\"file:///u\",\"languageId\":\"x\",\"version\":1,\"text\":\"a\"}")) ∷ [])
    ∷ (ToServer 0 (change_text (codes "{\"textDocument\":{\"uri\":\"file:///u\",\"version\":2},\"contentChanges\":[{\"text\":\"b\"}]}")) ∷ [])
    ∷ (ToEditor 1 (list_text (codes "{\"uri\":\"file:///u\",\"version\":1,\"diagnostics\":[{}]}")) ∷ [])
    ∷ (ToServer 0 (change_text (codes "{\"textDocument\":{\"uri\":\"file:///u\",\"version\":3},\"contentChanges\":[{\"text\":\"a\"}]}"))
    ∷ ToServer 0 (codes "{\"jsonrpc\":\"2.0\",\"id\":2,\"method\":\"textDocument/hover\",\"params\":{}}")
    ∷ [])
    ∷ (ToEditor 0 (list_text (codes "{\"uri\":\"file:///u\",\"version\":5,\"diagnostics\":[{}]}")) ∷ [])
    ∷ []

-- a list from before a change isn't shown to an editor that opens the document with the text behind it; a newer one is, with that editor's own version, and each time that it opens it; where it brings another text, the list is too old again
abbrev pub shown_to_openers : List Cause
shown_to_openers =
    FromEditor 0 (open_text (codes "{\"uri\":\"file:///u\",\"languageId\":\"x\",\"version\":5,\"text\":\"a\"}"))
    ∷ FromServer 0 (list_text (codes "{\"uri\":\"file:///u\",\"diagnostics\":[{}]}"))
    ∷ FromEditor 0 (change_text (codes "{\"textDocument\":{\"uri\":\"file:///u\",\"version\":6},\"contentChanges\":[{\"text\":\"b\"}]}"))
    ∷ FromEditor 1 (open_text (codes "{\"uri\":\"file:///u\",\"languageId\":\"x\",\"version\":9,\"text\":\"b\"}"))
    ∷ FromServer 0 (list_text (codes "{\"uri\":\"file:///u\",\"version\":2,\"diagnostics\":[{}]}"))
    ∷ FromEditor 1 (open_text (codes "{\"uri\":\"file:///u\",\"languageId\":\"x\",\"version\":10,\"text\":\"b\"}"))
    ∷ FromEditor 1 (open_text (codes "{\"uri\":\"file:///u\",\"languageId\":\"x\",\"version\":11,\"text\":\"c\"}"))
    ∷ []

abbrev pub shown_to_openers_outs : List (List Out)
shown_to_openers_outs =
    (ToServer 0 (open_text (codes "{\"uri\":\"file:///u\",\"languageId\":\"x\",\"version\":1,\"text\":\"a\"}")) ∷ [])
    ∷ (ToEditor 0 (list_text (codes "{\"uri\":\"file:///u\",\"diagnostics\":[{}]}")) ∷ ToEditor 1 (list_text (codes "{\"uri\":\"file:///u\",\"diagnostics\":[{}]}")) ∷ [])
    ∷ (ToServer 0 (change_text (codes "{\"textDocument\":{\"uri\":\"file:///u\",\"version\":2},\"contentChanges\":[{\"text\":\"b\"}]}")) ∷ [])
    ∷ []
    ∷ (ToEditor 0 (list_text (codes "{\"uri\":\"file:///u\",\"version\":6,\"diagnostics\":[{}]}")) ∷ ToEditor 1 (list_text (codes "{\"uri\":\"file:///u\",\"version\":9,\"diagnostics\":[{}]}")) ∷ [])
    ∷ (ToEditor 1 (list_text (codes "{\"uri\":\"file:///u\",\"version\":10,\"diagnostics\":[{}]}")) ∷ [])
    ∷ (ToServer 0 (change_text (codes "{\"textDocument\":{\"uri\":\"file:///u\",\"version\":3},\"contentChanges\":[{\"text\":\"c\"}]}")) ∷ [])
    ∷ []

-- an empty list takes the place of a full one: an editor that opens the document is shown none of it, nor is one that begins to run, which is shown those of other documents
abbrev pub emptied : List Cause
emptied =
    FromServer 0 (list_text (codes "{\"uri\":\"file:///u\",\"diagnostics\":[{}]}"))
    ∷ FromServer 0 (list_text (codes "{\"uri\":\"file:///v\",\"version\":3,\"diagnostics\":[{}]}"))
    ∷ FromServer 0 (list_text (codes "{\"uri\":\"file:///u\",\"diagnostics\":[]}"))
    ∷ FromEditor 1 (open_text (codes "{\"uri\":\"file:///u\",\"languageId\":\"x\",\"version\":1,\"text\":\"a\"}"))
    ∷ Joined 2
    ∷ FromEditor 2 (codes "{\"jsonrpc\":\"2.0\",\"id\":0,\"method\":\"initialize\",\"params\":{\"rootUri\":\"file:///w\",\"capabilities\":{}}}")
    ∷ FromEditor 2 (codes "{\"jsonrpc\":\"2.0\",\"method\":\"initialized\",\"params\":{}}")
    ∷ []

abbrev pub emptied_outs : List (List Out)
emptied_outs =
    (ToEditor 0 (list_text (codes "{\"uri\":\"file:///u\",\"diagnostics\":[{}]}")) ∷ ToEditor 1 (list_text (codes "{\"uri\":\"file:///u\",\"diagnostics\":[{}]}")) ∷ [])
    ∷ (ToEditor 0 (list_text (codes "{\"uri\":\"file:///v\",\"diagnostics\":[{}]}")) ∷ ToEditor 1 (list_text (codes "{\"uri\":\"file:///v\",\"diagnostics\":[{}]}")) ∷ [])
    ∷ (ToEditor 0 (list_text (codes "{\"uri\":\"file:///u\",\"diagnostics\":[]}")) ∷ ToEditor 1 (list_text (codes "{\"uri\":\"file:///u\",\"diagnostics\":[]}")) ∷ [])
    ∷ (ToServer 0 (open_text (codes "{\"uri\":\"file:///u\",\"languageId\":\"x\",\"version\":1,\"text\":\"a\"}")) ∷ [])
    ∷ []
    ∷ (ToEditor 2 (codes "{\"jsonrpc\":\"2.0\",\"id\":0,\"result\":{\"capabilities\":{}}}") ∷ [])
    ∷ (ToEditor 2 (list_text (codes "{\"uri\":\"file:///v\",\"diagnostics\":[{}]}")) ∷ [])
    ∷ []

-- no editor runs yet: one that begins to run, by opening a document, is told of what is registered, asked to take what lives, shown each last list, in the order of the first ones, as if the document weren't open yet, and then asked what waited; the start is told of the document, by which its list is too old
abbrev pub listed_early : List Cause
listed_early =
    FromServer 0 (codes "{\"jsonrpc\":\"2.0\",\"id\":2,\"method\":\"workspace/configuration\",\"params\":{}}")
    ∷ FromServer 0 (list_text (codes "{\"uri\":\"file:///u\",\"diagnostics\":[]}"))
    ∷ FromServer 0 (list_text (codes "{\"uri\":\"file:///v\",\"diagnostics\":[{}]}"))
    ∷ FromServer 0 (list_text (codes "{\"uri\":\"file:///u\",\"version\":1,\"diagnostics\":[{}]}"))
    ∷ FromServer 0 (codes "{\"jsonrpc\":\"2.0\",\"id\":3,\"method\":\"window/workDoneProgress/create\",\"params\":{\"token\":\"p\"}}")
    ∷ FromServer 0 (codes "{\"jsonrpc\":\"2.0\",\"id\":4,\"method\":\"client/registerCapability\",\"params\":{\"registrations\":[{\"id\":\"a\",\"method\":\"workspace/didChangeWatchedFiles\"}]}}")
    ∷ FromEditor 0 (open_text (codes "{\"uri\":\"file:///u\",\"languageId\":\"x\",\"version\":1,\"text\":\"a\"}"))
    ∷ []

abbrev pub listed_early_outs : List (List Out)
listed_early_outs =
    []
    ∷ []
    ∷ []
    ∷ []
    ∷ (ToServer 0 (codes "{\"jsonrpc\":\"2.0\",\"id\":3,\"result\":null}") ∷ [])
    ∷ (ToServer 0 (codes "{\"jsonrpc\":\"2.0\",\"id\":4,\"result\":null}") ∷ [])
    ∷ (ToEditor 0 (codes "{\"jsonrpc\":\"2.0\",\"id\":1,\"method\":\"client/registerCapability\",\"params\":{\"registrations\":[{\"id\":\"a\",\"method\":\"workspace/didChangeWatchedFiles\"}]}}")
    ∷ ToEditor 0 (codes "{\"jsonrpc\":\"2.0\",\"id\":2,\"method\":\"window/workDoneProgress/create\",\"params\":{\"token\":\"lspmux:0:1\"}}")
    ∷ ToEditor 0 (list_text (codes "{\"uri\":\"file:///u\",\"diagnostics\":[{}]}"))
    ∷ ToEditor 0 (list_text (codes "{\"uri\":\"file:///v\",\"diagnostics\":[{}]}"))
    ∷ ToEditor 0 (codes "{\"jsonrpc\":\"2.0\",\"id\":3,\"method\":\"workspace/configuration\",\"params\":{}}")
    ∷ ToServer 0 (open_text (codes "{\"uri\":\"file:///u\",\"languageId\":\"x\",\"version\":1,\"text\":\"a\"}"))
    ∷ [])
    ∷ []

-- an editor that begins to run by opening a document with the text that the start has is shown its list twice, first as one that hasn't it open
abbrev pub shown_twice : List Cause
shown_twice =
    FromEditor 0 (open_text (codes "{\"uri\":\"file:///u\",\"languageId\":\"x\",\"version\":5,\"text\":\"a\"}"))
    ∷ FromServer 0 (list_text (codes "{\"uri\":\"file:///u\",\"version\":1,\"diagnostics\":[{}]}"))
    ∷ Joined 2
    ∷ FromEditor 2 (codes "{\"jsonrpc\":\"2.0\",\"id\":0,\"method\":\"initialize\",\"params\":{\"rootUri\":\"file:///w\",\"capabilities\":{}}}")
    ∷ FromEditor 2 (open_text (codes "{\"uri\":\"file:///u\",\"languageId\":\"x\",\"version\":7,\"text\":\"a\"}"))
    ∷ []

abbrev pub shown_twice_outs : List (List Out)
shown_twice_outs =
    (ToServer 0 (open_text (codes "{\"uri\":\"file:///u\",\"languageId\":\"x\",\"version\":1,\"text\":\"a\"}")) ∷ [])
    ∷ (ToEditor 0 (list_text (codes "{\"uri\":\"file:///u\",\"version\":5,\"diagnostics\":[{}]}")) ∷ ToEditor 1 (list_text (codes "{\"uri\":\"file:///u\",\"diagnostics\":[{}]}")) ∷ [])
    ∷ []
    ∷ (ToEditor 2 (codes "{\"jsonrpc\":\"2.0\",\"id\":0,\"result\":{\"capabilities\":{}}}") ∷ [])
    ∷ (ToEditor 2 (list_text (codes "{\"uri\":\"file:///u\",\"diagnostics\":[{}]}")) ∷ ToEditor 2 (list_text (codes "{\"uri\":\"file:///u\",\"version\":7,\"diagnostics\":[{}]}")) ∷ [])
    ∷ []

-- no list without a string as its uri, and an array
abbrev pub no_lists : List Cause
no_lists =
    FromServer 0 (list_text (codes "{\"uri\":1,\"diagnostics\":[{}]}"))
    ∷ FromServer 0 (list_text (codes "{\"uri\":\"file:///u\"}"))
    ∷ FromServer 0 (list_text (codes "{\"uri\":\"file:///u\",\"diagnostics\":{}}"))
    ∷ FromServer 0 (list_text (codes "[]"))
    ∷ []

abbrev pub no_lists_outs : List (List Out)
no_lists_outs = [] ∷ [] ∷ [] ∷ [] ∷ []

-- what is kept: each document's last list, in the order of the first ones, with how many notifications on documents the start had been sent
abbrev pub three_published : List Cause
three_published =
    FromServer 0 (list_text (codes "{\"uri\":\"file:///u\",\"diagnostics\":[{}]}"))
    ∷ FromServer 0 (list_text (codes "{\"uri\":\"file:///v\",\"diagnostics\":[{}]}"))
    ∷ FromEditor 0 (open_text (codes "{\"uri\":\"file:///u\",\"languageId\":\"x\",\"version\":5,\"text\":\"a\"}"))
    ∷ FromServer 0 (list_text (codes "{\"uri\":\"file:///u\",\"version\":1,\"diagnostics\":[]}"))
    ∷ []

abbrev pub two_lists : List LastList
two_lists =
    record { uri = codes "file:///u"; body = list_text (codes "{\"uri\":\"file:///u\",\"version\":1,\"diagnostics\":[]}"); place = 1; version = Integer (codes "1"); empty = true }
    ∷ record { uri = codes "file:///v"; body = list_text (codes "{\"uri\":\"file:///v\",\"diagnostics\":[{}]}"); place = 0; version = Absent; empty = false }
    ∷ []
