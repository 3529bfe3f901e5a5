-- The notifications on a document that are written (LSP 3.17, Text Document Synchronization). U, L and T are a URI, a language and a text in UTF-8.
use Rattle.std.specs.Prelude.{ℕ, List, ◌++◌, codes, decimal}
use Rattle.json.specs.Print.{quoted}

-- didOpen, with version 1
abbrev pub open_text : List ℕ → List ℕ → List ℕ → List ℕ
open_text u l t = codes "{\"jsonrpc\":\"2.0\",\"method\":\"textDocument/didOpen\",\"params\":{\"textDocument\":{\"uri\":" ++ quoted u ++ codes ",\"languageId\":" ++ quoted l ++ codes ",\"version\":1,\"text\":" ++ quoted t ++ codes "}}}"

-- didChange, with the whole text
abbrev pub full_text : List ℕ → ℕ → List ℕ → List ℕ
full_text u v t = codes "{\"jsonrpc\":\"2.0\",\"method\":\"textDocument/didChange\",\"params\":{\"textDocument\":{\"uri\":" ++ quoted u ++ codes ",\"version\":" ++ decimal v ++ codes "},\"contentChanges\":[{\"text\":" ++ quoted t ++ codes "}]}}"

-- didClose
abbrev pub close_text : List ℕ → List ℕ
close_text u = codes "{\"jsonrpc\":\"2.0\",\"method\":\"textDocument/didClose\",\"params\":{\"textDocument\":{\"uri\":" ++ quoted u ++ codes "}}}"
