-- Worked histories of editors that don't take what they are sent.
use Rattle.std.specs.Prelude.{ℕ, List, [], ◌∷◌, ◌++◌, codes, replicate}
use Rattle.mux_history.specs.declared.cause.Cause.{Cause}
use Rattle.mux_history.specs.declared.cause.Cause.TheVariants.{FromEditor, FromServer, Drained}
use Rattle.mux_history.specs.declared.out.Out.{Out}
use Rattle.mux_history.specs.declared.out.Out.TheVariants.{ToEditor, ToServer, CloseEditor}
use Rattle.event_model.specs.Event.{Event, behind, with_cause}
use Rattle.event_model.specs.Settings.{Settings}
use Rattle.group_words.specs.Example.{with_groups}
use Rattle.group_rows.specs.Example.{two_editors, two_editors_outs}
use Rattle.group_facts.specs.SlowRows.{entry_outs}

-- the outs of the entries of these causes, behind these events
abbrev pub entries_from : Settings → List Event → List Cause → List Out
entries_from settings before [] = []
entries_from settings before (cause ∷ causes) = let xs = entry_outs settings before cause in xs ++ entries_from settings (behind (with_cause before cause) xs) causes

abbrev pub few_bytes : Settings
few_bytes = record { limits = record (with_groups 8).limits { backlog = 256 }; servers = (with_groups 8).servers; default = 0 }

-- a notification of 64 bytes and these
abbrev pub long : ℕ → List ℕ
long n = codes "{\"jsonrpc\":\"2.0\",\"method\":\"window/logMessage\",\"params\":{\"m\":\"" ++ replicate n 120 ++ codes "\"}}"

-- of two editors the second one takes what it is sent, so that only the first one is slow by a long message; by a later one so is the second
abbrev pub slowing : List Cause
slowing = two_editors
    ++ FromEditor 0 (codes "{\"jsonrpc\":\"2.0\",\"method\":\"textDocument/didOpen\",\"params\":{\"textDocument\":{\"uri\":\"file:///u\",\"languageId\":\"x\",\"version\":1,\"text\":\"a\"}}}")
    ∷ FromEditor 0 (codes "{\"jsonrpc\":\"2.0\",\"id\":1,\"method\":\"textDocument/hover\",\"params\":{}}")
    ∷ Drained 1 53
    ∷ FromServer 0 (long 160)
    ∷ FromServer 0 (long 0)
    ∷ FromServer 0 (long 0)
    ∷ []

abbrev pub slowing_outs : List Out
slowing_outs = two_editors_outs
    ++ ToServer 0 (codes "{\"jsonrpc\":\"2.0\",\"method\":\"textDocument/didOpen\",\"params\":{\"textDocument\":{\"uri\":\"file:///u\",\"languageId\":\"x\",\"version\":1,\"text\":\"a\"}}}")
    ∷ ToServer 0 (codes "{\"jsonrpc\":\"2.0\",\"id\":2,\"method\":\"textDocument/hover\",\"params\":{}}")
    ∷ ToEditor 0 (long 160)
    ∷ ToEditor 1 (long 160)
    ∷ CloseEditor 0
    ∷ ToServer 0 (codes "{\"jsonrpc\":\"2.0\",\"method\":\"$/cancelRequest\",\"params\":{\"id\":2}}")
    ∷ ToServer 0 (codes "{\"jsonrpc\":\"2.0\",\"method\":\"textDocument/didClose\",\"params\":{\"textDocument\":{\"uri\":\"file:///u\"}}}")
    ∷ ToEditor 1 (long 0)
    ∷ CloseEditor 1
    ∷ []

-- both are slow at once: the first one's text is the start's, which then gets the second one's, and closes the document as that leaves too
abbrev pub both_slow : List Cause
both_slow = two_editors
    ++ FromEditor 1 (codes "{\"jsonrpc\":\"2.0\",\"method\":\"textDocument/didOpen\",\"params\":{\"textDocument\":{\"uri\":\"file:///u\",\"languageId\":\"x\",\"version\":1,\"text\":\"b\"}}}")
    ∷ FromEditor 0 (codes "{\"jsonrpc\":\"2.0\",\"method\":\"textDocument/didOpen\",\"params\":{\"textDocument\":{\"uri\":\"file:///u\",\"languageId\":\"x\",\"version\":1,\"text\":\"a\"}}}")
    ∷ FromServer 0 (long 160)
    ∷ []

abbrev pub both_slow_outs : List Out
both_slow_outs = two_editors_outs
    ++ ToServer 0 (codes "{\"jsonrpc\":\"2.0\",\"method\":\"textDocument/didOpen\",\"params\":{\"textDocument\":{\"uri\":\"file:///u\",\"languageId\":\"x\",\"version\":1,\"text\":\"b\"}}}")
    ∷ ToServer 0 (codes "{\"jsonrpc\":\"2.0\",\"method\":\"textDocument/didChange\",\"params\":{\"textDocument\":{\"uri\":\"file:///u\",\"version\":2},\"contentChanges\":[{\"text\":\"a\"}]}}")
    ∷ ToEditor 0 (long 160)
    ∷ ToEditor 1 (long 160)
    ∷ CloseEditor 0
    ∷ ToServer 0 (codes "{\"jsonrpc\":\"2.0\",\"method\":\"textDocument/didChange\",\"params\":{\"textDocument\":{\"uri\":\"file:///u\",\"version\":3},\"contentChanges\":[{\"text\":\"b\"}]}}")
    ∷ CloseEditor 1
    ∷ ToServer 0 (codes "{\"jsonrpc\":\"2.0\",\"method\":\"textDocument/didClose\",\"params\":{\"textDocument\":{\"uri\":\"file:///u\"}}}")
    ∷ []
