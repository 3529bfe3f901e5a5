-- Versions in results, worked out by the checker.
use Rattle.std.proofs.Common.{◌≡◌, ℕ, List, codes, bytes_eq, if◌then◌else◌, refl}
use Rattle.std.specs.Prelude.{Option, Some, None}
use Rattle.std.specs.Fmt.{digits}
use Rattle.std.specs.Option.{option_and_then, option_map}
use Rattle.json_text.specs.Computes.{computes}
use Rattle.json_text.specs.Named.{named}
use Rattle.json_text.specs.Replace.{replace}
use Rattle.json_text.specs.Tree.{tree_of}
use Rattle.rpc_message.specs.Changed.{id_edits}
use Rattle.rpc_message.specs.Message.{is_integer, message_of, no_name_twice}
use Rattle.response_route.specs.Asked.{asked_text}
use Rattle.response_route.specs.Edits.{Renaming, result_edits}
use Rattle.response_route.specs.Versions.{version_now}
use Rattle.response_route.specs.declared.versions.Stamp.{Stamp}

-- version 1 of one document is the editor's 5, others of it stand for no text, and another document isn't open
abbrev example : Renaming
example uri digits = if bytes_eq uri (codes "file:///u") then if bytes_eq digits (codes "1") then Some (codes "5") else None else Some (codes "null")

-- a result with these versions
abbrev behind : List ℕ → Option (List ℕ)
behind text = option_and_then (λ t. option_map (λ es. replace text es) (result_edits example t)) (tree_of text)

in_a_workspace_edit : behind (codes "{\"documentChanges\":[{\"textDocument\":{\"uri\":\"file:///u\",\"version\":1},\"edits\":[]}]}") ≡ Some (codes "{\"documentChanges\":[{\"textDocument\":{\"uri\":\"file:///u\",\"version\":5},\"edits\":[]}]}")
unfolding computes named is_integer
in_a_workspace_edit = refl

in_a_code_action : behind (codes "{\"edit\":{\"documentChanges\":[{\"textDocument\":{\"uri\":\"file:///u\",\"version\":1}}]}}") ≡ Some (codes "{\"edit\":{\"documentChanges\":[{\"textDocument\":{\"uri\":\"file:///u\",\"version\":5}}]}}")
unfolding computes named is_integer
in_a_code_action = refl

in_each_code_action : behind (codes "[{\"edit\":{\"documentChanges\":[{\"textDocument\":{\"uri\":\"file:///u\",\"version\":1}}]}},{\"command\":\"c\"},{\"edit\":{\"documentChanges\":[{\"textDocument\":{\"uri\":\"file:///v\",\"version\":7}}]}}]")
    ≡ Some (codes "[{\"edit\":{\"documentChanges\":[{\"textDocument\":{\"uri\":\"file:///u\",\"version\":5}}]}},{\"command\":\"c\"},{\"edit\":{\"documentChanges\":[{\"textDocument\":{\"uri\":\"file:///v\",\"version\":null}}]}}]")
unfolding computes named is_integer
in_each_code_action = refl

-- both members are read, in whatever order they stand
in_both : behind (codes "{\"edit\":{\"documentChanges\":[{\"textDocument\":{\"uri\":\"v\",\"version\":2}}]},\"documentChanges\":[{\"textDocument\":{\"uri\":\"file:///u\",\"version\":1}}]}")
    ≡ Some (codes "{\"edit\":{\"documentChanges\":[{\"textDocument\":{\"uri\":\"v\",\"version\":null}}]},\"documentChanges\":[{\"textDocument\":{\"uri\":\"file:///u\",\"version\":5}}]}")
unfolding computes named is_integer
in_both = refl

-- of a doubled name the last one is read, and each `version` is replaced
doubled : behind (codes "{\"documentChanges\":7,\"documentChanges\":[{\"textDocument\":{\"version\":9,\"uri\":\"file:///u\",\"version\":1}}]}")
    ≡ Some (codes "{\"documentChanges\":7,\"documentChanges\":[{\"textDocument\":{\"version\":5,\"uri\":\"file:///u\",\"version\":5}}]}")
unfolding computes named is_integer
doubled = refl

-- a file that is created, versions that are no integers, and a uri that is no string
not_read : behind (codes "{\"documentChanges\":[{\"kind\":\"create\",\"uri\":\"file:///u\"},{\"textDocument\":{\"uri\":\"file:///u\",\"version\":1.0}},{\"textDocument\":{\"uri\":\"file:///u\",\"version\":null}},{\"textDocument\":{\"uri\":3,\"version\":9}}]}")
    ≡ Some (codes "{\"documentChanges\":[{\"kind\":\"create\",\"uri\":\"file:///u\"},{\"textDocument\":{\"uri\":\"file:///u\",\"version\":1.0}},{\"textDocument\":{\"uri\":\"file:///u\",\"version\":null}},{\"textDocument\":{\"uri\":3,\"version\":9}}]}")
unfolding computes named is_integer
not_read = refl

refused : behind (codes "{\"documentChanges\":[{\"textDocument\":{\"uri\":\"file:///u\",\"version\":1}},{\"textDocument\":{\"uri\":\"file:///u\",\"version\":3}}]}") ≡ None
unfolding computes named is_integer
refused = refl

-- V3: a whole request under another id, with these versions
abbrev given : List ℕ → Option (List ℕ)
given body = asked_text example body (codes "3")

in_a_request : given (codes "{\"jsonrpc\":\"2.0\",\"id\":\"s\",\"method\":\"workspace/applyEdit\",\"params\":{\"label\":\"l\",\"edit\":{\"documentChanges\":[{\"textDocument\":{\"uri\":\"file:///u\",\"version\":1}}]}}}")
    ≡ Some (codes "{\"jsonrpc\":\"2.0\",\"id\":3,\"method\":\"workspace/applyEdit\",\"params\":{\"label\":\"l\",\"edit\":{\"documentChanges\":[{\"textDocument\":{\"uri\":\"file:///u\",\"version\":5}}]}}}")
unfolding computes message_of named no_name_twice is_integer id_edits
in_a_request = refl

refused_request : given (codes "{\"jsonrpc\":\"2.0\",\"id\":\"s\",\"method\":\"workspace/applyEdit\",\"params\":{\"edit\":{\"documentChanges\":[{\"textDocument\":{\"uri\":\"file:///u\",\"version\":3}}]}}}") ≡ None
unfolding computes message_of named no_name_twice is_integer id_edits
refused_request = refl

-- A document was opened as version 5, under the start's version 1, a request went on, and a change made it 6, under the start's version 2.
abbrev told : Option Stamp → List ℕ → Option (List ℕ)
told now digits = version_now digits now (Some (record { held = Some 1; version = codes "5" }))

abbrev changed : Option Stamp
changed = Some (record { held = Some 2; version = codes "6" })

as_it_was_sent_on : told changed (codes "1") ≡ Some (codes "5")
unfolding digits
as_it_was_sent_on = refl

as_it_is_now : told changed (codes "2") ≡ Some (codes "6")
unfolding digits
as_it_is_now = refl

not_known : told changed (codes "3") ≡ None
unfolding digits
not_known = refl

-- also where its request noted it
not_open : told None (codes "1") ≡ Some (codes "null")
not_open = refl
