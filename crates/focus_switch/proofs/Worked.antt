-- Documents that two editors share, worked out by the checker.
use Rattle.std.proofs.Common.{◌≡◌, ℕ, List, [], ◌∷◌, ◌++◌, codes, decimal, refl}
use Rattle.std.specs.Prelude.{None}
use Rattle.std.specs.Str.{chars}
use Rattle.json_text.specs.Computes.{computes}
use Rattle.json_text.specs.Named.{named}
use Rattle.json_text.specs.Tree.{tree_of}
use Rattle.mux_history.specs.declared.out.Out.{Out}
use Rattle.mux_history.specs.declared.out.Out.TheVariants.{ToServer}
use Rattle.document_table.specs.rpc_message.specs.Message.{is_integer}
use Rattle.position_codec.specs.declared.Encoding.TheVariants.{Utf16}
use Rattle.focus_switch.specs.Documents.{Documents}
use Rattle.document_table.specs.document_model.specs.declared.agreement.Agreement.TheVariants.{Agrees, Differs}
use Rattle.focus_switch.specs.Rows.{Step, nothing, or_nothing, open_row, change_row, close_row, ready_row, unready_row, sync_row, agreement}
use Rattle.document_table.specs.document_model.specs.Bodies.{open_text, full_text, close_text}

-- no documents, and start 0 is ready
abbrev begun : ℕ → Documents
begun versions = (ready_row 0 Utf16 (record { start = None; encoding = None; versions = versions; turn = 0; opens = []; sent = 0; helds = [] })).after

-- the outs of steps, one after the other
abbrev outs : List (Documents → Step) → Documents → List Out
outs [] s = []
outs (f ∷ fs) s = (f s).outs ++ outs fs (f s).after

abbrev u : List ℕ
u = codes "file:///u"

abbrev v : List ℕ
v = codes "file:///v"

abbrev x : List ℕ
x = codes "x"

abbrev y : List ℕ
y = codes "y"

-- editor e opens a document, in the language x or in another; changes one by a body; closes one
abbrev opens : ℕ → List ℕ → List ℕ → Documents → Step
opens e uri text s = open_row e uri x (codes "1") text s

abbrev opens_in : List ℕ → ℕ → List ℕ → List ℕ → Documents → Step
opens_in l e uri text s = open_row e uri l (codes "1") text s

abbrev changes : ℕ → List ℕ → Documents → Step
changes e body s = or_nothing (tree_of body) s (λ t. change_row e body t s)

abbrev closes : ℕ → List ℕ → Documents → Step
closes e uri s = close_row e uri s

abbrev syncs : ℕ → Documents → Step
syncs e s = sync_row e s

abbrev sent : List ℕ → Out
sent body = ToServer 0 body

-- two editors open and close a document; the second close of the first is of none
two_editors : outs (opens 0 u (codes "a") ∷ opens 1 u (codes "b") ∷ closes 1 u ∷ closes 0 u ∷ closes 0 u ∷ []) (begun 100)
    ≡ sent (open_text u x (codes "a")) ∷ sent (full_text u 2 (codes "b")) ∷ sent (full_text u 3 (codes "a")) ∷ sent (close_text u) ∷ []
two_editors = refl

-- before a message of an editor the server is told that editor's text, where it has another
synchronised : outs (opens 0 u (codes "a") ∷ opens 1 u (codes "b") ∷ opens 1 v (codes "b") ∷ syncs 0 ∷ syncs 1 ∷ syncs 1 ∷ []) (begun 100)
    ≡ sent (open_text u x (codes "a")) ∷ sent (full_text u 2 (codes "b")) ∷ sent (open_text v x (codes "b")) ∷ sent (full_text u 3 (codes "a")) ∷ sent (full_text u 4 (codes "b")) ∷ []
synchronised = refl

-- the same text is told once, also where it is opened again; the text of one that isn't the holder matters not when it closes
same_text : outs (opens 0 u (codes "a") ∷ opens 1 u (codes "a") ∷ opens 1 u (codes "a") ∷ opens 1 u (codes "b") ∷ closes 0 u ∷ []) (begun 100)
    ≡ sent (open_text u x (codes "a")) ∷ sent (full_text u 2 (codes "b")) ∷ []
same_text = refl

-- a change of the text that the server has goes on as it came, under the server's version; of another, as the whole text
abbrev inserts : List ℕ
inserts = codes "{\"jsonrpc\":\"2.0\",\"params\":{\"textDocument\":{\"version\":6,\"uri\":\"file:///u\",\"version\":7},\"contentChanges\":[{\"range\":{\"start\":{\"line\":0,\"character\":1},\"end\":{\"line\":0,\"character\":1}},\"text\":\"y\"}]},\"method\":\"textDocument/didChange\"}"

abbrev inserts_second : List ℕ
inserts_second = codes "{\"jsonrpc\":\"2.0\",\"params\":{\"textDocument\":{\"version\":" ++ (decimal 2 ++ (codes ",\"uri\":\"file:///u\",\"version\":" ++ (decimal 2 ++ codes "},\"contentChanges\":[{\"range\":{\"start\":{\"line\":0,\"character\":1},\"end\":{\"line\":0,\"character\":1}},\"text\":\"y\"}]},\"method\":\"textDocument/didChange\"}")))

abbrev whole_b : List ℕ
whole_b = codes "{\"jsonrpc\":\"2.0\",\"method\":\"textDocument/didChange\",\"params\":{\"textDocument\":{\"uri\":\"file:///u\",\"version\":2},\"contentChanges\":[{\"text\":\"b\"}]}}"

abbrev whole_b_second : List ℕ
whole_b_second = codes "{\"jsonrpc\":\"2.0\",\"method\":\"textDocument/didChange\",\"params\":{\"textDocument\":{\"uri\":\"file:///u\",\"version\":" ++ decimal 2 ++ codes "},\"contentChanges\":[{\"text\":\"b\"}]}}"

abbrev whole_c : List ℕ
whole_c = codes "{\"jsonrpc\":\"2.0\",\"method\":\"textDocument/didChange\",\"params\":{\"textDocument\":{\"uri\":\"file:///u\",\"version\":-3},\"contentChanges\":[{\"text\":\"c\"}]}}"

abbrev no_list : List ℕ
no_list = codes "{\"jsonrpc\":\"2.0\",\"method\":\"textDocument/didChange\",\"params\":{\"textDocument\":{\"uri\":\"file:///u\",\"version\":9},\"contentChanges\":7}}"

switched : outs (opens 0 u (codes "a") ∷ opens 1 u (codes "b") ∷ changes 0 inserts ∷ changes 0 no_list ∷ []) (begun 100)
    ≡ sent (open_text u x (codes "a")) ∷ sent (full_text u 2 (codes "b")) ∷ sent (full_text u 3 (codes "ay")) ∷ []
unfolding computes named is_integer chars
switched = refl

forwarded : outs (opens 0 u (codes "a") ∷ changes 0 inserts ∷ changes 1 inserts ∷ []) (begun 100) ≡ sent (open_text u x (codes "a")) ∷ sent inserts_second ∷ []
unfolding computes named is_integer chars
forwarded = refl

-- an editor whose text comes to be the server's
agreeing : outs (opens 0 u (codes "a") ∷ opens 1 u (codes "b") ∷ changes 0 whole_b ∷ []) (begun 100) ≡ sent (open_text u x (codes "a")) ∷ sent (full_text u 2 (codes "b")) ∷ []
unfolding computes named is_integer chars
agreeing = refl

-- at the limit of versions the document is closed and opened
at_the_limit : outs (opens 0 u (codes "a") ∷ changes 0 whole_b ∷ changes 0 whole_c ∷ []) (begun 2)
    ≡ sent (open_text u x (codes "a")) ∷ sent whole_b_second ∷ sent (close_text u) ∷ sent (open_text u x (codes "c")) ∷ []
unfolding computes named is_integer chars
at_the_limit = refl

-- in another language the document is closed and opened, whatever its version, also where the text is the same; a close by the one that isn't the holder changes nothing
two_languages : outs (opens 0 u (codes "a") ∷ opens_in y 1 u (codes "a") ∷ syncs 1 ∷ syncs 0 ∷ opens 0 u (codes "b") ∷ closes 1 u ∷ []) (begun 100)
    ≡ sent (open_text u x (codes "a")) ∷ sent (close_text u) ∷ sent (open_text u y (codes "a")) ∷ sent (close_text u) ∷ sent (open_text u x (codes "a")) ∷ sent (full_text u 2 (codes "b")) ∷ []
two_languages = refl

-- an editor opens a document again, in another language; and the next holder has another one
another_language : outs (opens 0 u (codes "a") ∷ opens_in y 0 u (codes "a") ∷ opens 1 u (codes "a") ∷ closes 1 u ∷ []) (begun 100)
    ≡ sent (open_text u x (codes "a")) ∷ sent (close_text u) ∷ sent (open_text u y (codes "a")) ∷ sent (close_text u) ∷ sent (open_text u x (codes "a")) ∷ sent (close_text u) ∷ sent (open_text u y (codes "a")) ∷ []
another_language = refl

-- a change isn't told as a change where the server has the text before in another language
changed_between : outs (opens 0 u (codes "a") ∷ opens_in y 1 u (codes "a") ∷ changes 0 whole_b ∷ []) (begun 100)
    ≡ sent (open_text u x (codes "a")) ∷ sent (close_text u) ∷ sent (open_text u y (codes "a")) ∷ sent (close_text u) ∷ sent (open_text u x (codes "b")) ∷ []
unfolding computes named is_integer chars
changed_between = refl

-- without a start nothing is told; the next one is told of each document, as its holder has it
replayed : outs (opens 0 u (codes "a") ∷ (λ s. nothing (unready_row s)) ∷ opens 1 v (codes "b") ∷ opens 1 u (codes "c") ∷ closes 1 v ∷ opens 1 v (codes "d") ∷ (λ s. ready_row 1 Utf16 s) ∷ []) (begun 100)
    ≡ sent (open_text u x (codes "a")) ∷ ToServer 1 (open_text u x (codes "c")) ∷ ToServer 1 (open_text v x (codes "d")) ∷ []
replayed = refl

-- a document that is closed leaves nothing; the count of an agreement is that of the start, as of the last notification on the document
abbrev behind : List (Documents → Step) → Documents → Documents
behind [] s = s
behind (f ∷ fs) s = behind fs (f s).after

nothing_left : behind (opens 0 u (codes "a") ∷ opens 1 u (codes "b") ∷ opens 0 v (codes "a") ∷ closes 0 v ∷ closes 0 u ∷ closes 1 u ∷ []) (begun 100) ≡ record (begun 100) { turn = 3; sent = 5 }
nothing_left = refl

counted : agreement 0 u (behind (opens 0 u (codes "a") ∷ opens 0 v (codes "a") ∷ closes 0 u ∷ opens 0 u (codes "a") ∷ opens 1 v (codes "b") ∷ []) (begun 100)) ≡ Agrees 1 4
counted = refl

languages_counted : (agreement 0 u (behind (opens 0 u (codes "a") ∷ opens_in y 1 u (codes "a") ∷ []) (begun 100)) ≡ Differs) × (agreement 1 u (behind (opens 0 u (codes "a") ∷ opens_in y 1 u (codes "a") ∷ []) (begun 100)) ≡ Agrees 1 3)
languages_counted = (refl, refl)

at_the_limit_counted : agreement 0 u (behind (opens 0 u (codes "a") ∷ opens 0 u (codes "b") ∷ []) (begun 1)) ≡ Agrees 1 3
at_the_limit_counted = refl
