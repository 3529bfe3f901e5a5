-- What an editor gets of an answer with versions, worked out by the checker.
use Rattle.std.proofs.Common.{◌≡◌, [], ◌∷◌, codes, refl}
use Rattle.std.specs.Fmt.{digits}
use Rattle.std.specs.Str.{chars}
use Rattle.url.proofs.OnLiterals.{url_on_literals}
use Rattle.json.specs.Print.{escape_byte}
use Rattle.json_text.specs.Computes.{computes}
use Rattle.json_text.specs.Named.{named}
use Rattle.lsp_method.specs.Class.{own_request, own_notification, goes_nowhere, editor_request, editor_notification}
use Rattle.rpc_message.specs.Changed.{id_edits}
use Rattle.rpc_message.specs.Message.{message_of, no_name_twice, is_integer, member_bytes}
use Rattle.rpc_message.specs.Texts.{with_id_text}
use Rattle.mux_history.specs.declared.out.Out.TheVariants.{ToEditor}
use Rattle.group_rows.specs.AnswersExample.{answered, changed_behind, switched_behind, closed_behind}

-- version 1 is the one that the start had as the request was forwarded
as_it_was_forwarded : answered changed_behind (codes "{\"jsonrpc\":\"2.0\",\"id\":2,\"result\":{\"documentChanges\":[{\"textDocument\":{\"uri\":\"file:///u\",\"version\":1},\"edits\":[]}]}}")
    ≡ ToEditor 0 (codes "{\"jsonrpc\":\"2.0\",\"id\":1,\"result\":{\"documentChanges\":[{\"textDocument\":{\"uri\":\"file:///u\",\"version\":5},\"edits\":[]}]}}") ∷ []
unfolding computes url_on_literals message_of named no_name_twice is_integer member_bytes with_id_text id_edits escape_byte digits own_request own_notification goes_nowhere editor_request editor_notification chars
as_it_was_forwarded = refl

-- version 2 is the one that it has
as_it_is : answered changed_behind (codes "{\"jsonrpc\":\"2.0\",\"id\":2,\"result\":{\"documentChanges\":[{\"textDocument\":{\"uri\":\"file:///u\",\"version\":2},\"edits\":[]}]}}")
    ≡ ToEditor 0 (codes "{\"jsonrpc\":\"2.0\",\"id\":1,\"result\":{\"documentChanges\":[{\"textDocument\":{\"uri\":\"file:///u\",\"version\":6},\"edits\":[]}]}}") ∷ []
unfolding computes url_on_literals message_of named no_name_twice is_integer member_bytes with_id_text id_edits escape_byte digits own_request own_notification goes_nowhere editor_request editor_notification chars
as_it_is = refl

-- it had no version 3
content_modified : answered changed_behind (codes "{\"jsonrpc\":\"2.0\",\"id\":2,\"result\":{\"documentChanges\":[{\"textDocument\":{\"uri\":\"file:///u\",\"version\":3},\"edits\":[]}]}}")
    ≡ ToEditor 0 (codes "{\"jsonrpc\":\"2.0\",\"id\":1,\"error\":{\"code\":-32801,\"message\":\"Content modified\"}}") ∷ []
unfolding computes url_on_literals message_of named no_name_twice is_integer member_bytes with_id_text id_edits escape_byte digits own_request own_notification goes_nowhere editor_request editor_notification chars
content_modified = refl

-- another document isn't open, and a doubled version is replaced twice
not_open_and_doubled : answered changed_behind (codes "{\"jsonrpc\":\"2.0\",\"result\":[{\"edit\":{\"documentChanges\":[{\"textDocument\":{\"uri\":\"file:///v\",\"version\":7}},{\"textDocument\":{\"version\":8,\"uri\":\"file:///u\",\"version\":1}}]}}],\"id\":2}")
    ≡ ToEditor 0 (codes "{\"jsonrpc\":\"2.0\",\"result\":[{\"edit\":{\"documentChanges\":[{\"textDocument\":{\"uri\":\"file:///v\",\"version\":null}},{\"textDocument\":{\"version\":5,\"uri\":\"file:///u\",\"version\":5}}]}}],\"id\":1}") ∷ []
unfolding computes url_on_literals message_of named no_name_twice is_integer member_bytes with_id_text id_edits escape_byte digits own_request own_notification goes_nowhere editor_request editor_notification chars
not_open_and_doubled = refl

-- the start has another editor's text: the version counts that it had as this one's request was forwarded
of_another_text : answered switched_behind (codes "{\"jsonrpc\":\"2.0\",\"id\":2,\"result\":{\"documentChanges\":[{\"textDocument\":{\"uri\":\"file:///u\",\"version\":3}}]}}")
    ≡ ToEditor 0 (codes "{\"jsonrpc\":\"2.0\",\"id\":1,\"result\":{\"documentChanges\":[{\"textDocument\":{\"uri\":\"file:///u\",\"version\":5}}]}}") ∷ []
unfolding computes url_on_literals message_of named no_name_twice is_integer member_bytes with_id_text id_edits escape_byte digits own_request own_notification goes_nowhere editor_request editor_notification chars
of_another_text = refl

-- and the version of the other one's text stands for none that it has
of_the_other_one : answered switched_behind (codes "{\"jsonrpc\":\"2.0\",\"id\":2,\"result\":{\"documentChanges\":[{\"textDocument\":{\"uri\":\"file:///u\",\"version\":4}}]}}")
    ≡ ToEditor 0 (codes "{\"jsonrpc\":\"2.0\",\"id\":1,\"error\":{\"code\":-32801,\"message\":\"Content modified\"}}") ∷ []
unfolding computes url_on_literals message_of named no_name_twice is_integer member_bytes with_id_text id_edits escape_byte digits own_request own_notification goes_nowhere editor_request editor_notification chars
of_the_other_one = refl

-- a document that was closed since isn't open, whatever was noted
closed_since : answered closed_behind (codes "{\"jsonrpc\":\"2.0\",\"id\":2,\"result\":{\"documentChanges\":[{\"textDocument\":{\"uri\":\"file:///u\",\"version\":3}}]}}")
    ≡ ToEditor 0 (codes "{\"jsonrpc\":\"2.0\",\"id\":1,\"result\":{\"documentChanges\":[{\"textDocument\":{\"uri\":\"file:///u\",\"version\":null}}]}}") ∷ []
unfolding computes url_on_literals message_of named no_name_twice is_integer member_bytes with_id_text id_edits escape_byte digits own_request own_notification goes_nowhere editor_request editor_notification chars
closed_since = refl
