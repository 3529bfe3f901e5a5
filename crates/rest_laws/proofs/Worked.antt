-- Two editors with two texts of a document, worked out by the checker: that whose text the start has is at rest, and is so behind its own didChange and didClose. A refresh, what it asks then, and another one's answer and cancel disturb nothing; the other one's request and its didClose do.
use Rattle.std.proofs.Common.{◌≡◌, true, false, [], ◌∷◌, codes, refl}
use Rattle.std.specs.Fmt.{digits}
use Rattle.std.specs.Str.{chars}
use Rattle.url.proofs.OnLiterals.{url_on_literals}
use Rattle.json.specs.Print.{escape_byte}
use Rattle.json_text.specs.Computes.{computes}
use Rattle.json_text.specs.Named.{named}
use Rattle.lsp_method.specs.Class.{own_request, own_notification, goes_nowhere, editor_request, editor_notification, is_focused, is_refresh, server_notification, server_request}
use Rattle.mux_history.specs.declared.cause.Cause.{Cause}
use Rattle.mux_history.specs.declared.cause.Cause.TheVariants.{FromEditor, FromServer}
use Rattle.mux_history.specs.declared.out.Out.TheVariants.{ToEditor, ToServer}
use Rattle.rpc_message.specs.Changed.{id_edits}
use Rattle.rpc_message.specs.Message.{message_of, no_name_twice, is_integer, member_bytes}
use Rattle.rpc_message.specs.Texts.{with_id_text}
use Rattle.group_rows.specs.Debts.{agrees_on_all}
use Rattle.group_rows.specs.DebtsExample.{two_texts}
use Rattle.group_rows.specs.Example.{events_behind}
use Rattle.group_words.specs.Example.{with_groups}
use Rattle.group_sessions.specs.Refreshes.{IsAtRest, disturbs}

the_second_is_at_rest : IsAtRest (with_groups 8) 0 1 two_texts
unfolding computes url_on_literals message_of named no_name_twice is_integer member_bytes with_id_text id_edits escape_byte digits own_request own_notification goes_nowhere editor_request editor_notification is_focused is_refresh server_notification server_request chars
the_second_is_at_rest = record { ready = refl; runs = refl; agrees = refl; owed = refl }

the_first_is_not : agrees_on_all (with_groups 8) 0 two_texts 0 ≡ false
unfolding computes url_on_literals message_of named no_name_twice is_integer member_bytes with_id_text id_edits escape_byte digits own_request own_notification goes_nowhere editor_request editor_notification is_focused is_refresh server_notification server_request chars
the_first_is_not = refl

-- it changes its text, and closes it, by which the start gets the other one's
it_changes : Cause
it_changes = FromEditor 1 (codes "{\"jsonrpc\":\"2.0\",\"method\":\"textDocument/didChange\",\"params\":{\"textDocument\":{\"uri\":\"file:///u\",\"version\":2},\"contentChanges\":[{\"text\":\"c\"}]}}")

it_closes : Cause
it_closes = FromEditor 1 (codes "{\"jsonrpc\":\"2.0\",\"method\":\"textDocument/didClose\",\"params\":{\"textDocument\":{\"uri\":\"file:///u\"}}}")

it_is_so_behind_its_change : IsAtRest (with_groups 8) 0 1 (events_behind (with_groups 8) two_texts (it_changes ∷ []))
unfolding it_changes computes url_on_literals message_of named no_name_twice is_integer member_bytes with_id_text id_edits escape_byte digits own_request own_notification goes_nowhere editor_request editor_notification is_focused is_refresh server_notification server_request chars
it_is_so_behind_its_change = record { ready = refl; runs = refl; agrees = refl; owed = refl }

and_behind_its_close : IsAtRest (with_groups 8) 0 1 (events_behind (with_groups 8) two_texts (it_closes ∷ []))
unfolding it_closes computes url_on_literals message_of named no_name_twice is_integer member_bytes with_id_text id_edits escape_byte digits own_request own_notification goes_nowhere editor_request editor_notification is_focused is_refresh server_notification server_request chars
and_behind_its_close = record { ready = refl; runs = refl; agrees = refl; owed = refl }

a_refresh_disturbs_nothing : disturbs 0 1 (record {
  cause = FromServer 0 (codes "{\"jsonrpc\":\"2.0\",\"id\":7,\"method\":\"workspace/semanticTokens/refresh\"}");
  outs = ToServer 0 (codes "{\"jsonrpc\":\"2.0\",\"id\":7,\"result\":null}") ∷ ToEditor 1 (codes "{\"jsonrpc\":\"2.0\",\"id\":1,\"method\":\"workspace/semanticTokens/refresh\"}") ∷ [];
}) ≡ false
a_refresh_disturbs_nothing = refl

nor_what_it_asks : disturbs 0 1 (record {
  cause = FromEditor 1 (codes "{\"jsonrpc\":\"2.0\",\"id\":1,\"method\":\"textDocument/semanticTokens/full\"}");
  outs = ToServer 0 (codes "{\"jsonrpc\":\"2.0\",\"id\":2,\"method\":\"textDocument/semanticTokens/full\"}") ∷ [];
}) ≡ false
unfolding computes message_of named no_name_twice is_integer member_bytes chars
nor_what_it_asks = refl

nor_anothers_answer : disturbs 0 1 (record {
  cause = FromEditor 0 (codes "{\"jsonrpc\":\"2.0\",\"id\":5,\"result\":null}");
  outs = ToServer 0 (codes "{\"jsonrpc\":\"2.0\",\"id\":7,\"result\":null}") ∷ [];
}) ≡ false
unfolding computes message_of named no_name_twice is_integer member_bytes chars
nor_anothers_answer = refl

nor_anothers_cancel : disturbs 0 1 (record {
  cause = FromEditor 0 (codes "{\"jsonrpc\":\"2.0\",\"method\":\"$/cancelRequest\",\"params\":{\"id\":4}}");
  outs = ToServer 0 (codes "{\"jsonrpc\":\"2.0\",\"method\":\"$/cancelRequest\",\"params\":{\"id\":9}}") ∷ [];
}) ≡ false
unfolding computes message_of named no_name_twice is_integer member_bytes chars
nor_anothers_cancel = refl

anothers_request_disturbs : disturbs 0 1 (record {
  cause = FromEditor 0 (codes "{\"jsonrpc\":\"2.0\",\"id\":1,\"method\":\"textDocument/semanticTokens/full\"}");
  outs = ToServer 0 (codes "{\"jsonrpc\":\"2.0\",\"id\":3,\"method\":\"textDocument/semanticTokens/full\"}") ∷ [];
}) ≡ true
unfolding computes message_of named no_name_twice is_integer member_bytes chars
anothers_request_disturbs = refl

so_does_what_it_closes : disturbs 0 1 (record {
  cause = FromEditor 0 (codes "{\"jsonrpc\":\"2.0\",\"method\":\"textDocument/didClose\",\"params\":{\"textDocument\":{\"uri\":\"file:///a.c\"}}}");
  outs = [];
}) ≡ true
unfolding computes message_of named no_name_twice is_integer member_bytes chars
so_does_what_it_closes = refl
