-- New starts, worked out by the checker.
use Rattle.std.proofs.Common.{◌≡◌, true, false, codes, Some, refl}
use Rattle.std.specs.Fmt.{digits}
use Rattle.std.specs.Str.{chars}
use Rattle.url.proofs.OnLiterals.{url_on_literals}
use Rattle.json.specs.Print.{escape_byte}
use Rattle.json_text.specs.Computes.{computes}
use Rattle.json_text.specs.Named.{named}
use Rattle.lsp_method.specs.Class.{own_request, own_notification, goes_nowhere, editor_request, editor_notification, is_focused, is_refresh, server_notification, server_request}
use Rattle.rpc_message.specs.Changed.{id_edits}
use Rattle.rpc_message.specs.Message.{message_of, no_name_twice, is_integer, member_bytes}
use Rattle.rpc_message.specs.Texts.{with_id_text}
use Rattle.group_rows.specs.Earlier.{differs}
use Rattle.group_rows.specs.RestartExample.{another_result, another_result_outs, never_ready, never_ready_outs, restarted, restarted_outs}
use Rattle.group_rows.proofs.WorkedExits.{outs_by}

a_start_comes_again : outs_by 1 restarted ≡ restarted_outs
unfolding computes url_on_literals message_of named no_name_twice is_integer member_bytes with_id_text id_edits escape_byte digits own_request own_notification goes_nowhere editor_request editor_notification is_focused is_refresh server_notification server_request chars
a_start_comes_again = refl

another_result_parts : outs_by 5 another_result ≡ another_result_outs
unfolding computes url_on_literals message_of named no_name_twice is_integer member_bytes with_id_text id_edits escape_byte digits own_request own_notification goes_nowhere editor_request editor_notification is_focused is_refresh server_notification server_request chars
another_result_parts = refl

none_was_ready : outs_by 1 never_ready ≡ never_ready_outs
unfolding computes url_on_literals message_of named no_name_twice is_integer member_bytes with_id_text id_edits escape_byte digits own_request own_notification goes_nowhere editor_request editor_notification is_focused is_refresh server_notification server_request chars
none_was_ready = refl

-- in any order of members, and without what editors aren't shown; absent ones aren't null
the_same_in_another_order : differs (Some (codes "{\"jsonrpc\":\"2.0\",\"id\":1,\"result\":{\"capabilities\":{\"a\":1,\"b\":[2]}}}")) (codes "{\"jsonrpc\":\"2.0\",\"id\":1,\"result\":{\"capabilities\":{\"b\":[2],\"a\":1}}}") ≡ false
unfolding computes url_on_literals message_of named no_name_twice is_integer member_bytes with_id_text id_edits escape_byte digits own_request own_notification goes_nowhere editor_request editor_notification is_focused is_refresh server_notification server_request chars
the_same_in_another_order = refl

not_shown : differs (Some (codes "{\"jsonrpc\":\"2.0\",\"id\":1,\"result\":{\"capabilities\":{\"a\":1}}}")) (codes "{\"jsonrpc\":\"2.0\",\"id\":1,\"result\":{\"capabilities\":{\"a\":1,\"notebookDocumentSync\":{}}}}") ≡ false
unfolding computes url_on_literals message_of named no_name_twice is_integer member_bytes with_id_text id_edits escape_byte digits own_request own_notification goes_nowhere editor_request editor_notification is_focused is_refresh server_notification server_request chars
not_shown = refl

both_absent : differs (Some (codes "{\"jsonrpc\":\"2.0\",\"id\":1,\"result\":{\"x\":1}}")) (codes "{\"jsonrpc\":\"2.0\",\"id\":1,\"result\":null}") ≡ false
unfolding computes url_on_literals message_of named no_name_twice is_integer member_bytes with_id_text id_edits escape_byte digits own_request own_notification goes_nowhere editor_request editor_notification is_focused is_refresh server_notification server_request chars
both_absent = refl

absent_or_null : differs (Some (codes "{\"jsonrpc\":\"2.0\",\"id\":1,\"result\":{}}")) (codes "{\"jsonrpc\":\"2.0\",\"id\":1,\"result\":{\"capabilities\":null}}") ≡ true
unfolding computes url_on_literals message_of named no_name_twice is_integer member_bytes with_id_text id_edits escape_byte digits own_request own_notification goes_nowhere editor_request editor_notification is_focused is_refresh server_notification server_request chars
absent_or_null = refl
