-- What a start asks of editors and tells them, worked out by the checker.
use Rattle.std.proofs.Common.{◌≡◌, [], refl}
use Rattle.std.specs.Fmt.{digits}
use Rattle.std.specs.Str.{chars}
use Rattle.url.proofs.OnLiterals.{url_on_literals}
use Rattle.json.specs.Print.{escape_byte}
use Rattle.json_text.specs.Computes.{computes}
use Rattle.json_text.specs.Named.{named}
use Rattle.lsp_method.specs.Class.{own_request, own_notification, goes_nowhere, editor_request, editor_notification, is_focused, is_refresh, server_notification, server_request}
use Rattle.rpc_message.specs.Changed.{id_edits}
use Rattle.rpc_message.specs.Message.{message_of, no_name_twice, is_integer, member_bytes}
use Rattle.rpc_message.specs.Texts.{with_id_text}
use Rattle.group_words.specs.Example.{with_groups}
use Rattle.group_rows.specs.AsksExample.{asked_again, asked_again_outs, asked_leaves, asked_leaves_outs, both_told, both_told_outs, edits, edits_outs, focused, focused_outs, none_runs, one_opens, parked, parked_outs, played, taken_back, taken_back_outs, two_asked, two_asked_outs, two_run, unfocused, unfocused_outs}
use Rattle.group_rows.specs.Example.{events_behind}
use Rattle.group_rows.specs.Rows.{outs_from}

asks_are_answered : played two_asked ≡ two_asked_outs
unfolding computes url_on_literals message_of named no_name_twice is_integer member_bytes with_id_text id_edits escape_byte digits own_request own_notification goes_nowhere editor_request editor_notification is_focused is_refresh server_notification server_request chars
asks_are_answered = refl

an_id_is_asked_once : played asked_again ≡ asked_again_outs
unfolding computes url_on_literals message_of named no_name_twice is_integer member_bytes with_id_text id_edits escape_byte digits own_request own_notification goes_nowhere editor_request editor_notification is_focused is_refresh server_notification server_request chars
an_id_is_asked_once = refl

each_is_told : played both_told ≡ both_told_outs
unfolding computes url_on_literals message_of named no_name_twice is_integer member_bytes with_id_text id_edits escape_byte digits own_request own_notification goes_nowhere editor_request editor_notification is_focused is_refresh server_notification server_request chars
each_is_told = refl

the_last_that_asked_is_in_focus : played focused ≡ focused_outs
unfolding computes url_on_literals message_of named no_name_twice is_integer member_bytes with_id_text id_edits escape_byte digits own_request own_notification goes_nowhere editor_request editor_notification is_focused is_refresh server_notification server_request chars
the_last_that_asked_is_in_focus = refl

an_ask_is_cancelled : played taken_back ≡ taken_back_outs
unfolding computes url_on_literals message_of named no_name_twice is_integer member_bytes with_id_text id_edits escape_byte digits own_request own_notification goes_nowhere editor_request editor_notification is_focused is_refresh server_notification server_request chars
an_ask_is_cancelled = refl

its_asks_are_refused : played asked_leaves ≡ asked_leaves_outs
unfolding computes url_on_literals message_of named no_name_twice is_integer member_bytes with_id_text id_edits escape_byte digits own_request own_notification goes_nowhere editor_request editor_notification is_focused is_refresh server_notification server_request chars
its_asks_are_refused = refl

none_is_in_focus : outs_from (with_groups 8) (events_behind (with_groups 8) [] none_runs) unfocused ≡ unfocused_outs
unfolding computes url_on_literals message_of named no_name_twice is_integer member_bytes with_id_text id_edits escape_byte digits own_request own_notification goes_nowhere editor_request editor_notification is_focused is_refresh server_notification server_request chars
none_is_in_focus = refl

one_begins_to_run : outs_from (with_groups 8) (events_behind (with_groups 8) [] none_runs) parked ≡ parked_outs
unfolding computes url_on_literals message_of named no_name_twice is_integer member_bytes with_id_text id_edits escape_byte digits own_request own_notification goes_nowhere editor_request editor_notification is_focused is_refresh server_notification server_request chars
one_begins_to_run = refl

edits_have_own_versions : outs_from (with_groups 8) (events_behind (with_groups 8) two_run one_opens) edits ≡ edits_outs
unfolding computes url_on_literals message_of named no_name_twice is_integer member_bytes with_id_text id_edits escape_byte digits own_request own_notification goes_nowhere editor_request editor_notification is_focused is_refresh server_notification server_request chars
edits_have_own_versions = refl
