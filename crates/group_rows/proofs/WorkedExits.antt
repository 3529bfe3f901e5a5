-- Exits, worked out by the checker.
use Rattle.std.proofs.Common.{◌≡◌, ℕ, List, [], flat_map, refl}
use Rattle.std.specs.Fmt.{digits}
use Rattle.std.specs.Str.{chars}
use Rattle.url.proofs.OnLiterals.{url_on_literals}
use Rattle.json.specs.Print.{escape_byte}
use Rattle.json_text.specs.Computes.{computes}
use Rattle.json_text.specs.Named.{named}
use Rattle.mux_history.specs.declared.cause.Cause.{Cause}
use Rattle.mux_history.specs.declared.out.Out.{Out}
use Rattle.lsp_method.specs.Class.{own_request, own_notification, goes_nowhere, editor_request, editor_notification, is_focused, is_refresh, server_notification, server_request}
use Rattle.rpc_message.specs.Changed.{id_edits}
use Rattle.rpc_message.specs.Message.{message_of, no_name_twice, is_integer, member_bytes}
use Rattle.rpc_message.specs.Texts.{with_id_text}
use Rattle.event_model.specs.Settings.{Settings}
use Rattle.group_words.specs.Example.{with_groups}
use Rattle.group_rows.specs.ExitExample.{failed, failed_outs, lost, lost_down, lost_down_outs, lost_early, lost_early_outs, lost_idle, lost_idle_outs, lost_outs, over_outs}
use Rattle.group_rows.specs.Rows.{outs_from}

-- where starts of a group may end so often and be started again
abbrev pub restarting : ℕ → Settings
restarting n = record { limits = record (with_groups 8).limits { restarts = n }; servers = (with_groups 8).servers; default = 0 }

abbrev pub outs_by : ℕ → List Cause → List Out
outs_by n causes = flat_map (λ xs. xs) (outs_from (restarting n) [] causes)

a_start_is_lost : outs_by 1 lost ≡ lost_outs
unfolding computes url_on_literals message_of named no_name_twice is_integer member_bytes with_id_text id_edits escape_byte digits own_request own_notification goes_nowhere editor_request editor_notification is_focused is_refresh server_notification server_request chars
a_start_is_lost = refl

none_is_left : outs_by 0 lost ≡ over_outs
unfolding computes url_on_literals message_of named no_name_twice is_integer member_bytes with_id_text id_edits escape_byte digits own_request own_notification goes_nowhere editor_request editor_notification is_focused is_refresh server_notification server_request chars
none_is_left = refl

waiting_for_it : outs_by 0 lost_early ≡ lost_early_outs
unfolding computes url_on_literals message_of named no_name_twice is_integer member_bytes with_id_text id_edits escape_byte digits own_request own_notification goes_nowhere editor_request editor_notification is_focused is_refresh server_notification server_request chars
waiting_for_it = refl

it_fails_twice : outs_by 1 failed ≡ failed_outs
unfolding computes url_on_literals message_of named no_name_twice is_integer member_bytes with_id_text id_edits escape_byte digits own_request own_notification goes_nowhere editor_request editor_notification is_focused is_refresh server_notification server_request chars
it_fails_twice = refl

none_is_there : outs_by 5 lost_idle ≡ lost_idle_outs
unfolding computes url_on_literals message_of named no_name_twice is_integer member_bytes with_id_text id_edits escape_byte digits own_request own_notification goes_nowhere editor_request editor_notification is_focused is_refresh server_notification server_request chars
none_is_there = refl

none_needs_it : outs_by 5 lost_down ≡ lost_down_outs
unfolding computes url_on_literals message_of named no_name_twice is_integer member_bytes with_id_text id_edits escape_byte digits own_request own_notification goes_nowhere editor_request editor_notification is_focused is_refresh server_notification server_request chars
none_needs_it = refl
