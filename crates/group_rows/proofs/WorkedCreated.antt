-- What starts create, and what editors hear of it, worked out by the checker.
use Rattle.std.proofs.Common.{◌≡◌, [], refl}
use Rattle.std.specs.Fmt.{digits}
use Rattle.std.specs.Str.{chars}
use Rattle.url.proofs.OnLiterals.{url_on_literals}
use Rattle.json.specs.Print.{escape_byte}
use Rattle.json_text.specs.Computes.{computes}
use Rattle.json_text.specs.Named.{named}
use Rattle.lsp_method.specs.Class.{own_request, own_notification, goes_nowhere, editor_request, editor_notification, is_focused, is_refresh, server_notification, server_request}
use Rattle.rpc_message.specs.Changed.{id_edits}
use Rattle.rpc_message.specs.Message.{message_of, no_name_twice, is_integer, member_bytes}
use Rattle.rpc_message.specs.Texts.{with_id_text}
use Rattle.mux_history.specs.declared.cause.Cause.TheVariants.{ServerGone}
use Rattle.event_model.specs.Event.{with_cause}
use Rattle.group_words.specs.Example.{with_groups}
use Rattle.group_rows.specs.AsksExample.{none_runs, played, two_run}
use Rattle.group_rows.specs.Created.{created_of, no_created}
use Rattle.group_rows.specs.CreatedExample.{asked_later, asked_later_outs, created_again, created_again_outs, created_early, created_early_outs, much_held, much_held_outs, one_token_thrice, one_token_thrice_outs, refused_tokens, refused_tokens_outs, reported, taken_by_one, taken_by_one_outs, takers_leave, takers_leave_outs, two_created, two_kept, work_cancelled, work_cancelled_outs}
use Rattle.group_rows.specs.Example.{events_behind}
use Rattle.group_rows.specs.Rows.{outs_from}

one_takes_it : played taken_by_one ≡ taken_by_one_outs
unfolding computes url_on_literals message_of named no_name_twice is_integer member_bytes with_id_text id_edits escape_byte digits own_request own_notification goes_nowhere editor_request editor_notification is_focused is_refresh server_notification server_request chars
one_takes_it = refl

numbers_go_on : played created_again ≡ created_again_outs
unfolding computes url_on_literals message_of named no_name_twice is_integer member_bytes with_id_text id_edits escape_byte digits own_request own_notification goes_nowhere editor_request editor_notification is_focused is_refresh server_notification server_request chars
numbers_go_on = refl

asked_as_it_comes : played asked_later ≡ asked_later_outs
unfolding computes url_on_literals message_of named no_name_twice is_integer member_bytes with_id_text id_edits escape_byte digits own_request own_notification goes_nowhere editor_request editor_notification is_focused is_refresh server_notification server_request chars
asked_as_it_comes = refl

some_are_refused : played refused_tokens ≡ refused_tokens_outs
unfolding computes url_on_literals message_of named no_name_twice is_integer member_bytes with_id_text id_edits escape_byte digits own_request own_notification goes_nowhere editor_request editor_notification is_focused is_refresh server_notification server_request chars
some_are_refused = refl

created_work_is_cancelled : played work_cancelled ≡ work_cancelled_outs
unfolding computes url_on_literals message_of named no_name_twice is_integer member_bytes with_id_text id_edits escape_byte digits own_request own_notification goes_nowhere editor_request editor_notification is_focused is_refresh server_notification server_request chars
created_work_is_cancelled = refl

each_token_is_told_apart : played one_token_thrice ≡ one_token_thrice_outs
unfolding computes url_on_literals message_of named no_name_twice is_integer member_bytes with_id_text id_edits escape_byte digits own_request own_notification goes_nowhere editor_request editor_notification is_focused is_refresh server_notification server_request chars
each_token_is_told_apart = refl

who_leaves_hears_no_more : played takers_leave ≡ takers_leave_outs
unfolding computes url_on_literals message_of named no_name_twice is_integer member_bytes with_id_text id_edits escape_byte digits own_request own_notification goes_nowhere editor_request editor_notification is_focused is_refresh server_notification server_request chars
who_leaves_hears_no_more = refl

asked_as_it_begins_to_run : outs_from (with_groups 8) (events_behind (with_groups 8) [] none_runs) created_early ≡ created_early_outs
unfolding computes url_on_literals message_of named no_name_twice is_integer member_bytes with_id_text id_edits escape_byte digits own_request own_notification goes_nowhere editor_request editor_notification is_focused is_refresh server_notification server_request chars
asked_as_it_begins_to_run = refl

all_is_held : outs_from (with_groups 8) (reported 2) much_held ≡ much_held_outs 2
unfolding computes url_on_literals message_of named no_name_twice is_integer member_bytes with_id_text id_edits escape_byte digits own_request own_notification goes_nowhere editor_request editor_notification is_focused is_refresh server_notification server_request chars
all_is_held = refl

no_more_is_held : outs_from (with_groups 8) (reported 1030) much_held ≡ much_held_outs 1023
unfolding computes url_on_literals message_of named no_name_twice is_integer member_bytes with_id_text id_edits escape_byte digits own_request own_notification goes_nowhere editor_request editor_notification is_focused is_refresh server_notification server_request chars
no_more_is_held = refl

this_is_kept : created_of (with_groups 8) 0 (events_behind (with_groups 8) two_run two_created) ≡ two_kept
unfolding computes url_on_literals message_of named no_name_twice is_integer member_bytes with_id_text id_edits escape_byte digits own_request own_notification goes_nowhere editor_request editor_notification is_focused is_refresh server_notification server_request chars
this_is_kept = refl

an_exit_forgets_all : created_of (with_groups 8) 0 (with_cause (events_behind (with_groups 8) two_run two_created) (ServerGone 0)) ≡ no_created
unfolding computes url_on_literals message_of named no_name_twice is_integer member_bytes with_id_text id_edits escape_byte digits own_request own_notification goes_nowhere editor_request editor_notification is_focused is_refresh server_notification server_request chars
an_exit_forgets_all = refl
