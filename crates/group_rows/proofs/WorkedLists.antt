-- What a start publishes, and what editors are shown of it, worked out by the checker.
use Rattle.std.proofs.Common.{◌≡◌, [], refl}
use Rattle.std.specs.Fmt.{digits}
use Rattle.std.specs.Str.{chars}
use Rattle.url.proofs.OnLiterals.{url_on_literals}
use Rattle.json.specs.Print.{escape_byte}
use Rattle.json_text.specs.Computes.{computes}
use Rattle.json_text.specs.Named.{named}
use Rattle.lsp_method.specs.Class.{own_request, own_notification, goes_nowhere, editor_request, editor_notification, is_focused, is_refresh, server_notification, server_request}
use Rattle.rpc_message.specs.Changed.{id_edits}
use Rattle.rpc_message.specs.Message.{message_of, no_name_twice, is_integer, member_bytes}
use Rattle.rpc_message.specs.Texts.{with_id_text}
use Rattle.mux_history.specs.declared.cause.Cause.TheVariants.{ServerGone}
use Rattle.event_model.specs.Event.{with_cause}
use Rattle.group_words.specs.Example.{with_groups}
use Rattle.group_rows.specs.AsksExample.{none_runs, played, two_run}
use Rattle.group_rows.specs.Example.{events_behind}
use Rattle.group_rows.specs.Lists.{lists_of}
use Rattle.group_rows.specs.ListsExample.{emptied, emptied_outs, listed_early, listed_early_outs, no_lists, no_lists_outs, of_two_texts, of_two_texts_outs, of_versions, of_versions_outs, shown_to_openers, shown_to_openers_outs, shown_to_two, shown_to_two_outs, shown_twice, shown_twice_outs, three_published, two_lists}
use Rattle.group_rows.specs.Rows.{outs_from}

each_sees_its_own_version : played shown_to_two ≡ shown_to_two_outs
unfolding computes url_on_literals message_of named no_name_twice is_integer member_bytes with_id_text id_edits escape_byte digits own_request own_notification goes_nowhere editor_request editor_notification is_focused is_refresh server_notification server_request chars
each_sees_its_own_version = refl

the_held_version_counts : played of_versions ≡ of_versions_outs
unfolding computes url_on_literals message_of named no_name_twice is_integer member_bytes with_id_text id_edits escape_byte digits own_request own_notification goes_nowhere editor_request editor_notification is_focused is_refresh server_notification server_request chars
the_held_version_counts = refl

the_own_text_counts : played of_two_texts ≡ of_two_texts_outs
unfolding computes url_on_literals message_of named no_name_twice is_integer member_bytes with_id_text id_edits escape_byte digits own_request own_notification goes_nowhere editor_request editor_notification is_focused is_refresh server_notification server_request chars
the_own_text_counts = refl

shown_as_it_opens : played shown_to_openers ≡ shown_to_openers_outs
unfolding computes url_on_literals message_of named no_name_twice is_integer member_bytes with_id_text id_edits escape_byte digits own_request own_notification goes_nowhere editor_request editor_notification is_focused is_refresh server_notification server_request chars
shown_as_it_opens = refl

none_where_it_is_empty : played emptied ≡ emptied_outs
unfolding computes url_on_literals message_of named no_name_twice is_integer member_bytes with_id_text id_edits escape_byte digits own_request own_notification goes_nowhere editor_request editor_notification is_focused is_refresh server_notification server_request chars
none_where_it_is_empty = refl

shown_as_it_begins_to_run : outs_from (with_groups 8) (events_behind (with_groups 8) [] none_runs) listed_early ≡ listed_early_outs
unfolding computes url_on_literals message_of named no_name_twice is_integer member_bytes with_id_text id_edits escape_byte digits own_request own_notification goes_nowhere editor_request editor_notification is_focused is_refresh server_notification server_request chars
shown_as_it_begins_to_run = refl

first_as_if_unopened : played shown_twice ≡ shown_twice_outs
unfolding computes url_on_literals message_of named no_name_twice is_integer member_bytes with_id_text id_edits escape_byte digits own_request own_notification goes_nowhere editor_request editor_notification is_focused is_refresh server_notification server_request chars
first_as_if_unopened = refl

of_another_shape : played no_lists ≡ no_lists_outs
unfolding computes url_on_literals message_of named no_name_twice is_integer member_bytes with_id_text id_edits escape_byte digits own_request own_notification goes_nowhere editor_request editor_notification is_focused is_refresh server_notification server_request chars
of_another_shape = refl

these_are_kept : lists_of 0 (events_behind (with_groups 8) two_run three_published) ≡ two_lists
unfolding computes url_on_literals message_of named no_name_twice is_integer member_bytes with_id_text id_edits escape_byte digits own_request own_notification goes_nowhere editor_request editor_notification is_focused is_refresh server_notification server_request chars
these_are_kept = refl

an_exit_takes_all : lists_of 0 (with_cause (events_behind (with_groups 8) two_run three_published) (ServerGone 0)) ≡ []
unfolding computes url_on_literals message_of named no_name_twice is_integer member_bytes with_id_text id_edits escape_byte digits own_request own_notification goes_nowhere editor_request editor_notification is_focused is_refresh server_notification server_request chars
an_exit_takes_all = refl
