-- What starts and editors are told by tokens for progress, worked out by the checker.
use Rattle.std.proofs.Common.{◌≡◌, [], refl}
use Rattle.std.specs.Prelude.{flat_map}
use Rattle.std.specs.Fmt.{digits}
use Rattle.std.specs.Str.{chars}
use Rattle.url.proofs.OnLiterals.{url_on_literals}
use Rattle.json.specs.Print.{escape_byte}
use Rattle.json_text.specs.Computes.{computes}
use Rattle.json_text.specs.Named.{named}
use Rattle.lsp_method.specs.Class.{own_request, own_notification, goes_nowhere, editor_request, editor_notification, is_focused, is_refresh, server_notification, server_request}
use Rattle.rpc_message.specs.Changed.{id_edits}
use Rattle.rpc_message.specs.Message.{message_of, no_name_twice, is_integer, member_bytes}
use Rattle.rpc_message.specs.Texts.{with_id_text}
use Rattle.group_words.specs.Example.{with_groups}
use Rattle.group_rows.specs.Example.{events_behind, two_editors}
use Rattle.group_rows.specs.Rows.{outs_from}
use Rattle.group_rows.specs.TokensExample.{marking, marking_outs, outs_of_marked, parting_work, parting_work_outs, progressing, progressing_outs, reserved, reserved_outs, working, working_outs}

starts_get_the_daemons_tokens : flat_map (λ xs. xs) (outs_from (with_groups 8) (events_behind (with_groups 8) [] two_editors) marking) ≡ marking_outs
unfolding computes url_on_literals message_of named no_name_twice is_integer member_bytes with_id_text id_edits escape_byte digits own_request own_notification goes_nowhere editor_request editor_notification is_focused is_refresh server_notification server_request chars
starts_get_the_daemons_tokens = refl

the_daemons_tokens_are_refused : flat_map (λ xs. xs) (outs_from (with_groups 8) (events_behind (with_groups 8) [] two_editors) reserved) ≡ reserved_outs
unfolding computes url_on_literals message_of named no_name_twice is_integer member_bytes with_id_text id_edits escape_byte digits own_request own_notification goes_nowhere editor_request editor_notification is_focused is_refresh server_notification server_request chars
the_daemons_tokens_are_refused = refl

editors_are_told_by_their_own : outs_of_marked progressing ≡ progressing_outs
unfolding computes url_on_literals message_of named no_name_twice is_integer member_bytes with_id_text id_edits escape_byte digits own_request own_notification goes_nowhere editor_request editor_notification is_focused is_refresh server_notification server_request chars
editors_are_told_by_their_own = refl

work_is_cancelled : outs_of_marked working ≡ working_outs
unfolding computes url_on_literals message_of named no_name_twice is_integer member_bytes with_id_text id_edits escape_byte digits own_request own_notification goes_nowhere editor_request editor_notification is_focused is_refresh server_notification server_request chars
work_is_cancelled = refl

while_the_editor_is_there : outs_of_marked parting_work ≡ parting_work_outs
unfolding computes url_on_literals message_of named no_name_twice is_integer member_bytes with_id_text id_edits escape_byte digits own_request own_notification goes_nowhere editor_request editor_notification is_focused is_refresh server_notification server_request chars
while_the_editor_is_there = refl
