-- What the exit of a start leaves at an editor that runs, worked out by the checker.
use Rattle.std.proofs.Common.{◌≡◌, true, false, List, [], ◌∷◌, refl}
use Rattle.std.specs.Prelude.{codes}
use Rattle.std.specs.Fmt.{digits}
use Rattle.std.specs.Str.{chars}
use Rattle.url.proofs.OnLiterals.{url_on_literals}
use Rattle.json.specs.Print.{escape_byte}
use Rattle.json_text.specs.Computes.{computes}
use Rattle.json_text.specs.Named.{named}
use Rattle.lsp_method.specs.Class.{own_request, own_notification, goes_nowhere, editor_request, editor_notification, is_focused, is_refresh, server_notification, server_request}
use Rattle.rpc_message.specs.Changed.{id_edits}
use Rattle.rpc_message.specs.Message.{message_of, no_name_twice, is_integer, member_bytes}
use Rattle.rpc_message.specs.Texts.{with_id_text}
use Rattle.event_model.specs.Event.{Event}
use Rattle.event_model.specs.Parts.{editor_part}
use Rattle.session_laws.specs.ClientRules.{registered_of}
use Rattle.group_words.specs.Example.{with_groups}
use Rattle.group_rows.specs.Example.{events_behind}
use Rattle.group_rows.specs.ExitExample.{at_work, lost}
use Rattle.group_rows.specs.ExitRows.{is_full}
use Rattle.group_sessions.specs.LastLists.{is_hearing}

abbrev there : List Event
there = events_behind (with_groups 8) [] at_work

abbrev gone : List Event
gone = events_behind (with_groups 8) [] lost

it_runs : is_hearing (with_groups 8) 0 1 there ≡ true
unfolding computes url_on_literals message_of named no_name_twice is_integer member_bytes with_id_text id_edits escape_byte digits own_request own_notification goes_nowhere editor_request editor_notification is_focused is_refresh server_notification server_request chars
it_runs = refl

-- what was registered there isn't any more
it_was_registered : registered_of (editor_part 1 there) ≡ codes "r" ∷ []
unfolding computes url_on_literals message_of named no_name_twice is_integer member_bytes with_id_text id_edits escape_byte digits own_request own_notification goes_nowhere editor_request editor_notification is_focused is_refresh server_notification server_request chars
it_was_registered = refl

it_is_taken_back : registered_of (editor_part 1 gone) ≡ []
unfolding computes url_on_literals message_of named no_name_twice is_integer member_bytes with_id_text id_edits escape_byte digits own_request own_notification goes_nowhere editor_request editor_notification is_focused is_refresh server_notification server_request chars
it_is_taken_back = refl

-- and the last list that it was sent, which wasn't empty, is
a_list_was_there : is_full 1 (codes "file:///u") there ≡ true
unfolding computes url_on_literals message_of named no_name_twice is_integer member_bytes with_id_text id_edits escape_byte digits own_request own_notification goes_nowhere editor_request editor_notification is_focused is_refresh server_notification server_request chars
a_list_was_there = refl

none_is_left : is_full 1 (codes "file:///u") gone ≡ false
unfolding computes url_on_literals message_of named no_name_twice is_integer member_bytes with_id_text id_edits escape_byte digits own_request own_notification goes_nowhere editor_request editor_notification is_focused is_refresh server_notification server_request chars
none_is_left = refl
