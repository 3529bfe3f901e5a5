-- What editors are due of a token that a start created, worked out by the checker: it is what they were sent.
use Rattle.std.proofs.Common.{◌≡◌, ℕ, List, [], ◌∷◌, refl}
use Rattle.std.specs.Prelude.{codes}
use Rattle.std.specs.Fmt.{digits}
use Rattle.std.specs.Str.{chars}
use Rattle.url.proofs.OnLiterals.{url_on_literals}
use Rattle.json.specs.Print.{escape_byte}
use Rattle.json_text.specs.Computes.{computes}
use Rattle.json_text.specs.Named.{named}
use Rattle.lsp_method.specs.Class.{own_request, own_notification, goes_nowhere, editor_request, editor_notification, is_focused, is_refresh, server_notification, server_request}
use Rattle.rpc_message.specs.Changed.{id_edits}
use Rattle.rpc_message.specs.Message.{message_of, no_name_twice, is_integer, member_bytes}
use Rattle.rpc_message.specs.Texts.{with_id_text}
use Rattle.event_model.specs.Event.{Event}
use Rattle.group_words.specs.Example.{with_groups}
use Rattle.group_rows.specs.AsksExample.{two_run}
use Rattle.group_rows.specs.CreatedExample.{asked_later, taken_by_one}
use Rattle.group_rows.specs.Example.{events_behind}
use Rattle.group_sessions.specs.Due.{progress_due, progress_sent}

abbrev one_taken : List Event
one_taken = events_behind (with_groups 8) two_run taken_by_one

abbrev three_told : List (List ℕ)
three_told =
    codes "{\"jsonrpc\":\"2.0\",\"method\":\"$/progress\",\"params\":{\"token\":\"lspmux:0:1\",\"value\":{\"kind\":\"begin\",\"title\":\"x\"}}}"
    ∷ codes "{\"jsonrpc\":\"2.0\",\"method\":\"$/progress\",\"params\":{\"token\":\"lspmux:0:1\",\"value\":{\"kind\":\"report\"}}}"
    ∷ codes "{\"jsonrpc\":\"2.0\",\"method\":\"$/progress\",\"params\":{\"token\":\"lspmux:0:1\",\"value\":{\"kind\":\"end\"}}}"
    ∷ []

this_is_due : progress_due (with_groups 8) 0 1 0 one_taken ≡ three_told
unfolding computes url_on_literals message_of named no_name_twice is_integer member_bytes with_id_text id_edits escape_byte digits own_request own_notification goes_nowhere editor_request editor_notification is_focused is_refresh server_notification server_request chars
this_is_due = refl

this_was_sent : progress_sent 0 1 0 one_taken ≡ three_told
unfolding computes url_on_literals message_of named no_name_twice is_integer member_bytes with_id_text id_edits escape_byte digits own_request own_notification goes_nowhere editor_request editor_notification is_focused is_refresh server_notification server_request chars
this_was_sent = refl

-- the other one refused it
nothing_is_due : progress_due (with_groups 8) 0 1 1 one_taken ≡ []
unfolding computes url_on_literals message_of named no_name_twice is_integer member_bytes with_id_text id_edits escape_byte digits own_request own_notification goes_nowhere editor_request editor_notification is_focused is_refresh server_notification server_request chars
nothing_is_due = refl

-- an editor that began to run later accepts the second token, behind the report that came since it was asked
abbrev later_taken : List Event
later_taken = events_behind (with_groups 8) two_run asked_later

abbrev first_begun : List (List ℕ)
first_begun =
    codes "{\"jsonrpc\":\"2.0\",\"method\":\"$/progress\",\"params\":{\"token\":\"lspmux:0:2\",\"value\":{\"kind\":\"begin\",\"title\":\"x\"}}}"
    ∷ codes "{\"jsonrpc\":\"2.0\",\"method\":\"$/progress\",\"params\":{\"token\":\"lspmux:0:2\",\"value\":{\"kind\":\"report\",\"percentage\":9}}}"
    ∷ codes "{\"jsonrpc\":\"2.0\",\"method\":\"$/progress\",\"params\":{\"token\":\"lspmux:0:2\",\"value\":{\"kind\":\"end\"}}}"
    ∷ []

its_begin_is_due : progress_due (with_groups 8) 0 2 2 later_taken ≡ first_begun
unfolding computes url_on_literals message_of named no_name_twice is_integer member_bytes with_id_text id_edits escape_byte digits own_request own_notification goes_nowhere editor_request editor_notification is_focused is_refresh server_notification server_request chars
its_begin_is_due = refl

its_begin_was_sent : progress_sent 0 2 2 later_taken ≡ first_begun
unfolding computes url_on_literals message_of named no_name_twice is_integer member_bytes with_id_text id_edits escape_byte digits own_request own_notification goes_nowhere editor_request editor_notification is_focused is_refresh server_notification server_request chars
its_begin_was_sent = refl
