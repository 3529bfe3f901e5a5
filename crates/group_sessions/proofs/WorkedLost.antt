-- What editors are due as the program of their group's last start ends, worked out by the checker: it is what they are sent.
use Rattle.std.proofs.Common.{◌≡◌, ℕ, List, [], ◌∷◌, refl}
use Rattle.std.specs.Prelude.{codes}
use Rattle.std.specs.Fmt.{digits}
use Rattle.std.specs.Str.{chars}
use Rattle.url.proofs.OnLiterals.{url_on_literals}
use Rattle.json.specs.Print.{escape_byte}
use Rattle.json_text.specs.Computes.{computes}
use Rattle.json_text.specs.Named.{named}
use Rattle.lsp_method.specs.Class.{own_request, own_notification, goes_nowhere, editor_request, editor_notification, is_focused, is_refresh, server_notification, server_request}
use Rattle.rpc_message.specs.Changed.{id_edits}
use Rattle.rpc_message.specs.Message.{message_of, no_name_twice, is_integer, member_bytes}
use Rattle.rpc_message.specs.Texts.{with_id_text}
use Rattle.mux_history.specs.declared.cause.Cause.TheVariants.{ServerGone}
use Rattle.event_model.specs.Event.{Event, behind, with_cause}
use Rattle.event_model.specs.Settings.{Settings}
use Rattle.group_words.specs.Example.{with_groups}
use Rattle.group_rows.specs.Example.{events_behind}
use Rattle.group_rows.specs.ExitExample.{at_work, lost}
use Rattle.group_rows.specs.ListsExample.{list_text}
use Rattle.group_rows.specs.Rows.{outs_of}
use Rattle.group_facts.specs.SlowRows.{entry_outs}
use Rattle.group_sessions.specs.Due.{progress_due, progress_sent}
use Rattle.group_sessions.specs.LastLists.{lists_due, lists_to}

-- no start comes again
abbrev once : Settings
once = record { limits = record (with_groups 8).limits { restarts = 0 }; servers = (with_groups 8).servers; default = 0 }

abbrev gone : List Event
gone = events_behind once [] lost

-- the token had begun at the editor that took it
abbrev begun_and_ended : List (List ℕ)
begun_and_ended =
    codes "{\"jsonrpc\":\"2.0\",\"method\":\"$/progress\",\"params\":{\"token\":\"lspmux:0:1\",\"value\":{\"kind\":\"begin\",\"title\":\"x\"}}}"
    ∷ codes "{\"jsonrpc\":\"2.0\",\"method\":\"$/progress\",\"params\":{\"token\":\"lspmux:0:1\",\"value\":{\"kind\":\"end\"}}}"
    ∷ []

its_end_is_due : progress_due once 0 1 0 gone ≡ begun_and_ended
unfolding computes url_on_literals message_of named no_name_twice is_integer member_bytes with_id_text id_edits escape_byte digits own_request own_notification goes_nowhere editor_request editor_notification is_focused is_refresh server_notification server_request chars
its_end_is_due = refl

its_end_was_sent : progress_sent 0 1 0 gone ≡ begun_and_ended
unfolding computes url_on_literals message_of named no_name_twice is_integer member_bytes with_id_text id_edits escape_byte digits own_request own_notification goes_nowhere editor_request editor_notification is_focused is_refresh server_notification server_request chars
its_end_was_sent = refl

-- the other one didn't answer
no_end_is_due : progress_due once 0 1 1 gone ≡ []
unfolding computes url_on_literals message_of named no_name_twice is_integer member_bytes with_id_text id_edits escape_byte digits own_request own_notification goes_nowhere editor_request editor_notification is_focused is_refresh server_notification server_request chars
no_end_is_due = refl

-- each had the document's list, which isn't empty
abbrev there : List Event
there = events_behind once [] at_work

an_empty_list_is_due : lists_due once 1 there (ServerGone 0) (behind (with_cause there (ServerGone 0)) (outs_of once there (ServerGone 0))) ≡ list_text (codes "{\"uri\":\"file:///u\",\"diagnostics\":[]}") ∷ []
unfolding computes url_on_literals message_of named no_name_twice is_integer member_bytes with_id_text id_edits escape_byte digits own_request own_notification goes_nowhere editor_request editor_notification is_focused is_refresh server_notification server_request chars
an_empty_list_is_due = refl

an_empty_list_is_sent : lists_to 1 (entry_outs once there (ServerGone 0)) ≡ list_text (codes "{\"uri\":\"file:///u\",\"diagnostics\":[]}") ∷ []
unfolding computes url_on_literals message_of named no_name_twice is_integer member_bytes with_id_text id_edits escape_byte digits own_request own_notification goes_nowhere editor_request editor_notification is_focused is_refresh server_notification server_request chars
an_empty_list_is_sent = refl
