-- Which lists of diagnostics editors are due, worked out by the checker: they are what they were sent.
use Rattle.std.proofs.Common.{◌≡◌, ℕ, List, [], ◌∷◌, refl}
use Rattle.std.specs.Prelude.{codes}
use Rattle.std.specs.Fmt.{digits}
use Rattle.std.specs.Str.{chars}
use Rattle.url.proofs.OnLiterals.{url_on_literals}
use Rattle.json.specs.Print.{escape_byte}
use Rattle.json_text.specs.Computes.{computes}
use Rattle.json_text.specs.Named.{named}
use Rattle.lsp_method.specs.Class.{own_request, own_notification, goes_nowhere, editor_request, editor_notification, is_focused, is_refresh, server_notification, server_request}
use Rattle.rpc_message.specs.Changed.{id_edits}
use Rattle.rpc_message.specs.Message.{message_of, no_name_twice, is_integer, member_bytes}
use Rattle.rpc_message.specs.Texts.{with_id_text}
use Rattle.mux_history.specs.declared.cause.Cause.{Cause}
use Rattle.mux_history.specs.declared.cause.Cause.TheVariants.{FromEditor, FromServer, Joined}
use Rattle.event_model.specs.Event.{Event, behind, with_cause}
use Rattle.group_words.specs.Example.{with_groups}
use Rattle.group_rows.specs.AsksExample.{two_run}
use Rattle.group_rows.specs.Example.{events_behind}
use Rattle.group_rows.specs.ListsExample.{list_text, open_text}
use Rattle.group_rows.specs.Rows.{outs_of}
use Rattle.group_sessions.specs.LastLists.{lists_due, lists_to}
use Rattle.group_facts.specs.SlowRows.{entry_outs}

abbrev sent : ℕ → List Event → Cause → List (List ℕ)
sent e before cause = lists_to e (entry_outs (with_groups 8) before cause)

abbrev is_due : ℕ → List Event → Cause → List (List ℕ)
is_due e before cause = lists_due (with_groups 8) e before cause (behind (with_cause before cause) (outs_of (with_groups 8) before cause))

-- the first editor has a document open, and a list of it comes: each of the two is due it, the one with its own version, the other with none
abbrev one_open : List Event
one_open = events_behind (with_groups 8) two_run (FromEditor 0 (open_text (codes "{\"uri\":\"file:///u\",\"languageId\":\"x\",\"version\":5,\"text\":\"a\"}")) ∷ [])

abbrev its_list : Cause
its_list = FromServer 0 (list_text (codes "{\"uri\":\"file:///u\",\"version\":1,\"diagnostics\":[{}]}"))

own_version_is_due : is_due 0 one_open its_list ≡ list_text (codes "{\"uri\":\"file:///u\",\"version\":5,\"diagnostics\":[{}]}") ∷ []
unfolding computes url_on_literals message_of named no_name_twice is_integer member_bytes with_id_text id_edits escape_byte digits own_request own_notification goes_nowhere editor_request editor_notification is_focused is_refresh server_notification server_request chars
own_version_is_due = refl

own_version_was_sent : sent 0 one_open its_list ≡ list_text (codes "{\"uri\":\"file:///u\",\"version\":5,\"diagnostics\":[{}]}") ∷ []
unfolding computes url_on_literals message_of named no_name_twice is_integer member_bytes with_id_text id_edits escape_byte digits own_request own_notification goes_nowhere editor_request editor_notification is_focused is_refresh server_notification server_request chars
own_version_was_sent = refl

no_version_is_due : is_due 1 one_open its_list ≡ list_text (codes "{\"uri\":\"file:///u\",\"diagnostics\":[{}]}") ∷ []
unfolding computes url_on_literals message_of named no_name_twice is_integer member_bytes with_id_text id_edits escape_byte digits own_request own_notification goes_nowhere editor_request editor_notification is_focused is_refresh server_notification server_request chars
no_version_is_due = refl

-- a third editor begins to run by opening the document with that text: it is due the list as one that hasn't it open, and then with its own version; the first one is due none
abbrev a_third : List Event
a_third = events_behind (with_groups 8) one_open (its_list
    ∷ Joined 2
    ∷ FromEditor 2 (codes "{\"jsonrpc\":\"2.0\",\"id\":0,\"method\":\"initialize\",\"params\":{\"rootUri\":\"file:///w\",\"capabilities\":{}}}")
    ∷ [])

abbrev it_opens : Cause
it_opens = FromEditor 2 (open_text (codes "{\"uri\":\"file:///u\",\"languageId\":\"x\",\"version\":7,\"text\":\"a\"}"))

abbrev both_lists : List (List ℕ)
both_lists = list_text (codes "{\"uri\":\"file:///u\",\"diagnostics\":[{}]}") ∷ list_text (codes "{\"uri\":\"file:///u\",\"version\":7,\"diagnostics\":[{}]}") ∷ []

both_are_due : is_due 2 a_third it_opens ≡ both_lists
unfolding computes url_on_literals message_of named no_name_twice is_integer member_bytes with_id_text id_edits escape_byte digits own_request own_notification goes_nowhere editor_request editor_notification is_focused is_refresh server_notification server_request chars
both_are_due = refl

both_were_sent : sent 2 a_third it_opens ≡ both_lists
unfolding computes url_on_literals message_of named no_name_twice is_integer member_bytes with_id_text id_edits escape_byte digits own_request own_notification goes_nowhere editor_request editor_notification is_focused is_refresh server_notification server_request chars
both_were_sent = refl

none_is_due : is_due 0 a_third it_opens ≡ []
unfolding computes url_on_literals message_of named no_name_twice is_integer member_bytes with_id_text id_edits escape_byte digits own_request own_notification goes_nowhere editor_request editor_notification is_focused is_refresh server_notification server_request chars
none_is_due = refl
