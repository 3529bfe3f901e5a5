-- What the routing table gives over two editors and over two groups, worked out by the checker.
use Rattle.std.proofs.Common.{◌≡◌, ℕ, List, [], ◌∷◌, codes, refl, flat_map, map, drop}
use Rattle.std.specs.Prelude.{Some}
use Rattle.std.specs.Fmt.{digits}
use Rattle.std.specs.Str.{chars}
use Rattle.url.proofs.OnLiterals.{url_on_literals}
use Rattle.json.specs.Print.{escape_byte}
use Rattle.json_text.specs.Computes.{computes}
use Rattle.json_text.specs.Named.{named}
use Rattle.lsp_method.specs.Class.{own_request, own_notification, goes_nowhere, editor_request, editor_notification}
use Rattle.position_codec.specs.declared.Encoding.TheVariants.{Utf8, Utf16}
use Rattle.rpc_message.specs.Changed.{id_edits}
use Rattle.rpc_message.specs.Message.{message_of, no_name_twice, is_integer, member_bytes}
use Rattle.rpc_message.specs.Texts.{with_id_text}
use Rattle.group_words.specs.Example.{with_groups}
use Rattle.group_rows.specs.Example.{all_outs, events_behind, too_early, too_early_outs, refused_early, refused_early_outs, wrong_names, wrong_names_outs, two_editors, two_editors_outs, both_ask, both_ask_outs, switching, switching_outs, changing, changing_outs, closing, closing_outs, two_groups, an_exit, texts_in, touches_in, one_cancelled, left_outs, parting, parting_outs, links_end, links_end_outs, asking_status, asking_status_outs, opening_servers, opening_servers_outs, opening_late, opening_late_out, two_servers, evicted, evicted_outs, outs_with, before_refusal, refusing, refusing_outs, outs_behind, idling, idling_outs, ticks_behind, end_outs, late_outs, two_languages, two_languages_outs, notifying, notifying_outs}
use Rattle.mux_history.specs.declared.out.Out.TheVariants.{ToServer}
use Rattle.event_model.specs.declared.phase.Phase.TheVariants.{Answered}
use Rattle.event_model.specs.Event.{Event}
use Rattle.event_model.specs.Phases.{desk_of}
use Rattle.group_words.specs.Houses.{home_of}
use Rattle.group_rows.specs.Rows.{outs_from}
use Rattle.registrations.specs.mux_model.specs.Documents.{held_at}
use Rattle.group_rows.specs.Leaves.{leave_bodies}
use Rattle.group_rows.specs.Texts.{encoding_of, texts_of}

requests_come_too_early : all_outs too_early ≡ too_early_outs
unfolding computes url_on_literals message_of named no_name_twice is_integer member_bytes with_id_text id_edits escape_byte digits own_request own_notification goes_nowhere editor_request editor_notification
requests_come_too_early = refl

requests_that_are_not_taken : all_outs refused_early ≡ refused_early_outs
unfolding computes url_on_literals message_of named no_name_twice is_integer member_bytes with_id_text id_edits escape_byte digits own_request own_notification goes_nowhere editor_request editor_notification
requests_that_are_not_taken = refl

names_of_notifications : all_outs wrong_names ≡ wrong_names_outs
unfolding computes url_on_literals message_of named no_name_twice is_integer member_bytes with_id_text id_edits escape_byte digits own_request own_notification goes_nowhere editor_request editor_notification
names_of_notifications = refl

two_editors_share_a_start : all_outs two_editors ≡ two_editors_outs
unfolding computes url_on_literals message_of named no_name_twice is_integer member_bytes with_id_text id_edits escape_byte digits own_request own_notification goes_nowhere editor_request editor_notification
two_editors_share_a_start = refl

both_are_answered : all_outs both_ask ≡ both_ask_outs
unfolding computes url_on_literals message_of named no_name_twice is_integer member_bytes with_id_text id_edits escape_byte digits own_request own_notification goes_nowhere editor_request editor_notification
both_are_answered = refl

the_start_is_switched : all_outs switching ≡ switching_outs
unfolding computes url_on_literals message_of named no_name_twice is_integer member_bytes with_id_text id_edits escape_byte digits own_request own_notification goes_nowhere editor_request editor_notification
the_start_is_switched = refl

notifications_go_on : all_outs notifying ≡ notifying_outs
unfolding computes url_on_literals message_of named no_name_twice is_integer member_bytes with_id_text id_edits escape_byte digits own_request own_notification goes_nowhere editor_request editor_notification
notifications_go_on = refl

a_notification_touches : touches_in (texts_of (with_groups 8) 0 (events_behind (with_groups 8) [] notifying)).opens ≡ 2 ∷ 3 ∷ []
unfolding computes url_on_literals message_of named no_name_twice is_integer member_bytes with_id_text id_edits escape_byte digits own_request own_notification goes_nowhere editor_request editor_notification
a_notification_touches = refl

changes_of_two_texts : all_outs changing ≡ changing_outs
unfolding computes url_on_literals message_of named no_name_twice is_integer member_bytes with_id_text id_edits escape_byte digits own_request own_notification goes_nowhere editor_request editor_notification chars
changes_of_two_texts = refl

the_holder_counts : all_outs closing ≡ closing_outs
unfolding computes url_on_literals message_of named no_name_twice is_integer member_bytes with_id_text id_edits escape_byte digits own_request own_notification goes_nowhere editor_request editor_notification
the_holder_counts = refl

a_request_touches : touches_in (texts_of (with_groups 8) 0 (events_behind (with_groups 8) [] switching)).opens ≡ 2 ∷ 4 ∷ []
unfolding computes url_on_literals message_of named no_name_twice is_integer member_bytes with_id_text id_edits escape_byte digits own_request own_notification goes_nowhere editor_request editor_notification
a_request_touches = refl

texts_of_the_first_group : texts_in (texts_of (with_groups 8) 0 (events_behind (with_groups 8) [] two_groups)).opens ≡ codes "a" ∷ []
unfolding computes url_on_literals message_of named no_name_twice is_integer member_bytes with_id_text id_edits escape_byte digits own_request own_notification goes_nowhere editor_request editor_notification
texts_of_the_first_group = refl

texts_of_the_second_group : texts_in (texts_of (with_groups 8) 1 (events_behind (with_groups 8) [] two_groups)).opens ≡ codes "b" ∷ []
unfolding computes url_on_literals message_of named no_name_twice is_integer member_bytes with_id_text id_edits escape_byte digits own_request own_notification goes_nowhere editor_request editor_notification
texts_of_the_second_group = refl

each_group_has_its_encoding : encoding_of 1 (events_behind (with_groups 8) [] two_groups) ≡ Some Utf16
unfolding computes url_on_literals message_of named no_name_twice is_integer member_bytes with_id_text id_edits escape_byte digits own_request own_notification goes_nowhere editor_request editor_notification
each_group_has_its_encoding = refl

the_encoding_outlives_the_start : encoding_of 0 an_exit ≡ Some Utf8
unfolding computes url_on_literals message_of named no_name_twice is_integer member_bytes with_id_text id_edits escape_byte digits own_request own_notification goes_nowhere editor_request editor_notification
the_encoding_outlives_the_start = refl

-- what a start is told where an editor of its group leaves
abbrev left_bodies : ℕ → ℕ → ℕ → List Event → List (List ℕ)
left_bodies g s e events = let os = (texts_of (with_groups 8) g events).opens in leave_bodies (with_groups 8).limits.versions (λ u. held_at s u events) e os os

the_holder_leaves : left_bodies 0 0 1 (events_behind (with_groups 8) [] switching) ≡ codes "{\"jsonrpc\":\"2.0\",\"method\":\"textDocument/didChange\",\"params\":{\"textDocument\":{\"uri\":\"file:///u\",\"version\":5},\"contentChanges\":[{\"text\":\"a\"}]}}" ∷ []
unfolding computes url_on_literals message_of named no_name_twice is_integer member_bytes with_id_text id_edits escape_byte digits own_request own_notification goes_nowhere editor_request editor_notification
the_holder_leaves = refl

another_editor_leaves : left_bodies 0 0 0 (events_behind (with_groups 8) [] switching) ≡ []
unfolding computes url_on_literals message_of named no_name_twice is_integer member_bytes with_id_text id_edits escape_byte digits own_request own_notification goes_nowhere editor_request editor_notification
another_editor_leaves = refl

the_last_one_leaves : left_bodies 1 1 1 (events_behind (with_groups 8) [] two_groups) ≡ codes "{\"jsonrpc\":\"2.0\",\"method\":\"textDocument/didClose\",\"params\":{\"textDocument\":{\"uri\":\"file:///u\"}}}" ∷ []
unfolding computes url_on_literals message_of named no_name_twice is_integer member_bytes with_id_text id_edits escape_byte digits own_request own_notification goes_nowhere editor_request editor_notification
the_last_one_leaves = refl

its_open_requests_are_cancelled : left_outs 0 one_cancelled
    ≡ ToServer 0 (codes "{\"jsonrpc\":\"2.0\",\"method\":\"$/cancelRequest\",\"params\":{\"id\":4}}")
    ∷ ToServer 0 (codes "{\"jsonrpc\":\"2.0\",\"method\":\"textDocument/didClose\",\"params\":{\"textDocument\":{\"uri\":\"file:///u\"}}}")
    ∷ []
unfolding computes url_on_literals message_of named no_name_twice is_integer member_bytes with_id_text id_edits escape_byte digits own_request own_notification goes_nowhere editor_request editor_notification
its_open_requests_are_cancelled = refl

editors_part : all_outs parting ≡ parting_outs
unfolding computes url_on_literals message_of named no_name_twice is_integer member_bytes with_id_text id_edits escape_byte digits own_request own_notification goes_nowhere editor_request editor_notification
editors_part = refl

leaving_where_a_link_ends : all_outs links_end ≡ links_end_outs
unfolding computes url_on_literals message_of named no_name_twice is_integer member_bytes with_id_text id_edits escape_byte digits own_request own_notification goes_nowhere editor_request editor_notification
leaving_where_a_link_ends = refl

statuses_are_told : all_outs asking_status ≡ asking_status_outs
unfolding computes url_on_literals message_of named no_name_twice is_integer member_bytes with_id_text id_edits escape_byte digits own_request own_notification goes_nowhere editor_request editor_notification chars
statuses_are_told = refl

another_server_is_meant : flat_map (λ xs. xs) (outs_from two_servers [] opening_servers) ≡ opening_servers_outs
unfolding computes url_on_literals message_of named no_name_twice is_integer member_bytes with_id_text id_edits escape_byte digits own_request own_notification goes_nowhere editor_request editor_notification
another_server_is_meant = refl

it_makes_another_group : map (λ e. home_of two_servers e (events_behind two_servers [] (opening_servers))) (0 ∷ 1 ∷ 2 ∷ []) ≡ Some 0 ∷ Some 1 ∷ Some 0 ∷ []
unfolding computes url_on_literals message_of named no_name_twice is_integer member_bytes with_id_text id_edits escape_byte digits own_request own_notification goes_nowhere editor_request editor_notification
it_makes_another_group = refl

opening_late_is_refused : drop 4 (flat_map (λ xs. xs) (outs_from two_servers [] opening_late)) ≡ opening_late_out ∷ []
unfolding computes url_on_literals message_of named no_name_twice is_integer member_bytes with_id_text id_edits escape_byte digits own_request own_notification goes_nowhere editor_request editor_notification
opening_late_is_refused = refl

it_still_is_answered : (desk_of 0 (events_behind two_servers [] opening_late)).phase ≡ Answered
unfolding computes url_on_literals message_of named no_name_twice is_integer member_bytes with_id_text id_edits escape_byte digits own_request own_notification goes_nowhere editor_request editor_notification
it_still_is_answered = refl

a_group_ends_for_another : outs_with 1 evicted ≡ evicted_outs
unfolding computes url_on_literals message_of named no_name_twice is_integer member_bytes with_id_text id_edits escape_byte digits own_request own_notification goes_nowhere editor_request editor_notification
a_group_ends_for_another = refl

a_start_refuses_its_initialize : outs_behind before_refusal refusing ≡ refusing_outs
unfolding computes url_on_literals message_of named no_name_twice is_integer member_bytes with_id_text id_edits escape_byte digits own_request own_notification goes_nowhere editor_request editor_notification
a_start_refuses_its_initialize = refl

an_idle_group_ends : all_outs idling ≡ idling_outs
unfolding computes url_on_literals message_of named no_name_twice is_integer member_bytes with_id_text id_edits escape_byte digits own_request own_notification goes_nowhere editor_request editor_notification
an_idle_group_ends = refl

groups_end_at_one_tick : ticks_behind 5 ≡ [] ∷ end_outs ∷ [] ∷ late_outs ∷ [] ∷ []
unfolding computes url_on_literals message_of named no_name_twice is_integer member_bytes with_id_text id_edits escape_byte digits own_request own_notification goes_nowhere editor_request editor_notification
groups_end_at_one_tick = refl

-- without a time to wait for the answer a program is ended by the next tick, though it is a smaller one
a_smaller_tick_is_looked_at : ticks_behind 0 ≡ [] ∷ end_outs ∷ late_outs ∷ [] ∷ [] ∷ []
unfolding computes url_on_literals message_of named no_name_twice is_integer member_bytes with_id_text id_edits escape_byte digits own_request own_notification goes_nowhere editor_request editor_notification
a_smaller_tick_is_looked_at = refl

-- the language belongs to what a start has of a document

a_document_in_two_languages : all_outs two_languages ≡ two_languages_outs
unfolding computes url_on_literals message_of named no_name_twice is_integer member_bytes with_id_text id_edits escape_byte digits own_request own_notification goes_nowhere editor_request editor_notification
a_document_in_two_languages = refl
