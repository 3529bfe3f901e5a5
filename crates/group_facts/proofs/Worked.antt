-- Legal histories of two editors, worked out by the checker.
use Rattle.std.proofs.Common.{◌≡◌, true, false, List, [], ◌∷◌, ◌++◌, codes, None, refl, ◌∙◌, ap}
use Rattle.std.specs.Fmt.{digits}
use Rattle.std.proofs.lemmas.Bool.{and_parts}
use Rattle.url.proofs.OnLiterals.{url_on_literals}
use Rattle.json.specs.Print.{escape_byte}
use Rattle.json_text.specs.Computes.{computes}
use Rattle.json_text.specs.Named.{named}
use Rattle.lsp_method.specs.Class.{own_request, own_notification, goes_nowhere, editor_request, editor_notification, is_focused, is_refresh, server_notification, server_request}
use Rattle.rpc_message.specs.Changed.{id_edits}
use Rattle.std.specs.Str.{chars}
use Rattle.mux_history.specs.declared.cause.Cause.TheVariants.{FromServer}
use Rattle.mux_history.specs.declared.cause.Cause.{Cause}
use Rattle.mux_history.specs.declared.entry.Entry.{Entry}
use Rattle.rpc_message.specs.Message.{integer, message_of, no_name_twice, is_integer, member_bytes}
use Rattle.rpc_message.specs.Texts.{with_id_text}
use Rattle.event_model.specs.Event.{Event, behind, events_of, with_cause}
use Rattle.event_model.specs.Phases.{desk_of}
use Rattle.event_model.specs.Requests.{open_of}
use Rattle.event_model.specs.Settings.{Settings}
use Rattle.mux_model.specs.Fits.{fits_behind}
use Rattle.mux_facts.proofs.Keeps.{events_more}
use Rattle.group_words.specs.Example.{with_groups}
use Rattle.group_rows.specs.AsksExample.{asked_leaves, two_asked}
use Rattle.group_rows.specs.CreatedExample.{asked_later, created_again, one_token_thrice, takers_leave, taken_by_one}
use Rattle.group_rows.specs.ListsExample.{shown_to_openers, shown_twice}
use Rattle.group_rows.specs.LiveExample.{registers}
use Rattle.group_rows.specs.TokensExample.{marking, progressing, working}
use Rattle.group_rows.specs.Example.{all_outs, both_ask, closing, switching, two_editors, two_groups}
use Rattle.group_rows.specs.Forwarded.{forwarding_of}
use Rattle.group_facts.specs.SlowExample.{few_bytes, slowing}
use Rattle.group_facts.specs.Example.{asking_again, asking_again_outs, offering_more, offering_more_outs, one_group, one_waits, played, played_from, taken_from, two_ask, one_refused}
use Rattle.group_facts.specs.Legal.{Legal, LegalFrom}
use Rattle.group_facts.specs.SlowRows.{entry_outs}

-- what is taken is legal
legal_from : (settings : Settings) (before : List Entry) (causes : List Cause) → taken_from settings (events_of before) causes ≡ true → LegalFrom settings before (played_from settings before causes)
legal_from settings before [] h = tt
legal_from settings before (cause ∷ causes) h =
    let entry : Entry = record { cause = cause; outs = entry_outs settings (events_of before) cause } in
    let later : List Event = behind (with_cause (events_of before) cause) (entry_outs settings (events_of before) cause) in
    let parts = and_parts (fits_behind (events_of before) cause) (taken_from settings later causes) h in
    (parts.0, refl, legal_from settings (before ++ entry ∷ []) causes (ap (λ z. taken_from settings z causes) (events_more before entry) ∙ parts.1))

legal : (settings : Settings) (causes : List Cause) → taken_from settings [] causes ≡ true → Legal settings (played settings causes)
legal settings causes h = legal_from settings [] causes h

both_ask_is_legal : Legal (with_groups 8) (played (with_groups 8) both_ask)
unfolding computes url_on_literals message_of named no_name_twice is_integer member_bytes with_id_text id_edits escape_byte digits own_request own_notification goes_nowhere editor_request editor_notification
both_ask_is_legal = legal (with_groups 8) both_ask refl

an_editor_that_is_slow_is_legal : Legal few_bytes (played few_bytes slowing)
unfolding computes url_on_literals message_of named no_name_twice is_integer member_bytes with_id_text id_edits escape_byte digits own_request own_notification goes_nowhere editor_request editor_notification is_focused is_refresh server_notification server_request chars
an_editor_that_is_slow_is_legal = legal few_bytes slowing refl

switching_is_legal : Legal (with_groups 8) (played (with_groups 8) switching)
unfolding computes url_on_literals message_of named no_name_twice is_integer member_bytes with_id_text id_edits escape_byte digits own_request own_notification goes_nowhere editor_request editor_notification
switching_is_legal = legal (with_groups 8) switching refl

closing_is_legal : Legal (with_groups 8) (played (with_groups 8) closing)
unfolding computes url_on_literals message_of named no_name_twice is_integer member_bytes with_id_text id_edits escape_byte digits own_request own_notification goes_nowhere editor_request editor_notification
closing_is_legal = legal (with_groups 8) closing refl

two_groups_are_legal : Legal (with_groups 8) (played (with_groups 8) two_groups)
unfolding computes url_on_literals message_of named no_name_twice is_integer member_bytes with_id_text id_edits escape_byte digits own_request own_notification goes_nowhere editor_request editor_notification
two_groups_are_legal = legal (with_groups 8) two_groups refl

one_group_is_legal : Legal (with_groups 1) (played (with_groups 1) one_group)
unfolding computes url_on_literals message_of named no_name_twice is_integer member_bytes with_id_text id_edits escape_byte digits own_request own_notification goes_nowhere editor_request editor_notification
one_group_is_legal = legal (with_groups 1) one_group refl

one_refused_is_legal : Legal (with_groups 8) (played (with_groups 8) one_refused)
unfolding computes url_on_literals message_of named no_name_twice is_integer member_bytes with_id_text id_edits escape_byte digits own_request own_notification goes_nowhere editor_request editor_notification
one_refused_is_legal = legal (with_groups 8) one_refused refl

-- Which requests are open

one_waits_is_legal : Legal (with_groups 8) (played (with_groups 8) one_waits)
unfolding computes url_on_literals message_of named no_name_twice is_integer member_bytes with_id_text id_edits escape_byte digits own_request own_notification goes_nowhere editor_request editor_notification
one_waits_is_legal = legal (with_groups 8) one_waits refl

the_first_waits : open_of 0 (events_of (played (with_groups 8) one_waits)) ≡ integer (codes "0") ∷ []
unfolding computes url_on_literals message_of named no_name_twice is_integer member_bytes with_id_text id_edits escape_byte digits own_request own_notification goes_nowhere editor_request editor_notification
the_first_waits = refl

two_ask_are_legal : Legal (with_groups 8) (played (with_groups 8) two_ask)
unfolding computes url_on_literals message_of named no_name_twice is_integer member_bytes with_id_text id_edits escape_byte digits own_request own_notification goes_nowhere editor_request editor_notification
two_ask_are_legal = legal (with_groups 8) two_ask refl

the_second_asks : open_of 1 (events_of (played (with_groups 8) two_ask)) ≡ integer (codes "1") ∷ []
unfolding computes url_on_literals message_of named no_name_twice is_integer member_bytes with_id_text id_edits escape_byte digits own_request own_notification goes_nowhere editor_request editor_notification
the_second_asks = refl

both_are_sent : (settings : Settings) → (forwarding_of settings 0 (events_of (played (with_groups 8) two_ask))).open_requests ≡ record { number = 2; editor = 0; id = codes "1"; work = None; partial = None; cancelled = false } ∷ record { number = 3; editor = 1; id = codes "1"; work = None; partial = None; cancelled = false } ∷ []
unfolding computes url_on_literals message_of named no_name_twice is_integer member_bytes with_id_text id_edits escape_byte digits own_request own_notification goes_nowhere editor_request editor_notification
both_are_sent settings = refl

-- A second `initialize`

asking_again_is_legal : Legal (with_groups 8) (played (with_groups 8) asking_again)
unfolding computes url_on_literals message_of named no_name_twice is_integer member_bytes with_id_text id_edits escape_byte digits own_request own_notification goes_nowhere editor_request editor_notification
asking_again_is_legal = legal (with_groups 8) asking_again refl

it_is_refused : all_outs asking_again ≡ asking_again_outs
unfolding computes url_on_literals message_of named no_name_twice is_integer member_bytes with_id_text id_edits escape_byte digits own_request own_notification goes_nowhere editor_request editor_notification
it_is_refused = refl

its_first_is_kept : message_of (desk_of 0 (events_of (played (with_groups 8) asking_again))).initialize ≡ message_of (codes "{\"jsonrpc\":\"2.0\",\"id\":0,\"method\":\"initialize\",\"params\":{\"rootUri\":\"file:///w\",\"capabilities\":{}}}")
unfolding computes url_on_literals message_of named no_name_twice is_integer member_bytes with_id_text id_edits escape_byte digits own_request own_notification goes_nowhere editor_request editor_notification
its_first_is_kept = refl

-- A server that offers more than the multiplexer serves

offering_more_is_legal : Legal (with_groups 8) (played (with_groups 8) offering_more)
unfolding computes url_on_literals message_of named no_name_twice is_integer member_bytes with_id_text id_edits escape_byte digits own_request own_notification goes_nowhere editor_request editor_notification
offering_more_is_legal = legal (with_groups 8) offering_more refl

the_rest_is_shown : all_outs offering_more ≡ offering_more_outs
unfolding computes url_on_literals message_of named no_name_twice is_integer member_bytes with_id_text id_edits escape_byte digits own_request own_notification goes_nowhere editor_request editor_notification
the_rest_is_shown = refl

-- What a start asks

two_asked_are_legal : Legal (with_groups 8) (played (with_groups 8) (two_editors ++ two_asked))
unfolding computes url_on_literals message_of named no_name_twice is_integer member_bytes with_id_text id_edits escape_byte digits own_request own_notification goes_nowhere editor_request editor_notification is_focused is_refresh server_notification server_request chars
two_asked_are_legal = legal (with_groups 8) (two_editors ++ two_asked) refl

asked_leaves_is_legal : Legal (with_groups 8) (played (with_groups 8) (two_editors ++ asked_leaves))
unfolding computes url_on_literals message_of named no_name_twice is_integer member_bytes with_id_text id_edits escape_byte digits own_request own_notification goes_nowhere editor_request editor_notification is_focused is_refresh server_notification server_request chars
asked_leaves_is_legal = legal (with_groups 8) (two_editors ++ asked_leaves) refl

registers_is_legal : Legal (with_groups 8) (played (with_groups 8) (two_editors ++ registers))
unfolding computes url_on_literals message_of named no_name_twice is_integer member_bytes with_id_text id_edits escape_byte digits own_request own_notification goes_nowhere editor_request editor_notification is_focused is_refresh server_notification server_request chars
registers_is_legal = legal (with_groups 8) (two_editors ++ registers) refl

marked_are_legal : Legal (with_groups 8) (played (with_groups 8) (two_editors ++ (marking ++ progressing)))
unfolding computes url_on_literals message_of named no_name_twice is_integer member_bytes with_id_text id_edits escape_byte digits own_request own_notification goes_nowhere editor_request editor_notification is_focused is_refresh server_notification server_request chars
marked_are_legal = legal (with_groups 8) (two_editors ++ (marking ++ progressing)) refl

work_is_legal : Legal (with_groups 8) (played (with_groups 8) (two_editors ++ (marking ++ working)))
unfolding computes url_on_literals message_of named no_name_twice is_integer member_bytes with_id_text id_edits escape_byte digits own_request own_notification goes_nowhere editor_request editor_notification is_focused is_refresh server_notification server_request chars
work_is_legal = legal (with_groups 8) (two_editors ++ (marking ++ working)) refl

taken_by_one_is_legal : Legal (with_groups 8) (played (with_groups 8) (two_editors ++ taken_by_one))
unfolding computes url_on_literals message_of named no_name_twice is_integer member_bytes with_id_text id_edits escape_byte digits own_request own_notification goes_nowhere editor_request editor_notification is_focused is_refresh server_notification server_request chars
taken_by_one_is_legal = legal (with_groups 8) (two_editors ++ taken_by_one) refl

created_again_is_legal : Legal (with_groups 8) (played (with_groups 8) (two_editors ++ created_again))
unfolding computes url_on_literals message_of named no_name_twice is_integer member_bytes with_id_text id_edits escape_byte digits own_request own_notification goes_nowhere editor_request editor_notification is_focused is_refresh server_notification server_request chars
created_again_is_legal = legal (with_groups 8) (two_editors ++ created_again) refl

asked_later_is_legal : Legal (with_groups 8) (played (with_groups 8) (two_editors ++ asked_later))
unfolding computes url_on_literals message_of named no_name_twice is_integer member_bytes with_id_text id_edits escape_byte digits own_request own_notification goes_nowhere editor_request editor_notification is_focused is_refresh server_notification server_request chars
asked_later_is_legal = legal (with_groups 8) (two_editors ++ asked_later) refl

one_token_thrice_is_legal : Legal (with_groups 8) (played (with_groups 8) (two_editors ++ one_token_thrice))
unfolding computes url_on_literals message_of named no_name_twice is_integer member_bytes with_id_text id_edits escape_byte digits own_request own_notification goes_nowhere editor_request editor_notification is_focused is_refresh server_notification server_request chars
one_token_thrice_is_legal = legal (with_groups 8) (two_editors ++ one_token_thrice) refl

takers_leave_is_legal : Legal (with_groups 8) (played (with_groups 8) (two_editors ++ takers_leave))
unfolding computes url_on_literals message_of named no_name_twice is_integer member_bytes with_id_text id_edits escape_byte digits own_request own_notification goes_nowhere editor_request editor_notification is_focused is_refresh server_notification server_request chars
takers_leave_is_legal = legal (with_groups 8) (two_editors ++ takers_leave) refl

lists_are_legal : Legal (with_groups 8) (played (with_groups 8) (two_editors ++ shown_to_openers))
unfolding computes url_on_literals message_of named no_name_twice is_integer member_bytes with_id_text id_edits escape_byte digits own_request own_notification goes_nowhere editor_request editor_notification is_focused is_refresh server_notification server_request chars
lists_are_legal = legal (with_groups 8) (two_editors ++ shown_to_openers) refl

lists_of_one_begun_are_legal : Legal (with_groups 8) (played (with_groups 8) (two_editors ++ shown_twice))
unfolding computes url_on_literals message_of named no_name_twice is_integer member_bytes with_id_text id_edits escape_byte digits own_request own_notification goes_nowhere editor_request editor_notification is_focused is_refresh server_notification server_request chars
lists_of_one_begun_are_legal = legal (with_groups 8) (two_editors ++ shown_twice) refl

an_edit_is_built : taken_from (with_groups 8) [] (two_editors ++ FromServer 0 (codes "{\"jsonrpc\":\"2.0\",\"id\":7,\"method\":\"workspace/applyEdit\"}") ∷ []) ≡ true
unfolding computes url_on_literals message_of named no_name_twice is_integer member_bytes with_id_text id_edits escape_byte digits own_request own_notification goes_nowhere editor_request editor_notification is_focused is_refresh server_notification server_request chars
an_edit_is_built = refl
