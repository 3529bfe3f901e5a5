-- Requests that wait until a start is ready, worked out by the checker.
use Rattle.std.proofs.Common.{◌≡◌, ℕ, zero, suc, List, [], ◌∷◌, ◌++◌, length, codes, flat_map, refl}
use Rattle.std.specs.Fmt.{digits}
use Rattle.std.specs.Str.{chars}
use Rattle.url.proofs.OnLiterals.{url_on_literals}
use Rattle.json.specs.Print.{escape_byte}
use Rattle.json_text.specs.Computes.{computes}
use Rattle.json_text.specs.Named.{named}
use Rattle.mux_history.specs.declared.cause.Cause.TheVariants.{FromEditor, ServerGone}
use Rattle.lsp_method.specs.Class.{own_request, own_notification, goes_nowhere, editor_request, editor_notification, is_focused, is_refresh, server_notification, server_request}
use Rattle.rpc_message.specs.Changed.{id_edits}
use Rattle.rpc_message.specs.Message.{message_of, no_name_twice, is_integer, member_bytes}
use Rattle.rpc_message.specs.Texts.{with_id_text}
use Rattle.event_model.specs.Event.{Event, heard}
use Rattle.event_model.specs.Settings.{Settings}
use Rattle.held_requests.specs.declared.request.Request.{Request}
use Rattle.held_requests.specs.Tables.{asked}
use Rattle.group_rows.specs.Example.{events_behind, two_editors}
use Rattle.group_rows.specs.Rows.{outs_from}
use Rattle.group_rows.specs.Waiting.{waiting_next}
use Rattle.group_rows.specs.WaitingExample.{held_apart, held_apart_outs, held_back, held_back_outs, held_down, held_down_outs, held_few, held_few_outs, held_refused, held_refused_outs, held_stopped, held_stopped_outs, held_texts, held_texts_outs, lost_again, lost_and_back, lost_and_back_outs, lost_at_last_outs}
use Rattle.group_rows.proofs.WorkedExits.{outs_by, restarting}

one_waits_and_one_is_cancelled : outs_by 1 held_back ≡ held_back_outs
unfolding computes url_on_literals message_of named no_name_twice is_integer member_bytes with_id_text id_edits escape_byte digits own_request own_notification goes_nowhere editor_request editor_notification is_focused is_refresh server_notification server_request chars
one_waits_and_one_is_cancelled = refl

each_behind_its_own_texts : outs_by 1 held_texts ≡ held_texts_outs
unfolding computes url_on_literals message_of named no_name_twice is_integer member_bytes with_id_text id_edits escape_byte digits own_request own_notification goes_nowhere editor_request editor_notification is_focused is_refresh server_notification server_request chars
each_behind_its_own_texts = refl

refused_before_it_goes_down : outs_by 1 held_down ≡ held_down_outs
unfolding computes url_on_literals message_of named no_name_twice is_integer member_bytes with_id_text id_edits escape_byte digits own_request own_notification goes_nowhere editor_request editor_notification is_focused is_refresh server_notification server_request chars
refused_before_it_goes_down = refl

refused_where_capabilities_differ : outs_by 1 held_apart ≡ held_apart_outs
unfolding computes url_on_literals message_of named no_name_twice is_integer member_bytes with_id_text id_edits escape_byte digits own_request own_notification goes_nowhere editor_request editor_notification is_focused is_refresh server_notification server_request chars
refused_where_capabilities_differ = refl

refused_with_the_start : outs_by 1 held_refused ≡ held_refused_outs
unfolding computes url_on_literals message_of named no_name_twice is_integer member_bytes with_id_text id_edits escape_byte digits own_request own_notification goes_nowhere editor_request editor_notification is_focused is_refresh server_notification server_request chars
refused_with_the_start = refl

refused_by_a_stop : outs_by 1 held_stopped ≡ held_stopped_outs
unfolding computes url_on_literals message_of named no_name_twice is_integer member_bytes with_id_text id_edits escape_byte digits own_request own_notification goes_nowhere editor_request editor_notification is_focused is_refresh server_notification server_request chars
refused_by_a_stop = refl

refused_at_last : outs_by 2 lost_again ≡ lost_at_last_outs
unfolding computes url_on_literals message_of named no_name_twice is_integer member_bytes with_id_text id_edits escape_byte digits own_request own_notification goes_nowhere editor_request editor_notification is_focused is_refresh server_notification server_request chars
refused_at_last = refl

sent_by_the_third : outs_by 3 lost_and_back ≡ lost_and_back_outs
unfolding computes url_on_literals message_of named no_name_twice is_integer member_bytes with_id_text id_edits escape_byte digits own_request own_notification goes_nowhere editor_request editor_notification is_focused is_refresh server_notification server_request chars
sent_by_the_third = refl

-- of numbers below 3 one request has one
abbrev few_numbers : Settings
few_numbers = record { limits = record (restarting 1).limits { requests = 3 }; servers = (restarting 1).servers; default = 0 }

as_long_as_numbers_are_left : flat_map (λ xs. xs) (outs_from few_numbers [] held_few) ≡ held_few_outs
unfolding computes url_on_literals message_of named no_name_twice is_integer member_bytes with_id_text id_edits escape_byte digits own_request own_notification goes_nowhere editor_request editor_notification is_focused is_refresh server_notification server_request chars
as_long_as_numbers_are_left = refl

-- beside 256 of an editor no further one waits, beside 255 one does
abbrev many : ℕ → List Request
many zero = []
many (suc n) = asked 0 (codes "7") (codes "b") ∷ many n

abbrev exited : List Event
exited = events_behind (restarting 1) [] (two_editors ++ ServerGone 0 ∷ [])

abbrev hover : Event
hover = heard (FromEditor 0 (codes "{\"jsonrpc\":\"2.0\",\"id\":1,\"method\":\"textDocument/hover\",\"params\":{}}"))

not_the_257th : length (waiting_next (restarting 1) 0 exited (many 256) hover) ≡ 256
unfolding computes url_on_literals message_of named no_name_twice is_integer member_bytes with_id_text id_edits escape_byte digits own_request own_notification goes_nowhere editor_request editor_notification is_focused is_refresh server_notification server_request chars
not_the_257th = refl

the_256th : length (waiting_next (restarting 1) 0 exited (many 255) hover) ≡ 256
unfolding computes url_on_literals message_of named no_name_twice is_integer member_bytes with_id_text id_edits escape_byte digits own_request own_notification goes_nowhere editor_request editor_notification is_focused is_refresh server_notification server_request chars
the_256th = refl
