-- Three editors and their groups, an eviction, a return and an end, worked out by the checker.
use Rattle.std.proofs.Common.{◌≡◌, [], ◌∷◌, codes, map, take, true, false, refl}
use Rattle.std.specs.Prelude.{Some, None, slice_get}
use Rattle.std.specs.Fmt.{digits}
use Rattle.url.proofs.OnLiterals.{url_on_literals}
use Rattle.json.specs.Print.{escape_byte}
use Rattle.json_text.specs.Computes.{computes}
use Rattle.json_text.specs.Named.{named}
use Rattle.event_model.specs.rpc_message.specs.Message.{message_of, no_name_twice, is_integer, member_bytes}
use Rattle.event_model.specs.rpc_message.specs.Texts.{with_id_text}
use Rattle.group_words.specs.Houses.{home_of, groups_of, normalised, without_slash}
use Rattle.group_words.specs.Placing.{over}
use Rattle.group_words.specs.Rows.{outs_from, events_from, initialize_of}
use Rattle.group_words.specs.Example.{with_groups, three_editors, with_eight, with_one, an_eviction, an_eviction_outs, a_return, an_end, after_an_end, with_folders, with_folders_text}

three_editors_are_placed : outs_from (with_groups 8) [] three_editors ≡ with_eight
unfolding computes url_on_literals message_of named no_name_twice is_integer member_bytes with_id_text escape_byte digits
three_editors_are_placed = refl

three_editors_under_one_group : outs_from (with_groups 1) [] three_editors ≡ with_one
unfolding computes url_on_literals message_of named no_name_twice is_integer member_bytes with_id_text escape_byte digits
three_editors_under_one_group = refl

the_third_joins_the_first : home_of (with_groups 8) 2 (events_from (with_groups 8) [] three_editors) ≡ Some 0
unfolding computes url_on_literals message_of named no_name_twice is_integer member_bytes with_id_text escape_byte digits
the_third_joins_the_first = refl

an_idle_group_is_evicted : outs_from (with_groups 1) [] an_eviction ≡ an_eviction_outs
unfolding computes url_on_literals message_of named no_name_twice is_integer member_bytes with_id_text escape_byte digits
an_idle_group_is_evicted = refl

it_ended : map (λ g. g.live) (groups_of (with_groups 1) (events_from (with_groups 1) [] an_eviction)) ≡ false ∷ true ∷ []
unfolding computes url_on_literals message_of named no_name_twice is_integer member_bytes with_id_text escape_byte digits
it_ended = refl

it_was_idle : map (λ g. g.idle) (groups_of (with_groups 1) (events_from (with_groups 1) [] (take 4 an_eviction))) ≡ Some 7 ∷ []
unfolding computes url_on_literals message_of named no_name_twice is_integer member_bytes with_id_text escape_byte digits
it_was_idle = refl

nothing_of_it_is_kept : slice_get (groups_of (with_groups 1) (events_from (with_groups 1) [] an_eviction)) 0 ≡ Some over
unfolding computes url_on_literals message_of named no_name_twice is_integer member_bytes with_id_text escape_byte digits
nothing_of_it_is_kept = refl

it_is_busy_again : map (λ g. g.idle) (groups_of (with_groups 1) (events_from (with_groups 1) [] a_return)) ≡ None ∷ []
unfolding computes url_on_literals message_of named no_name_twice is_integer member_bytes with_id_text escape_byte digits
it_is_busy_again = refl

it_ends_in_time : map (λ g. g.live) (groups_of (with_groups 1) (events_from (with_groups 1) [] an_end)) ≡ false ∷ []
unfolding computes url_on_literals message_of named no_name_twice is_integer member_bytes with_id_text escape_byte digits
it_ends_in_time = refl

row_18_initialize : map initialize_of (groups_of (with_groups 8) (events_from (with_groups 8) [] with_folders)) ≡ with_folders_text ∷ []
unfolding computes url_on_literals message_of named no_name_twice is_integer member_bytes with_id_text escape_byte digits
row_18_initialize = refl

an_ended_group_takes_none : home_of (with_groups 8) 1 (events_from (with_groups 8) [] after_an_end) ≡ Some 1
unfolding computes url_on_literals message_of named no_name_twice is_integer member_bytes with_id_text escape_byte digits
an_ended_group_takes_none = refl

one_that_left_is_in_no_group : home_of (with_groups 1) 0 (events_from (with_groups 1) [] an_end) ≡ None
unfolding computes url_on_literals message_of named no_name_twice is_integer member_bytes with_id_text escape_byte digits
one_that_left_is_in_no_group = refl

-- Normal forms of folders

a_scheme_in_capitals : normalised (codes "FILE:///w/../v") ≡ codes "file:///v"
unfolding url_on_literals
a_scheme_in_capitals = refl

no_url : normalised (codes "w/../v") ≡ codes "w/../v"
unfolding url_on_literals
no_url = refl

one_slash_of_two : without_slash (normalised (codes "file:///w//")) ≡ codes "file:///w/"
unfolding url_on_literals
one_slash_of_two = refl
