-- What `lspmux/status` is answered with is a value (RFC 8259, section 2), whatever the settings and the events are.
use Rattle.std.proofs.Common.{◌≡◌, ℕ, ◌^◌, ◌<◌, ◌≤◌, Bool, true, false, List, [], ◌∷◌, ◌++◌, map, codes, decimal, nat_lt, IsUtf8, bytes_eq, encode_utf8_all, if◌then◌else◌, refl, sym, subst, arith, append_assoc}
use Rattle.std.proofs.lemmas.Bool.{and_parts, ltb-true}
use Rattle.std.proofs.lemmas.Slice.Eq.{bytes_eq-Decides}
use Rattle.std.specs.Str.{all_scalars, chars}
use Rattle.json.specs.Print.{escape, quoted}
use Rattle.json_text.specs.declared.kind.Word.TheVariants.{Null}
use Rattle.json_text.specs.Bare.{bare, nowhere}
use Rattle.json_text.specs.Json.{Json, word, number, string, array, object, Items, no_items, item, Members, no_members, member, depth, items_depth}
use Rattle.json_text.proofs.Compact.{closing_none, closing_member, compact_object, null_word, simple_string}
use Rattle.json_text.proofs.Forms.{says, says_more_items}
use Rattle.json_text.proofs.Moves.{Placed, placed}
use Rattle.json_text.proofs.Put.{depth_bare}
use Rattle.rpc_message.specs.json_span.proofs.Quoted.{spells_text}
use Rattle.rpc_message.specs.ValueTexts.{IsValueText}
use Rattle.rpc_message.proofs.Decimals.{decimal_number}
use Rattle.group_words.specs.capability_meet.specs.Parts.{bracketed, listed}
use Rattle.group_words.specs.capability_meet.proofs.MeetSays.{array_says, first_item, one_more_item}
use Rattle.event_model.specs.declared.stage.Stage.{Stage}
use Rattle.event_model.specs.declared.stage.Stage.TheVariants.{Unspawned, Spawning, Initializing, Ready, Stopping, Ending, Ended}
use Rattle.group_rows.specs.Status.{Item, is_utf8, item_text, name_text, number_text, state_text, status_text}

-- Lists

abbrev items_by : {A : Type 0} → (A → Json) → List A → Items
items_by f [] = no_items
items_by f (x ∷ xs) = item (f x) (items_by f xs)

module _ {A : Type 0} (f : A → Json) (t : A → List ℕ) (h : (x : A) → says (f x) (t x)) where
  more_say : (xs : List A) → says_more_items (items_by f xs) (listed true (map t xs))
  more_say [] = refl
  more_say (x ∷ xs) = one_more_item (f x) (items_by f xs) (t x) (listed true (map t xs)) (h x) (more_say xs)

  list_says : (xs : List A) → says (array nowhere (items_by f xs)) (bracketed (map t xs))
  list_says [] = array_says nowhere no_items [] tt
  list_says (x ∷ xs) = array_says nowhere (items_by f (x ∷ xs)) (map t (x ∷ xs)) (first_item (f x) (items_by f xs) (t x) (listed true (map t xs)) (h x) (more_say xs))

list_deep : {A : Type 0} (f : A → Json) (d : ℕ) → ((x : A) → depth (f x) ≤ d) → (xs : List A) → items_depth (items_by f xs) ≤ d
list_deep f d h [] = omega arith
list_deep f d h (x ∷ xs) = let a = h x in let b = list_deep f d h xs in omega (arith, a, b)

-- Numbers

abbrev number_tree : ℕ → Json
number_tree n = if nat_lt n (2 ^ 64) then number nowhere (decimal n) else word nowhere Null

number_says : (n : ℕ) → says (number_tree n) (number_text n)
number_says n = go (nat_lt n (2 ^ 64)) refl
  where
    go : (b : Bool) → nat_lt n (2 ^ 64) ≡ b → says (if b then number nowhere (decimal n) else word nowhere Null) (if b then decimal n else codes "null")
    go true e = let low : n < 2 ^ 64 = ltb-true n (2 ^ 64) e in (refl, decimal_number n (omega (arith, low)))
    go false e = null_word nowhere

number_deep : (n : ℕ) → depth (number_tree n) ≤ 0
number_deep n = go (nat_lt n (2 ^ 64))
  where
    go : (b : Bool) → depth (if b then number nowhere (decimal n) else word nowhere Null) ≤ 0
    go true = omega arith
    go false = omega arith

-- Names

abbrev spelt : List ℕ → List ℕ
spelt name = if is_utf8 name then name else []

spelt_utf8 : (name : List ℕ) → IsUtf8 (spelt name)
spelt_utf8 name = go (is_utf8 name) refl
  where
    go : (b : Bool) → is_utf8 name ≡ b → IsUtf8 (if b then name else [])
    go true e = let p = and_parts (all_scalars (chars name)) (bytes_eq (encode_utf8_all (chars name)) name) e in (chars name, (p.0, (bytes_eq-Decides (encode_utf8_all (chars name)) name).0 p.1))
    go false e = ([], (refl, refl))

abbrev name_tree : List ℕ → Json
name_tree name = string nowhere (chars (spelt name))

pub quoted_says : (text : List ℕ) → IsUtf8 text → says (string nowhere (chars text)) (quoted text)
quoted_says text u = (34 ∷ [], escape text ++ 34 ∷ [], refl, refl, (escape text, 34 ∷ [], refl, spells_text text u, refl))

name_says : (name : List ℕ) → says (name_tree name) (name_text name)
name_says name = quoted_says (spelt name) (spelt_utf8 name)

-- Stages

abbrev state_tree : Stage → Json
state_tree Spawning = string nowhere (codes "spawning")
state_tree Initializing = string nowhere (codes "initializing")
state_tree other = string nowhere (codes "ready")

state_says : (stage : Stage) → says (state_tree stage) (state_text stage)
state_says Unspawned = simple_string nowhere (codes "ready") refl
state_says Spawning = simple_string nowhere (codes "spawning") refl
state_says Initializing = simple_string nowhere (codes "initializing") refl
state_says Ready = simple_string nowhere (codes "ready") refl
state_says Stopping = simple_string nowhere (codes "ready") refl
state_says Ending = simple_string nowhere (codes "ready") refl
state_says Ended = simple_string nowhere (codes "ready") refl

state_deep : (stage : Stage) → depth (state_tree stage) ≤ 0
state_deep Unspawned = omega arith
state_deep Spawning = omega arith
state_deep Initializing = omega arith
state_deep Ready = omega arith
state_deep Stopping = omega arith
state_deep Ending = omega arith
state_deep Ended = omega arith

-- Groups

abbrev from_open : Item → Members
from_open x = member nowhere (codes "open") (number_tree x.asked) no_members

abbrev from_editors : Item → Members
from_editors x = member nowhere (codes "editors") (array nowhere (items_by number_tree x.editors)) (from_open x)

abbrev from_state : Item → Members
from_state x = member nowhere (codes "state") (state_tree x.stage) (from_editors x)

abbrev from_start : Item → Members
from_start x = member nowhere (codes "start") (number_tree x.start) (from_state x)

abbrev from_server : Item → Members
from_server x = member nowhere (codes "server") (name_tree x.server) (from_start x)

abbrev item_tree : Item → Json
item_tree x = object nowhere (member nowhere (codes "group") (number_tree x.group) (from_server x))

whole : (a b c d e f : List ℕ) → codes "{\"group\":" ++ a ++ codes ",\"server\":" ++ b ++ codes ",\"start\":" ++ c ++ codes ",\"state\":" ++ d ++ codes ",\"editors\":" ++ e ++ codes ",\"open\":" ++ f ++ codes "}"
    ≡ codes "{\"group\":" ++ (a ++ (codes ",\"server\":" ++ (b ++ (codes ",\"start\":" ++ (c ++ (codes ",\"state\":" ++ (d ++ (codes ",\"editors\":" ++ (e ++ (codes ",\"open\":" ++ (f ++ codes "}")))))))))))
whole a b c d e f = simp append_assoc

module _ (x : Item) where
  abbrev text_of_editors : List ℕ
  text_of_editors = bracketed (map number_text x.editors)

  abbrev open_rest : List ℕ
  open_rest = codes ",\"open\":" ++ (number_text x.asked ++ codes "}")

  abbrev editors_rest : List ℕ
  editors_rest = codes ",\"editors\":" ++ (text_of_editors ++ open_rest)

  abbrev state_rest : List ℕ
  state_rest = codes ",\"state\":" ++ (state_text x.stage ++ editors_rest)

  abbrev start_rest : List ℕ
  start_rest = codes ",\"start\":" ++ (number_text x.start ++ state_rest)

  abbrev server_rest : List ℕ
  server_rest = codes ",\"server\":" ++ (name_text x.server ++ start_rest)

  item_says : says (item_tree x) (item_text x)
  item_says = subst (λ w. says (item_tree x) w) (sym (whole (number_text x.group) (name_text x.server) (number_text x.start) (state_text x.stage) text_of_editors (number_text x.asked)))
      (compact_object nowhere nowhere (codes "group") (number_tree x.group) (from_server x) (number_text x.group) server_rest refl (number_says x.group)
      (closing_member nowhere (codes "server") (name_tree x.server) (from_start x) (name_text x.server) start_rest refl (name_says x.server)
      (closing_member nowhere (codes "start") (number_tree x.start) (from_state x) (number_text x.start) state_rest refl (number_says x.start)
      (closing_member nowhere (codes "state") (state_tree x.stage) (from_editors x) (state_text x.stage) editors_rest refl (state_says x.stage)
      (closing_member nowhere (codes "editors") (array nowhere (items_by number_tree x.editors)) (from_open x) text_of_editors open_rest refl (list_says number_tree number_text number_says x.editors)
      (closing_member nowhere (codes "open") (number_tree x.asked) no_members (number_text x.asked) (codes "}") refl (number_says x.asked) closing_none))))))

  item_deep : depth (item_tree x) ≤ 2
  item_deep = let a = number_deep x.group in let c = number_deep x.start in let d = state_deep x.stage in let e = list_deep number_tree 0 number_deep x.editors in let f = number_deep x.asked in omega (arith, a, c, d, e, f)

-- All of them

abbrev status_tree : List Item → Json
status_tree xs = object nowhere (member nowhere (codes "groups") (array nowhere (items_by item_tree xs)) no_members)

status_says : (xs : List Item) → says (status_tree xs) (status_text xs)
status_says xs = subst (λ w. says (status_tree xs) w) (sym (append_assoc (codes "{\"groups\":") (bracketed (map item_text xs)) (codes "}")))
    (compact_object nowhere nowhere (codes "groups") (array nowhere (items_by item_tree xs)) no_members (bracketed (map item_text xs)) (codes "}") refl (list_says item_tree item_text item_says xs) closing_none)

-- what it says, as a value
pub told_tree : List Item → Json
told_tree xs = bare (status_tree xs)

pub status_value : (xs : List Item) → IsValueText (told_tree xs) (status_text xs)
unfolding told_tree
status_value xs = let p : Placed (status_tree xs) 0 (status_text xs) = placed (status_tree xs) 0 (status_text xs) (status_says xs) in record { tree = p.tree; stands = p.stands; same = p.same }

pub status_deep : (xs : List Item) → depth (told_tree xs) ≤ 1023
unfolding told_tree
status_deep xs = let d = list_deep item_tree 2 item_deep xs in let b = depth_bare (status_tree xs) in omega (arith, d, b)
