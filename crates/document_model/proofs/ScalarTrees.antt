-- The strings in a body are of Unicode scalar values: so what a message's params say is UTF-8.
use Rattle.std.proofs.Common.{◌≡◌, ℕ, Bool, true, false, ◌&&◌, List, Option, Some, None, codes, bytes_eq, if◌then◌else◌, refl, subst, IsUtf8}
use Rattle.std.specs.Option.{option_and_then}
use Rattle.json_text.specs.Bare.{bare, bare_items, bare_members}
use Rattle.json_text.specs.Json.{Json, word, number, string, array, object, Items, no_items, item, Members, no_members, member, value, items, more_items, members, more_members, IsText}
use Rattle.json_text.specs.Named.{named, named_in, or_else, if_named}
use Rattle.json_text.specs.Tree.{tree_of}
use Rattle.json_text.proofs.Laws.{tree_sound}
use Rattle.rpc_message.proofs.Strings.{scalar_string, utf8_characters}
use Rattle.doc_text.specs.Changes.{string_text}
use Rattle.rpc_message.specs.Message.{Id, Message, not_message, notification, message_in, message_of, by_method, called, request_if, notification_if, given, is_null, are_params, id_of, no_name_twice, is_two, answered, response_with, response_id, error_if}
use Rattle.document_model.specs.Sayings.{member_of, string_at}
use lib.Utf8.{scalars}

-- what holds of both holds of the one that is taken
pub either_way : {A : Type 0} (P : A → Type 0) (b : Bool) (x y : A) → P x → P y → P (if b then x else y)
either_way P true x y h k = h
either_way P false x y h k = k

-- it holds of the value, where one is there
abbrev pub MayHold : {A : Type 0} → (A → Type 0) → Option A → Type 0
MayHold P None = Unit {0}
MayHold P (Some a) = P a

pub may_hold : {A : Type 0} (P : A → Type 0) (o : Option A) (a : A) → MayHold P o → o ≡ Some a → P a
may_hold P o a h e = subst (MayHold P) e h

-- trees whose strings are of Unicode scalar values

abbrev mutual
  pub AllScalars : Json → Type 0
  AllScalars (word s w) = Unit {0}
  AllScalars (number s ds) = Unit {0}
  AllScalars (string s cs) = scalars cs ≡ true
  AllScalars (array s js) = ItemsScalars js
  AllScalars (object s ms) = MembersScalars ms

  pub ItemsScalars : Items → Type 0
  ItemsScalars no_items = Unit {0}
  ItemsScalars (item j js) = AllScalars j × ItemsScalars js

  pub MembersScalars : Members → Type 0
  MembersScalars no_members = Unit {0}
  MembersScalars (member s cs j ms) = AllScalars j × MembersScalars ms

mutual
  -- a value that stands somewhere
  value_scalars : (j : Json) (at : ℕ) (bs : List ℕ) → value j at bs → AllScalars j
  value_scalars (word s w) at bs h = tt
  value_scalars (number s ds) at bs h = tt
  value_scalars (string s cs) at bs h = scalar_string s cs at bs h
  value_scalars (array s js) at bs h = items_scalars js _ _ h.0.4.3
  value_scalars (object s ms) at bs h = members_scalars ms _ _ h.0.4.3

  items_scalars : (js : Items) (at : ℕ) (bs : List ℕ) → items js at bs → ItemsScalars js
  items_scalars no_items at bs h = tt
  items_scalars (item j js) at bs h = (value_scalars j _ _ h.4.3, more_items_scalars js _ _ h.4.4.4)

  more_items_scalars : (js : Items) (at : ℕ) (bs : List ℕ) → more_items js at bs → ItemsScalars js
  more_items_scalars no_items at bs h = tt
  more_items_scalars (item j js) at bs h = (value_scalars j _ _ h.4.4.3, more_items_scalars js _ _ h.4.4.4.4)

  members_scalars : (ms : Members) (at : ℕ) (bs : List ℕ) → members ms at bs → MembersScalars ms
  members_scalars no_members at bs h = tt
  members_scalars (member s cs j ms) at bs h = (value_scalars j _ _ h.4.3.4.4.4.4, more_members_scalars ms _ _ h.4.4.4)

  more_members_scalars : (ms : Members) (at : ℕ) (bs : List ℕ) → more_members ms at bs → MembersScalars ms
  more_members_scalars no_members at bs h = tt
  more_members_scalars (member s cs j ms) at bs h = (value_scalars j _ _ h.4.4.3.4.4.4.4, more_members_scalars ms _ _ h.4.4.4.4)

-- the tree of a text
text_scalars : (bytes : List ℕ) (j : Json) → IsText bytes j → AllScalars j
text_scalars bytes j h = value_scalars j _ _ h.4.3

mutual
  -- and without its places
  bare_scalars : (j : Json) → AllScalars j → AllScalars (bare j)
  bare_scalars (word s w) h = tt
  bare_scalars (number s ds) h = tt
  bare_scalars (string s cs) h = h
  bare_scalars (array s js) h = bare_items_scalars js h
  bare_scalars (object s ms) h = bare_members_scalars ms h

  bare_items_scalars : (js : Items) → ItemsScalars js → ItemsScalars (bare_items js)
  bare_items_scalars no_items h = tt
  bare_items_scalars (item j js) h = (bare_scalars j h.0, bare_items_scalars js h.1)

  bare_members_scalars : (ms : Members) → MembersScalars ms → MembersScalars (bare_members ms)
  bare_members_scalars no_members h = tt
  bare_members_scalars (member s cs j ms) h = (bare_scalars j h.0, bare_members_scalars ms h.1)

or_else_holds : (o other : Option Json) → MayHold AllScalars o → MayHold AllScalars other → MayHold AllScalars (or_else o other)
or_else_holds (Some j) other h k = h
or_else_holds None other h k = k

if_named_holds : (b : Bool) (j : Json) → AllScalars j → MayHold AllScalars (if_named b j)
if_named_holds true j h = h
if_named_holds false j h = tt

-- a member's value
named_scalars : (cs : List ℕ) (ms : Members) → MembersScalars ms → MayHold AllScalars (named cs ms)
unfolding named
named_scalars cs no_members h = tt
named_scalars cs (member s ds j ms) h = or_else_holds (named cs ms) (if_named (bytes_eq cs ds) j) (named_scalars cs ms h.1) (if_named_holds (bytes_eq cs ds) j h.0)

pub named_in_scalars : (cs : List ℕ) (j : Json) → AllScalars j → MayHold AllScalars (named_in cs j)
named_in_scalars cs (object s ms) h = named_scalars cs ms h
named_in_scalars cs (word s w) h = tt
named_in_scalars cs (number s ds) h = tt
named_in_scalars cs (string s ds) h = tt
named_in_scalars cs (array s js) h = tt

pub member_scalars : (cs : List ℕ) (o : Option Json) → MayHold AllScalars o → MayHold AllScalars (member_of cs o)
member_scalars cs (Some j) h = named_in_scalars cs j h
member_scalars cs None h = tt

-- a string's text
string_spelt : (j : Json) → AllScalars j → MayHold IsUtf8 (string_text j)
string_spelt (string s cs) h = (utf8_characters cs h).0
string_spelt (word s w) h = tt
string_spelt (number s ds) h = tt
string_spelt (array s js) h = tt
string_spelt (object s ms) h = tt

pub optional_spelt : (o : Option Json) → MayHold AllScalars o → MayHold IsUtf8 (option_and_then string_text o)
optional_spelt (Some j) h = string_spelt j h
optional_spelt None h = tt

pub string_at_spelt : (cs : List ℕ) (o : Option Json) → MayHold AllScalars o → MayHold IsUtf8 (string_at cs o)
string_at_spelt cs o h = optional_spelt (member_of cs o) (member_scalars cs o h)

-- the strings in a notification's params are scalars
abbrev pub ParamsScalars : Message → Type 0
ParamsScalars (notification method params) = MayHold AllScalars params
ParamsScalars _ = Unit {0}

given_scalars : (o : Option Json) → MayHold AllScalars o → MayHold AllScalars (given o)
given_scalars (Some j) h = either_way (MayHold AllScalars) (is_null j) None (Some (bare j)) tt (bare_scalars j h)
given_scalars None h = tt

notification_scalars : (b : Bool) (method : List ℕ) (params : Option Json) → MayHold AllScalars params → ParamsScalars (notification_if b method params)
notification_scalars true method params h = h
notification_scalars false method params h = tt

request_scalars : (b : Bool) (i : Option Id) (method : List ℕ) (params : Option Json) → ParamsScalars (request_if b i method params)
request_scalars true (Some i) method params = tt
request_scalars true None method params = tt
request_scalars false i method params = tt

called_scalars : (method : List ℕ) (id params : Option Json) → MayHold AllScalars params → ParamsScalars (called method id params)
called_scalars method (Some id) params h = request_scalars (are_params params) (id_of id) method (given params)
called_scalars method None params h = notification_scalars (are_params params) method (given params) (given_scalars params h)

error_scalars : (b : Bool) (id : Option Id) (e : Json) → ParamsScalars (error_if b id e)
error_scalars true id e = tt
error_scalars false id e = tt

response_scalars : (o : Option (Option Id)) (failure value : Option Json) → ParamsScalars (response_with o failure value)
response_scalars (Some id) (Some e) value = either_way ParamsScalars (is_null e) _ _ tt (error_scalars _ id e)
response_scalars (Some id) None value = tt
response_scalars None failure value = tt

answered_scalars : (id failure value : Option Json) → ParamsScalars (answered id failure value)
answered_scalars (Some id) failure value = response_scalars (response_id id) failure value
answered_scalars None failure value = tt

method_scalars : (o : Option Json) (ms : Members) → MembersScalars ms → ParamsScalars (by_method o ms)
method_scalars (Some (string s method)) ms h = called_scalars method (named (codes "id") ms) (named (codes "params") ms) (named_scalars (codes "params") ms h)
method_scalars (Some (word s w)) ms h = tt
method_scalars (Some (number s ds)) ms h = tt
method_scalars (Some (array s js)) ms h = tt
method_scalars (Some (object s ns)) ms h = tt
method_scalars None ms h = answered_scalars (named (codes "id") ms) (named (codes "error") ms) (named (codes "result") ms)

tree_scalars : (o : Option Json) → MayHold AllScalars o → ParamsScalars (message_in o)
tree_scalars None h = tt
tree_scalars (Some (object s ms)) h = either_way ParamsScalars (no_name_twice ms && is_two (named (codes "jsonrpc") ms)) (by_method (named (codes "method") ms) ms) not_message (method_scalars (named (codes "method") ms) ms h) tt
tree_scalars (Some (word s w)) h = tt
tree_scalars (Some (number s ds)) h = tt
tree_scalars (Some (string s cs)) h = tt
tree_scalars (Some (array s js)) h = tt

-- of any body's message
pub body_scalars : (body : List ℕ) → ParamsScalars (message_of body)
unfolding message_of
body_scalars body = tree_scalars (tree_of body) (go (tree_of body) refl)
  where
    go : (o : Option Json) → tree_of body ≡ o → MayHold AllScalars o
    go (Some j) e = text_scalars body j (tree_sound body j e).0
    go None e = tt
