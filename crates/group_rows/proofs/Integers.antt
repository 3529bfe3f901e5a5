-- The numbers in a body are those of RFC 8259, section 6: so a version that an editor gives is the text of a number.
use Rattle.std.proofs.Common.{◌≡◌, ℕ, Bool, true, false, ◌&&◌, List, Option, Some, None, codes, bytes_eq, refl}
use Rattle.std.specs.Option.{option_and_then}
use Rattle.json_text.specs.Bare.{bare, bare_items, bare_members}
use Rattle.json_text.specs.Json.{Json, word, number, string, array, object, Items, no_items, item, Members, no_members, member, value, items, more_items, members, more_members, IsText}
use Rattle.json_text.specs.Number.{IsNumber}
use Rattle.json_text.specs.Named.{named, named_in, or_else, if_named}
use Rattle.json_text.specs.Tree.{tree_of}
use Rattle.json_text.proofs.Laws.{tree_sound}
use Rattle.rpc_message.specs.Message.{Id, Message, request, result, error, not_json, not_message, notification, message_in, message_of, by_method, called, request_if, notification_if, given, is_null, is_integer, are_params, id_of, no_name_twice, is_two, answered, response_with, response_id, error_if}
use Rattle.response_route.specs.document_model.specs.Notices.{integer_text}
use Rattle.response_route.specs.document_model.specs.Sayings.{Saying, opens, changes, closes, misshapen, nothing, member_of, string_at, integer_at, opening, changing, closing, saying_by, saying_of}
use Rattle.response_route.specs.document_model.proofs.ScalarTrees.{either_way, MayHold}

abbrev mutual
  pub AllNumbers : Json → Type 0
  AllNumbers (word s w) = Unit {0}
  AllNumbers (number s ds) = IsNumber ds
  AllNumbers (string s cs) = Unit {0}
  AllNumbers (array s js) = ItemsNumbers js
  AllNumbers (object s ms) = MembersNumbers ms

  pub ItemsNumbers : Items → Type 0
  ItemsNumbers no_items = Unit {0}
  ItemsNumbers (item j js) = AllNumbers j × ItemsNumbers js

  pub MembersNumbers : Members → Type 0
  MembersNumbers no_members = Unit {0}
  MembersNumbers (member s cs j ms) = AllNumbers j × MembersNumbers ms

mutual
  -- a value that stands somewhere
  value_numbers : (j : Json) (at : ℕ) (bs : List ℕ) → value j at bs → AllNumbers j
  value_numbers (word s w) at bs h = tt
  value_numbers (number s ds) at bs h = h.0.1
  value_numbers (string s cs) at bs h = tt
  value_numbers (array s js) at bs h = items_numbers js _ _ h.0.4.3
  value_numbers (object s ms) at bs h = members_numbers ms _ _ h.0.4.3

  items_numbers : (js : Items) (at : ℕ) (bs : List ℕ) → items js at bs → ItemsNumbers js
  items_numbers no_items at bs h = tt
  items_numbers (item j js) at bs h = (value_numbers j _ _ h.4.3, more_items_numbers js _ _ h.4.4.4)

  more_items_numbers : (js : Items) (at : ℕ) (bs : List ℕ) → more_items js at bs → ItemsNumbers js
  more_items_numbers no_items at bs h = tt
  more_items_numbers (item j js) at bs h = (value_numbers j _ _ h.4.4.3, more_items_numbers js _ _ h.4.4.4.4)

  members_numbers : (ms : Members) (at : ℕ) (bs : List ℕ) → members ms at bs → MembersNumbers ms
  members_numbers no_members at bs h = tt
  members_numbers (member s cs j ms) at bs h = (value_numbers j _ _ h.4.3.4.4.4.4, more_members_numbers ms _ _ h.4.4.4)

  more_members_numbers : (ms : Members) (at : ℕ) (bs : List ℕ) → more_members ms at bs → MembersNumbers ms
  more_members_numbers no_members at bs h = tt
  more_members_numbers (member s cs j ms) at bs h = (value_numbers j _ _ h.4.4.3.4.4.4.4, more_members_numbers ms _ _ h.4.4.4.4)

text_numbers : (bytes : List ℕ) (j : Json) → IsText bytes j → AllNumbers j
text_numbers bytes j h = value_numbers j _ _ h.4.3

mutual
  -- and without its places
  bare_numbers : (j : Json) → AllNumbers j → AllNumbers (bare j)
  bare_numbers (word s w) h = tt
  bare_numbers (number s ds) h = h
  bare_numbers (string s cs) h = tt
  bare_numbers (array s js) h = bare_items_numbers js h
  bare_numbers (object s ms) h = bare_members_numbers ms h

  bare_items_numbers : (js : Items) → ItemsNumbers js → ItemsNumbers (bare_items js)
  bare_items_numbers no_items h = tt
  bare_items_numbers (item j js) h = (bare_numbers j h.0, bare_items_numbers js h.1)

  bare_members_numbers : (ms : Members) → MembersNumbers ms → MembersNumbers (bare_members ms)
  bare_members_numbers no_members h = tt
  bare_members_numbers (member s cs j ms) h = (bare_numbers j h.0, bare_members_numbers ms h.1)

or_else_holds : (o other : Option Json) → MayHold AllNumbers o → MayHold AllNumbers other → MayHold AllNumbers (or_else o other)
or_else_holds (Some j) other h k = h
or_else_holds None other h k = k

if_named_holds : (b : Bool) (j : Json) → AllNumbers j → MayHold AllNumbers (if_named b j)
if_named_holds true j h = h
if_named_holds false j h = tt

-- a member's value
named_numbers : (cs : List ℕ) (ms : Members) → MembersNumbers ms → MayHold AllNumbers (named cs ms)
unfolding named
named_numbers cs no_members h = tt
named_numbers cs (member s ds j ms) h = or_else_holds (named cs ms) (if_named (bytes_eq cs ds) j) (named_numbers cs ms h.1) (if_named_holds (bytes_eq cs ds) j h.0)

named_in_numbers : (cs : List ℕ) (j : Json) → AllNumbers j → MayHold AllNumbers (named_in cs j)
named_in_numbers cs (object s ms) h = named_numbers cs ms h
named_in_numbers cs (word s w) h = tt
named_in_numbers cs (number s ds) h = tt
named_in_numbers cs (string s ds) h = tt
named_in_numbers cs (array s js) h = tt

member_numbers : (cs : List ℕ) (o : Option Json) → MayHold AllNumbers o → MayHold AllNumbers (member_of cs o)
member_numbers cs (Some j) h = named_in_numbers cs j h
member_numbers cs None h = tt

integer_number : (j : Json) → AllNumbers j → MayHold IsNumber (integer_text j)
integer_number (number s ds) h = either_way (MayHold IsNumber) (is_integer ds) (Some ds) None h tt
integer_number (word s w) h = tt
integer_number (string s cs) h = tt
integer_number (array s js) h = tt
integer_number (object s ms) h = tt

optional_number : (o : Option Json) → MayHold AllNumbers o → MayHold IsNumber (option_and_then integer_text o)
optional_number (Some j) h = integer_number j h
optional_number None h = tt

integer_at_number : (cs : List ℕ) (o : Option Json) → MayHold AllNumbers o → MayHold IsNumber (integer_at cs o)
integer_at_number cs o h = optional_number (member_of cs o) (member_numbers cs o h)

-- the numbers in a notification's params
abbrev ParamsNumbers : Message → Type 0
ParamsNumbers (notification method params) = MayHold AllNumbers params
ParamsNumbers _ = Unit {0}

given_numbers : (o : Option Json) → MayHold AllNumbers o → MayHold AllNumbers (given o)
given_numbers (Some j) h = either_way (MayHold AllNumbers) (is_null j) None (Some (bare j)) tt (bare_numbers j h)
given_numbers None h = tt

notification_numbers : (b : Bool) (method : List ℕ) (params : Option Json) → MayHold AllNumbers params → ParamsNumbers (notification_if b method params)
notification_numbers true method params h = h
notification_numbers false method params h = tt

request_numbers : (b : Bool) (i : Option Id) (method : List ℕ) (params : Option Json) → ParamsNumbers (request_if b i method params)
request_numbers true (Some i) method params = tt
request_numbers true None method params = tt
request_numbers false i method params = tt

called_numbers : (method : List ℕ) (id params : Option Json) → MayHold AllNumbers params → ParamsNumbers (called method id params)
called_numbers method (Some id) params h = request_numbers (are_params params) (id_of id) method (given params)
called_numbers method None params h = notification_numbers (are_params params) method (given params) (given_numbers params h)

error_numbers : (b : Bool) (id : Option Id) (e : Json) → ParamsNumbers (error_if b id e)
error_numbers true id e = tt
error_numbers false id e = tt

response_numbers : (o : Option (Option Id)) (failure value : Option Json) → ParamsNumbers (response_with o failure value)
response_numbers (Some id) (Some e) value = either_way ParamsNumbers (is_null e) _ _ tt (error_numbers _ id e)
response_numbers (Some id) None value = tt
response_numbers None failure value = tt

answered_numbers : (id failure value : Option Json) → ParamsNumbers (answered id failure value)
answered_numbers (Some id) failure value = response_numbers (response_id id) failure value
answered_numbers None failure value = tt

method_numbers : (o : Option Json) (ms : Members) → MembersNumbers ms → ParamsNumbers (by_method o ms)
method_numbers (Some (string s method)) ms h = called_numbers method (named (codes "id") ms) (named (codes "params") ms) (named_numbers (codes "params") ms h)
method_numbers (Some (word s w)) ms h = tt
method_numbers (Some (number s ds)) ms h = tt
method_numbers (Some (array s js)) ms h = tt
method_numbers (Some (object s ns)) ms h = tt
method_numbers None ms h = answered_numbers (named (codes "id") ms) (named (codes "error") ms) (named (codes "result") ms)

tree_numbers : (o : Option Json) → MayHold AllNumbers o → ParamsNumbers (message_in o)
tree_numbers None h = tt
tree_numbers (Some (object s ms)) h = either_way ParamsNumbers (no_name_twice ms && is_two (named (codes "jsonrpc") ms)) (by_method (named (codes "method") ms) ms) not_message (method_numbers (named (codes "method") ms) ms h) tt
tree_numbers (Some (word s w)) h = tt
tree_numbers (Some (number s ds)) h = tt
tree_numbers (Some (string s cs)) h = tt
tree_numbers (Some (array s js)) h = tt

body_numbers : (body : List ℕ) → ParamsNumbers (message_of body)
unfolding message_of
body_numbers body = tree_numbers (tree_of body) (go (tree_of body) refl)
  where
    go : (o : Option Json) → tree_of body ≡ o → MayHold AllNumbers o
    go (Some j) e = text_numbers body j (tree_sound body j e).0
    go None e = tt

-- the version that a message gives a document
abbrev pub IsSaidNumber : Saying → Type 0
IsSaidNumber (opens u l v t) = IsNumber v
IsSaidNumber (changes u v cs) = IsNumber v
IsSaidNumber (closes u) = Unit {0}
IsSaidNumber misshapen = Unit {0}
IsSaidNumber nothing = Unit {0}

opening_number : (u l v t : Option (List ℕ)) → MayHold IsNumber v → IsSaidNumber (opening u l v t)
opening_number (Some u) (Some l) (Some v) (Some t) h = h
opening_number (Some u) (Some l) (Some v) None h = tt
opening_number (Some u) (Some l) None t h = tt
opening_number (Some u) None v t h = tt
opening_number None l v t h = tt

changing_number : (u v : Option (List ℕ)) (cs : Option Json) → MayHold IsNumber v → IsSaidNumber (changing u v cs)
changing_number (Some u) (Some v) (Some cs) h = h
changing_number (Some u) (Some v) None h = tt
changing_number (Some u) None cs h = tt
changing_number None v cs h = tt

closing_number : (u : Option (List ℕ)) → IsSaidNumber (closing u)
closing_number (Some u) = tt
closing_number None = tt

saying_number : (method : List ℕ) (params : Option Json) → MayHold AllNumbers params → IsSaidNumber (saying_by method params)
saying_number method params h =
    let document : Option Json = member_of (codes "textDocument") params in
    let k : MayHold AllNumbers document = member_numbers (codes "textDocument") params h in
    either_way IsSaidNumber (bytes_eq (codes "textDocument/didOpen") method) _ _
    (opening_number (string_at (codes "uri") document) (string_at (codes "languageId") document) (integer_at (codes "version") document) (string_at (codes "text") document) (integer_at_number (codes "version") document k))
    (either_way IsSaidNumber (bytes_eq (codes "textDocument/didChange") method) _ _
    (changing_number (string_at (codes "uri") document) (integer_at (codes "version") document) (member_of (codes "contentChanges") params) (integer_at_number (codes "version") document k))
    (either_way IsSaidNumber (bytes_eq (codes "textDocument/didClose") method) _ _ (closing_number (string_at (codes "uri") document)) tt))

message_number : (m : Message) → ParamsNumbers m → IsSaidNumber (saying_of m)
message_number (notification method params) h = saying_number method params h
message_number (request i method params) h = tt
message_number (result i r) h = tt
message_number (error i x) h = tt
message_number not_json h = tt
message_number not_message h = tt

pub said_number : (body : List ℕ) → IsSaidNumber (saying_of (message_of body))
said_number body = message_number (message_of body) (body_numbers body)
