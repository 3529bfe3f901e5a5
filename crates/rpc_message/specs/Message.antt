-- JSON-RPC 2.0, sections 4 and 5, with the ids, params and errors that LSP 3.17 (Base Protocol) allows: what a body is, by its envelope.
use Rattle.std.specs.Prelude.{ℕ, ◌-◌, Bool, true, false, not, ◌&&◌, ◌||◌, List, [], ◌∷◌, ◌==◌, codes, is_some, take, drop, bytes_eq, if◌then◌else◌}
use Rattle.std.specs.Prelude.{Option, Some, None}
use Rattle.json_text.specs.declared.span.Span.{Span}
use Rattle.json_text.specs.declared.kind.Word.TheVariants.{Null}
use Rattle.json_text.specs.Json.{Json, word, number, string, array, object, Members, no_members, member, span_of}
use Rattle.json_text.specs.Bare.{bare, nowhere}
use Rattle.json_text.specs.Number.{is_digit}
use Rattle.json_text.specs.Named.{named}
use Rattle.json_text.specs.Tree.{tree_of}

-- two ids are the same if both are integers of the same text, or both are strings of the same characters
pub data Id : Type 0 where
  integer : List ℕ → Id
  text : List ℕ → Id

abbrev pub same_id : Id → Id → Bool
same_id (integer a) (integer b) = bytes_eq a b
same_id (integer a) (text b) = false
same_id (text a) (integer b) = false
same_id (text a) (text b) = bytes_eq a b

-- what a body says. The id of a response is None where it is null; params and results are without places; null params count as absent, an absent result as null.
pub data Message : Type 0 where
  not_json : Message
  not_message : Message
  request : Id → List ℕ → Option Json → Message
  notification : List ℕ → Option Json → Message
  result : Option Id → Json → Message
  error : Option Id → Json → Message

unfoldable pub no_name_twice : Members → Bool
no_name_twice no_members = true
no_name_twice (member s cs j ms) = not (is_some (named cs ms)) && no_name_twice ms

-- of a number's text: no fraction and no exponent
unfoldable pub is_integer : List ℕ → Bool
is_integer [] = true
is_integer (b ∷ bs) = (is_digit b || (b == 45)) && is_integer bs

abbrev pub integer_if : Bool → List ℕ → Option Id
integer_if true ds = Some (integer ds)
integer_if false ds = None

abbrev pub id_of : Json → Option Id
id_of (number s ds) = integer_if (is_integer ds) ds
id_of (string s cs) = Some (text cs)
id_of (word s w) = None
id_of (array s js) = None
id_of (object s ms) = None

-- the string "2.0"
abbrev pub is_two : Option Json → Bool
is_two (Some (string s cs)) = bytes_eq cs (codes "2.0")
is_two _ = false

abbrev pub is_null : Json → Bool
is_null (word s Null) = true
is_null _ = false

-- absent, null, array or object
abbrev pub are_params : Option Json → Bool
are_params None = true
are_params (Some (array s js)) = true
are_params (Some (object s ms)) = true
are_params (Some (word s Null)) = true
are_params (Some _) = false

-- the member, where it is there and not null, without places
abbrev pub given : Option Json → Option Json
given None = None
given (Some j) = if is_null j then None else Some (bare j)

-- an absent result is null
abbrev pub result_tree : Option Json → Json
result_tree None = word nowhere Null
result_tree (Some j) = bare j

abbrev pub is_integer_value : Option Json → Bool
is_integer_value (Some (number s ds)) = is_integer ds
is_integer_value _ = false

abbrev pub is_string_value : Option Json → Bool
is_string_value (Some (string s cs)) = true
is_string_value _ = false

-- an object with an integer `code` and a string `message`
abbrev pub is_error : Json → Bool
is_error (object s ms) = is_integer_value (named (codes "code") ms) && is_string_value (named (codes "message") ms)
is_error _ = false

abbrev pub request_if : Bool → Option Id → List ℕ → Option Json → Message
request_if true (Some id) method params = request id method params
request_if true None method params = not_message
request_if false id method params = not_message

abbrev pub notification_if : Bool → List ℕ → Option Json → Message
notification_if true method params = notification method params
notification_if false method params = not_message

abbrev pub called : List ℕ → Option Json → Option Json → Message
called method (Some id) params = request_if (are_params params) (id_of id) method (given params)
called method None params = notification_if (are_params params) method (given params)

-- a response's id: an integer, a string or null
abbrev pub response_id : Json → Option (Option Id)
response_id (word s Null) = Some None
response_id (number s ds) = if is_integer ds then Some (Some (integer ds)) else None
response_id (string s cs) = Some (Some (text cs))
response_id _ = None

abbrev pub error_if : Bool → Option Id → Json → Message
error_if true id e = error id (bare e)
error_if false id e = not_message

abbrev pub outcome : Option Id → Option Json → Option Json → Message
outcome id (Some e) value = if is_null e then result id (result_tree value) else error_if (is_error e && not (is_some (given value))) id e
outcome id None value = result id (result_tree value)

abbrev pub response_with : Option (Option Id) → Option Json → Option Json → Message
response_with (Some id) failure value = outcome id failure value
response_with None failure value = not_message

abbrev pub answered : Option Json → Option Json → Option Json → Message
answered (Some id) failure value = response_with (response_id id) failure value
answered None failure value = not_message

abbrev pub by_method : Option Json → Members → Message
by_method (Some (string s method)) ms = called method (named (codes "id") ms) (named (codes "params") ms)
by_method (Some _) ms = not_message
by_method None ms = answered (named (codes "id") ms) (named (codes "error") ms) (named (codes "result") ms)

abbrev pub message_in : Option Json → Message
message_in None = not_json
message_in (Some (object s ms)) = if no_name_twice ms && is_two (named (codes "jsonrpc") ms) then by_method (named (codes "method") ms) ms else not_message
message_in (Some _) = not_message

-- what a body is
unfoldable pub message_of : List ℕ → Message
message_of bytes = message_in (tree_of bytes)

-- the place of the value of the last member of this name, in a body that is an object
abbrev pub place_in : List ℕ → Option Json → Option Span
place_in cs (Some (object s ms)) = place_if (named cs ms)
  where
    place_if : Option Json → Option Span
    place_if (Some j) = Some (span_of j)
    place_if None = None
place_in cs _ = None

abbrev pub slice_of : List ℕ → Option Span → List ℕ
slice_of bytes (Some s) = take (s.to - s.from) (drop s.from bytes)
slice_of bytes None = codes "null"

-- the bytes of a body's member, as they came; `null` where it has none
unfoldable pub member_bytes : List ℕ → List ℕ → List ℕ
member_bytes cs bytes = slice_of bytes (place_in cs (tree_of bytes))

-- the bytes of its id and of its result
abbrev pub id_bytes : List ℕ → List ℕ
id_bytes bytes = member_bytes (codes "id") bytes

abbrev pub result_bytes : List ℕ → List ℕ
result_bytes bytes = member_bytes (codes "result") bytes
