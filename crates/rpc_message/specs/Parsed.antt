-- A body that was read: its text with its nodes, its envelope, and its method's name.
use Rattle.std.specs.Prelude.{◌≡◌, ℕ, List, codes, encode_utf8_all}
use Rattle.std.specs.Prelude.{Option, Some, None}
use Rattle.std.specs.Option.{option_map}
use Rattle.json_text.specs.Bare.{bare}
use Rattle.json_text.specs.Json.{Json}
use Rattle.json_text.specs.Named.{named_in}
use Rattle.json_span.specs.json_nodes.specs.At.{Found}
use Rattle.json_span.specs.json_nodes.specs.Doc.{Doc, Holds}
use Rattle.rpc_message.specs.declared.envelope.Envelope.{Envelope}
use Rattle.rpc_message.specs.Envelopes.{Tells, AreMembers, not_null}
use Rattle.rpc_message.specs.Message.{Message, request, notification, result, error, not_json, not_message, message_of, result_tree}

pub record Parsed : Type 0 where
  pub doc : Doc
  pub envelope : Envelope
  pub method : Option (List ℕ)

-- the characters of a message's method, in UTF-8
abbrev pub method_of : Message → Option (List ℕ)
method_of (request id method params) = Some (encode_utf8_all method)
method_of (notification method params) = Some (encode_utf8_all method)
method_of (result id value) = None
method_of (error id failure) = None
method_of not_json = None
method_of not_message = None

-- its params, as values without places
abbrev pub params_of : Message → Option Json
params_of (request id method params) = params
params_of (notification method params) = params
params_of (result id value) = None
params_of (error id failure) = None
params_of not_json = None
params_of not_message = None

-- its error
abbrev pub error_of : Message → Option Json
error_of (request id method params) = None
error_of (notification method params) = None
error_of (result id value) = None
error_of (error id failure) = Some failure
error_of not_json = None
error_of not_message = None

-- the members of a body's object that are its params, its result and its error; params that are null count as absent, and a result that is null is there
abbrev pub params_in : Message → Json → Option Json
params_in (request id method params) j = not_null (named_in (codes "params") j)
params_in (notification method params) j = not_null (named_in (codes "params") j)
params_in (result id value) j = None
params_in (error id failure) j = None
params_in not_json j = None
params_in not_message j = None

abbrev pub result_in : Message → Json → Option Json
result_in (result id value) j = named_in (codes "result") j
result_in (request id method params) j = None
result_in (notification method params) j = None
result_in (error id failure) j = None
result_in not_json j = None
result_in not_message j = None

abbrev pub error_in : Message → Json → Option Json
error_in (error id failure) j = not_null (named_in (codes "error") j)
error_in (request id method params) j = None
error_in (notification method params) j = None
error_in (result id value) j = None
error_in not_json j = None
error_in not_message j = None

-- these bytes are the body, the envelope tells of its message, and its values are the body's members
pub record IsRead (parsed : Parsed) (bytes : List ℕ) : Type 0 where
  pub bytes_are : parsed.doc.bytes ≡ bytes
  pub tree : Json
  pub holds : Holds parsed.doc tree
  pub tells : Tells parsed.doc parsed.envelope (message_of bytes)
  pub members : AreMembers parsed.doc tree parsed.envelope
  pub named : parsed.method ≡ method_of (message_of bytes)

-- the answer is the number of a value that says this, or there is neither
pub record FoundBare (doc : Doc) (said : Option Json) (answer : Option ℕ) : Type 0 where
  pub value : Option Json
  pub stands : Found doc value answer
  pub is : said ≡ option_map bare value

-- the answer is the number of a value that says this, or there is none, which says null
pub record FoundResult (doc : Doc) (said : Json) (answer : Option ℕ) : Type 0 where
  pub value : Option Json
  pub stands : Found doc value answer
  pub is : said ≡ result_tree value

-- it is that of a result; of another message there is none
abbrev pub FoundResultOf : Doc → Message → Option ℕ → Type 0
FoundResultOf doc (result id value) answer = FoundResult doc value answer
FoundResultOf doc (request id method params) answer = answer ≡ None
FoundResultOf doc (notification method params) answer = answer ≡ None
FoundResultOf doc (error id failure) answer = answer ≡ None
FoundResultOf doc not_json answer = answer ≡ None
FoundResultOf doc not_message answer = answer ≡ None
