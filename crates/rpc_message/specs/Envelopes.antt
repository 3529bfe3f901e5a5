-- The envelope of a body: which of its values say what it is, by their numbers.
use Rattle.std.specs.Prelude.{◌≡◌, ℕ, Bool, false, ◌&&◌, List, codes, if◌then◌else◌}
use Rattle.std.specs.Prelude.{Option, Some, None}
use Rattle.std.specs.Option.{option_map}
use Rattle.json_text.specs.declared.span.Span.{Span}
use Rattle.json_text.specs.Bare.{bare}
use Rattle.json_text.specs.Json.{Json, word, number, string, array, object}
use Rattle.json_text.specs.Named.{named, named_in}
use Rattle.json_span.specs.json_nodes.specs.At.{At, Found}
use Rattle.json_span.specs.json_nodes.specs.Doc.{Doc}
use Rattle.rpc_message.specs.declared.envelope.Envelope.{Envelope}
use Rattle.rpc_message.specs.declared.envelope.Envelope.TheVariants.{Request, Notification, Outcome, Failure}
use Rattle.rpc_message.specs.Message.{Id, Message, not_message, request, notification, result, error, id_of, response_id, is_null, is_two, no_name_twice, result_tree, called, answered}

-- what the members of these names make
abbrev pub by_names : Option Json → Option Json → Option Json → Option Json → Option Json → Message
by_names (Some (string s method)) id params failure value = called method id params
by_names (Some (word s w)) id params failure value = not_message
by_names (Some (number s ds)) id params failure value = not_message
by_names (Some (array s js)) id params failure value = not_message
by_names (Some (object s ms)) id params failure value = not_message
by_names None id params failure value = answered id failure value

-- the member, where it is there and not null
abbrev pub not_null : Option Json → Option Json
not_null None = None
not_null (Some j) = if is_null j then None else Some j

pub record IsRequest (doc : Doc) (at method_at : ℕ) (params_at : Option ℕ) (message : Message) : Type 0 where
  pub id_tree : Json
  pub id : Id
  pub id_stands : At doc at id_tree
  pub id_is : id_of id_tree ≡ Some id
  pub span : Span
  pub method : List ℕ
  pub method_stands : At doc method_at (string span method)
  pub params : Option Json
  pub params_stand : Found doc params params_at
  pub is : message ≡ request id method (option_map bare params)

pub record IsNotification (doc : Doc) (method_at : ℕ) (params_at : Option ℕ) (message : Message) : Type 0 where
  pub span : Span
  pub method : List ℕ
  pub method_stands : At doc method_at (string span method)
  pub params : Option Json
  pub params_stand : Found doc params params_at
  pub is : message ≡ notification method (option_map bare params)

pub record IsOutcome (doc : Doc) (at : ℕ) (value_at : Option ℕ) (message : Message) : Type 0 where
  pub id_tree : Json
  pub id : Option Id
  pub id_stands : At doc at id_tree
  pub id_is : response_id id_tree ≡ Some id
  pub value : Option Json
  pub value_stands : Found doc value value_at
  pub is : message ≡ result id (result_tree value)

pub record IsFailure (doc : Doc) (at failure_at : ℕ) (message : Message) : Type 0 where
  pub id_tree : Json
  pub id : Option Id
  pub id_stands : At doc at id_tree
  pub id_is : response_id id_tree ≡ Some id
  pub failure : Json
  pub failure_stands : At doc failure_at failure
  pub is : message ≡ error id (bare failure)

-- the envelope's values are these: a method, an id, params that aren't null, an error that isn't null, a result
abbrev pub IsMadeOf : Doc → Option Json → Option Json → Option Json → Option Json → Option Json → Envelope → Type 0
IsMadeOf doc method id params failure value (Request i m p) = Found doc id (Some i) × (Found doc method (Some m) × Found doc (not_null params) p)
IsMadeOf doc method id params failure value (Notification m p) = Found doc method (Some m) × Found doc (not_null params) p
IsMadeOf doc method id params failure value (Outcome i v) = Found doc id (Some i) × Found doc value v
IsMadeOf doc method id params failure value (Failure i e) = Found doc id (Some i) × Found doc (not_null failure) (Some e)

-- they are the members of these names of the text's value
abbrev pub AreMembers : Doc → Json → Envelope → Type 0
AreMembers doc j envelope = IsMadeOf doc (named_in (codes "method") j) (named_in (codes "id") j) (named_in (codes "params") j) (named_in (codes "error") j) (named_in (codes "result") j) envelope

-- the envelope tells of this message
abbrev pub Tells : Doc → Envelope → Message → Type 0
Tells doc (Request id method params) message = IsRequest doc id method params message
Tells doc (Notification method params) message = IsNotification doc method params message
Tells doc (Outcome id value) message = IsOutcome doc id value message
Tells doc (Failure id failure) message = IsFailure doc id failure message

-- so does an answer that may be none, which tells of no message
abbrev pub TellsIf : Doc → Option Envelope → Message → Type 0
TellsIf doc None message = message ≡ not_message
TellsIf doc (Some envelope) message = Tells doc envelope message

-- an object without doubled names that says "jsonrpc": "2.0"
abbrev pub is_enveloped : Json → Bool
is_enveloped (object s ms) = no_name_twice ms && is_two (named (codes "jsonrpc") ms)
is_enveloped (word s w) = false
is_enveloped (number s ds) = false
is_enveloped (string s cs) = false
is_enveloped (array s js) = false
