-- The parts of an envelope, by their numbers.
use Rattle.std.specs.Prelude.{ℕ}
use Rattle.std.specs.Prelude.{Option, Some, None}
use Rattle.rpc_message.specs.declared.envelope.Envelope.{Envelope}
use Rattle.rpc_message.specs.declared.envelope.Envelope.TheVariants.{Request, Notification, Outcome, Failure}

-- a request's params
abbrev pub request_params : Envelope → Option ℕ
request_params (Request id method params) = params
request_params (Notification method params) = None
request_params (Outcome id value) = None
request_params (Failure id failure) = None

-- a request's method
abbrev pub request_method : Envelope → Option ℕ
request_method (Request id method params) = Some method
request_method (Notification method params) = None
request_method (Outcome id value) = None
request_method (Failure id failure) = None

-- a notification's method
abbrev pub notification_method : Envelope → Option ℕ
notification_method (Request id method params) = None
notification_method (Notification method params) = Some method
notification_method (Outcome id value) = None
notification_method (Failure id failure) = None

-- the value of a response with a result
abbrev pub outcome_value : Envelope → Option ℕ
outcome_value (Request id method params) = None
outcome_value (Notification method params) = None
outcome_value (Outcome id value) = value
outcome_value (Failure id failure) = None

-- the id of a response with a result
abbrev pub outcome_id : Envelope → Option ℕ
outcome_id (Request id method params) = None
outcome_id (Notification method params) = None
outcome_id (Outcome id value) = Some id
outcome_id (Failure id failure) = None

-- a notification's params
abbrev pub notification_params : Envelope → Option ℕ
notification_params (Request id method params) = None
notification_params (Notification method params) = params
notification_params (Outcome id value) = None
notification_params (Failure id failure) = None
