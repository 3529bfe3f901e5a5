-- The four classes of messages, and why a body is refused.
use Rattle.std.specs.Prelude.{◌≡◌}
use Rattle.std.specs.Prelude.{Option, Some, None}
use Rattle.rpc_message.specs.declared.sort.Sort.{Sort}
use Rattle.rpc_message.specs.declared.sort.Sort.TheVariants as sort
use Rattle.rpc_message.specs.declared.sort.Malformed.{Malformed}
use Rattle.rpc_message.specs.declared.sort.Malformed.TheVariants.{NotJson, NotMessage, Memory}
use Rattle.rpc_message.specs.Message.{Message, request, notification, result, error, not_json, not_message}

-- its class; none of a body that is no message
abbrev pub sort_of : Message → Option Sort
sort_of (request id method params) = Some sort.Request
sort_of (notification method params) = Some sort.Notification
sort_of (result id value) = Some sort.Result
sort_of (error id failure) = Some sort.Error
sort_of not_json = None
sort_of not_message = None

-- the body that says this is refused so
abbrev pub Refuses : Malformed → Message → Type 0
Refuses NotJson message = message ≡ not_json
Refuses NotMessage message = message ≡ not_message
Refuses Memory message = Unit {0}
