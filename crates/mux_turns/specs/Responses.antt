-- What answers a request.
use Rattle.std.specs.Prelude.{Bool, true, false}
use Rattle.rpc_message.specs.declared.sort.Sort.{Sort}
use Rattle.rpc_message.specs.declared.sort.Sort.TheVariants.{Result, Error}

-- a message of this class answers a request
abbrev pub is_response : Sort → Bool
is_response Result = true
is_response Error = true
is_response _ = false
