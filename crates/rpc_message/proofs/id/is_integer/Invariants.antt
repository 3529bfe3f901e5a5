use Rattle.std.proofs.Common.{◌≡◌, drop}
use Rattle.rpc_message.specs.Message.{is_integer}
use Rattle.rpc_message.proofs.id.is_integer.Given as goal

abbrev pub invariant-loop-byte : goal.invariant-loop-byte
invariant-loop-byte l = is_integer (drop l.byte-index l.text) ≡ is_integer l.text
