-- What a frame's content says of a request.
use Rattle.std.specs.Prelude.{◌≡◌, ℕ, List}
use Rattle.rpc_message.specs.Message.{Id, result_bytes}
use Rattle.rpc_message.specs.declared.sort.Sort.{Sort}
use Rattle.rpc_message.specs.declared.sort.Sort.TheVariants as class
use Rattle.mux_client.specs.Requests.{IsRefusal, IsResult}
use Rattle.mux_client.specs.declared.reply.Reply.{Reply}
use Rattle.mux_client.specs.declared.reply.Reply.TheVariants as reply
use Rattle.mux_client.specs.declared.reply.ReplySort.{ReplySort}
use Rattle.mux_client.specs.declared.reply.ReplySort.TheVariants as sort

-- what a message of this class says of the request whose id it has
abbrev pub reply_sort : Sort → ReplySort
reply_sort class.Result = sort.Result
reply_sort class.Error = sort.Refusal
reply_sort class.Request = sort.Other
reply_sort class.Notification = sort.Other

abbrev pub SaysSort : Id → List ℕ → ReplySort → Type 0
SaysSort asked content sort.Result = IsResult asked content
SaysSort asked content sort.Refusal = IsRefusal asked content
SaysSort asked content sort.Other = (IsResult asked content → ⊥) × (IsRefusal asked content → ⊥)

abbrev pub Says : Id → List ℕ → Reply → Type 0
Says asked content (reply.Result value) = IsResult asked content × (value ≡ result_bytes content)
Says asked content reply.Refusal = IsRefusal asked content
Says asked content reply.Other = (IsResult asked content → ⊥) × (IsRefusal asked content → ⊥)
