-- What the daemon is asked, and which frame answers (JSON-RPC 2.0, sections 4 and 5).
use Rattle.std.specs.Prelude.{◌≡◌, ℕ, List, [], ◌∷◌, ◌++◌, codes}
use Rattle.std.specs.Prelude.{Option, Some, None}
use Rattle.json.specs.Print.{quoted}
use Rattle.json_text.specs.Json.{Json}
use Rattle.rpc_message.specs.Message.{Id, integer, text, result, error, message_of, result_bytes}
use Rattle.rpc_message.specs.Texts.{request_text}
use Rattle.base_frame.specs.Frames.{framed}
use Rattle.mux_client.specs.declared.question.Question.{Question}
use Rattle.mux_client.specs.declared.question.Question.TheVariants as question

-- the request that names a server
abbrev pub open_text : List ℕ → List ℕ
open_text name = codes "{\"jsonrpc\":\"2.0\",\"id\":\"lspmux:open\",\"method\":\"lspmux/open\",\"params\":{\"server\":" ++ (quoted name ++ codes "}}")

abbrev pub open_id : Id
open_id = text (codes "lspmux:open")

abbrev pub method_of : Question → List ℕ
method_of question.Status = codes "lspmux/status"
method_of question.Stop = codes "lspmux/stop"

abbrev pub question_text : Question → List ℕ
question_text q = request_text 1 (method_of q) None

abbrev pub question_id : Id
question_id = integer (codes "1")

-- the frame that is sent first: it names the server, where one is meant
abbrev pub first_frame : Option (List ℕ) → List ℕ
first_frame None = []
first_frame (Some name) = framed (open_text name)

-- the result of the request of this id
abbrev pub IsResult : Id → List ℕ → Type 0
IsResult id body = (value : Json) × (message_of body ≡ result (Some id) value)

-- its error
abbrev pub IsRefusal : Id → List ℕ → Type 0
IsRefusal id body = (why : Json) × (message_of body ≡ error (Some id) why)

-- what is shown of a result's bytes: for the status these and a line feed
abbrev pub shown_text : Question → List ℕ → List ℕ
shown_text question.Status value = value ++ (10 ∷ [])
shown_text question.Stop value = []

-- what is shown of an answer
abbrev pub shown_of : Question → List ℕ → List ℕ
shown_of q answer = shown_text q (result_bytes answer)
