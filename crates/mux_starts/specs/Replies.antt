-- What goes to an editor, as a row, and which request it answers.
use Rattle.std.specs.Prelude.{◌≡◌, ℕ, true, List, MatchOption}
use Rattle.std.specs.Prelude.{Option, Some, None}
use Rattle.mux_history.specs.declared.out.Out.TheVariants.{ToEditor}
use Rattle.event_model.specs.Event.{Event}
use Rattle.event_model.specs.Row.{Row, nothing, send}
use Rattle.event_model.specs.Settings.{Settings}
use Rattle.group_rows.specs.Answers.{own_version}
use Rattle.group_rows.specs.Forwarded.{Forwarded}
use Rattle.response_route.specs.Answers.{answer_text}
use Rattle.rpc_message.specs.Message.{message_of}
use Rattle.mux_turns.specs.mux_facts.specs.Allowed.{is_response}
use Rattle.mux_starts.specs.Answers.{IsAsked}
use Rattle.mux_starts.specs.declared.answers.Reply.{Reply}

abbrev pub reply_row : Option Reply → Row
reply_row (Some r) = send (ToEditor r.editor r.body)
reply_row None = nothing

-- it answers this request of its editor, which was sent to start s, under the request's own id
pub record AnswersOne (settings : Settings) (before : List Event) (s : ℕ) (body : List ℕ) (f : Forwarded) (r : Reply) : Type 0 where
  pub editor : r.editor ≡ f.editor
  pub id : r.id ≡ f.id
  pub text : r.body ≡ answer_text (own_version settings before s f) body f.id

abbrev pub Answers : Settings → List Event → ℕ → List ℕ → Forwarded → Option Reply → Type 0
Answers settings before s body f reply = MatchOption reply (Unit {0}) (AnswersOne settings before s body f)

-- the body is a response to one
pub record IsReply (settings : Settings) (before : List Event) (s : ℕ) (body : List ℕ) (r : Reply) : Type 0 where
  pub asked : Forwarded
  pub known : IsAsked before asked
  pub response : is_response (message_of body) ≡ true
  pub answers : AnswersOne settings before s body asked r
