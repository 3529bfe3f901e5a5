-- Worked out by the checker: an editor that waits for the answer to its `initialize` (LSP 3.17, Lifecycle Messages), whom the result of another request leaves so; parts of a start that may end, or cancel, or may not; and parts of both sides that may speak of a token for progress, or may not.
use Rattle.std.proofs.Common.{◌≡◌, ℕ, Bool, true, false, List, [], ◌∷◌, ◌++◌, refl}
use Rattle.std.specs.Prelude.{codes}
use Rattle.mux_history.specs.declared.cause.Cause.TheVariants.{Joined, FromEditor, FromServer}
use Rattle.mux_history.specs.declared.out.Out.TheVariants.{ToEditor, ToServer}
use Rattle.json_text.specs.Computes.{computes}
use Rattle.json_text.specs.Named.{named}
use Rattle.rpc_message.specs.Message.{message_of, no_name_twice, is_integer}
use Rattle.event_model.specs.declared.phase.Phase.TheVariants.{Waiting, Answered}
use Rattle.event_model.specs.Event.{Event, behind, with_cause}
use Rattle.event_model.specs.Phases.{desk_of}
use Rattle.session_laws.specs.ClientRules.{accepted_of, tokened_of}
use Rattle.session_laws.specs.Progress.{names_one, tokens_in}
use Rattle.session_laws.specs.ServerRules.{creates_of, farewell_of, may_cancel, may_say, waiting_of, working_of}

abbrev waiting_editor : List Event
waiting_editor = with_cause (with_cause [] (Joined 0)) (FromEditor 0 (codes "{\"jsonrpc\":\"2.0\",\"id\":\"a\",\"method\":\"initialize\",\"params\":{\"rootUri\":null,\"capabilities\":{}}}"))

abbrev told_of_another : List Event
told_of_another = behind waiting_editor (ToEditor 0 (codes "{\"jsonrpc\":\"2.0\",\"id\":\"b\",\"result\":null}") ∷ [])

-- the id is compared by its characters
abbrev told_of_its_own : List Event
told_of_its_own = behind told_of_another (ToEditor 0 (codes "{\"jsonrpc\":\"2.0\",\"id\":\"\\u0061\",\"result\":{\"capabilities\":{}}}") ∷ [])

another_answer : (desk_of 0 told_of_another).phase ≡ Waiting
unfolding computes message_of named no_name_twice is_integer
another_answer = refl

its_own_answer : (desk_of 0 told_of_its_own).phase ≡ Answered
unfolding computes message_of named no_name_twice is_integer
its_own_answer = refl

-- A start that is sent `shutdown` under the id 2 (LSP 3.17, Shutdown Request)

abbrev shut : List Event
shut = behind [] (ToServer 0 (codes "{\"jsonrpc\":\"2.0\",\"id\":2,\"method\":\"shutdown\"}") ∷ [])

abbrev exit_text : List ℕ
exit_text = codes "{\"jsonrpc\":\"2.0\",\"method\":\"exit\"}"

abbrev shut_and_answered : List Event
shut_and_answered = with_cause shut (FromServer 0 (codes "{\"jsonrpc\":\"2.0\",\"id\":2,\"result\":null}"))

no_exit_before : may_say (farewell_of []) (message_of exit_text) ≡ false
unfolding computes message_of named no_name_twice is_integer
no_exit_before = refl

no_exit_yet : may_say (farewell_of (with_cause shut (FromServer 0 (codes "{\"jsonrpc\":\"2.0\",\"id\":1,\"result\":null}")))) (message_of exit_text) ≡ false
unfolding computes message_of named no_name_twice is_integer
no_exit_yet = refl

an_exit : may_say (farewell_of shut_and_answered) (message_of exit_text) ≡ true
unfolding computes message_of named no_name_twice is_integer
an_exit = refl

no_second_exit : may_say (farewell_of (behind shut_and_answered (ToServer 0 exit_text ∷ []))) (message_of exit_text) ≡ false
unfolding computes message_of named no_name_twice is_integer
no_second_exit = refl

-- A start that has a request to answer under the id 2 (LSP 3.17, Cancellation Support)

abbrev asked : List Event
asked = behind [] (ToServer 0 (codes "{\"jsonrpc\":\"2.0\",\"id\":2,\"method\":\"x\"}") ∷ [])

abbrev cancel_two : List ℕ
cancel_two = codes "{\"jsonrpc\":\"2.0\",\"method\":\"$/cancelRequest\",\"params\":{\"id\":2}}"

one_cancel : may_cancel (waiting_of asked) (message_of cancel_two) ≡ true
unfolding computes message_of named no_name_twice is_integer
one_cancel = refl

no_second_cancel : may_cancel (waiting_of (behind asked (ToServer 0 cancel_two ∷ []))) (message_of cancel_two) ≡ false
unfolding computes message_of named no_name_twice is_integer
no_second_cancel = refl

no_late_cancel : may_cancel (waiting_of (with_cause asked (FromServer 0 (codes "{\"jsonrpc\":\"2.0\",\"id\":2,\"result\":null}")))) (message_of cancel_two) ≡ false
unfolding computes message_of named no_name_twice is_integer
no_late_cancel = refl

-- An editor that asks with a token for its work, and one that is asked to create a token (LSP 3.17, Progress Support)

abbrev may_tell : List Event → List ℕ → Bool
may_tell part body = names_one (codes "$/progress") (tokens_in (tokened_of part) ++ (accepted_of part).created) (message_of body)

abbrev with_a_token : List Event
with_a_token = with_cause [] (FromEditor 0 (codes "{\"jsonrpc\":\"2.0\",\"id\":1,\"method\":\"x\",\"params\":{\"workDoneToken\":\"a\",\"partialResultToken\":7}}"))

abbrev report_a : List ℕ
report_a = codes "{\"jsonrpc\":\"2.0\",\"method\":\"$/progress\",\"params\":{\"token\":\"\\u0061\",\"value\":{\"kind\":\"report\"}}}"

abbrev end_a : List ℕ
end_a = codes "{\"jsonrpc\":\"2.0\",\"method\":\"$/progress\",\"params\":{\"token\":\"a\",\"value\":{\"kind\":\"end\"}}}"

its_work : may_tell with_a_token report_a ≡ true
unfolding computes message_of named no_name_twice is_integer
its_work = refl

its_part : may_tell with_a_token (codes "{\"jsonrpc\":\"2.0\",\"method\":\"$/progress\",\"params\":{\"token\":7,\"value\":[]}}") ≡ true
unfolding computes message_of named no_name_twice is_integer
its_part = refl

-- a string isn't the integer of the same characters
no_such_token : may_tell with_a_token (codes "{\"jsonrpc\":\"2.0\",\"method\":\"$/progress\",\"params\":{\"token\":\"7\",\"value\":[]}}") ≡ false
unfolding computes message_of named no_name_twice is_integer
no_such_token = refl

no_late_report : may_tell (behind with_a_token (ToEditor 0 (codes "{\"jsonrpc\":\"2.0\",\"id\":1,\"result\":null}") ∷ [])) report_a ≡ false
unfolding computes message_of named no_name_twice is_integer
no_late_report = refl

abbrev create_a : List ℕ
create_a = codes "{\"jsonrpc\":\"2.0\",\"id\":1,\"method\":\"window/workDoneProgress/create\",\"params\":{\"token\":\"a\"}}"

abbrev asked_to_create : List Event
asked_to_create = behind [] (ToEditor 0 create_a ∷ [])

abbrev created : List Event
created = with_cause asked_to_create (FromEditor 0 (codes "{\"jsonrpc\":\"2.0\",\"id\":1,\"result\":null}"))

no_report_yet : may_tell asked_to_create report_a ≡ false
unfolding computes message_of named no_name_twice is_integer
no_report_yet = refl

a_report : may_tell created report_a ≡ true
unfolding computes message_of named no_name_twice is_integer
a_report = refl

refused_token : may_tell (with_cause asked_to_create (FromEditor 0 (codes "{\"jsonrpc\":\"2.0\",\"id\":1,\"error\":{\"code\":1,\"message\":\"m\"}}"))) report_a ≡ false
unfolding computes message_of named no_name_twice is_integer
refused_token = refl

still_a_report : may_tell (behind created (ToEditor 0 report_a ∷ [])) report_a ≡ true
unfolding computes message_of named no_name_twice is_integer
still_a_report = refl

no_report_behind_its_end : may_tell (behind created (ToEditor 0 end_a ∷ [])) report_a ≡ false
unfolding computes message_of named no_name_twice is_integer
no_report_behind_its_end = refl

-- A start that has a request with a token, and one that creates a token (LSP 3.17, Work Done Progress)

abbrev may_cancel_work : List Event → List ℕ → Bool
may_cancel_work part body = names_one (codes "window/workDoneProgress/cancel") (tokens_in (working_of part) ++ (creates_of part).created) (message_of body)

abbrev work_cancel : List ℕ
work_cancel = codes "{\"jsonrpc\":\"2.0\",\"method\":\"window/workDoneProgress/cancel\",\"params\":{\"token\":\"a\"}}"

abbrev sent_with_token : List Event
sent_with_token = behind [] (ToServer 0 (codes "{\"jsonrpc\":\"2.0\",\"id\":2,\"method\":\"x\",\"params\":{\"workDoneToken\":\"a\"}}") ∷ [])

abbrev created_there : List Event
created_there = behind (with_cause [] (FromServer 0 create_a)) (ToServer 0 (codes "{\"jsonrpc\":\"2.0\",\"id\":1,\"result\":null}") ∷ [])

a_work_cancel : may_cancel_work sent_with_token work_cancel ≡ true
unfolding computes message_of named no_name_twice is_integer
a_work_cancel = refl

no_cancel_of_results : may_cancel_work (behind [] (ToServer 0 (codes "{\"jsonrpc\":\"2.0\",\"id\":2,\"method\":\"x\",\"params\":{\"partialResultToken\":\"a\"}}") ∷ [])) work_cancel ≡ false
unfolding computes message_of named no_name_twice is_integer
no_cancel_of_results = refl

no_cancel_unanswered : may_cancel_work (with_cause [] (FromServer 0 create_a)) work_cancel ≡ false
unfolding computes message_of named no_name_twice is_integer
no_cancel_unanswered = refl

a_created_cancel : may_cancel_work created_there work_cancel ≡ true
unfolding computes message_of named no_name_twice is_integer
a_created_cancel = refl

no_cancel_behind_its_end : may_cancel_work (with_cause created_there (FromServer 0 end_a)) work_cancel ≡ false
unfolding computes message_of named no_name_twice is_integer
no_cancel_behind_its_end = refl
