-- E10: a request that no start takes waits, or is refused (LSP 3.17, RequestFailed).
use Rattle.std.specs.Prelude.{ℕ, List}
use Rattle.rpc_message.specs.Texts.{request_failed}
use Rattle.event_model.specs.Event.{Event}
use Rattle.event_model.specs.Row.{Row, choose, nothing, on}
use Rattle.event_model.specs.Settings.{Settings}
use Rattle.group_words.specs.Houses.{home_of}
use Rattle.group_facts.specs.group_rows.specs.Rows.{answer_error, may_wait}

abbrev pub waiting_at : Settings → List Event → ℕ → List ℕ → ℕ → Row
waiting_at settings before e body g = choose (may_wait settings before e body g) nothing (answer_error e body request_failed)

abbrev pub waiting_row : Settings → List Event → ℕ → List ℕ → Row
waiting_row settings before e body = on (home_of settings e before) (answer_error e body request_failed) (waiting_at settings before e body)
