-- What messages and their fixed texts are, for crates that stand on this one.
pub use Rattle.rpc_message.specs.Message.{Message, not_json, integer, result}
pub use Rattle.rpc_message.specs.Texts.{Code, error_text, invalid_request, parse_error}
