-- Lemmas on JSON strings, for crates that stand on this one.
pub use Rattle.json_span.proofs.Quoted.{spells_text}
pub use Rattle.json_span.proofs.Scalars.{scalar_string, utf8_characters}
