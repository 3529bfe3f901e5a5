-- Lemmas on the characters of strings, for crates that stand on this one.
pub use Rattle.json_token.proofs.Scalars.{scalar_characters, scalar_string, utf8_characters}
