-- What the characters of a string's bytes are, for crates that stand on this one.
pub use Rattle.json_token.specs.Characters.{characters_in}
