-- The text of a string in JSON, for crates that stand on this one.
pub use Rattle.doc_text.specs.Changes.{string_text}
