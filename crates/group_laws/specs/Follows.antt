-- What a start's documents follow, for crates that stand on this one.
pub use Rattle.document_laws.specs.Follows.{Held, texts_in, told_outs}
