-- Laws of the rows on documents, for crates that stand on this one.
pub use Rattle.document_laws.proofs.Changing.{change_silent, change_stays, change_texts}
pub use Rattle.document_laws.proofs.Following.{close_silent, close_stays, close_texts, open_silent, open_stays, open_texts}
pub use Rattle.document_laws.proofs.Sends.{Stays}
