-- What messages say of documents, for crates that stand on this one.
pub use Rattle.document_model.specs.Notices.{integer_text}
pub use Rattle.document_model.specs.Sayings.{Saying, changes, changing, changing_by, closes, closing, closing_by, integer_at, member_of, misshapen, nothing, opening, opening_by, opens, saying_by, saying_of, speaks, string_at}
pub use Rattle.document_model.specs.Strings.{string_text}
