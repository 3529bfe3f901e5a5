pub mod Numbered
pub mod Rows
pub mod Shown
pub use Rattle.document_model.specs.doc_text
pub use Rattle.document_model
pub use Rattle.document_model.specs.rpc_message
