-- Words on JSON values, for crates that stand on this one.
pub use Rattle.json_span.specs.json_nodes.specs.Puts.{edit_if, member_edits, put_edits}
pub use Rattle.json_span.specs.json_nodes.specs.Same.{same}
