-- What the entries use of the proofs of the parts that rows share.
pub use Rattle.mux_turns.proofs.Matched.{whole_entry}
pub use Rattle.mux_turns.proofs.Rows.{is_first, is_second}
