-- Words on members and strings of bodies, for crates that stand on this one.
pub use Rattle.mux_model.specs.event_model.specs.Members.{listed, named_of, params_of}
pub use Rattle.mux_model.specs.Sayings.{string_at}
