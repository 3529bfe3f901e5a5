pub mod ClientRules
pub mod Progress
pub mod ServerRules
pub mod Sessions
