pub mod DocumentFolds
