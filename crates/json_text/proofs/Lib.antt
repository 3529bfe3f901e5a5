pub mod Changes
pub mod Compact
pub mod Depths
pub mod Edits
pub mod Forms
pub mod Inside
pub mod Moves
pub mod Paths
pub mod Put
pub mod Swaps
pub mod Complete
mod Front
pub mod Laws
mod ListsRead
mod ListsSound
mod NumbersRead
mod NumbersSound
mod Sound
mod StringsRead
mod StringsSound
mod Worked
