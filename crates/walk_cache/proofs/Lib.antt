pub mod EachKind
pub mod Moves
pub mod Sizes
pub mod Fills
pub mod Keeps
pub mod Searched
