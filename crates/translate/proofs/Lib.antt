pub mod Choices
mod Entering
pub mod Fields
pub mod Starts
pub mod OnWords1
pub mod Deeper
pub mod Tops
pub mod OnTables1
pub mod Replays
pub mod Begins1
pub mod Begun
pub mod Had
pub mod DeepLaw
pub mod FirstStage
pub mod BothStages
