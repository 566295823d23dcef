pub mod Worked
pub mod WorkedRows
pub mod WorkedFresh
pub mod WorkedMessages
pub mod WorkedOperands
pub mod WorkedServices
pub mod WorkedSets
