pub mod Sets
pub mod LawProofs
