pub mod Banks
pub mod Fresh
pub mod Filling
pub mod Noted
pub mod Visits
