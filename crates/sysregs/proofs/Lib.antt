pub mod Configs
pub mod Granules
pub mod Accepted
