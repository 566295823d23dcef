pub mod Numbers
pub mod Texts
pub mod Shown
pub mod Results
