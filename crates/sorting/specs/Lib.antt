pub mod Digests
pub mod Sorted
pub mod Promises
