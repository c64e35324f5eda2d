pub mod Found
pub mod Faults
pub mod Mentions
pub mod State
pub mod Marks
pub mod Kinds
pub mod Steps
