pub mod Bits
pub mod Trees
pub mod Edits
pub mod Firsts
pub mod Outcomes
