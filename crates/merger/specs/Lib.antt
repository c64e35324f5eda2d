pub mod Sections
pub mod Table
pub mod Walking
pub mod Rooms
pub mod Settling
pub mod Steps
