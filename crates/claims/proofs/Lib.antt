pub mod Cycles
pub mod Rooms
pub mod Demands
