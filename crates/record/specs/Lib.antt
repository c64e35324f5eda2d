pub mod Lists
pub mod Number
pub mod Order
pub mod Node
