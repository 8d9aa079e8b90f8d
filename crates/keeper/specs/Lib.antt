pub mod Due
pub mod Opening
