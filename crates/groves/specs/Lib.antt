pub mod Grove
pub mod SlotLines
