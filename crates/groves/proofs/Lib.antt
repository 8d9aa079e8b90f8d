-- The files in an order to read them: each needs only those before it.
--
-- Groves      memory that keeps a tree: its nodes, siblings and climbs; what stays where the slots do
-- Stored      leaves in slots from 0 on
-- Puts        a leaf put keeps the tree with that leaf; memory of zeros keeps empty slots
-- Found       the leaf that a test finds and its way: the first slot that passes, and the way up from it
-- Forks       two slots under their fork
-- SlotLines   honest lines over slots: insert, swap, and the last leaf taken out
-- ShortLines  their ways are short, so that each is one path
pub mod Groves
pub mod Stored
pub mod Puts
pub mod Found
pub mod Forks
pub mod SlotLines
pub mod ShortLines
