-- The files in an order to read them: each needs only those before it.
--
-- A conversation
-- Hears      the reply awaited, heard
-- Goes       lines that the module accepts and that change nothing, one after the other
-- Ends       the last line: it commits, or answers a question
-- Sorts      lines by the reply that they await: a path, a memorandum alone
-- Parts      lines by their part of a plan: first, place, swap, turn and adopt
-- Grants     a conversation that ends grants the wish that its lines bring about
--
-- Memory
-- Laid       rows in slots with their tree: one put, one more, the last gone
-- Grounds    the tree that memory keeps stands for the module's list
-- Listed     what is listed is found in memory
-- Allowed    a wish that is not refused: what the tests say, and its plan
-- After      tablet and module agree after a change, by leaves with their records in full
-- OneSlot    plans that change one slot; trees of one leaf or none
-- TwoSlots   plans that change two: the lines up their fork
--
-- Each wish
-- Questions  ask
-- Rewrites   another record for an item's leaf
-- Records    set and clear
-- Inserts    an item more, beside others
-- Drops      the last leaf taken out
-- Swaps      a leaf that is not the last: exchanged with it, then taken out
-- FirstItem  the first item
-- OnlyItem   the only one
-- Places     insert and remove
--
-- Legal      the tablet refuses just what it should
-- Keeper     hence every wish is granted: `honest_keeper`
pub mod Hears
pub mod Goes
pub mod Ends
pub mod Sorts
pub mod Parts
pub mod Grants
pub mod Laid
pub mod Grounds
pub mod Listed
pub mod Allowed
pub mod After
pub mod OneSlot
pub mod TwoSlots
pub mod Questions
pub mod Rewrites
pub mod Records
pub mod Inserts
pub mod Drops
pub mod Swaps
pub mod FirstItem
pub mod OnlyItem
pub mod Places
pub mod Legal
pub mod Keeper
