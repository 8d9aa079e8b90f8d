-- The files in an order to read them: each needs only those before it.
--
-- ByHand       the definitions on short lists, to be compared by eye
--
-- Lists and their rings, for records of any type
-- Counting     how often a leaf occurs
-- Gaps         the gap in its three cases, and that it is the paper's
-- Items        insert, remove and put a record keep a list ascending
-- Ring         where a leaf of the ring can stand, and that nothing is listed in its gap
-- Find         the leaf of an item, and the leaf in whose gap a number lies
-- RingChanges  which leaves change with the list
--
-- Trees known by their hashes alone, or else a fault
-- Nodes        what a hash says of a tree
-- Records      the hash of a record tells the record
-- Align        a path that folds to a tree's hash is a path of that tree
--
-- Memoranda
-- Steps        steps on a list, in order and reversed
-- Memos        what a memorandum means, and a tree that stands for a list, when more strings are formed
-- TreeKinds    kinds 02 to 05
-- RingKinds    kinds 06 to 0a
-- ListKinds    kinds 0c to 0f
-- Same         the root settles the list
--
-- In paper's words
-- Bridge       the theory's parent, hashes and records are paper's
-- Paths        kind 01
-- InPaper      the laws of the kinds that speak of records, leaves and parents
-- Endings      a fault among well-formed strings can be shown
pub mod ByHand
pub mod Counting
pub mod Gaps
pub mod Items
pub mod Ring
pub mod Find
pub mod RingChanges
pub mod Nodes
pub mod Records
pub mod Align
pub mod Steps
pub mod Memos
pub mod TreeKinds
pub mod RingKinds
pub mod ListKinds
pub mod Same
pub mod Bridge
pub mod Paths
pub mod InPaper
pub mod Endings
