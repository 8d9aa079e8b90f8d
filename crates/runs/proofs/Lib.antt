-- The files in an order to read them: each needs only those before it.
--
-- A line read
-- Widths      a request read from a sound frame has digests of 32 bytes and numbers of 8
-- Parts       what a row of the table of kinds carries, written and read back
-- Frames      a request written as a line reads back as that request
-- Accepted    accepted: no check applies, by its number, and the strings of each are formed; and back
-- Lines       what any line comes to: refused, or accepted with no check of its request applying
--
-- Any run is safe or has ended
-- Masses      masses by their bounds; no record that a run lists has a silly one
-- Formed      every string formed is well formed; a module that is not open forms none
-- Book        every memorandum issued means what its string says
-- Sides       what no memorandum bears on: the counter's width, the secret's, the strings, a closed module
-- Carried     so does every one that an accepted request carries, or it was forged
-- Safe        the invariant, and that an accepted line of each kind keeps it
-- Sizes       what is listed fits lines, in a run and after a legal change
-- Replies     what the reply to an accepted question says, by its bytes
-- Runs        any line keeps it or ends the run: `safety`
-- Readings    memoranda read by the earliest and by the last line that issued them come to one list
-- Ended       what an ending is; none before the module is open or by opening it, and none by honest lines
-- Entries     what a line enters in the book
--
-- Every legal wish is granted
-- Climbs      ways in a tree: what paths along them fold to, cut at 64 levels
-- Places      a leaf under its way, two leaves under their fork, and leaves replaced
-- RingLeaves  no two leaves of a ring have one item or lead to one
-- Spaces      reply space above 195 bytes makes no difference
-- Fed         honest lines fed one after another, and the memoranda that they get
-- Reach       U1 up a way and U2 up a fork
-- Adopts      an EI placed, turned round and adopted
-- Standing    a world and a tree that stands for it: the leaf that a test finds
-- SetClear    set and clear
-- Asks        questions
-- Moves       swap and insert
-- Removes     remove
-- Grown       the tree after each change stands for the list after it
-- Exchanged   a swap exchanges two leaves and moves no other
-- Live        hence every legal wish is granted: `liveness`
--
-- Also        the root settles the list, and what else holds of runs: `also`
-- ByHand      what is legal, true and replied, on one short list
pub mod Widths
pub mod Parts
pub mod Frames
pub mod Accepted
pub mod Lines
pub mod Masses
pub mod Formed
pub mod Book
pub mod Sides
pub mod Carried
pub mod Safe
pub mod Sizes
pub mod Replies
pub mod Runs
pub mod Readings
pub mod Ended
pub mod Entries
pub mod Climbs
pub mod Places
pub mod RingLeaves
pub mod Spaces
pub mod Fed
pub mod Reach
pub mod Adopts
pub mod Standing
pub mod SetClear
pub mod Asks
pub mod Moves
pub mod Removes
pub mod Grown
pub mod Exchanged
pub mod Live
pub mod Also
pub mod ByHand
