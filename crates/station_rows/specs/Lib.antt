-- What the contracts of worked rows cite: the totals of the task sets that they play, what a worker
-- has in hand, and the passes of a board.
pub mod Totals
pub mod Played
pub mod Boards
