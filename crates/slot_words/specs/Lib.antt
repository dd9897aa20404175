-- What the laws of the words cite: where words lie, how they are packed, what they hold, each step.
--
-- Letters are those of slot_history's definitions. A word and an address are written out, and n is
-- a number that a call brings: of tuples or of task sets.
pub mod Addresses
pub mod Encodings
pub mod Numbers
pub mod Words
pub mod Steps
pub mod Laws
