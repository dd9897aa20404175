-- The definitions of histories, lowest first, and the laws that the functions of module `laws`
-- state.
--
-- One letter means one thing in all of them:
--   d   the shape of an object               S      a state of it
--   w   a worker, mostly the one that calls  u, v   other workers, or any
--   s   a slot                               x, y   states of a slot
--   a   a call with its answer               c      a call without it
--   p   a place                              q      a query
--   e   an entry                             h, es  entries, the newest first
--   t   a task set in a slot                 id, jd, kd  task sets by their numbers
--   m   a claimed range, with its worker     r      a notice record
--   n   a number: of tuples, of bits, ..     k      a number that a function or a set takes
--   f   a set or a function                  B      a book
--   P   a property
-- A definition with more than four parameters names them in words.
pub mod Sets
pub mod States
pub mod Steps
pub mod Allowed
pub mod Histories
pub mod Notices
pub mod Table
pub mod Bounds
pub mod Laws
pub mod Lives
pub mod LoneTurns
pub mod Calls
pub mod Beginnings
pub mod Numbers
pub mod Payments
pub mod Looks
pub mod Subject
pub mod Examples
