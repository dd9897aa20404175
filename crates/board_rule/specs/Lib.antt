-- The definitions of the board: views, the running rule, steps, passes, and how a board begins and
-- ends.
--
-- Letters are those of slot_history's definitions: d a shape, w a worker, mostly the one that makes
-- the step, u another or any, s a slot, a a call with its answer, c a call without it, p a place, q
-- a query, e an entry, es entries, n a number, k a number that counts along a list, f a function.
-- Beside them:
--   v      a view, of a seat that is left where there are two
--   i, j   seats by their numbers in the table
--   b      a value of a cell
pub mod Cells
pub mod Ends
pub mod Laws
pub mod Lives
pub mod Operations
pub mod Passes
pub mod Rule
pub mod Steps
pub mod Views
