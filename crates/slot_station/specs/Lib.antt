-- What the contracts of a station cite: tokens, replies, notes and cells, desks, and the laws.
--
-- Letters are those of slot_history's definitions: d a shape, w the worker that calls, u and v any
-- workers, s a slot, a a call with its answer, p a place, q a query, e an entry, t a task set, n
-- how many tuples a claim is for. Beside them b is a value of a cell.
pub mod Answers
pub mod Cells
pub mod Desks
pub mod Exchanges
pub mod Laws
pub mod Log
pub mod GhostLists
pub mod Places
pub mod Replies
pub mod Shapes
pub mod Tokens
