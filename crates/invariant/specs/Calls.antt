-- Calls: each keeps what holds between calls, and the rows queued and buffered are those that were, then those pushed.
pub mod TakeAfter
pub mod MemoryAfter
pub mod DropCounts
pub mod PoolAfter
