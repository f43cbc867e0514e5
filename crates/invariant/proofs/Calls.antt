-- Calls: each keeps what holds between calls, and the rows queued and buffered are those that were, then those pushed.
pub mod TakeAfter
pub mod PoolAfter
pub mod MemoryAfter
pub mod After
pub mod DropAfter
pub mod DropLists
pub mod FinishAfter
pub mod LimitAfter
pub mod PushAfter
pub mod QueueAfter
pub mod SetUpAfter
pub mod Tested
pub mod WholeAfter
pub mod LetGoAfter
