-- Steps of a push: each keeps what holds, and every row reads as it did.
pub mod AttachMoves
pub mod CloseMoves
pub mod CompactMoves
pub mod CopyMoves
pub mod EntryMoves
pub mod MoveLaws
pub mod OneList
pub mod OpenMoves
pub mod PartCompact
pub mod PartMoves
pub mod PlainMoves
pub mod RaiseMoves
pub mod SpareMoves
pub mod Stored
pub mod ValueMoves
pub mod WholeMoves
pub mod RaisedMoves
