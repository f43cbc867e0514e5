-- Steps of a push: each keeps what holds, and every row reads as it did.
pub mod Moves
pub mod TallyMoves
