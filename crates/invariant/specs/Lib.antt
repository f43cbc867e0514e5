-- What holds between any two calls of a history, and that every step keeps it and what each row shows.
pub mod Holding
pub mod ByteLaws
pub mod PutLaws
pub mod RowLaws
pub mod Steps
pub mod Calls
