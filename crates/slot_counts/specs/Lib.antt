-- Laws about the counts of a slot.
pub mod CountLaws
