-- Laws about a column's record.
pub mod RecordLaws
