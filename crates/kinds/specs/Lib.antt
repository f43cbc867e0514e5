-- The kinds of columns, their widths, and the table's rule.
pub mod Kind
pub mod KindLaws
