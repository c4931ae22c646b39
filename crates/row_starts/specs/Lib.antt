pub mod RowStarts
