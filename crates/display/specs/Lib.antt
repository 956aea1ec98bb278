pub mod Cell
pub mod CellLaws
