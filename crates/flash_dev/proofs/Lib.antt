pub mod Programming
pub mod Overwriting
pub mod Accounting
pub mod Costing
pub mod Beginning
pub mod CutLemmas
