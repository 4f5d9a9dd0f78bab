pub mod PagesLemmas
pub mod RowsLemmas
pub mod Held
pub mod PendingLemmas
