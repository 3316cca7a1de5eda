pub mod PutLines
pub mod ReadLines
