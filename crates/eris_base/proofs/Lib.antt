pub mod Booleans
pub mod Each
pub mod IdLaws
pub mod Numbers
pub mod Orders
pub mod TxnIdLaws
