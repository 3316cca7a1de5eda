pub mod Undelivered
