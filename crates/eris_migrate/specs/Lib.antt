pub mod Migrated
pub mod Migrations
pub mod Unread
