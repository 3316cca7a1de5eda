pub mod Banks
pub mod BankHistories
pub mod Reading
