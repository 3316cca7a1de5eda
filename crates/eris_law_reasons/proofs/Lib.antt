pub mod FormReasons
pub mod GrammarReasons
