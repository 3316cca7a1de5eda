pub mod SentLaws
pub mod TextLemmas
