pub mod AnswersTold
pub mod CommandAnswers
pub mod CommandNames
pub mod Drills
pub mod Headlines
pub mod InputsDue
pub mod StatusMaps
pub mod Words
