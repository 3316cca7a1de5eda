pub mod Asks
pub mod SequencerValues
pub mod Sequencers
pub mod SequencersValues
pub mod StampingFacts
pub mod Stamps
