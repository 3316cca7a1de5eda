pub mod WholeLates
pub mod Givers
pub mod Tellers
pub mod Prompts
pub mod SaidFronts
pub mod OldPackets
pub mod CountedFronts
