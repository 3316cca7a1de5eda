pub mod WorldMoments
pub mod Servers
pub mod ClosedBelow
pub mod Alone
pub mod EpochRuns
pub mod OwnSteps
pub mod NodeSteps
pub mod Continuing
