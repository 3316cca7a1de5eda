pub mod FirstDeliveries
pub mod LiveBooks
pub mod LiveNodes
pub mod LiveSteps
pub mod OwnStates
