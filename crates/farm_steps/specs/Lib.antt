pub mod Moments
pub mod RequestMap
pub mod ViewSteps
pub mod ArriveStep
pub mod RelaySteps
pub mod EditSteps
pub mod ApplyStep
