pub mod OneMoreVisit
pub mod OpenedFarm
pub mod WholeHosting
