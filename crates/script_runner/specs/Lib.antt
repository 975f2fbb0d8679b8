pub mod MakeLine
pub mod RunSoFar
pub mod RunScript
pub mod Openings
