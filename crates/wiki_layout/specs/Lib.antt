pub mod AsModel
pub mod ClapOptions
pub mod Layout
pub mod Options
pub mod ReadLayout
