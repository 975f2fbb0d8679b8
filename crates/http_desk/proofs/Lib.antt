pub mod Inputs
pub mod FieldValues
pub mod Utf8
pub mod Bars
pub mod Named
pub mod EditFields
