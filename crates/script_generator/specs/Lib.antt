pub mod Stir
