pub mod LastStamps
