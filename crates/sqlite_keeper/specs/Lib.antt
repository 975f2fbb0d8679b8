pub mod TableFault
pub mod SqliteKeeper
pub mod LastAnswers
