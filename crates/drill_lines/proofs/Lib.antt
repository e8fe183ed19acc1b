pub mod MoreRounds
