pub mod Doing
pub mod CutCounts
pub mod PlayLines
pub mod OneCall
pub mod DrillRounds
pub mod Adding
pub mod ReadLemmas
mod FollowLemmas
pub mod ServedLemmas
pub mod ServedLines
pub mod Powering
pub mod Whole
pub mod Tracings
