pub mod SendLaws
pub mod OnceLaws
pub mod AskLaws
pub mod WireParts
pub mod PollTurns
pub mod TryLaws
pub mod CommandLaws
pub mod RestartLaws
