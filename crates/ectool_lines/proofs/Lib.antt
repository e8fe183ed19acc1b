pub mod SendLemmas
pub mod WantLemmas
pub mod ReplyLemmas
pub mod Padding
pub mod AnswerLemmas
pub mod KeepLemmas
pub mod ShortLines
pub mod DarkLines
