pub mod Exchanges
pub mod TryLemmas
pub mod SyncLemmas
pub mod RoundLemmas
pub mod BenchLemmas
pub mod ImageLemmas
