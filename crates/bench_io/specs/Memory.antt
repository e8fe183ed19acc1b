-- What contracts see of the source and the sink in memory.
use Rattle.std.specs.Prelude.{ℕ, List}
use Rattle.flash_dev.specs.Calls.{Calls}
use Rattle.bench_io.specs.Streams.{Asks}

-- all the bytes, how many of them were given, and how many at the last call
pub record SourceState : Type 0 where
  pub bytes : List ℕ
  pub taken : ℕ
  pub last : ℕ
  pub calls : Calls

-- how often the source was asked, and how many bytes it gave when it was asked last
abbrev pub asks_of : SourceState → Asks
asks_of source = record { calls = source.calls.made; last = source.last }

-- the bytes that were appended, and how many more there is room for
pub record SinkState : Type 0 where
  pub bytes : List ℕ
  pub room : ℕ
  pub calls : Calls
