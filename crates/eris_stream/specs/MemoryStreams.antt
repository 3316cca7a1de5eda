use Rattle.std.specs.Prelude.{ℕ, Bool, List, ◌==◌, if◌then◌else◌}
use Rattle.std.specs.List.{list_any}
use Rattle.eris_stream.specs.Faults.{one_more}

-- the calls of a stream in memory: the numbers of those that fail, from 1, how many were made, and how many failed
pub record CallsValue : Type 0 where
  pub failing : List ℕ
  pub made : ℕ
  pub faults : ℕ

-- whether the next call fails
unfoldable pub next_fails : CallsValue → Bool
next_fails calls = list_any (λ number. number == one_more calls.made) calls.failing

-- the calls after the next one
unfoldable pub after_next : CallsValue → CallsValue
after_next calls = record calls {
  made = one_more calls.made;
  faults = if next_fails calls then one_more calls.faults else calls.faults;
}

-- a source in memory: the bytes still to come, at most how many it gives at a read, and its reads
pub record MemSourceValue : Type 0 where
  pub left : List ℕ
  pub chunk : ℕ
  pub reads : CallsValue

-- a sink in memory: the bytes taken, for how many more there is room, at most how many it takes at a write, and its writes
pub record MemSinkValue : Type 0 where
  pub taken : List ℕ
  pub spare : ℕ
  pub chunk : ℕ
  pub writes : CallsValue

-- a sink in memory that never fails: the bytes taken, and for how many more there is room
pub record SureSinkValue : Type 0 where
  pub taken : List ℕ
  pub spare : ℕ
