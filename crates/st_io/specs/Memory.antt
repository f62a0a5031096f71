-- Sources and sinks in memory: the bytes left or taken, and the calls that are to fail.
use Rattle.std.specs.Prelude.{ℕ, List, drop}
use Rattle.st_io.specs.declared.plan.Plan.{Plan}
use Rattle.st_io.specs.declared.memory_source.SureSource.{SureSource}
use Rattle.st_io.specs.declared.memory_source.MemorySource.{MemorySource}
use Rattle.st_io.specs.declared.memory_sink.SureSink.{SureSink}
use Rattle.st_io.specs.declared.memory_sink.MemorySink.{MemorySink}

-- the bytes still to come
abbrev pub left_of : SureSource → List ℕ
left_of s = drop s.at s.bytes

-- the bytes still to come
abbrev pub memory_left : MemorySource → List ℕ
memory_left s = left_of s.source

-- the reads that are to fail
abbrev pub source_plan : MemorySource → Plan
source_plan s = s.plan

-- the bytes taken so far
abbrev pub taken_of : SureSink → List ℕ
taken_of s = s.bytes.items

-- how many bytes are taken in one call at most
abbrev pub most_of : SureSink → ℕ
most_of s = s.most

-- the bytes taken so far
abbrev pub memory_taken : MemorySink → List ℕ
memory_taken s = taken_of s.sink

-- how many bytes are taken in one call at most
abbrev pub memory_most : MemorySink → ℕ
memory_most s = most_of s.sink

-- the writes that are to fail
abbrev pub sink_plan : MemorySink → Plan
sink_plan s = s.plan
