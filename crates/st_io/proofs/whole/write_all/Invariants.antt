-- What is added from here on for the rest makes what is to be added in all.
use Rattle.std.proofs.Common.{◌≡◌, List, ℕ, Option, length}
use Rattle.st_io.specs.Streams.{Adds, AddsFront}
use Rattle.st_io.proofs.whole.write_all.Given as goal

abbrev pub invariant-loop-rest : goal.invariant-loop-rest
invariant-loop-rest g l = record {
  all : (last : Option (List ℕ)) → Adds (g.K.Sink.taken l.sink) last l.rest → Adds (g.K.Sink.taken l.initial.sink) last l.bytes;
  front : (last : Option (List ℕ)) → AddsFront (g.K.Sink.taken l.sink) last l.rest → AddsFront (g.K.Sink.taken l.initial.sink) last l.bytes;
  no_fault : g.K.Sink.faults l.sink ≡ g.K.Sink.faults l.initial.sink;
}

abbrev pub decreases-loop-rest : goal.decreases-loop-rest
decreases-loop-rest g l = length l.rest
