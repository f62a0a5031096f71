-- Calls that are to fail.
use Rattle.std.specs.Prelude.{◌==◌, ℕ, ◌+◌, ◌-◌, ◌^◌, min, if◌then◌else◌, Bool, List}
use Rattle.std.specs.List.{list_any}
use Rattle.st_io.specs.declared.plan.Plan.{Plan}

-- no call was made yet
abbrev pub begun : List ℕ → Plan
begun places = record { places = places; calls = 0; faults = 0 }

-- whether the next call is to fail
abbrev pub fails_next : Plan → Bool
fails_next plan = list_any (λ place. place == plan.calls) plan.places

-- one more, where counts end at 2^64-1
abbrev pub one_more : ℕ → ℕ
one_more count = min (count + 1) (2 ^ 64 - 1)

-- one call later, with its fault counted
abbrev pub called : Plan → Plan
called plan = record plan { calls = one_more plan.calls; faults = if fails_next plan then one_more plan.faults else plan.faults }
