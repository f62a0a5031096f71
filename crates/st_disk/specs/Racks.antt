-- Racks of disks: a place for each server that a deployment can have, 7 sites of 7 servers at most.
use Rattle.std.specs.Prelude.{◌≡◌, ℕ, ◌+◌, ◌-◌, ◌*◌, ◌^◌, Bool, nat_lt, ◌&&◌, List, [], ◌∷◌, ◌++◌, slice_index, if◌then◌else◌, Result, Ok, Err}
use Rattle.st_words.specs.declared.ids.ServerId.{ServerId}
use Rattle.st_disk.specs.declared.error.DiskError.{DiskError}
use Rattle.st_disk.specs.declared.error.DiskError.TheVariants.{Failed, OutOfMemory}

-- a server's place in a rack
abbrev pub place_of : ServerId → ℕ
place_of who = 7 * who.site + who.index

-- whether a server has a place
abbrev pub has_place : ServerId → Bool
has_place who = nat_lt who.site 7 && nat_lt who.index 7

-- a server's count of faults; that of a server without a place stands at its greatest value
abbrev pub count_of : List ℕ → ServerId → ℕ
count_of counts who = if has_place who then slice_index counts (place_of who) else 2 ^ 64 - 1

-- the takes after one more: want of memory is none
abbrev pub takes_after : {D : Type 0} → Result D DiskError → List ServerId → ServerId → List ServerId
takes_after (Ok d) takes who = takes ++ who ∷ []
takes_after (Err Failed) takes who = takes ++ who ∷ []
takes_after (Err OutOfMemory) takes who = takes

-- a server's disk is as it was, and where it was
pub record IsUntouched {R : Type 0} (file : R → ServerId → List ℕ) (is_out : R → ServerId → Bool) (old new : R) (who : ServerId) : Type 0 where
  pub same_file : file new who ≡ file old who
  pub same_place : is_out new who ≡ is_out old who
