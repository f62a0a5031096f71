-- A number for each destination, and what is kept under it.
use Rattle.std.specs.Prelude.{ℕ, ◌≡◌, ◌≢◌, ◌+◌, ◌*◌, cond, nat_lt, ◌&&◌, Option, Some, None, List, slice_get}
use Rattle.st_schedule.specs.declared.line.Dest.{Dest}
use Rattle.st_schedule.specs.declared.line.Dest.TheVariants as dests
use Rattle.st_waiting.specs.declared.marks.Mark.{Mark}

-- The clients come first, and then the servers by site and index. What is no destination of a world has the first
-- number past all of them.
unfoldable pub key_of : Dest → ℕ
key_of (dests.Client client) = cond (nat_lt client.0 256) client.0 65792
key_of (dests.Server server) =
    cond (nat_lt server.site 256 && nat_lt server.index 256) ((server.site + 1) * 256 + server.index) 65792

-- the mark of a destination for which nothing was noted
abbrev pub no_mark : Mark
no_mark = record { start = 0; count = 0 }

-- the mark that is there, if one is
abbrev pub marked : Option Mark → Mark
marked None = no_mark
marked (Some mark) = mark

-- the mark under a number
unfoldable pub mark_at : List Mark → ℕ → Mark
mark_at marks key = marked (slice_get marks key)

-- from which place on something waits for the destination of a number
abbrev pub starts_of : List Mark → ℕ → ℕ
starts_of marks key = (mark_at marks key).start

-- One mark is written: the number's is now `mark`, and all others stay.
pub record SetsMark (old new : List Mark) (key : ℕ) (mark : Mark) : Type 0 where
  pub here : mark_at new key ≡ mark
  pub others : (k : ℕ) → k ≢ key → mark_at new k ≡ mark_at old k
