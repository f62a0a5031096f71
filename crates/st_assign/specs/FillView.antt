-- The fill so far, as its definition sees it, and what it comes to.
use Rattle.std.specs.Prelude.{ℕ, ◌+◌, ◌-◌, min, Bool, nat_eq, ◌&&◌, not, Option}
use Rattle.st_words.specs.declared.deployment.TheConstants.{WINDOW, LAST_NUMBER}
use Rattle.st_message.specs.declared.step.Step.{Step}
use Rattle.st_protocol.specs.State.{Here, Pended}
use Rattle.st_protocol.specs.Step.{rep, leader}
use Rattle.st_protocol.specs.Forced.{Forced, waits}
use Rattle.st_protocol.specs.Assigning as assigning
use Rattle.st_state.specs.SlotsView.{slots_of}
use Rattle.st_assign.specs.declared.filled.Filling.{Filling}

-- its step, its next leaf and its slots
unfoldable pub filling_of : Here → Filling → assigning.Filling
filling_of here f = record { step = f.step; leaf = f.leaf; slots = slots_of here f.slots }

-- the representative of the leading site fills, where no unions are missing
unfoldable pub may_fill : Here → Forced → Bool
may_fill here forced = nat_eq here.seat.index (rep here) && nat_eq here.seat.site (leader here) && not (waits forced)

-- what it does over the numbers above the base, in the window and the log
unfoldable pub all_filled : Here → (ℕ → Option Pended) → Forced → assigning.Filling → Step
all_filled here pending forced filling =
    (assigning.fills here pending forced (min (here.executed + WINDOW) LAST_NUMBER - forced.base) (forced.base + 1) filling).step
