-- What a draft is: the course of an event so far.
use Rattle.std.specs.Prelude.{ℕ, ◌≡◌, Option}
use Rattle.st_protocol.specs.Keeping.{or_else, first_of}
use Rattle.st_protocol.specs.State.{Sealing, at_reply}
use Rattle.st_protocol.specs.Questions.{sealing_in}
use Rattle.st_protocol.specs.Duty.{Course}
use Rattle.st_live.specs.LiveView.{IsLive}
use Rattle.st_server.specs.Bounds.{IsBound}
use Rattle.st_server.specs.declared.draft.Draft.{Draft}

-- The draft is this course; `made` are the Replies that were made before the event, by number.
pub record Draws (made : ℕ → Option Sealing) (draft : Draft) (way : Course) : Type 0 where
  pub now : IsLive draft.live way.now
  pub changes : draft.changes ≡ way.changes
  pub heard : draft.heard ≡ way.heard
  pub outputs : draft.outputs ≡ way.outputs
  pub replies : (n : ℕ) → way.now.making.reply n ≡ or_else (made n) (first_of (sealing_in (at_reply n)) way.changes)

-- The draft is some course of an event, in which all stays within its bounds.
pub record IsDrawn (made : ℕ → Option Sealing) (draft : Draft) : Type 0 where
  pub way : Course
  pub draws : Draws made draft way
  pub bound : IsBound way.now
