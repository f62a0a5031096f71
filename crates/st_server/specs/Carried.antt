-- How far a list is carried out: `done` of it is, and `rest` is still to do.
use Rattle.std.specs.Prelude.{ℕ, ◌≡◌, Option, List, IsTrue}
use Rattle.st_message.specs.declared.change.Change.{Change}
use Rattle.st_message.specs.declared.change.Heard.{Heard}
use Rattle.st_message.specs.declared.step.Out.{Out}
use Rattle.st_protocol.specs.State.{Sealing}
use Rattle.st_protocol.specs.Duty.{Course, Pen, carries_changes, keeps_all, emits_all}
use Rattle.st_state.specs.Placed.{here_after_all}
use Rattle.st_live.specs.LiveView.{place_here}
use Rattle.st_server.specs.declared.draft.Draft.{Draft}
use Rattle.st_server.specs.Bounds.{IsSound}
use Rattle.st_server.specs.Ready.{is_ready, are_ready, IsAlike}
use Rattle.st_server.specs.Draw.{Draws, IsDrawn}

-- Changes, each with what follows from it.
pub record IsCarried (made : ℕ → Option Sealing) (pen : Pen) (start draft : Draft) (done rest : List Change) : Type 0 where
  pub drawn : IsDrawn made draft
  pub draws : (way : Course) → Draws made start way → Draws made draft (carries_changes pen way done)
  pub ready : IsTrue (is_ready (place_here draft.live) rest)
  pub alike : IsAlike (here_after_all (place_here start.live) done) (place_here draft.live)
  pub capacity : draft.live.here.capacity ≡ start.live.here.capacity

-- Things heard.
pub record AreKept (start draft : Draft) (done rest : List Heard) : Type 0 where
  pub sound : IsSound draft.live
  pub drawn : (made : ℕ → Option Sealing) → IsDrawn made start → IsDrawn made draft
  pub draws : (made : ℕ → Option Sealing) (way : Course) → Draws made start way → Draws made draft (keeps_all way done)
  pub ready : IsTrue (are_ready (place_here draft.live) rest)
  pub here : place_here draft.live ≡ place_here start.live

-- What goes out.
pub record AreEmitted (made : ℕ → Option Sealing) (pen : Pen) (start draft : Draft) (done : List Out) : Type 0 where
  pub drawn : IsDrawn made draft
  pub draws : (way : Course) → Draws made start way → Draws made draft (emits_all pen way done)
  pub live : draft.live ≡ start.live
