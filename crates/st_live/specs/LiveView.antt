-- The short state of a server, as the answers that it gives together with the long state.
use Rattle.std.specs.Prelude.{ℕ, ◌≡◌, ◌+◌, ◌<◌, ◌≤◌, Option, Some, None, List, length}
use Rattle.st_words.specs.declared.statement.Statement.{Statement}
use Rattle.st_message.specs.declared.log.Entry.{Entry}
use Rattle.st_message.specs.declared.message.Proof.{Proof}
use Rattle.st_protocol.specs.State.{Here, Sealing, Votes, Answers}
use Rattle.st_protocol.specs.Duty.{sealing_of}
use Rattle.st_message.specs.declared.change.Change.TheVariants.{Made}
use Rattle.st_protocol.specs.Growth.{slots_notes}
use Rattle.st_state.specs.declared.slots.Slots.{Slots}
use Rattle.st_state.specs.HereView.{here_of}
use Rattle.st_state.specs.SlotsView.{slots_of}
use Rattle.st_state.specs.ClientsView.{last_of, place_of, pending_of}
use Rattle.st_state.specs.HandView.{hand_of}
use Rattle.st_state.specs.OwnView.{own_of}
use Rattle.st_live.specs.declared.live.Live.{Live}
use Rattle.st_live.specs.Service.{kept_count, list_serve}

-- The long part of the answers: what grows with the log.
pub record Past : Type 0 where
  pub entries : List Entry
  pub ran : List (List ℕ)
  pub proof : ℕ → Option Proof
  pub reply : ℕ → Option Sealing

abbrev pub past_of : Answers → Past
past_of q = record { entries = q.log.run.entries; ran = q.log.run.ran; proof = q.log.proof; reply = q.making.reply }

abbrev pub place_here : Live → Here
place_here live = here_of live.pending.clients list_serve live.here

abbrev pub no_votes : Votes
no_votes = record { local = λ i. None; global = λ i. None; unions = λ t i. None; asked = λ s. None }

-- What a server answers that has this long part: of views, unions and reports it keeps nothing yet.
unfoldable pub asked : Past → Live → Answers
asked past live =
    record {
      here = place_here live;
      slots = slots_of (place_here live) live.slots;
      making = record { vc = λ t. None; report = λ t. None; union = λ t. None; reply = past.reply };
      log = record { run = record { last = last_of live.clients; place = place_of live.clients; entries = past.entries; ran = past.ran }; proof = past.proof };
      pending = pending_of (last_of live.clients) live.pending;
      votes = no_votes;
      unions = λ t s. None;
      reports = λ t i. None;
      hand = hand_of (place_here live) live.hand;
      words = record { local = None; view = None };
      own = own_of (place_here live) live.own;
    }

-- each statement that was made has a leaf below the next one
unfoldable pub IsSealed : Answers → Type 0
IsSealed q = (s : Statement) (m : Sealing) → sealing_of q s ≡ Some m → m.leaf < q.here.leaf

-- The short state stands for the answers.
pub record IsLive (live : Live) (q : Answers) : Type 0 where
  pub is : asked (past_of q) live ≡ q
  pub entries : live.here.executed ≡ length q.log.run.entries
  pub ran : live.ran ≡ kept_count (length q.log.run.ran)
  pub sealed : IsSealed q
  pub few : q.here.leaf ≤ q.here.seat.capacity

-- the slots once a statement is made with this leaf
abbrev pub NotesMade : Here → Slots → Slots → ℕ → Statement → Type 0
NotesMade here old new leaf s = slots_of (record here { leaf = here.leaf + 1 }) new ≡ slots_notes (record here { leaf = here.leaf + 1 }) (Made leaf s) (slots_of here old)
