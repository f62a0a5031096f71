-- What is looked for at one number of the window, or at one client.
use Rattle.std.specs.Prelude.{ℕ, ◌+◌, Bool, false, cond, nat_lt, ◌&&◌, Option, Some, None, is_some}
use Rattle.st_words.specs.declared.value.Update.{Update}
use Rattle.st_protocol.specs.Keeping.{given}
use Rattle.st_protocol.specs.State.{AtPrepare, Here, Slots, Pended}
use Rattle.st_protocol.specs.Forced.{Forced}
use Rattle.st_protocol.specs.Assigning.{is_prepare_of, is_assigned}

-- the window's number at k, from 0, is above n and forced
unfoldable pub is_forced_over : Here → Forced → ℕ → ℕ → Bool
is_forced_over here forced n k = nat_lt n (here.executed + 1 + k) && is_some (forced.value (here.executed + 1 + k))

-- a Prepare of the update was made at the window's number at k
unfoldable pub is_assigned_at : Here → Slots → Update → ℕ → Bool
is_assigned_at here slots u k = given (slots.made (AtPrepare here.view here.local (here.executed + 1 + k))) false (λ m. is_prepare_of u m.statement)

-- the client's pending update, if none was made of it
unfoldable pub unassigned : Here → Slots → (ℕ → Option Pended) → ℕ → Option Pended
unassigned here slots pending c = given (pending c) None (λ k. cond (is_assigned here slots k.update) None (Some k))
