-- What is left to do comes to what was to be done.
use Rattle.std.proofs.Common.{◌≡◌, ◌+◌, ◌-◌}
use Rattle.st_protocol.specs.Assigning as assigning
use Rattle.st_state.specs.HereView.{Serve, here_of}
use Rattle.st_state.specs.ForcedView.{forced_by}
use Rattle.st_state.specs.ClientsView.{last_of, pending_of}
use Rattle.st_assign.specs.FillView.{filling_of}
use Rattle.st_assign.proofs.filled.fills.Given as goal

abbrev pub invariant-loop-k : goal.invariant-loop-k
invariant-loop-k l =
    (serve : Serve) →
    let h = here_of l.pending.clients serve l.here in
    let pending = pending_of (last_of l.clients) l.pending in
    let forced = forced_by h l.forced in
    assigning.fills h pending forced (l.last - l.k) (l.k + 1) (filling_of h l.filling) ≡ assigning.fills h pending forced (l.last - l.forced.base) (l.forced.base + 1) (filling_of h l.fn.filling)
