-- The messages so far are kept, and the others may be.
use Rattle.std.proofs.Common.{take, drop}
use Rattle.st_server.specs.Carried.{AreKept}
use Rattle.st_server.proofs.draft.Draft.keep_all.Given as goal

abbrev pub invariant-loop-message : goal.invariant-loop-message
invariant-loop-message l = AreKept l.fn.self l.self (take l.message-index l.message-items) (drop l.message-index l.message-items)
