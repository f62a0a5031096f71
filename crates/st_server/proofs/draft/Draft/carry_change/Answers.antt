-- An execution is followed by its Reply, every other change by nothing.
use Rattle.std.proofs.Common.{subst, IsTrue, ◌∷◌, refl}
use Rattle.st_message.specs.declared.change.Change.{Change}
use Rattle.st_tables.specs.Entries.{entry}
use Rattle.st_protocol.specs.Growth.{here_after}
use Rattle.st_live.specs.LiveView.{place_here}
use Rattle.st_server.specs.Draw.{Draws}
use Rattle.st_server.specs.Ready.{is_ready}
use Rattle.st_sealing.specs.Sealing.{pen_by}
use Rattle.st_server.proofs.CarryLaws.{carried_alone, ready_executed, ready_next, alike_same, capacity_stays}
use Rattle.st_server.proofs.draft.Draft.carry_change.Goals as goal

pub returns-in_ok-execute-in-Executed-clause-ready : goal.returns-in_ok-execute-in-Executed-clause-ready
returns-in_ok-execute-in-Executed-clause-ready g c =
    λ rest ready.
    let x = c.in-Executed in
    ready_executed (place_here c.args.self.now.live) (place_here c.execute.new.self.live) x.number x.proof rest c.in_ok-execute-in-Executed.ensures.alike
    (subst (λ (y : Change). IsTrue (is_ready (place_here c.args.self.now.live) (y ∷ rest))) x.is ready)

pub returns-in_ok-record-in_default : goal.returns-in_ok-record-in_default
returns-in_ok-record-in_default g c =
    let made = entry c.args.replies.now in
    let pen = pen_by (g.S.Sealer.pen c.args.sealer.now) c.args.id in
    let old = place_here c.args.self.now.live in
    let new = place_here c.record.new.self.live in
    let x = c.args.change in
    let done = c.in_ok-record-in_default.ensures in
    record {
      draws = λ way draws. subst (Draws made c.record.new.self) (carried_alone pen old way x c.requires.ready c.in_default.not-Executed) (done.draws made way draws);
      drawn = done.drawn made c.requires.drawn;
      alike = alike_same (here_after x old) new done.here;
      ready = λ rest ready. ready_next old new x rest c.in_default.not-Executed done.here ready;
      capacity = capacity_stays x c.args.self.now.live c.record.new.self.live done.here;
      pen = refl;
      memory = tt;
    }
