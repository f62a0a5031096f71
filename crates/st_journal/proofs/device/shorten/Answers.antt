use Rattle.st_disk.specs.Files.{Resized}
use Rattle.st_disk.specs.MemoryLaws.{resized_not}
use Rattle.st_journal.specs.Devices.{ResizedFrom}
use Rattle.st_journal.proofs.Runs.{changed, brought, sync_images}
use Rattle.st_journal.proofs.device.shorten.Goals as goal

pub returns-in-Err-clause-any_moment : goal.returns-in-Err-clause-any_moment
returns-in-Err-clause-any_moment g c told =
    changed g.D.Disk.seen g.D.Disk.moment g.D.Disk.left_since g.D.Disk.may_leave c.args.disk.now c.cut.new.self (Resized c.args.size)
    (g.met.D.Disk.only_now c.args.disk.now) (resized_not c.args.size) (c.cut.ensures.crash told) (c.cut.ensures.time told)

pub returns-in-Err-sync-clause-any_moment : goal.returns-in-Err-sync-clause-any_moment
returns-in-Err-sync-clause-any_moment g c told =
    let run = changed g.D.Disk.seen g.D.Disk.moment g.D.Disk.left_since g.D.Disk.may_leave c.args.disk.now c.cut.new.self (Resized c.args.size)
    (g.met.D.Disk.only_now c.args.disk.now) (resized_not c.args.size) (c.cut.ensures.crash told) (c.cut.ensures.time told) in
    brought g.D.Disk.seen g.D.Disk.moment g.D.Disk.left_since g.D.Disk.may_leave c.args.disk.now c.cut.new.self c.sync.new.self
    (ResizedFrom (g.D.Disk.may_leave c.args.disk.now) c.args.size) run (c.cut.ensures.crash told) (c.in-Err-sync.ensures.rests told).images (c.sync.ensures.time told)

pub returns-in-Ok-sync-clause-any_moment : goal.returns-in-Ok-sync-clause-any_moment
returns-in-Ok-sync-clause-any_moment g c told =
    let run = changed g.D.Disk.seen g.D.Disk.moment g.D.Disk.left_since g.D.Disk.may_leave c.args.disk.now c.cut.new.self (Resized c.args.size)
    (g.met.D.Disk.only_now c.args.disk.now) (resized_not c.args.size) (c.cut.ensures.crash told) (c.cut.ensures.time told) in
    let fewer = sync_images g.D.Disk.seen g.D.Disk.moment g.D.Disk.left_since g.D.Disk.may_leave c.cut.new.self c.sync.new.self g.met.D.Disk.leaves_seen (c.sync.ensures.seen told) (c.in-Ok-sync.ensures.durable told) in
    brought g.D.Disk.seen g.D.Disk.moment g.D.Disk.left_since g.D.Disk.may_leave c.args.disk.now c.cut.new.self c.sync.new.self
    (ResizedFrom (g.D.Disk.may_leave c.args.disk.now) c.args.size) run (c.cut.ensures.crash told) fewer (c.sync.ensures.time told)
