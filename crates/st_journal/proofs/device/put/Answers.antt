use Rattle.std.proofs.Common.{length}
use Rattle.st_disk.specs.Files.{Torn}
use Rattle.st_disk.specs.MemoryLaws.{torn_not}
use Rattle.st_journal.specs.Devices.{TornFrom}
use Rattle.st_journal.proofs.Runs.{changed, brought, sync_images}
use Rattle.st_journal.proofs.device.put.Goals as goal

pub returns-in-Err-clause-any_moment : goal.returns-in-Err-clause-any_moment
returns-in-Err-clause-any_moment g c told =
    changed g.D.Disk.seen g.D.Disk.moment g.D.Disk.left_since g.D.Disk.may_leave c.args.disk.now c.write_at.new.self (Torn c.args.at (length c.args.piece.now))
    (g.met.D.Disk.only_now c.args.disk.now) (torn_not c.args.at (length c.args.piece.now)) (c.write_at.ensures.crash told) (c.write_at.ensures.time told)

pub returns-in-Err-sync-clause-any_moment : goal.returns-in-Err-sync-clause-any_moment
returns-in-Err-sync-clause-any_moment g c told =
    let run = changed g.D.Disk.seen g.D.Disk.moment g.D.Disk.left_since g.D.Disk.may_leave c.args.disk.now c.write_at.new.self (Torn c.args.at (length c.args.piece.now))
    (g.met.D.Disk.only_now c.args.disk.now) (torn_not c.args.at (length c.args.piece.now)) (c.write_at.ensures.crash told) (c.write_at.ensures.time told) in
    brought g.D.Disk.seen g.D.Disk.moment g.D.Disk.left_since g.D.Disk.may_leave c.args.disk.now c.write_at.new.self c.sync.new.self
    (TornFrom (g.D.Disk.may_leave c.args.disk.now) c.args.at (length c.args.piece.now)) run (c.write_at.ensures.crash told) (c.in-Err-sync.ensures.rests told).images (c.sync.ensures.time told)

pub returns-in-Ok-sync-clause-any_moment : goal.returns-in-Ok-sync-clause-any_moment
returns-in-Ok-sync-clause-any_moment g c told =
    let run = changed g.D.Disk.seen g.D.Disk.moment g.D.Disk.left_since g.D.Disk.may_leave c.args.disk.now c.write_at.new.self (Torn c.args.at (length c.args.piece.now))
    (g.met.D.Disk.only_now c.args.disk.now) (torn_not c.args.at (length c.args.piece.now)) (c.write_at.ensures.crash told) (c.write_at.ensures.time told) in
    let fewer = sync_images g.D.Disk.seen g.D.Disk.moment g.D.Disk.left_since g.D.Disk.may_leave c.write_at.new.self c.sync.new.self g.met.D.Disk.leaves_seen (c.sync.ensures.seen told) (c.in-Ok-sync.ensures.durable told) in
    brought g.D.Disk.seen g.D.Disk.moment g.D.Disk.left_since g.D.Disk.may_leave c.args.disk.now c.write_at.new.self c.sync.new.self
    (TornFrom (g.D.Disk.may_leave c.args.disk.now) c.args.at (length c.args.piece.now)) run (c.write_at.ensures.crash told) fewer (c.sync.ensures.time told)
