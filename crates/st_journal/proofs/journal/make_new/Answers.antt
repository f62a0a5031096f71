use Rattle.st_journal.proofs.Steps.{cut_moments, fresh_moments}
use Rattle.st_journal.proofs.journal.make_new.Goals as goal

pub returns-in-Err-clause-any_moment : goal.returns-in-Err-clause-any_moment
returns-in-Err-clause-any_moment g c told short only =
    let d = g.D.Disk in
    let m = g.met.D.Disk in
    cut_moments d.seen d.synced d.moment d.left_since d.may_leave m.leaves_synced m.only_now c.args.disk.now c.shorten.new.disk short only (c.shorten.ensures.any_moment told)

pub returns-in-Err-put-clause-any_moment : goal.returns-in-Err-put-clause-any_moment
returns-in-Err-put-clause-any_moment g c told short only =
    let d = g.D.Disk in
    let m = g.met.D.Disk in
    let first = cut_moments d.seen d.synced d.moment d.left_since d.may_leave m.leaves_synced m.only_now c.args.disk.now c.shorten.new.disk short only (c.shorten.ensures.any_moment told) in
    fresh_moments d.seen d.synced d.moment d.left_since d.may_leave m.leaves_synced m.only_now c.args.disk.now c.shorten.new.disk c.put.new.disk first (c.in-Ok.ensures.file told) (c.in-Ok.ensures.durable told) (c.put.ensures.any_moment told)

pub returns-in-Ok-put-clause-any_moment : goal.returns-in-Ok-put-clause-any_moment
returns-in-Ok-put-clause-any_moment g c told short only =
    let d = g.D.Disk in
    let m = g.met.D.Disk in
    let first = cut_moments d.seen d.synced d.moment d.left_since d.may_leave m.leaves_synced m.only_now c.args.disk.now c.shorten.new.disk short only (c.shorten.ensures.any_moment told) in
    fresh_moments d.seen d.synced d.moment d.left_since d.may_leave m.leaves_synced m.only_now c.args.disk.now c.shorten.new.disk c.put.new.disk first (c.in-Ok.ensures.file told) (c.in-Ok.ensures.durable told) (c.put.ensures.any_moment told)
