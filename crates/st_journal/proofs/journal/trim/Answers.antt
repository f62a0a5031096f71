use Rattle.st_journal.proofs.CrashLaws.{cut_file}
use Rattle.st_journal.proofs.Steps.{trim_first, trim_moments}
use Rattle.st_journal.proofs.journal.trim.Goals as goal

pub returns-then-end-len-clause-any_moment : goal.returns-then-end-len-clause-any_moment
returns-then-end-len-clause-any_moment g c told bodies junk f only =
    let d = g.D.Disk in
    let m = g.met.D.Disk in
    trim_first d.seen d.synced d.moment d.left_since d.may_leave m.leaves_synced m.only_now bodies c.args.end junk c.args.disk.now f only

pub returns-in-Ok-clause-made : goal.returns-in-Ok-clause-made
returns-in-Ok-clause-made g c told bodies junk f long only = record {
  is = cut_file bodies c.args.end junk (g.D.Disk.seen c.args.disk.now) f (g.D.Disk.seen c.shorten.new.disk) (c.in-Ok.ensures.file told);
  durable = c.in-Ok.ensures.durable told;
}

pub returns-in-Ok-clause-any_moment : goal.returns-in-Ok-clause-any_moment
returns-in-Ok-clause-any_moment g c told bodies junk f only =
    let d = g.D.Disk in
    let m = g.met.D.Disk in
    trim_moments d.seen d.synced d.moment d.left_since d.may_leave m.leaves_synced m.only_now bodies c.args.end junk c.args.disk.now f only c.shorten.new.disk (c.shorten.ensures.any_moment told)

pub returns-in-Err-clause-any_moment : goal.returns-in-Err-clause-any_moment
returns-in-Err-clause-any_moment g c told bodies junk f only =
    let d = g.D.Disk in
    let m = g.met.D.Disk in
    trim_moments d.seen d.synced d.moment d.left_since d.may_leave m.leaves_synced m.only_now bodies c.args.end junk c.args.disk.now f only c.shorten.new.disk (c.shorten.ensures.any_moment told)
