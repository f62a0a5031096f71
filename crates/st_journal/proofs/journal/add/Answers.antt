use Rattle.std.proofs.Common.{◌≡◌, ◌+◌, ◌++◌, ◌∷◌, [], List, ℕ, Result, Ok, Err, refl, cond, sym, ap, subst, ◌∙◌}
use Rattle.std.specs.Prelude.{OnErr}
use Rattle.st_disk.specs.Files.{written}
use Rattle.st_disk.specs.Countdowns.{is_due}
use Rattle.st_journal.specs.Devices.{CountsCalls}
use Rattle.st_journal.proofs.Counts.{due_within, due_after}
use Rattle.st_journal.proofs.Steps.{add_first, stage_moments, gate_moments, lost_first, lost_staged, kept_first, kept_gate, added}
use Rattle.st_journal.proofs.journal.add.Goals as goal

-- nothing was written
pub returns-in_err-piece-clause-any_moment : goal.returns-in_err-piece-clause-any_moment
returns-in_err-piece-clause-any_moment g c told bodies ready =
    let d = g.D.Disk in
    let m = g.met.D.Disk in
    add_first d.seen d.synced d.moment d.left_since d.may_leave m.leaves_synced m.only_now bodies c.args.body.now c.args.end c.args.disk.now ready

on_err : {T E P : Type 0} (r : Result T E) → P → OnErr r P
on_err (Ok x) p = tt
on_err (Err e) p = p

pub returns-in_err-piece-clause-lost : goal.returns-in_err-piece-clause-lost
returns-in_err-piece-clause-lost g c =
    on_err c.from_residual.result λ told bodies ready.
    let d = g.D.Disk in
    let m = g.met.D.Disk in
    lost_first d.seen d.synced d.moment d.left_since d.may_leave m.leaves_synced m.only_now bodies c.args.body.now c.args.end c.args.disk.now ready c.args.disk.now refl

-- the first write or its sync failed
pub returns-clause-any_moment : goal.returns-clause-any_moment
returns-clause-any_moment g c told bodies ready =
    let d = g.D.Disk in
    let m = g.met.D.Disk in
    stage_moments d.seen d.synced d.moment d.left_since d.may_leave m.leaves_synced m.only_now bodies c.args.body.now c.args.end c.args.disk.now ready c.put.new.disk _ (c.put.ensures.any_moment told)

pub returns-clause-lost : goal.returns-clause-lost
returns-clause-lost g c told bodies ready =
    let d = g.D.Disk in
    let m = g.met.D.Disk in
    lost_first d.seen d.synced d.moment d.left_since d.may_leave m.leaves_synced m.only_now bodies c.args.body.now c.args.end c.args.disk.now ready c.put.new.disk (c.in-Err.ensures.synced told)

pub returns-clause-kept : goal.returns-clause-kept
returns-clause-kept g c told counts bodies ready failed =
    let d = g.D.Disk in
    let m = g.met.D.Disk in
    let is = c.deref.ensures.value ∙ c.in_ok-piece.ensures in
    let due = due_within 2 1 (d.countdown c.args.disk.now) (subst (λ r. CountsCalls 2 (d.countdown c.args.disk.now) (d.countdown c.put.new.disk) r) failed (c.in-Err.ensures.calls counts)).1 in
    let file = subst (λ (l : List ℕ). d.seen c.put.new.disk ≡ cond (is_due 1 (d.countdown c.args.disk.now)) (d.seen c.args.disk.now) (written (c.args.end + 1) l (d.seen c.args.disk.now))) is (c.in-Err.ensures.kept told counts failed) in
    kept_first d.seen d.synced d.moment d.left_since d.may_leave m.leaves_synced m.only_now bodies c.args.body.now c.args.end c.args.disk.now ready (is_due 1 (d.countdown c.args.disk.now)) (d.seen c.put.new.disk) file
    ∙ ap (λ b. Ok (cond b bodies (bodies ++ c.args.body.now ∷ []))) (sym due)

-- the second write or its sync failed
pub returns-in-Ok-clause-any_moment : goal.returns-in-Ok-clause-any_moment
returns-in-Ok-clause-any_moment g c told bodies ready =
    let d = g.D.Disk in
    let m = g.met.D.Disk in
    let is = c.deref.ensures.value ∙ c.in_ok-piece.ensures in
    let stands = subst (λ (l : List ℕ). d.seen c.put.new.disk ≡ written (c.args.end + 1) l (d.seen c.args.disk.now)) is (c.in-Ok.ensures.file told) in
    gate_moments d.seen d.synced d.moment d.left_since d.may_leave m.leaves_synced m.only_now bodies c.args.body.now c.args.end c.args.disk.now ready c.requires.short c.put.new.disk c.put-in-Ok.new.disk _ stands (c.in-Ok.ensures.durable told) (c.put.ensures.any_moment told) (c.put-in-Ok.ensures.any_moment told)

pub returns-in-Ok-clause-lost : goal.returns-in-Ok-clause-lost
returns-in-Ok-clause-lost g c told bodies ready =
    let d = g.D.Disk in
    let m = g.met.D.Disk in
    let is = c.deref.ensures.value ∙ c.in_ok-piece.ensures in
    let stands = subst (λ (l : List ℕ). d.seen c.put.new.disk ≡ written (c.args.end + 1) l (d.seen c.args.disk.now)) is (c.in-Ok.ensures.file told) in
    lost_staged d.seen d.synced d.moment d.left_since d.may_leave m.leaves_synced m.only_now bodies c.args.body.now c.args.end c.args.disk.now ready c.put.new.disk c.put-in-Ok.new.disk stands (c.in-Ok.ensures.durable told) (c.in-Err-put.ensures.synced told)

pub returns-in-Ok-clause-kept : goal.returns-in-Ok-clause-kept
returns-in-Ok-clause-kept g c told counts bodies ready failed =
    let d = g.D.Disk in
    let m = g.met.D.Disk in
    let is = c.deref.ensures.value ∙ c.in_ok-piece.ensures in
    let stands = subst (λ (l : List ℕ). d.seen c.put.new.disk ≡ written (c.args.end + 1) l (d.seen c.args.disk.now)) is (c.in-Ok.ensures.file told) in
    let first = c.in-Ok.ensures.calls counts in
    let due = due_after 2 1 (d.countdown c.args.disk.now) first.1 ∙ ap (is_due 1) (sym first.0) in
    kept_gate d.seen d.synced d.moment d.left_since d.may_leave m.leaves_synced m.only_now bodies c.args.body.now c.args.end c.args.disk.now ready c.requires.short c.put.new.disk stands (is_due 1 (d.countdown c.put.new.disk)) (d.seen c.put-in-Ok.new.disk) (c.in-Err-put.ensures.kept told counts failed)
    ∙ ap (λ b. Ok (cond b bodies (bodies ++ c.args.body.now ∷ []))) (sym due)

-- all was done
pub returns-in-Ok-put-clause-any_moment : goal.returns-in-Ok-put-clause-any_moment
returns-in-Ok-put-clause-any_moment g c told bodies ready =
    let d = g.D.Disk in
    let m = g.met.D.Disk in
    let is = c.deref.ensures.value ∙ c.in_ok-piece.ensures in
    let stands = subst (λ (l : List ℕ). d.seen c.put.new.disk ≡ written (c.args.end + 1) l (d.seen c.args.disk.now)) is (c.in-Ok.ensures.file told) in
    gate_moments d.seen d.synced d.moment d.left_since d.may_leave m.leaves_synced m.only_now bodies c.args.body.now c.args.end c.args.disk.now ready c.requires.short c.put.new.disk c.put-in-Ok.new.disk _ stands (c.in-Ok.ensures.durable told) (c.put.ensures.any_moment told) (c.put-in-Ok.ensures.any_moment told)

pub returns-in-Ok-put-clause-added : goal.returns-in-Ok-put-clause-added
returns-in-Ok-put-clause-added g c told bodies ready =
    let d = g.D.Disk in
    let m = g.met.D.Disk in
    let is = c.deref.ensures.value ∙ c.in_ok-piece.ensures in
    let stands = subst (λ (l : List ℕ). d.seen c.put.new.disk ≡ written (c.args.end + 1) l (d.seen c.args.disk.now)) is (c.in-Ok.ensures.file told) in
    added d.seen d.synced d.moment d.left_since d.may_leave m.leaves_synced m.only_now bodies c.args.body.now c.args.end c.args.disk.now ready c.requires.short c.put.new.disk c.put-in-Ok.new.disk stands (c.in-Ok-put.ensures.file told) (c.in-Ok-put.ensures.durable told)
