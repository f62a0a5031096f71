-- One pair more is noted of its destination.
use Rattle.std.proofs.Common.{ap, arith}
use Rattle.st_waiting.specs.declared.marks.Mark.{Mark}
use Rattle.st_waiting.specs.declared.waiting.Waiting.{Waiting}
use Rattle.st_waiting.specs.Destinations.{key_of}
use Rattle.st_waiting.specs.Undelivered.{pairs_in}
use Rattle.st_waiting.proofs.KeepLaws.{count_most, total_most, pushed_pairs, pushed_kept}
use Rattle.st_waiting.proofs.waiting.Waiting.push.Goals as goal

pub overflow_add-counted : goal.overflow_add-counted
overflow_add-counted c =
    let self : Waiting = c.args.self.now in
    let most = count_most self.slots self.head self.total self.marks self.newest self.kept (key_of c.args.to) c.mark_of-mark.ensures.within in
    let all = total_most self.slots self.head self.total self.marks self.newest self.kept in
    let is = ap (λ (x : Mark). x.count) c.mark_of-mark.ensures.is in
    omega (arith, most, all, is, c.len-places.ensures, c.if-places.false)

pub overflow_add-self : goal.overflow_add-self
overflow_add-self c =
    let self : Waiting = c.args.self.now in
    let all = total_most self.slots self.head self.total self.marks self.newest self.kept in
    omega (arith, all, c.len-places.ensures, c.if-places.false)

pub invariant_of-self-2 : goal.invariant_of-self-2
invariant_of-self-2 c =
    let self : Waiting = c.args.self.now in
    let sets = rw c.mark_of-mark.ensures.is at c.set_mark.ensures.sets in
    record {
      kept = rw c.in_ok-push.ensures.ok
          (pushed_kept self.slots self.head self.total self.marks self.newest self.kept c.set_mark.new.marks c.args.message c.args.to sets c.set_mark.ensures.size c.requires
          (omega (arith, c.len-places.ensures, c.if-places.false)));
    }

pub returns-clause-ok : goal.returns-clause-ok
unfolding pairs_in
returns-clause-ok c =
    let self : Waiting = c.args.self.now in
    let sets = rw c.mark_of-mark.ensures.is at c.set_mark.ensures.sets in
    rw c.in_ok-push.ensures.ok
    (pushed_pairs self.slots self.head self.total self.marks self.newest self.kept c.set_mark.new.marks c.args.message c.args.to sets)
