-- The message's places to the destination are cleared, and as many are noted no more.
use Rattle.std.proofs.Common.{sym, ◌-◌, arith}
use Rattle.st_protocol.specs.Schedule.{is_pair}
use Rattle.st_waiting.specs.declared.waiting.Waiting.{Waiting}
use Rattle.st_waiting.specs.Destinations.{key_of, mark_at}
use Rattle.st_waiting.specs.Places.{waiting_from}
use Rattle.st_waiting.specs.Undelivered.{pairs_in}
use Rattle.st_waiting.proofs.PassingLaws.{passing_length, has_passing}
use Rattle.st_waiting.proofs.KeepLaws.{removed_pairs, removed_most, removed_kept}
use Rattle.st_waiting.proofs.waiting.Waiting.remove.Goals as goal

pub overflow_sub-counted : goal.overflow_sub-counted
unfolding pairs_in
overflow_sub-counted c =
    let self : Waiting = c.args.self.now in
    rw (c.count_of-count.ensures, c.mark_of-mark.ensures.is)
    (removed_most self.slots self.head self.total self.marks self.newest self.kept c.args.message c.args.to c.mark_of-mark.ensures.within)

pub overflow_sub-self : goal.overflow_sub-self
unfolding pairs_in
overflow_sub-self c =
    let self : Waiting = c.args.self.now in
    let left = passing_length (is_pair c.args.message c.args.to) (waiting_from self.marks self.head self.slots) in
    omega (arith, left, self.kept.all, c.count_of-count.ensures)

pub invariant_of-self : goal.invariant_of-self
unfolding pairs_in
invariant_of-self c =
    let self : Waiting = c.args.self.now in
    let sets = rw c.mark_of-mark.ensures.is at c.set_mark.ensures.sets in
    record {
      kept = rw c.clear.ensures
          (removed_kept self.slots self.head self.total self.marks self.newest self.kept c.set_mark.new.marks c.args.message c.args.to c.count_of-count.result c.count_of-count.ensures sets c.set_mark.ensures.size);
    }

pub returns-clause-pairs : goal.returns-clause-pairs
unfolding pairs_in
returns-clause-pairs c =
    let self : Waiting = c.args.self.now in
    let sets = rw c.mark_of-mark.ensures.is at c.set_mark.ensures.sets in
    rw c.clear.ensures
    (removed_pairs self.slots self.head self.total self.marks self.newest self.kept c.set_mark.new.marks c.args.message c.args.to ((mark_at self.marks (key_of c.args.to)).count - c.count_of-count.result) sets)

pub returns-clause-count : goal.returns-clause-count
unfolding pairs_in
returns-clause-count c =
    let self : Waiting = c.args.self.now in
    let sets = rw c.mark_of-mark.ensures.is at c.set_mark.ensures.sets in
    let pairs = removed_pairs self.slots self.head self.total self.marks self.newest self.kept c.set_mark.new.marks c.args.message c.args.to ((mark_at self.marks (key_of c.args.to)).count - c.count_of-count.result) sets in
    rw (c.clear.ensures, pairs, c.count_of-count.ensures) (passing_length (is_pair c.args.message c.args.to) (waiting_from self.marks self.head self.slots))

pub returns-clause-had : goal.returns-clause-had
returns-clause-had c = rw c.count_of-count.ensures (sym (has_passing (is_pair c.args.message c.args.to) (pairs_in c.args.self.now)))
