-- What was noted of the destination is lost.
use Rattle.std.proofs.Common.{◌∙◌}
use Rattle.st_waiting.specs.declared.waiting.Waiting.{Waiting}
use Rattle.st_waiting.specs.Destinations.{key_of}
use Rattle.st_waiting.specs.Undelivered.{pairs_in}
use Rattle.st_waiting.proofs.KeepLaws.{count_most, lost_pairs, lost_count, lost_kept}
use Rattle.st_waiting.proofs.waiting.Waiting.lose.Goals as goal

pub overflow_sub-self : goal.overflow_sub-self
overflow_sub-self c =
    let self : Waiting = c.args.self.now in
    rw c.mark_of-count.ensures.is (count_most self.slots self.head self.total self.marks self.newest self.kept (key_of c.args.to) c.mark_of-count.ensures.within)

pub invariant_of-self : goal.invariant_of-self
invariant_of-self c =
    let self : Waiting = c.args.self.now in
    let sets = rw c.len.ensures at c.set_mark.ensures.sets in
    record {
      kept = rw c.mark_of-count.ensures.is
          (lost_kept self.slots self.head self.total self.marks self.newest self.kept c.set_mark.new.marks c.args.to c.mark_of-count.ensures.within sets c.set_mark.ensures.size);
    }

pub returns-clause-pairs : goal.returns-clause-pairs
unfolding pairs_in
returns-clause-pairs c =
    let self : Waiting = c.args.self.now in
    let sets = rw c.len.ensures at c.set_mark.ensures.sets in
    lost_pairs self.slots self.head self.total self.marks self.newest self.kept c.set_mark.new.marks c.args.to c.mark_of-count.ensures.within sets

pub returns-clause-count : goal.returns-clause-count
unfolding pairs_in
returns-clause-count c =
    let self : Waiting = c.args.self.now in
    let sets = rw c.len.ensures at c.set_mark.ensures.sets in
    rw c.mark_of-count.ensures.is
    (lost_count self.slots self.head self.total self.marks self.newest self.kept c.set_mark.new.marks c.args.to c.mark_of-count.ensures.within sets ∙ self.kept.all)
