-- The count so far.
use Rattle.std.proofs.Common.{◌≡◌, ◌≤◌, Some}
use Rattle.st_protocol.specs.Step.{count_below}
use Rattle.st_protocol.specs.Ordering.{names}
use Rattle.st_state.specs.HandView.{word_of}
use Rattle.st_order.proofs.words.count_naming.Given as goal

abbrev pub invariant-loop-site : goal.invariant-loop-site
invariant-loop-site l = (l.count ≡ count_below (λ t. names l.value (word_of (Some l.words) t)) l.site) × (l.count ≤ l.site)
