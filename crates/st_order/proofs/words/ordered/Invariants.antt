-- No word yet whose value a majority of sites name.
use Rattle.std.proofs.Common.{◌≡◌, Some, None}
use Rattle.st_protocol.specs.Step.{first_below}
use Rattle.st_protocol.specs.Ordering.{words_proof}
use Rattle.st_state.specs.HandView.{word_of}
use Rattle.st_order.specs.Words.{bare}
use Rattle.st_order.proofs.words.ordered.Given as goal

abbrev pub invariant-loop-site : goal.invariant-loop-site
invariant-loop-site l = first_below (words_proof (bare l.here) (word_of (Some l.words))) l.site ≡ None
