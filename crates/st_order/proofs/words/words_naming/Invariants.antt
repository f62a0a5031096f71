-- The words of the sites so far.
use Rattle.std.proofs.Common.{◌≡◌, Some}
use Rattle.st_protocol.specs.Step.{all_below}
use Rattle.st_protocol.specs.Ordering.{site_word}
use Rattle.st_state.specs.HandView.{word_of}
use Rattle.st_order.proofs.words.words_naming.Given as goal

abbrev pub invariant-loop-site : goal.invariant-loop-site
invariant-loop-site l = l.all ≡ all_below (site_word l.value (word_of (Some l.words))) l.site
