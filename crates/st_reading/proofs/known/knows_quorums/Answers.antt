-- The iterator tests each.
use Rattle.std.proofs.Common.{rules, tests}
use Rattle.std.proofs.lemmas.Iterator.{YieldsList-from_slice}
use Rattle.std.proofs.lemmas.Iterator.Search.{all_from_yields_List}
use Rattle.st_protocol.specs.Known as known
use Rattle.st_reading.proofs.KnownLaws.{answers_each}
use Rattle.st_reading.proofs.known.knows_quorums.Goals as goal

pub returns : goal.returns
returns c =
    answers_each (known.knows_quorum c.args.d.now.sites c.args.d.now.f c.args.d.now.clients) c.args.quorums.now c.all.result
    (all_from_yields_List (known.knows_quorum c.args.d.now.sites c.args.d.now.f c.args.d.now.clients) _ _ c.all.result c.all.ensures.ran (YieldsList-from_slice c.args.quorums.now cc) (λ x b q k. search (rules, tests)))
