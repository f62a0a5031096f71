-- The iterator tests each.
use Rattle.std.proofs.Common.{rules, tests}
use Rattle.std.proofs.lemmas.Iterator.{YieldsList-from_slice}
use Rattle.std.proofs.lemmas.Iterator.Search.{all_from_yields_List}
use Rattle.st_protocol.specs.Known as known
use Rattle.st_reading.proofs.KnownLaws.{answers_each}
use Rattle.st_reading.proofs.known.knows_own_items.Goals as goal

pub returns : goal.returns
returns c =
    answers_each (known.knows_own_item c.args.d.now.sites c.args.d.now.f c.args.d.now.clients c.args.site.0) c.args.items.now c.all.result
    (all_from_yields_List (known.knows_own_item c.args.d.now.sites c.args.d.now.f c.args.d.now.clients c.args.site.0) _ _ c.all.result c.all.ensures.ran (YieldsList-from_slice c.args.items.now cc) (λ x b q k. search (rules, tests)))
