-- What `lines` and `take` yield.
use Rattle.std.proofs.lemmas.Iterator.{YieldsList-from_take}
use Rattle.std.proofs.lemmas.Iterator.Consumers.{map_from_collect, YieldsList-at}
use Rattle.std.proofs.lemmas.Iterator.Splits.{YieldsList-from_lines}
use Rattle.st_config.proofs.header.first_lines.Goals as goal

pub returns : goal.returns
returns c =
    let all = YieldsList-from_lines c.args.text.now c.lines.ensures.rest in
    map_from_collect _ c.collect.ensures.ran (YieldsList-from_take 11 (YieldsList-at c.take.ensures.source all) c.take.ensures.count)
