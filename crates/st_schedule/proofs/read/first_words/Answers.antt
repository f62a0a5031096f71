-- What `split` and `take` yield.
use Rattle.std.proofs.Common.{lit<}
use Rattle.std.proofs.lemmas.Iterator.{YieldsList-from_take}
use Rattle.std.proofs.lemmas.Iterator.Consumers.{map_from_collect, YieldsList-at}
use Rattle.std.proofs.lemmas.Iterator.Splits.{YieldsList-from_str_split}
use Rattle.st_schedule.proofs.read.first_words.Goals as goal

pub returns : goal.returns
returns c =
    let split = YieldsList-from_str_split 32 c.args.text.now (lit< tt) c.split.ensures.text c.split.ensures.has_more c.split.ensures.pattern in
    map_from_collect _ c.collect.ensures.ran (YieldsList-from_take 4 (YieldsList-at c.take.ensures.source split) c.take.ensures.count)
