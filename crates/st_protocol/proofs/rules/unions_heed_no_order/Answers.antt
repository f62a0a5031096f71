-- Number by number.
use Rattle.st_protocol.proofs.UnionLaws.{union_items_swap}
use Rattle.st_protocol.proofs.rules.unions_heed_no_order.Goals as goal

pub returns : goal.returns
returns c = λ before after a b other. union_items_swap before after a b other
