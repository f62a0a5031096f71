-- A number of which no words are kept isn't in hand.
use Rattle.std.proofs.Common.{ap}
use Rattle.std.specs.Prelude.{is_some}
use Rattle.st_order.proofs.InHandLaws.{not_in_hand}
use Rattle.st_order.proofs.in_hand.is_in_hand.Goals as goal

pub returns-in-None : goal.returns-in-None
returns-in-None c = λ clients serve. ap is_some (not_in_hand clients serve c.args.here.now c.args.hand.now c.args.number c.in-None.ensures)
