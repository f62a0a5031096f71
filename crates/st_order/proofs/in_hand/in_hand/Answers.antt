-- A number of which no words are kept isn't in hand.
use Rattle.st_order.proofs.InHandLaws.{not_in_hand}
use Rattle.st_order.proofs.in_hand.in_hand.Goals as goal

pub returns-in_default-clause-equal : goal.returns-in_default-clause-equal
returns-in_default-clause-equal c = λ clients serve. not_in_hand clients serve c.args.here.now c.args.hand.now c.args.number c.in_default.ensures
