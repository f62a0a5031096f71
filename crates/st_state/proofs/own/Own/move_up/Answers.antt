-- Both rings move up.
use Rattle.st_state.specs.HereView.{here_of}
use Rattle.st_state.proofs.OwnLaws.{own_moved}
use Rattle.st_state.proofs.own.Own.move_up.Goals as goal

pub returns : goal.returns
returns c = λ clients serve. own_moved (here_of clients serve c.args.here.now) c.args.self.now _ c.move_up.ensures c.move_up-2.ensures
