-- Every other statement was never made.
use Rattle.st_server.proofs.EmitLaws.{other_leaf}
use Rattle.st_server.proofs.draft.Draft.leaf_of.Goals as goal

pub returns-in_default : goal.returns-in_default
returns-in_default c =
    record {
      leaf = λ way draws.
          other_leaf c.args.self.now.live way.now c.args.statement.now draws.now c.in_default.not-Prepare c.in_default.not-Proposal c.in_default.not-Accept c.in_default.not-Reply;
    }
