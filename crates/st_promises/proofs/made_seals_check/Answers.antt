-- By the law of pens.
use Rattle.st_promises.proofs.DeployedLaws.{made_checks, own_seals_keep, world_checks}
use Rattle.st_promises.proofs.made_seals_check.Goals as goal

pub returns-clause-checks : goal.returns-clause-checks
returns-clause-checks c = λ d who leaf s choice party below. made_checks d who leaf s choice party below

pub returns-clause-keeps : goal.returns-clause-keeps
returns-clause-keeps c = λ d who choice. own_seals_keep d who choice

pub returns-clause-worlds : goal.returns-clause-worlds
returns-clause-worlds c = λ d who leaf s choice party below keeps. world_checks d who leaf s choice party below keeps
