-- What holds of every deployment in range.
use Rattle.st_promises.proofs.DeployedLaws.{file_keeps, world_keeps, taken_keeps}
use Rattle.st_promises.proofs.deployed_worlds_keep_promises.Goals as goal

pub returns-clause-files : goal.returns-clause-files
returns-clause-files c = λ d serve seal all deployable serves seals l. file_keeps d deployable serve seal all serves seals l

pub returns-clause-worlds : goal.returns-clause-worlds
returns-clause-worlds c = λ d all deployable l. world_keeps d deployable all l

pub returns-clause-taken : goal.returns-clause-taken
returns-clause-taken c = λ d all taken built. taken_keeps d all taken built
