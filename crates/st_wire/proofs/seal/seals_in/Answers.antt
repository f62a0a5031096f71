-- What is laid out are the seals.
use Rattle.std.proofs.Common.{ap, ◌∙◌}
use Rattle.st_wire.proofs.Standing.{seals-laid}
use Rattle.st_wire.proofs.seal.seals_in.Goals as goal

pub returns-clause-listed : goal.returns-clause-listed
returns-clause-listed c = ap (λ l. l.seals) c.in_ok-layout.ensures.laid ∙ seals-laid c.args.d.now.id c.args.d.now.sites c.args.message.now c.requires.keeps c.requires.size
