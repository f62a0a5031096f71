-- Nothing is done yet.
use Rattle.st_server.proofs.DrawLaws.{draws_begin}
use Rattle.st_server.proofs.draft.Draft.begin.Goals as goal

pub returns-clause-draws : goal.returns-clause-draws
returns-clause-draws c = λ made q stands replies. draws_begin made _ q stands c.new.ensures c.new-2.ensures c.new-3.ensures replies
