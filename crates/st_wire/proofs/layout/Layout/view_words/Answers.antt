-- One word more.
use Rattle.std.proofs.Common.{◌∙◌}
use Rattle.st_words.specs.declared.statement.Statement.TheVariants.{GlobalVc}
use Rattle.st_wire.specs.Seals.{site_pieces}
use Rattle.st_wire.proofs.Laying.{laid_more}
use Rattle.st_wire.proofs.layout.Layout.view_words.Goals as goal

pub loop-word-preserved : goal.loop-word-preserved
loop-word-preserved c = c.in_ok-view_word.ensures.ok ∙ laid_more (site_pieces (λ site. GlobalVc site c.args.view)) c.args.self.now c.loop-word.self c.args.sites.now c.loop-word.word-index c.word-item.result c.loop-word-test.true c.word-item.is c.loop-word.invariant
