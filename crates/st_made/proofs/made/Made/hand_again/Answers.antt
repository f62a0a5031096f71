-- The seal was handed out before, or is noted now.
use Rattle.std.proofs.Common.{◌∙◌, ap, sym, Some, List}
use Rattle.st_message.specs.declared.made.MadeSeal.{MadeSeal}
use Rattle.st_made.specs.Keys.{first_leaf}
use Rattle.st_made.proofs.HandLaws.{made_first, keeps_again}
use Rattle.st_made.proofs.made.Made.hand_again.Goals as goal

pub returns-then-leaf-first-clause-made : goal.returns-then-leaf-first-clause-made
returns-then-leaf-first-clause-made c = made_first c.args.self.now c.args.who c.args.leaf c.args.statement.now (c.requires.first ∙ ap Some (sym c.if-leaf-first.true))

pub invariant_of-self-2 : goal.invariant_of-self-2
invariant_of-self-2 c =
    keeps_again (λ k. k.items) c.self.inside.seals c.push.new.self c.args.who c.args.leaf c.args.statement.now c.in_ok-statement.statement c.in_ok-push.ensures.ok c.in_ok-statement.ensures.equal c.self.inside.leaves c.args.first
    (ap (λ (list : List MadeSeal). first_leaf list c.args.who c.args.statement.now) c.self.view_is ∙ c.requires.first) c.self.invariant
