-- The key of the party and the statement is looked up.
use Rattle.std.proofs.Common.{◌∙◌, ap, List, Option, ℕ}
use Rattle.std.specs.Option.{is_some}
use Rattle.st_message.specs.declared.made.MadeSeal.{MadeSeal}
use Rattle.st_protocol.specs.World.{has_made}
use Rattle.st_made.specs.Keys.{leaf_at}
use Rattle.st_made.proofs.NotedLaws.{first_of_made}
use Rattle.st_made.proofs.made.Made.has.Goals as goal

pub returns-clause-has : goal.returns-clause-has
returns-clause-has c =
    c.contains_key.ensures
    ∙ (ap (λ bytes. is_some (leaf_at (λ k. k.items) c.self.inside.leaves bytes)) (c.as_slice.ensures.value ∙ c.in_ok-sought.ensures.spelled)
    ∙ (ap (λ (o : Option ℕ). is_some o) (c.self.invariant c.args.who c.args.statement.now c.requires c.key_of.ensures.fits)
    ∙ (first_of_made c.self.inside.seals c.args.who c.args.statement.now ∙ ap (λ (list : List MadeSeal). has_made list c.args.who c.args.statement.now) c.self.view_is)))
