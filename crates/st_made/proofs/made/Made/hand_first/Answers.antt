-- The seal is noted, and its leaf kept.
use Rattle.std.proofs.Common.{◌≡◌, ◌∙◌, ap, cond, Some, ◌∷◌, ◌++◌, [], List, ℕ, subst}
use Rattle.std.specs.Str.{bytes_eq}
use Rattle.st_message.specs.declared.made.MadeSeal.{MadeSeal}
use Rattle.st_made.specs.Keys.{leaf_at, first_leaf, seal_of}
use Rattle.st_made.proofs.KeyLaws.{updated}
use Rattle.st_made.proofs.HandLaws.{made_new, keeps_new}
use Rattle.st_made.proofs.made.Made.hand_first.Goals as goal

pub invariant_of-self-in-Ok : goal.invariant_of-self-in-Ok
invariant_of-self-in-Ok c =
    keeps_new (λ k. k.items) c.self.inside.seals c.push.new.self c.args.who c.args.leaf c.args.statement.now c.in_ok-statement.statement c.in_ok-push.ensures.ok c.in_ok-statement.ensures.equal c.self.inside.leaves c.insert.new.self
    c.requires.keeps c.requires.fits (ap (λ (list : List MadeSeal). first_leaf list c.args.who c.args.statement.now) c.self.view_is ∙ c.requires.first)
    (λ bytes.
    subst (λ (key : List ℕ). leaf_at (λ k. k.items) c.insert.new.self bytes ≡ cond (bytes_eq key bytes) (Some c.args.leaf) (leaf_at (λ k. k.items) c.self.inside.leaves bytes)) c.requires.key
    (updated (λ k. k.items) c.args.key.items c.self.inside.leaves c.insert.new.self (Some c.args.leaf) c.in-Ok.ensures.updates bytes))
    c.self.invariant

pub returns-clause-made : goal.returns-clause-made
returns-clause-made c =
    made_new c.args.self.now c.push.new.self c.args.who c.args.leaf c.args.statement.now c.in_ok-statement.statement c.requires.first
    (c.in_ok-push.ensures.ok ∙ ap (λ (list : List MadeSeal). list ++ seal_of c.args.who c.args.leaf c.in_ok-statement.statement ∷ []) c.self.view_is) c.in_ok-statement.ensures.equal
