-- The words so far are laid out.
use Rattle.std.proofs.Common.{◌≡◌, take}
use Rattle.std.specs.List.{flat_map}
use Rattle.st_words.specs.declared.statement.Statement.TheVariants.{Accept}
use Rattle.st_wire.specs.Seals.{site_pieces}
use Rattle.st_wire.specs.Layout.{laid}
use Rattle.st_wire.proofs.layout.Layout.accept_words.Given as goal

abbrev pub invariant-loop-word : goal.invariant-loop-word
invariant-loop-word l = l.self ≡ laid l.fn.self (flat_map (site_pieces (λ site. Accept site l.proof.view l.number l.proof.value)) (take l.word-index l.word-items))
