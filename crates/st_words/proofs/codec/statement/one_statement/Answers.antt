-- A law of every field, at statements.
use Rattle.std.proofs.Common.{ap}
use Rattle.st_fields.proofs.Fields.{one_spelling}
use Rattle.st_words.proofs.Cores.{statement_field}
use Rattle.st_words.proofs.codec.statement.one_statement.Goals as goal

pub returns : goal.returns
returns c = λ i j s t li lj ks fs kt ft e.
    let both = one_spelling statement_field (i, s) (j, t) (li, (ks, fs)) (lj, (kt, ft)) e in
    (ap (λ p. p.0) both, ap (λ p. p.1) both)
