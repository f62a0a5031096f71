-- A law of every field, at statements.
use Rattle.std.proofs.Common.{ap}
use Rattle.st_fields.proofs.Fields.{prefix_free}
use Rattle.st_words.proofs.Cores.{statement_field}
use Rattle.st_words.proofs.codec.statement.no_proper_prefix.Goals as goal

pub returns : goal.returns
returns c = λ i j s t rest li lj ks fs kt ft e.
    let both = prefix_free statement_field (i, s) (j, t) rest (li, (ks, fs)) (lj, (kt, ft)) e in
    (ap (λ p. p.0) both.0, ap (λ p. p.1) both.0, both.1)
