-- A law of every field, at messages.
use Rattle.std.proofs.Common.{ap}
use Rattle.st_fields.proofs.Fields.{prefix_free}
use Rattle.st_wire.proofs.MessageFields.{message_field}
use Rattle.st_wire.proofs.message.no_proper_prefix.Goals as goal

pub returns : goal.returns
returns c = λ i j m n rest li lj km fm kn fn e.
    let both = prefix_free message_field (i, m) (j, n) rest (li, (km, fm)) (lj, (kn, fn)) e in
    (ap (λ p. p.0) both.0, ap (λ p. p.1) both.0, both.1)
