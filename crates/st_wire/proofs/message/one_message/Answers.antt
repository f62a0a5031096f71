-- A law of every field, at messages.
use Rattle.std.proofs.Common.{ap}
use Rattle.st_fields.proofs.Fields.{one_spelling}
use Rattle.st_wire.proofs.MessageFields.{message_field}
use Rattle.st_wire.proofs.message.one_message.Goals as goal

pub returns : goal.returns
returns c = λ i j m n li lj km fm kn fn e.
    let both = one_spelling message_field (i, m) (j, n) (li, (km, fm)) (lj, (kn, fn)) e in
    (ap (λ p. p.0) both, ap (λ p. p.1) both)
