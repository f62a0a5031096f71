-- What a keyed sealer is to those who see only its seals.
use Rattle.st_seal.specs.declared.keyed.KeyedSealer.{KeyedSealer}
use Rattle.st_seal.specs.Pen.{Pen}
use Rattle.st_seal.specs.Keyed.{keyed_pen}
use Rattle.st_seal.specs.KeyedSchemes.{keyed_scheme}

-- the keyed pen of its party
abbrev pub pen_of : KeyedSealer → Pen
pen_of s = keyed_pen (keyed_scheme s.seals) s.who
