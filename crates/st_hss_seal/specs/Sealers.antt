-- What the seals of a deployment and a party's sealer are to those who see only seals.
use Rattle.st_seal.specs.Scheme.{Scheme}
use Rattle.st_seal.specs.Pen.{Pen, IsSound}
use Rattle.st_seal.specs.KeyedSchemes.{keyed_scheme}
use Rattle.st_seal.specs.KeyedLaws.{keyed_sound}
use Rattle.st_seal.specs.KeyedSealers as keyed
use Rattle.st_hss_seal.specs.declared.hss.HssSealer.{HssSealer}
use Rattle.st_hss_seal.specs.declared.deployment.DeploymentSeals.{DeploymentSeals}
use Rattle.st_hss_seal.specs.declared.deployment.DeploymentSeals.TheVariants as seals
use Rattle.st_hss_seal.specs.declared.deployment.PartySealer.{PartySealer}
use Rattle.st_hss_seal.specs.declared.deployment.PartySealer.TheVariants as sealers
use Rattle.st_hss_seal.specs.Schemes.{scheme_of_hss}
use Rattle.st_hss_seal.specs.Sealing.{pen_in}
use Rattle.st_hss_seal.specs.SealingLaws.{pens_are_sound}

-- the scheme that the seals are of
abbrev pub scheme_in : DeploymentSeals → Scheme
scheme_in (seals.Keyed s) = keyed_scheme s
scheme_in (seals.Hss s) = scheme_of_hss s.scheme

-- the pen of an HSS key's party
abbrev pub hss_pen_of : HssSealer → Pen
hss_pen_of s = pen_in (scheme_of_hss s.scheme) s.who

-- the pen of its party
abbrev pub pen_of : PartySealer → Pen
pen_of (sealers.Keyed s) = keyed.pen_of s
pen_of (sealers.Hss s) = hss_pen_of s

-- which keeps the laws of a pen
pub sound_of : (s : PartySealer) → IsSound (pen_of s)
sound_of (sealers.Keyed s) = keyed_sound (keyed_scheme s.seals) s.who s.party
sound_of (sealers.Hss s) = pens_are_sound (scheme_of_hss s.scheme) s.who s.choice s.party
