-- The key has as many seals as its choices say.
use Rattle.std.proofs.Common.{◌∙◌}
use Rattle.st_hss.specs.Keys.{hss_secret_of}
use Rattle.st_hss_seal.proofs.KeyLaws.{capacity_is}
use Rattle.st_hss_seal.proofs.hss.HssSealerSealer.capacity.Goals as goal

pub returns : goal.returns
returns c =
    let s = c.args.self.now in
    c.capacity.ensures ∙ capacity_is s.scheme s.who (hss_secret_of s.key) s.choice s.made
