-- The tree that is kept is the second under the leaf.
use Rattle.std.proofs.Common.{◌≡◌, Some, sym, arith}
use Rattle.st_lms.specs.declared.secret.LmsSecret.{LmsSecret}
use Rattle.st_lms.specs.TreeSecrets.{secret_of}
use Rattle.st_tables.specs.Entries.{entry}
use Rattle.st_hss.specs.declared.second.Second.{Second}
use Rattle.st_hss.specs.Kept.{IsSecond}
use Rattle.st_hss.proofs.KeptLaws.{leaves_of_second}
use Rattle.st_hss.proofs.key.HssKey.seal_below.Goals as goal

pub seal-requires : goal.seal-requires
seal-requires c =
    let s : LmsSecret = secret_of c.args.self.now.first in
    let second : Second = c.in-Some.second.now in
    let there : entry c.args.self.now.seconds c.args.q ≡ Some second = sym c.in-Some.ensures in
    let is : IsSecond s c.args.q second = c.args.self.now.kept c.args.q second there in
    let leaves = leaves_of_second s c.args.q second is in
    omega (arith, leaves, c.requires.leaf)
