-- What a deployment and a server's own past guarantee of where it stands.
use Rattle.std.specs.Prelude.{◌+◌, ◌*◌, ◌^◌, ◌<◌, ◌≤◌}
use Rattle.st_words.specs.declared.statement.Statement.TheVariants.{Accept}
use Rattle.st_message.specs.declared.here as code
use Rattle.st_message.specs.declared.message.Message.{Message}
use Rattle.st_message.specs.declared.message.Message.TheVariants as messages

pub record IsKnown (here : code.Here.Here) : Type 0 where
  -- the index of each of the site's servers is a byte
  pub servers : 3 * here.f < 256
  pub sites : 0 < here.sites
  -- the numbers of the window have 32 bits
  pub executed : here.executed + 16 < 2 ^ 32
  -- it never made more seals than its key has
  pub leaf : here.leaf ≤ here.capacity
  pub capacity : here.capacity ≤ 2 ^ 20

-- the server whose share a message is, and the site whose certificate it is, are of the deployment
abbrev pub IsKnownMessage : code.Here.Here → Message → Type 0
IsKnownMessage here (messages.Share s signed) = signed.index < 3 * here.f + 1
IsKnownMessage here (messages.Certificate (Accept site view number value) q) = site.0 < here.sites
IsKnownMessage here m = Unit {0}
