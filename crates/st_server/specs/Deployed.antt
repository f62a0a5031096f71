-- A deployment of servers as a world in which messages are passed as they are sees it: they drive the list service and
-- seal with keyed seals.
use Rattle.std.specs.Prelude.{ℕ, ◌+◌, ◌*◌, Bool, ◌&&◌, ◌||◌, not, nat_lt, List}
use Rattle.st_words.specs.declared.deployment as words
use Rattle.st_words.specs.declared.ids.Who.{Who}
use Rattle.st_words.specs.declared.statement.Statement.{Statement}
use Rattle.st_seal.specs.Scheme.{scheme_of}
use Rattle.st_seal.specs.Keyed.{sealed_by}
use Rattle.st_message.specs.declared.message.Message.{Message}
use Rattle.st_protocol.specs.World.{Formats, Deployment, deployment_of, is_listed, passed}
use Rattle.st_live.specs.Service.{list_serve}
use Rattle.st_sealing.specs.Sealing.{sealed_bytes}
use Rattle.st_server.specs.Serving.{knows_sender_of}

-- the keyed seal of a party, with a leaf, over what is sealed of a statement
unfoldable pub keyed_seals : words.Deployment.Deployment → Who → ℕ → Statement → List ℕ
keyed_seals d who leaf s = sealed_by (scheme_of d) who leaf (sealed_bytes d.id s)

-- messages are passed as they are; of each, its sender is looked at
abbrev pub formats_of : words.Deployment.Deployment → Formats Message
formats_of d = record (passed (keyed_seals d)) { knows = knows_sender_of d.sites d.f }

-- a server that the deployment doesn't have runs no code, as one that is faulty
abbrev pub runs_no_code : words.Deployment.Deployment → ℕ → ℕ → Bool
runs_no_code d site index = is_listed d.faulty site index || not (nat_lt site d.sites && nat_lt index (3 * d.f + 1))

-- The deployment as a world sees it.
unfoldable pub world_deployment : words.Deployment.Deployment → Deployment Message
world_deployment d = record (deployment_of d list_serve (formats_of d)) { faulty = runs_no_code d }
