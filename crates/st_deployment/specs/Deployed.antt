-- A deployment of today's servers as a world sees it: messages are bytes, servers drive the list service, and seals are the
-- deployment's own.
use Rattle.std.specs.Prelude.{ℕ, Bool, List}
use Rattle.st_words.specs.declared.deployment as words
use Rattle.st_words.specs.declared.ids.Who.{Who}
use Rattle.st_words.specs.declared.statement.Statement.{Statement}
use Rattle.st_hss_seal.specs.Sealing.{seal_of}
use Rattle.st_protocol.specs.Words.{Bytes}
use Rattle.st_protocol.specs.World.{Deployment, deployment_of}
use Rattle.st_live.specs.Service.{list_serve}
use Rattle.st_reading.specs.Deployed.{wire_formats}
use Rattle.st_sealing.specs.Sealing.{sealed_bytes}
use Rattle.st_server.specs.Deployed.{runs_no_code}

-- a party's seal, with a leaf, over what is sealed of a statement
abbrev pub statement_seal : words.Deployment.Deployment → Who → ℕ → Statement → Bytes
statement_seal d who leaf s = seal_of d who leaf (sealed_bytes d.id s)

-- A file's deployment over bytes, with this service, these faulty servers, and these seals.
abbrev pub of_file : words.Deployment.Deployment → (List Bytes → Bytes → Bytes) → (ℕ → ℕ → Bool) → (Who → ℕ → Statement → Bytes) → Deployment (List ℕ)
of_file d serve faulty seal = record (deployment_of d serve (record (wire_formats d) { seal = seal })) { faulty = faulty }

-- The deployment as a world sees it.
unfoldable pub world_deployment : words.Deployment.Deployment → Deployment (List ℕ)
world_deployment d = of_file d list_serve (runs_no_code d) (statement_seal d)
