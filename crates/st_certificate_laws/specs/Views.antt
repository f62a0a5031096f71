-- Where a server stands, as its records answer, and what proves a view.
use Rattle.std.specs.Prelude.{◌≡◌, ℕ, true, List}
use Rattle.std.specs.List.{AllByRecursion as Each}
use Rattle.st_words.specs.declared.statement.Statement.{Statement}
use Rattle.st_seal.specs.declared.quorum.Signed.{Signed}
use Rattle.st_message.specs.declared.message.SiteWord.{SiteWord}
use Rattle.st_message.specs.declared.made.MadeSeal.{MadeSeal}
use Rattle.st_message.specs.declared.change.Change.TheVariants.{EnterLocal, EnterGlobal}
use Rattle.st_counts.specs.Counts.{Has}
use Rattle.st_protocol.specs.Words.{Quorum, server_at}
use Rattle.st_protocol.specs.Keeping.{joined}
use Rattle.st_protocol.specs.Certificates.{is_view_proof, is_local_proof}
use Rattle.st_protocol.specs.World.{Deployment, World, has_made}
use Rattle.st_protocol.specs.Schedule.{is_correct_who}
use Rattle.st_protocol.specs.Report.{answers_at}

-- a server's view
abbrev pub view_at : {Wire : Type 0} → Deployment Wire → World Wire → ℕ → ℕ → ℕ
view_at d world site index = (answers_at d world site index).here.view

-- a server's local view
abbrev pub local_at : {Wire : Type 0} → Deployment Wire → World Wire → ℕ → ℕ → ℕ
local_at d world site index = (answers_at d world site index).here.local

-- A server recorded that it entered its local view, with exactly 2f+1 of its site's servers that ask for it.
pub record IsLocalProved {Wire : Type 0} (d : Deployment Wire) (world : World Wire) (site index : ℕ) : Type 0 where
  pub quorum : Quorum
  pub recorded : Has (EnterLocal (record { 0 = local_at d world site index }) quorum) (joined (world.nodes site index).bodies)
  pub stands : is_local_proof d.formats.holds d.f d.sites site (local_at d world site index) quorum ≡ true

-- A server recorded that it entered its view, with exactly a majority of sites that ask for it.
pub record IsViewProved {Wire : Type 0} (d : Deployment Wire) (world : World Wire) (site index : ℕ) : Type 0 where
  pub words : List SiteWord
  pub recorded : Has (EnterGlobal (record { 0 = view_at d world site index }) words) (joined (world.nodes site index).bodies)
  pub stands : is_view_proof d.formats.holds d.f d.sites (view_at d world site index) words ≡ true

-- Each of these seals that names a correct server is over what this server handed out.
abbrev pub HaveAsked : {Wire : Type 0} → Deployment Wire → List MadeSeal → ℕ → Statement → Quorum → Type 0
HaveAsked d made site s q = Each (λ (x : Signed). is_correct_who d (server_at site x.index) ≡ true → has_made made (server_at site x.index) s ≡ true) q
