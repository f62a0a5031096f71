-- Messages that name a deployment's own sites, servers and clients alone, and have as many parts as its numbers ask: Quorums of
-- exactly 2f+1 seals, proofs of exactly a majority of sites, bundles of exactly 2f+1 reports.
use Rattle.std.specs.Prelude.{◌≡◌, ℕ, ◌+◌, ◌*◌, ◌/◌, ◌%◌, ◌<◌, List, length}
use Rattle.std.specs.List.{AllByRecursion as Each}
use Rattle.std.specs.Option.{IfSome}
use Rattle.st_words.specs.declared.value.Value.{Value}
use Rattle.st_words.specs.declared.value.Value.TheVariants as values
use Rattle.st_words.specs.declared.statement.Item.{Item}
use Rattle.st_words.specs.declared.statement.Statement.{Statement}
use Rattle.st_words.specs.declared.statement.Statement.TheVariants.{Prepare, Proposal, Accept, LocalVc, GlobalVc, LocalReport, GlobalReport, LocalUnion, GlobalUnion, Reply, ClientUpdate}
use Rattle.st_seal.specs.declared.quorum.Signed.{Signed}
use Rattle.st_message.specs.declared.message.SiteWord.{SiteWord}
use Rattle.st_message.specs.declared.message.Proof.{Proof}
use Rattle.st_message.specs.declared.message.ReportBody.{ReportBody}
use Rattle.st_message.specs.declared.message.ViewWords.TheVariants as view_words
use Rattle.st_message.specs.declared.message.Message.{Message}
use Rattle.st_message.specs.declared.message.Message.TheVariants as messages
use Rattle.st_protocol.specs.Words.{Quorum}
use Rattle.st_protocol.specs.World.{Deployment, servers_of}

module _ {Wire : Type 0} (d : Deployment Wire) where
  -- a value of one of the clients
  abbrev pub ValueInDeployment : Value → Type 0
  ValueInDeployment values.Noop = Unit {0}
  ValueInDeployment (values.Update u) = u.client.0 < d.clients

  -- the site that leads the view
  abbrev pub IsLeader : ℕ → ℕ → Type 0
  IsLeader site view = (site < d.sites) × (view % d.sites ≡ site)

  -- an item of a local report or union: its value was prepared at this site
  abbrev pub OwnItemInDeployment : ℕ → Item → Type 0
  OwnItemInDeployment site i = ValueInDeployment i.value × (i.view.0 % d.sites ≡ site)

  -- an item of a global one
  abbrev pub ItemInDeployment : Item → Type 0
  ItemInDeployment i = ValueInDeployment i.value

  -- A statement of the deployment's parties; a Prepare or a Proposal is of the site that leads its view.
  abbrev pub StatementInDeployment : Statement → Type 0
  StatementInDeployment (Prepare site view local number value) = IsLeader site.0 view.0 × ValueInDeployment value
  StatementInDeployment (Proposal site view local number value) = IsLeader site.0 view.0 × ValueInDeployment value
  StatementInDeployment (Accept site view number value) = (site.0 < d.sites) × ValueInDeployment value
  StatementInDeployment (LocalVc site local) = site.0 < d.sites
  StatementInDeployment (GlobalVc site view) = site.0 < d.sites
  StatementInDeployment (LocalReport site local index view base items) = ((site.0 < d.sites) × (index < servers_of d)) × Each (OwnItemInDeployment site.0) items
  StatementInDeployment (GlobalReport site view index base items) = ((site.0 < d.sites) × (index < servers_of d)) × Each ItemInDeployment items
  StatementInDeployment (LocalUnion site local greatest base items) = (site.0 < d.sites) × Each (OwnItemInDeployment site.0) items
  StatementInDeployment (GlobalUnion site view base items) = (site.0 < d.sites) × Each ItemInDeployment items
  StatementInDeployment (Reply site client time number result) = (site.0 < d.sites) × (client.0 < d.clients)
  StatementInDeployment (ClientUpdate u) = u.client.0 < d.clients

  -- a seal of a server of a site
  abbrev pub SignedInDeployment : Signed → Type 0
  SignedInDeployment signed = signed.index < servers_of d

  -- exactly 2f+1 seals of a site's servers
  abbrev pub QuorumIsExact : Quorum → Type 0
  QuorumIsExact q = (length q ≡ 2 * d.f + 1) × Each SignedInDeployment q

  -- a site's word
  abbrev pub WordIsExact : SiteWord → Type 0
  WordIsExact word = (word.site.0 < d.sites) × QuorumIsExact word.quorum

  -- words of exactly a majority of sites
  abbrev pub SitesAreExact : List SiteWord → Type 0
  SitesAreExact words = (length words ≡ d.sites / 2 + 1) × Each WordIsExact words

  -- an order proof
  abbrev pub ProofIsExact : Proof → Type 0
  ProofIsExact p = ValueInDeployment p.value × SitesAreExact p.sites

  -- a report
  abbrev pub ReportIsExact : ReportBody → Type 0
  ReportIsExact r = (StatementInDeployment r.statement × Each QuorumIsExact r.quorums) × IfSome r.base ProofIsExact

  -- A message that names the deployment's parties alone, and whose Quorums, proofs and bundles have exactly their counts.
  abbrev pub MessageIsExact : Message → Type 0
  MessageIsExact (messages.Update u seal) = u.client.0 < d.clients
  MessageIsExact (messages.Assign view local number value client_seal signed) = ValueInDeployment value × SignedInDeployment signed
  MessageIsExact (messages.Share s signed) = StatementInDeployment s × SignedInDeployment signed
  MessageIsExact (messages.Certificate s q) = StatementInDeployment s × QuorumIsExact q
  MessageIsExact (messages.OrderProof number p) = ProofIsExact p
  MessageIsExact (messages.Report r) = ReportIsExact r
  MessageIsExact (messages.Bundle rs) = (length rs ≡ 2 * d.f + 1) × Each ReportIsExact rs
  MessageIsExact (messages.ViewProof (view_words.Local s q)) = StatementInDeployment s × QuorumIsExact q
  MessageIsExact (messages.ViewProof (view_words.Global view words)) = SitesAreExact words
  MessageIsExact (messages.Ask server executed view local) = (server.site < d.sites) × (server.index < servers_of d)
  MessageIsExact (messages.Reply s signed) = StatementInDeployment s × SignedInDeployment signed
