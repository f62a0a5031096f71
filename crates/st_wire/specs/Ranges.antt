-- The ranges of a message's fields. What the format asks (Keeps) stands apart from what every value of
-- the code's types meets (Fits), so that who encodes a message owes only the first.
use Rattle.std.specs.Prelude.{◌≡◌, ℕ, ◌+◌, ◌^◌, ◌<◌, ◌≤◌, IsTrue, Option, Some, None, List, length, All}
use Rattle.std.specs.Int.{IsInRange}
use Rattle.st_fields.specs.Spelling.{KeepsEach, is_among}
use Rattle.st_words.specs.declared.value.Value.{Value}
use Rattle.st_words.specs.declared.value.Value.TheVariants as values
use Rattle.st_words.specs.declared.limits.ReportBounds.{ReportBounds}
use Rattle.st_words.specs.declared.kind.StatementKind.{StatementKind}
use Rattle.st_words.specs.declared.statement.Statement.{Statement}
use Rattle.st_words.specs.Kind as statements
use Rattle.st_words.specs.Ranges.{KeepsUpdate, KeepsValue, KeepsStatement, KeepsBounds, after_report, FitsUpdate, FitsValue, FitsStatement}
use Rattle.st_words.specs.Reading.{any_report}
use Rattle.st_seal.specs.declared.quorum.Signed.{Signed}
use Rattle.st_message.specs.declared.message.SiteWord.{SiteWord}
use Rattle.st_message.specs.declared.message.Proof.{Proof}
use Rattle.st_message.specs.declared.message.ReportBody.{ReportBody}
use Rattle.st_message.specs.declared.message.ViewWords.{ViewWords}
use Rattle.st_message.specs.declared.message.ViewWords.TheVariants.{Local, Global}
use Rattle.st_message.specs.declared.message.Message.{Message}
use Rattle.st_message.specs.declared.message.Message.TheVariants as messages
use Rattle.st_wire.specs.declared.rising.Rising.{Rising}
use Rattle.st_wire.specs.declared.report.Bundled.{Bundled}
use Rattle.st_wire.specs.Kind.{share_kinds, certificate_kinds, view_kinds, reply_kinds, items_of, base_of}

-- how many bytes a seal has at most
abbrev pub most_seal : ℕ
most_seal = 5076

-- how many bytes a message has at most
abbrev pub most_bytes : ℕ
most_bytes = 4194304

-- ---- what the format asks

-- a seal isn't empty
abbrev pub KeepsSeal : List ℕ → Type 0
KeepsSeal seal = IsInRange 1 most_seal (length seal)

-- nothing stands before
abbrev pub first : Rising
first = record { least = 0 }

-- a server's seal, whose index is above those before it
abbrev pub KeepsSigned : Rising → Signed → Type 0
KeepsSigned r s = (r.least ≤ s.index) × KeepsSeal s.seal

abbrev pub after_signed : Rising → Signed → Rising
after_signed r s = record { least = s.index + 1 }

-- at least one seal, by rising index
abbrev pub KeepsQuorum : List Signed → Type 0
KeepsQuorum shares = IsInRange 1 255 (length shares) × KeepsEach KeepsSigned after_signed first shares

-- a site's word, whose site is above those before it
abbrev pub KeepsSite : Rising → SiteWord → Type 0
KeepsSite r w = (r.least ≤ w.site.0) × KeepsQuorum w.quorum

abbrev pub after_site : Rising → SiteWord → Rising
after_site r w = record { least = w.site.0 + 1 }

-- the words of at least one site, by rising site
abbrev pub KeepsSites : List SiteWord → Type 0
KeepsSites sites = IsInRange 1 255 (length sites) × KeepsEach KeepsSite after_site first sites

-- an order proof
abbrev pub KeepsProof : Proof → Type 0
KeepsProof p = KeepsValue p.value × KeepsSites p.sites

-- a base above 0 has its order proof
abbrev pub KeepsBase : ℕ → Option Proof → Type 0
KeepsBase base None = base ≡ 0
KeepsBase base (Some p) = (1 ≤ base) × KeepsProof p

-- a report with a quorum for each item and the proof of its base
abbrev pub KeepsBacked : ReportBody → Type 0
KeepsBacked r = KeepsStatement r.statement × KeepsSeal r.seal × (length r.quorums ≡ length (items_of r.statement)) × All KeepsQuorum r.quorums × KeepsBase (base_of r.statement) r.base

-- such a report that may stand within the bounds
abbrev pub KeepsReport : Bundled → ReportBody → Type 0
KeepsReport b r = KeepsBounds b.bounds r.statement × KeepsBacked r

-- any report
abbrev pub any_body : Bundled
any_body = record { bounds = any_report }

-- the reports of a bundle are of one kind, one site and one view, by rising index
abbrev pub after_body : Bundled → ReportBody → Bundled
after_body b r = record { bounds = after_report b.bounds r.statement }

-- a statement of one of these kinds
abbrev pub KeepsCore : List StatementKind → Statement → Type 0
KeepsCore kinds s = IsTrue (is_among statements.kind_number kinds (statements.kind_of s)) × KeepsStatement s

-- why a view is entered
abbrev pub KeepsWords : ViewWords → Type 0
KeepsWords (Local s q) = KeepsCore view_kinds s × KeepsQuorum q
KeepsWords (Global view sites) = (1 ≤ view.0) × KeepsSites sites

-- how many bytes a client's seal has at most: a no-op has none
abbrev pub most_client_seal : Value → ℕ
most_client_seal values.Noop = 0
most_client_seal (values.Update u) = most_seal

-- what is said
abbrev pub KeepsMessage : Message → Type 0
KeepsMessage (messages.Update update seal) = KeepsUpdate update × KeepsSeal seal
KeepsMessage (messages.Assign view local n v seal signed) = (1 ≤ n.0) × KeepsValue v × (length seal ≤ most_client_seal v) × KeepsSigned first signed
KeepsMessage (messages.Share s signed) = KeepsCore share_kinds s × KeepsSigned first signed
KeepsMessage (messages.Certificate s q) = KeepsCore certificate_kinds s × KeepsQuorum q
KeepsMessage (messages.OrderProof n proof) = (1 ≤ n.0) × KeepsProof proof
KeepsMessage (messages.Report report) = KeepsReport any_body report
KeepsMessage (messages.Bundle reports) = IsInRange 1 255 (length reports) × KeepsEach KeepsReport after_body any_body reports
KeepsMessage (messages.ViewProof words) = KeepsWords words
KeepsMessage (messages.Ask server executed view local) = Unit {0}
KeepsMessage (messages.Reply s signed) = KeepsCore reply_kinds s × KeepsSigned first signed

-- ---- what the code's types keep

-- a server's index is a byte
abbrev pub FitsSigned : Signed → Type 0
FitsSigned s = s.index < 2 ^ 8

-- the indices of a quorum are bytes
abbrev pub FitsQuorum : List Signed → Type 0
FitsQuorum shares = All FitsSigned shares

-- a site is a byte
abbrev pub FitsSite : SiteWord → Type 0
FitsSite w = (w.site.0 < 2 ^ 8) × FitsQuorum w.quorum

-- a proof's numbers are of their widths
abbrev pub FitsProof : Proof → Type 0
FitsProof p = (p.view.0 < 2 ^ 32) × FitsValue p.value × All FitsSite p.sites

-- and where there is one
abbrev pub FitsBase : Option Proof → Type 0
FitsBase None = Unit {0}
FitsBase (Some p) = FitsProof p

-- a report's numbers are of their widths
abbrev pub FitsReport : ReportBody → Type 0
FitsReport r = FitsStatement r.statement × All FitsQuorum r.quorums × FitsBase r.base

-- the numbers of what backs a view are of their widths
abbrev pub FitsWords : ViewWords → Type 0
FitsWords (Local s q) = FitsStatement s × FitsQuorum q
FitsWords (Global view sites) = (view.0 < 2 ^ 32) × All FitsSite sites

-- a message's numbers are of their widths
abbrev pub FitsMessage : Message → Type 0
FitsMessage (messages.Update update seal) = FitsUpdate update
FitsMessage (messages.Assign view local n v seal signed) = (view.0 < 2 ^ 32) × (local.0 < 2 ^ 32) × (n.0 < 2 ^ 32) × FitsValue v × FitsSigned signed
FitsMessage (messages.Share s signed) = FitsStatement s × FitsSigned signed
FitsMessage (messages.Certificate s q) = FitsStatement s × FitsQuorum q
FitsMessage (messages.OrderProof n proof) = (n.0 < 2 ^ 32) × FitsProof proof
FitsMessage (messages.Report report) = FitsReport report
FitsMessage (messages.Bundle reports) = All FitsReport reports
FitsMessage (messages.ViewProof words) = FitsWords words
FitsMessage (messages.Ask server executed view local) = (server.site < 2 ^ 8) × (server.index < 2 ^ 8) × (executed < 2 ^ 32) × (view.0 < 2 ^ 32) × (local.0 < 2 ^ 32)
FitsMessage (messages.Reply s signed) = FitsStatement s × FitsSigned signed
