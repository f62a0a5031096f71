-- The bytes of messages and of their parts.
use Rattle.std.specs.Prelude.{ℕ, Option, Some, None, List, [], ◌∷◌}
use Rattle.std.specs.Int.{w32, w64}
use Rattle.std.specs.List.{flat_map}
use Rattle.st_fields.specs.Spelling.{joined, byte, number, text, counted}
use Rattle.st_words.specs.Spelling.{update_spelling, value_spelling, core_spelling}
use Rattle.st_seal.specs.declared.quorum.Signed.{Signed}
use Rattle.st_message.specs.declared.message.SiteWord.{SiteWord}
use Rattle.st_message.specs.declared.message.Proof.{Proof}
use Rattle.st_message.specs.declared.message.ReportBody.{ReportBody}
use Rattle.st_message.specs.declared.message.ViewWords.{ViewWords}
use Rattle.st_message.specs.declared.message.ViewWords.TheVariants.{Local, Global}
use Rattle.st_message.specs.declared.message.Message.{Message}
use Rattle.st_message.specs.declared.message.Message.TheVariants as messages
use Rattle.st_wire.specs.Kind.{kind_number, kind_of}

-- a server's seal: its index, and the seal behind its length
unfoldable pub signed_spelling : Signed → List ℕ
signed_spelling s = joined (byte s.index ∷ text s.seal ∷ [])

-- a quorum: seals behind their number
unfoldable pub quorum_spelling : List Signed → List ℕ
quorum_spelling shares = counted signed_spelling shares

-- a site's word: its site, and its quorum
unfoldable pub site_spelling : SiteWord → List ℕ
site_spelling w = joined (byte w.site.0 ∷ quorum_spelling w.quorum ∷ [])

-- sites' words behind their number
unfoldable pub sites_spelling : List SiteWord → List ℕ
sites_spelling sites = counted site_spelling sites

-- an order proof, whose number its context names
unfoldable pub proof_spelling : Proof → List ℕ
proof_spelling p = joined (number w32 p.view.0 ∷ value_spelling p.value ∷ sites_spelling p.sites ∷ [])

-- the order proof of a base, where the base is one of the log's numbers
unfoldable pub base_spelling : Option Proof → List ℕ
base_spelling None = []
base_spelling (Some p) = proof_spelling p

-- a report with what backs it: a quorum for each item, and the order proof of its base
unfoldable pub report_spelling : ReportBody → List ℕ
report_spelling r = joined (core_spelling r.statement ∷ text r.seal ∷ flat_map quorum_spelling r.quorums ∷ base_spelling r.base ∷ [])

-- why a view is entered
unfoldable pub words_spelling : ViewWords → List ℕ
words_spelling (Local s q) = joined (byte 0 ∷ core_spelling s ∷ quorum_spelling q ∷ [])
words_spelling (Global view sites) = joined (byte 1 ∷ number w32 view.0 ∷ sites_spelling sites ∷ [])

-- the body behind a message's kind
unfoldable pub body_spelling : Message → List ℕ
body_spelling (messages.Update update seal) = joined (update_spelling update ∷ text seal ∷ [])
body_spelling (messages.Assign view local n v seal signed) = joined (number w32 view.0 ∷ number w32 local.0 ∷ number w32 n.0 ∷ value_spelling v ∷ text seal ∷ signed_spelling signed ∷ [])
body_spelling (messages.Share s signed) = joined (core_spelling s ∷ signed_spelling signed ∷ [])
body_spelling (messages.Certificate s q) = joined (core_spelling s ∷ quorum_spelling q ∷ [])
body_spelling (messages.OrderProof n proof) = joined (number w32 n.0 ∷ proof_spelling proof ∷ [])
body_spelling (messages.Report report) = report_spelling report
body_spelling (messages.Bundle reports) = counted report_spelling reports
body_spelling (messages.ViewProof words) = words_spelling words
body_spelling (messages.Ask server executed view local) = joined (byte server.site ∷ byte server.index ∷ number w32 executed ∷ number w32 view.0 ∷ number w32 local.0 ∷ [])
body_spelling (messages.Reply s signed) = joined (core_spelling s ∷ signed_spelling signed ∷ [])

-- "STM1"
abbrev pub message_mark : List ℕ
message_mark = 83 ∷ 84 ∷ 77 ∷ 49 ∷ []

-- a message of the deployment with this id
unfoldable pub message_spelling : ℕ → Message → List ℕ
message_spelling id m = joined (message_mark ∷ number w64 id ∷ byte (kind_number (kind_of m)) ∷ body_spelling m ∷ [])
