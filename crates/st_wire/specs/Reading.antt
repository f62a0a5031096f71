-- Reading messages from left to right, with the first fault.
use Rattle.std.specs.Prelude.{ℕ, Option, Some, None, List, length, Result, Ok, Err, ◌==◌, nat_lt, if◌then◌else◌}
use Rattle.std.specs.Int.{w32, w64}
use Rattle.st_fields.specs.Reading.{Read, ◌>>=◌, byte_at, number_at, byte_in, positive_at, kind_at, text_at, mark_at, list_at, counted_at, whole}
use Rattle.st_words.specs.Reading.{update_at, value_at, core_at, report_at}
use Rattle.st_seal.specs.declared.quorum.Signed.{Signed}
use Rattle.st_message.specs.declared.message.SiteWord.{SiteWord}
use Rattle.st_message.specs.declared.message.Proof.{Proof}
use Rattle.st_message.specs.declared.message.ReportBody.{ReportBody}
use Rattle.st_message.specs.declared.message.ViewWords.{ViewWords}
use Rattle.st_message.specs.declared.message.ViewWords.TheVariants.{Local, Global}
use Rattle.st_message.specs.declared.message.Message.{Message}
use Rattle.st_message.specs.declared.message.Message.TheVariants as messages
use Rattle.st_wire.specs.declared.kind.MessageKind.{MessageKind}
use Rattle.st_wire.specs.declared.kind.MessageKind.TheVariants as kinds
use Rattle.st_wire.specs.declared.rising.Rising.{Rising}
use Rattle.st_wire.specs.declared.report.Bundled.{Bundled}
use Rattle.st_wire.specs.declared.report.Backing.{Backing}
use Rattle.st_wire.specs.Kind.{kind_number, all_kinds, share_kinds, certificate_kinds, view_kinds, reply_kinds, items_of, base_of}
use Rattle.st_wire.specs.Ranges.{most_seal, first, after_signed, after_site, any_body, after_body, most_client_seal}
use Rattle.st_wire.specs.Spelling.{message_mark}

-- a seal behind its length
unfoldable pub seal_at : List ℕ → Read (List ℕ)
seal_at = text_at 1 most_seal

-- a server's seal, whose index is above those before it
unfoldable pub signed_at : Rising → List ℕ → Read Signed
signed_at r bytes =
    byte_in r.least 255 bytes >>= λ index rest.
    seal_at rest >>= λ seal rest.
    Ok (record { index = index; seal = seal }, rest)

-- at least one seal behind their number, by rising index
unfoldable pub quorum_at : List ℕ → Read (List Signed)
quorum_at = counted_at 1 255 signed_at after_signed first

-- a site's word, whose site is above those before it
unfoldable pub site_at : Rising → List ℕ → Read SiteWord
site_at r bytes =
    byte_in r.least 255 bytes >>= λ site rest.
    quorum_at rest >>= λ quorum rest.
    Ok (record { site = record { 0 = site }; quorum = quorum }, rest)

-- the words of at least one site behind their number, by rising site
unfoldable pub sites_at : List ℕ → Read (List SiteWord)
sites_at = counted_at 1 255 site_at after_site first

-- an order proof
unfoldable pub proof_at : List ℕ → Read Proof
proof_at bytes =
    number_at w32 bytes >>= λ view rest.
    value_at rest >>= λ v rest.
    sites_at rest >>= λ sites rest.
    Ok (record { view = record { 0 = view }; value = v; sites = sites }, rest)

-- the order proof of this base, where it is above 0
unfoldable pub base_at : ℕ → List ℕ → Read (Option Proof)
base_at base bytes =
    if base == 0 then Ok (None, bytes) else
    proof_at bytes >>= λ p rest.
    Ok (Some p, rest)

-- a quorum for each of so many items
unfoldable pub quorums_at : ℕ → List ℕ → Read (List (List Signed))
quorums_at n = list_at (λ (b : Backing). quorum_at) (λ b q. b) n (record {})

-- a report that may stand within the bounds, with what backs it
unfoldable pub body_report_at : Bundled → List ℕ → Read ReportBody
body_report_at b bytes =
    report_at b.bounds bytes >>= λ s rest.
    seal_at rest >>= λ seal rest.
    quorums_at (length (items_of s)) rest >>= λ quorums rest.
    base_at (base_of s) rest >>= λ base rest.
    Ok (record { statement = s; seal = seal; quorums = quorums; base = base }, rest)

-- a quorum for a local view
unfoldable pub local_words_at : List ℕ → Read ViewWords
local_words_at bytes =
    core_at view_kinds bytes >>= λ s rest.
    quorum_at rest >>= λ quorum rest.
    Ok (Local s quorum, rest)

-- the words of sites for a view
unfoldable pub global_words_at : List ℕ → Read ViewWords
global_words_at bytes =
    positive_at bytes >>= λ view rest.
    sites_at rest >>= λ sites rest.
    Ok (Global (record { 0 = view }) sites, rest)

-- why a view is entered
unfoldable pub words_at : List ℕ → Read ViewWords
words_at bytes = byte_in 0 1 bytes >>= λ mark rest. if mark == 0 then local_words_at rest else global_words_at rest

-- ---- the bodies behind each kind

-- an Update's body
unfoldable pub update_body_at : List ℕ → Read Message
update_body_at bytes =
    update_at bytes >>= λ update rest.
    seal_at rest >>= λ seal rest.
    Ok (messages.Update update seal, rest)

-- an Assign's body; a no-op comes without a client's seal
unfoldable pub assign_at : List ℕ → Read Message
assign_at bytes =
    number_at w32 bytes >>= λ view rest.
    number_at w32 rest >>= λ local rest.
    positive_at rest >>= λ n rest.
    value_at rest >>= λ v rest.
    text_at 0 (most_client_seal v) rest >>= λ seal rest.
    signed_at first rest >>= λ signed rest.
    Ok (messages.Assign (record { 0 = view }) (record { 0 = local }) (record { 0 = n }) v seal signed, rest)

-- a Share's body
unfoldable pub share_at : List ℕ → Read Message
share_at bytes =
    core_at share_kinds bytes >>= λ s rest.
    signed_at first rest >>= λ signed rest.
    Ok (messages.Share s signed, rest)

-- a Certificate's body
unfoldable pub certificate_at : List ℕ → Read Message
certificate_at bytes =
    core_at certificate_kinds bytes >>= λ s rest.
    quorum_at rest >>= λ quorum rest.
    Ok (messages.Certificate s quorum, rest)

-- an OrderProof's body
unfoldable pub order_proof_at : List ℕ → Read Message
order_proof_at bytes =
    positive_at bytes >>= λ n rest.
    proof_at rest >>= λ proof rest.
    Ok (messages.OrderProof (record { 0 = n }) proof, rest)

-- a Report's body
unfoldable pub report_message_at : List ℕ → Read Message
report_message_at bytes = body_report_at any_body bytes >>= λ report rest. Ok (messages.Report report, rest)

-- a Bundle's body
unfoldable pub bundle_at : List ℕ → Read Message
bundle_at bytes = counted_at 1 255 body_report_at after_body any_body bytes >>= λ reports rest. Ok (messages.Bundle reports, rest)

-- a ViewProof's body
unfoldable pub view_proof_at : List ℕ → Read Message
view_proof_at bytes = words_at bytes >>= λ words rest. Ok (messages.ViewProof words, rest)

-- an Ask's body
unfoldable pub ask_at : List ℕ → Read Message
ask_at bytes =
    byte_at bytes >>= λ site rest.
    byte_at rest >>= λ index rest.
    number_at w32 rest >>= λ executed rest.
    number_at w32 rest >>= λ view rest.
    number_at w32 rest >>= λ local rest.
    Ok (messages.Ask (record { site = site; index = index }) executed (record { 0 = view }) (record { 0 = local }), rest)

-- a Reply's body
unfoldable pub reply_message_at : List ℕ → Read Message
reply_message_at bytes =
    core_at reply_kinds bytes >>= λ s rest.
    signed_at first rest >>= λ signed rest.
    Ok (messages.Reply s signed, rest)

-- ---- messages

-- the body behind a kind
abbrev pub body_at : MessageKind → List ℕ → Read Message
body_at kinds.Update = update_body_at
body_at kinds.Assign = assign_at
body_at kinds.Share = share_at
body_at kinds.Certificate = certificate_at
body_at kinds.OrderProof = order_proof_at
body_at kinds.Report = report_message_at
body_at kinds.Bundle = bundle_at
body_at kinds.ViewProof = view_proof_at
body_at kinds.Ask = ask_at
body_at kinds.Reply = reply_message_at

-- a message and its deployment's id
unfoldable pub message_at : List ℕ → Read (ℕ × Message)
message_at bytes =
    mark_at message_mark bytes >>= λ _ rest.
    number_at w64 rest >>= λ id rest.
    kind_at kind_number all_kinds rest >>= λ kind rest.
    body_at kind rest >>= λ m rest.
    Ok ((id, m), rest)
