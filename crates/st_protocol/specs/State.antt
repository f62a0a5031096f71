-- What the duties ask of a server's state: the answers, grouped as the parts of a server take them.
use Rattle.std.specs.Prelude.{ℕ, ◌+◌, Bool, false, nat_eq, nat_lt, nat_le, ◌&&◌, Option, Some, None, List}
use Rattle.st_words.specs.declared.statement.Statement.{Statement}
use Rattle.st_words.specs.declared.statement.Statement.TheVariants.{Prepare, Proposal, Accept, LocalVc, GlobalVc, LocalReport, GlobalReport, LocalUnion, GlobalUnion, Reply}
use Rattle.st_message.specs.declared.log.Entry.{Entry}
use Rattle.st_message.specs.declared.message.Proof.{Proof}
use Rattle.st_message.specs.declared.message.ReportBody.{ReportBody}
use Rattle.st_message.specs.declared.kept as kept
use Rattle.st_protocol.specs.Words.{Bytes, local_of}
use Rattle.st_protocol.specs.Keeping.{given}

-- ---- where a statement stands

-- A slot with a number.
pub data Place : Type 0 where
  AtPrepare : (view local number : ℕ) → Place
  AtProposal : (view local number : ℕ) → Place
  AtAccept : (view number : ℕ) → Place

-- A local view, or a view: what a vote, a report and a union are about.
pub data Term : Type 0 where
  OfLocal : (local : ℕ) → Term
  OfGlobal : (view : ℕ) → Term

-- the same slot
abbrev pub same_place : Place → Place → Bool
same_place (AtPrepare g l n) (AtPrepare g2 l2 n2) = nat_eq g g2 && nat_eq l l2 && nat_eq n n2
same_place (AtProposal g l n) (AtProposal g2 l2 n2) = nat_eq g g2 && nat_eq l l2 && nat_eq n n2
same_place (AtAccept g n) (AtAccept g2 n2) = nat_eq g g2 && nat_eq n n2
same_place _ _ = false

-- the same view of the same kind
abbrev pub same_term : Term → Term → Bool
same_term (OfLocal x) (OfLocal x2) = nat_eq x x2
same_term (OfGlobal y) (OfGlobal y2) = nat_eq y y2
same_term _ _ = false

-- the slot of a statement with a number
abbrev pub place_of : Statement → Option Place
place_of (Prepare site view local number value) = Some (AtPrepare view.0 local.0 number.0)
place_of (Proposal site view local number value) = Some (AtProposal view.0 local.0 number.0)
place_of (Accept site view number value) = Some (AtAccept view.0 number.0)
place_of _ = None

-- the view that a statement asks for
abbrev pub vc_of : Statement → Option Term
vc_of (LocalVc site local) = Some (OfLocal local.0)
vc_of (GlobalVc site view) = Some (OfGlobal view.0)
vc_of _ = None

-- the view that a report is of
abbrev pub report_of : Statement → Option Term
report_of (LocalReport site local index view base items) = Some (OfLocal local.0)
report_of (GlobalReport site view index base items) = Some (OfGlobal view.0)
report_of _ = None

-- the view that a union is of
abbrev pub union_of : Statement → Option Term
union_of (LocalUnion site local greatest base items) = Some (OfLocal local.0)
union_of (GlobalUnion site view base items) = Some (OfGlobal view.0)
union_of _ = None

-- a statement of this slot
abbrev pub at_place : Place → Statement → Bool
at_place p s = given (place_of s) false (same_place p)

-- a statement that asks for this view
abbrev pub at_vc : Term → Statement → Bool
at_vc t s = given (vc_of s) false (same_term t)

-- a report of this view
abbrev pub at_report : Term → Statement → Bool
at_report t s = given (report_of s) false (same_term t)

-- a union of this view
abbrev pub at_union : Term → Statement → Bool
at_union t s = given (union_of s) false (same_term t)

-- a Reply of this number
abbrev pub at_reply : ℕ → Statement → Bool
at_reply number (Reply s c t n r) = nat_eq number n.0
at_reply number _ = false

-- ---- the answers, grouped as the parts take them

-- What never changes at a server.
pub record Seat : Type 0 where
  pub site : ℕ
  pub index : ℕ
  pub sites : ℕ
  pub f : ℕ
  pub clients : ℕ
  pub capacity : ℕ
  -- what running an operation gives after these operations ran
  pub serve : List Bytes → Bytes → Bytes

-- Where a server stands: its views, how many numbers it executed, its next leaf.
pub record Here : Type 0 where
  pub seat : Seat
  pub view : ℕ
  pub local : ℕ
  pub executed : ℕ
  pub leaf : ℕ

-- A statement that was made, with its leaf.
abbrev pub Sealing : Type 0
Sealing = kept.Sealing.Sealing

-- A value that stood in a view and a local view, and the Quorum that says so.
abbrev pub Backed : Type 0
Backed = kept.Backed.Backed

-- A server's seal on a statement, of which the server is known.
abbrev pub Share : Type 0
Share = kept.Share.Share

-- per number
pub record Slots : Type 0 where
  pub made : Place → Option Sealing
  pub prepared : ℕ → Option Backed
  pub accepted : ℕ → Option Backed
  -- per index of the site's servers
  pub shares : Place → ℕ → Option Share

-- the other statements that were made
pub record Making : Type 0 where
  pub vc : Term → Option Sealing
  pub report : Term → Option Sealing
  pub union : Term → Option Sealing
  -- per number: the Reply to the update that ran there
  pub reply : ℕ → Option Sealing

-- What running values leaves.
pub record Run : Type 0 where
  -- per client
  pub last : ℕ → ℕ
  -- per client: the number at which its last update ran, 0 where none did
  pub place : ℕ → ℕ
  pub entries : List Entry
  -- the operations that ran, in order: what the service is
  pub ran : List Bytes

-- The executed log.
pub record Log : Type 0 where
  pub run : Run
  -- per executed number
  pub proof : ℕ → Option Proof

-- A client's update that waits to be ordered, with its seal.
abbrev pub Pended : Type 0
Pended = kept.Pended.Pended

-- A share that asks for a view.
abbrev pub Vote : Type 0
Vote = kept.Vote.Vote

-- A site's Quorum that asks for a view.
abbrev pub Asked : Type 0
Asked = kept.Asked.Asked

-- What asks for views, and the shares of unions.
pub record Votes : Type 0 where
  -- per server of the site: the greatest local view, the greatest view
  pub local : ℕ → Option Vote
  pub global : ℕ → Option Vote
  -- per term and server of the site
  pub unions : Term → ℕ → Option Share
  -- per site
  pub asked : ℕ → Option Asked

-- A union that is held.
abbrev pub Held : Type 0
Held = kept.Held.Held

-- An Accept certificate that is kept.
abbrev pub Word : Type 0
Word = kept.Word.Word

-- What orders numbers.
pub record Hand : Type 0 where
  -- per number: the highest view of an Accept certificate, and 1; 0 where there is none
  pub highest : ℕ → ℕ
  -- per number and site, at that view
  pub word : ℕ → ℕ → Option Word
  pub proof : ℕ → Option Proof

-- Why the present local view and the present view were entered.
abbrev pub KeptViews : Type 0
KeptViews = kept.KeptViews.KeptViews

-- A certificate that this server completed.
abbrev pub Completed : Type 0
Completed = kept.Completed.Completed

-- What this server itself sent since its start: for a tick alone.
pub record Own : Type 0 where
  pub report : Term → Option ReportBody
  pub vc : Option Completed
  pub union : Term → Option Completed
  -- per view and number
  pub proposal : ℕ → ℕ → Option Completed
  pub accept : ℕ → ℕ → Option Completed

-- All that the duties ask of a state.
pub record Answers : Type 0 where
  pub here : Here
  pub slots : Slots
  pub making : Making
  pub log : Log
  -- per client
  pub pending : ℕ → Option Pended
  pub votes : Votes
  -- per term and site
  pub unions : Term → ℕ → Option Held
  -- per term and server of the site
  pub reports : Term → ℕ → Option ReportBody
  pub hand : Hand
  pub words : KeptViews
  pub own : Own

-- ---- by what one of two is kept

-- the view in which a value stood
abbrev pub backed_view : Backed → ℕ
backed_view b = b.view

-- the local view in which a value stood
abbrev pub backed_local : Backed → ℕ
backed_local b = b.local

-- the time of a pending update
abbrev pub pended_time : Pended → ℕ
pended_time k = k.update.time

-- the view that a vote asks for
abbrev pub vote_view : Vote → ℕ
vote_view v = v.view

-- the view that a site asks for
abbrev pub asked_view : Asked → ℕ
asked_view a = a.view

-- the view of an Accept certificate
abbrev pub word_view : Word → ℕ
word_view w = w.view

-- 1 more than the view
abbrev pub word_height : Word → ℕ
word_height w = w.view + 1

-- the view that a statement asks for, else 0
abbrev pub asking_view : Statement → ℕ
asking_view (GlobalVc site view) = view.0
asking_view _ = 0

-- the view that a completed certificate asks for
abbrev pub completed_view : Completed → ℕ
completed_view c = asking_view c.statement

-- the local view of a completed certificate
abbrev pub completed_local : Completed → ℕ
completed_local c = local_of c.statement

-- ---- what isn't below a state: the tests behind "dropped"

-- a slot that isn't below the present views, with a number that isn't executed
abbrev pub open_place : Here → Place → Bool
open_place here (AtPrepare g l n) = nat_le here.view g && nat_le here.local l && nat_lt here.executed n
open_place here (AtProposal g l n) = nat_le here.view g && nat_le here.local l && nat_lt here.executed n
open_place here (AtAccept g n) = nat_le here.view g && nat_lt here.executed n

-- a view that isn't below the present one
abbrev pub open_term : Here → Term → Bool
open_term here (OfLocal x) = nat_le here.local x
open_term here (OfGlobal y) = nat_le here.view y

-- a view above the present one
abbrev pub open_vc : Here → Term → Bool
open_vc here (OfLocal x) = nat_lt here.local x
open_vc here (OfGlobal y) = nat_lt here.view y

-- a number that isn't executed
abbrev pub open_number : Here → ℕ → Bool
open_number here n = nat_lt here.executed n

-- a view that isn't below the present one, with a number that isn't executed
abbrev pub open_at : Here → ℕ → ℕ → Bool
open_at here g n = nat_le here.view g && nat_lt here.executed n
