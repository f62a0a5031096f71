-- What a server's records and what it heard answer to the questions of its duties: each answer is what is picked
-- of the two lists, less what the present state has left behind.
use Rattle.std.specs.Prelude.{ℕ, ◌+◌, Bool, true, false, cond, nat_eq, nat_lt, ◌&&◌, Option, Some, None, List, [], ◌∷◌, ◌++◌, length}
use Rattle.std.specs.List.{flat_map, fold}
use Rattle.st_words.specs.declared.value.Value.{Value}
use Rattle.st_words.specs.declared.value.Value.TheVariants as values
use Rattle.st_words.specs.declared.statement.Statement.{Statement}
use Rattle.st_words.specs.declared.statement.Statement.TheVariants.{Prepare, Proposal, Accept, LocalVc, GlobalVc, LocalUnion, GlobalUnion}
use Rattle.st_message.specs.declared.change.Change.{Change}
use Rattle.st_message.specs.declared.change.Change.TheVariants.{EnterLocal, EnterGlobal, Made, Prepared, Accepted, Union, Executed}
use Rattle.st_message.specs.declared.change.Heard.{Heard}
use Rattle.st_message.specs.declared.log.Ran.{Ran}
use Rattle.st_message.specs.declared.log.Ran.TheVariants as outcomes
use Rattle.st_message.specs.declared.message.SiteWord.{SiteWord}
use Rattle.st_message.specs.declared.message.Proof.{Proof}
use Rattle.st_message.specs.declared.message.ReportBody.{ReportBody}
use Rattle.st_message.specs.declared.message.Message.{Message}
use Rattle.st_message.specs.declared.message.Message.TheVariants as messages
use Rattle.st_protocol.specs.Words.{Bytes, Quorum, site_of, index_of}
use Rattle.st_protocol.specs.Keeping.{given, open_if, from, first_of, last_of, greatest_of, last_greatest_of, highest_of, most_of, count_of, joined, numbered}
use Rattle.st_protocol.specs.State.{AtAccept, Term, Seat, Here, Sealing, Backed, Share, Slots, Making, Run, Log, Pended, Vote, Asked, Votes, Held, Word, Hand, KeptViews, Completed, Own, Answers, at_place, at_vc, at_report, at_union, at_reply, backed_view, backed_local, pended_time, vote_view, asked_view, word_view, word_height, completed_view, completed_local, open_place, open_term, open_vc, open_number, open_at}

-- ---- what one change says

-- the view that a change enters, else 0
abbrev pub view_entered : Change → ℕ
view_entered (EnterGlobal view sites) = view.0
view_entered _ = 0

-- the local view that a change enters, else 0
abbrev pub local_entered : Change → ℕ
local_entered (EnterLocal local q) = local.0
local_entered _ = 0

-- a change that uses a leaf
abbrev pub is_made : Change → Bool
is_made (Made leaf s) = true
is_made _ = false

-- a change that executes a number
abbrev pub is_executed : Change → Bool
is_executed (Executed number p) = true
is_executed _ = false

-- a view that was entered, and why
pub record Entered : Type 0 where
  pub view : ℕ
  pub sites : List SiteWord

-- the view that was entered
abbrev pub entered_view : Entered → ℕ
entered_view e = e.view

-- the view that a change enters, and why
abbrev pub entering : Change → Option Entered
entering (EnterGlobal view sites) = Some (record { view = view.0; sites = sites })
entering _ = None

-- a local view that was entered, and why
abbrev pub entering_local : Change → Option Asked
entering_local (EnterLocal local q) = Some (record { view = local.0; quorum = q })
entering_local _ = None

-- a statement that is made and passes a test
abbrev pub sealing_in : (Statement → Bool) → Change → Option Sealing
sealing_in test (Made leaf s) = cond (test s) (Some (record { leaf = leaf; statement = s })) None
sealing_in test _ = None

-- the value that is prepared for a number
abbrev pub prepared_in : ℕ → Change → Option Backed
prepared_in number (Prepared (Prepare s g l n v) q) = cond (nat_eq n.0 number) (Some (record { view = g.0; local = l.0; value = v; quorum = q })) None
prepared_in number _ = None

-- the value that is accepted for a number
abbrev pub accepted_in : ℕ → Change → Option Backed
accepted_in number (Accepted (Proposal s g l n v) q) = cond (nat_eq n.0 number) (Some (record { view = g.0; local = l.0; value = v; quorum = q })) None
accepted_in number _ = None

-- a union as it is held
abbrev pub held_of : Statement → Quorum → Option Held
held_of (LocalUnion s x g b is) q = Some (record { greatest = g.0; base = b; items = is; quorum = q })
held_of (GlobalUnion s y b is) q = Some (record { greatest = 0; base = b; items = is; quorum = q })
held_of _ q = None

-- the union of a term and a site that is held
abbrev pub held_in : Term → ℕ → Change → Option Held
held_in t site (Union s q) = cond (at_union t s && nat_eq (site_of s) site) (held_of s q) None
held_in t site _ = None

-- the order proof of a number that is executed
abbrev pub proofs_by : Change → List Proof
proofs_by (Executed number p) = p ∷ []
proofs_by _ = []

-- the value of a number that is executed
abbrev pub values_by : Change → List Value
values_by (Executed number p) = p.value ∷ []
values_by _ = []

-- The order proofs that changes execute, in order.
unfoldable pub proofs_in : List Change → List Proof
proofs_in changes = flat_map proofs_by changes

-- The values that changes execute, in order.
unfoldable pub executed_in : List Change → List Value
executed_in changes = flat_map values_by changes

-- The values that the records execute, in order.
unfoldable pub executed_values : List (List Change) → List Value
executed_values records = executed_in (joined records)

-- ---- the run of a log

-- what running a value gives, and what it leaves
abbrev pub ran_by : (List Bytes → Bytes → Bytes) → Run → Value → Ran
ran_by serve run values.Noop = outcomes.Nothing
ran_by serve run (values.Update u) = cond (nat_lt (run.last u.client.0) u.time) (outcomes.Ran (serve run.ran u.op)) (outcomes.Skipped (run.last u.client.0))

-- each client's last time after a value: that of its update, if it ran
abbrev pub last_after : (ℕ → ℕ) → Value → ℕ → ℕ
last_after last values.Noop c = last c
last_after last (values.Update u) c = cond (nat_eq u.client.0 c && nat_lt (last c) u.time) u.time (last c)

-- the operation of a value that runs
abbrev pub ops_of : (ℕ → ℕ) → Value → List Bytes
ops_of last values.Noop = []
ops_of last (values.Update u) = cond (nat_lt (last u.client.0) u.time) (u.op ∷ []) []

-- whether running a value runs an update of the client
abbrev pub runs_for : (ℕ → ℕ) → Value → ℕ → Bool
runs_for last values.Noop c = false
runs_for last (values.Update u) c = nat_eq u.client.0 c && nat_lt (last c) u.time

-- One value is run.
unfoldable pub runs : (List Bytes → Bytes → Bytes) → Run → Value → Run
runs serve run v =
    record {
      last = last_after run.last v;
      place = λ c. cond (runs_for run.last v c) (length run.entries + 1) (run.place c);
      entries = run.entries ++ record { value = v; ran = ran_by serve run v } ∷ [];
      ran = run.ran ++ ops_of run.last v;
    }

-- The run of a log.
abbrev pub run_on : (List Bytes → Bytes → Bytes) → Run → List Value → Run
run_on serve run values = fold (runs serve) run values

-- nothing ran
abbrev pub no_run : Run
no_run = record { last = λ c. 0; place = λ c. 0; entries = []; ran = [] }

-- ---- what one thing heard says

-- of what another server said
abbrev pub if_other : {A : Type 0} → Heard → (Message → Option A) → Option A
if_other m pick = cond m.own None (pick m.message)

-- of what this server itself sent
abbrev pub if_own : {A : Type 0} → Heard → (Message → Option A) → Option A
if_own m pick = cond m.own (pick m.message) None

-- what is picked of another server's message
abbrev pub taken : {A : Type 0} → (Message → Option A) → Heard → Option A
taken pick m = if_other m pick

-- what is picked of the server's own message
abbrev pub owned : {A : Type 0} → (Message → Option A) → Heard → Option A
owned pick m = if_own m pick

-- a share of a server on a statement that passes a test
abbrev pub share_in : (Statement → Bool) → ℕ → Message → Option Share
share_in test index (messages.Share s signed) = cond (test s && nat_eq signed.index index) (Some (record { statement = s; seal = signed.seal })) None
share_in test index _ = None

-- a server's share that asks for a local view
abbrev pub local_vote_in : ℕ → Message → Option Vote
local_vote_in index (messages.Share (LocalVc s x) signed) = cond (nat_eq signed.index index) (Some (record { view = x.0; seal = signed.seal })) None
local_vote_in index _ = None

-- a server's share that asks for a view
abbrev pub global_vote_in : ℕ → Message → Option Vote
global_vote_in index (messages.Share (GlobalVc s y) signed) = cond (nat_eq signed.index index) (Some (record { view = y.0; seal = signed.seal })) None
global_vote_in index _ = None

-- a site's certificate that asks for a view
abbrev pub asked_in : ℕ → Message → Option Asked
asked_in site (messages.Certificate (GlobalVc s y) q) = cond (nat_eq s.0 site) (Some (record { view = y.0; quorum = q })) None
asked_in site _ = None

-- a client's update
abbrev pub update_in : ℕ → Message → Option Pended
update_in client (messages.Update u seal) = cond (nat_eq u.client.0 client) (Some (record { update = u; seal = seal })) None
update_in client _ = None

-- a server's report of a term
abbrev pub report_in : Term → ℕ → Message → Option ReportBody
report_in t index (messages.Report r) = cond (at_report t r.statement && nat_eq (index_of r.statement) index) (Some r) None
report_in t index _ = None

-- the server's own report of a term
abbrev pub own_report_in : Term → Message → Option ReportBody
own_report_in t (messages.Report r) = cond (at_report t r.statement) (Some r) None
own_report_in t _ = None

-- a site's Accept certificate for a number
abbrev pub word_in : ℕ → ℕ → Message → Option Word
word_in number site (messages.Certificate (Accept s g n v) q) =
    cond (nat_eq n.0 number && nat_eq s.0 site) (Some (record { view = g.0; value = v; quorum = q })) None
word_in number site _ = None

-- of an Accept certificate for the number, 1 more than its view
abbrev pub height_in : ℕ → Message → ℕ
height_in number (messages.Certificate (Accept s g n v) q) = cond (nat_eq n.0 number) (g.0 + 1) 0
height_in number _ = 0

-- of another server's Accept certificate for the number, 1 more than its view
abbrev pub taken_height : ℕ → Heard → ℕ
taken_height number m = cond m.own 0 (height_in number m.message)

-- an order proof of a number
abbrev pub proof_in : ℕ → Message → Option Proof
proof_in number (messages.OrderProof n p) = cond (nat_eq n.0 number) (Some p) None
proof_in number _ = None

-- a certificate of a statement that passes a test
abbrev pub completed_in : (Statement → Bool) → Message → Option Completed
completed_in test (messages.Certificate s q) = cond (test s) (Some (record { statement = s; quorum = q })) None
completed_in test _ = None

-- it asks for a view
abbrev pub is_global_vc : Statement → Bool
is_global_vc (GlobalVc s y) = true
is_global_vc _ = false

-- a Proposal at this view and number
abbrev pub is_proposal_at : ℕ → ℕ → Statement → Bool
is_proposal_at view number (Proposal s g l n v) = nat_eq view g.0 && nat_eq number n.0
is_proposal_at view number _ = false

-- an Accept at this view and number
abbrev pub is_accept_at : ℕ → ℕ → Statement → Bool
is_accept_at view number s = at_place (AtAccept view number) s

-- ---- the questions, group by group: `changes` were recorded, `heard` was heard, and `here` is where that leaves the server

-- Views are the greatest that were entered; leaves and numbers are counted.
unfoldable pub here_of : Seat → List Change → Here
here_of seat changes =
    record {
      seat = seat;
      view = most_of view_entered changes;
      local = most_of local_entered changes;
      executed = count_of is_executed changes;
      leaf = count_of is_made changes;
    }

-- Of a slot the statement that was made first; of a number the highest item; of a slot and a server its first share.
abbrev pub slots_of : Here → List Change → List Heard → Slots
slots_of here changes heard =
    record {
      made = λ p. open_if (open_place here p) (first_of (sealing_in (at_place p)) changes);
      prepared = λ n. open_if (open_number here n) (highest_of backed_view backed_local (prepared_in n) changes);
      accepted = λ n. open_if (open_number here n) (highest_of backed_view backed_local (accepted_in n) changes);
      shares = λ p i. open_if (open_place here p) (first_of (taken (share_in (at_place p) i)) heard);
    }

-- Of a term the statement of each kind that was made first; of a number its Reply.
abbrev pub making_of : Here → List Change → Making
making_of here changes =
    record {
      vc = λ t. open_if (open_vc here t) (first_of (sealing_in (at_vc t)) changes);
      report = λ t. open_if (open_term here t) (first_of (sealing_in (at_report t)) changes);
      union = λ t. open_if (open_term here t) (first_of (sealing_in (at_union t)) changes);
      reply = λ n. first_of (sealing_in (at_reply n)) changes;
    }

-- The log is the run of the executed values, each with its number's proof.
abbrev pub log_of : Seat → List Change → Log
log_of seat changes = record { run = run_on seat.serve no_run (executed_in changes); proof = λ n. numbered (proofs_in changes) n }

-- Of a client the update of the greatest time, if that is above its last.
abbrev pub pending_of : (ℕ → ℕ) → List Heard → ℕ → Option Pended
pending_of last heard c = from pended_time (last c + 1) (greatest_of pended_time (taken (update_in c)) heard)

-- Of a server and of a site what asks for the greatest view, if that is above the present one.
abbrev pub votes_of : Here → List Heard → Votes
votes_of here heard =
    record {
      local = λ i. from vote_view (here.local + 1) (greatest_of vote_view (taken (local_vote_in i)) heard);
      global = λ i. from vote_view (here.view + 1) (greatest_of vote_view (taken (global_vote_in i)) heard);
      unions = λ t i. open_if (open_term here t) (first_of (taken (share_in (at_union t) i)) heard);
      asked = λ s. from asked_view (here.view + 1) (greatest_of asked_view (taken (asked_in s)) heard);
    }

-- Of a term and a site the union that was held first.
abbrev pub unions_of : Here → List Change → Term → ℕ → Option Held
unions_of here changes t s = open_if (open_term here t) (first_of (held_in t s) changes)

-- Of a term and a server its first report.
abbrev pub reports_of : Here → List Heard → Term → ℕ → Option ReportBody
reports_of here heard t i = open_if (open_term here t) (first_of (taken (report_in t i)) heard)

-- Of a number the Accept certificates at its highest view, one per site, and its order proof.
abbrev pub hand_of : Here → List Heard → Hand
hand_of here heard =
    record {
      highest = λ n. cond (open_number here n) (most_of (taken_height n) heard) 0;
      word = λ n s. open_if (open_number here n) (from word_height (most_of (taken_height n) heard) (greatest_of word_view (taken (word_in n s)) heard));
      proof = λ n. open_if (open_number here n) (first_of (taken (proof_in n)) heard);
    }

-- Why the greatest views were entered.
abbrev pub words_of : List Change → KeptViews
words_of changes =
    record {
      local = given (from asked_view 1 (greatest_of asked_view entering_local changes)) None (λ a. Some a.quorum);
      view = given (from entered_view 1 (greatest_of entered_view entering changes)) None (λ e. Some e.sites);
    }

-- What this server itself sent: the first report, the certificates that it completed last.
abbrev pub own_of : Here → List Heard → Own
own_of here heard =
    record {
      report = λ t. open_if (open_term here t) (first_of (owned (own_report_in t)) heard);
      vc = from completed_view (here.view + 1) (last_greatest_of completed_view (owned (completed_in is_global_vc)) heard);
      union = λ t. open_if (open_term here t) (last_of (owned (completed_in (at_union t))) heard);
      proposal = λ g n. open_if (open_at here g n) (last_greatest_of completed_local (owned (completed_in (is_proposal_at g n))) heard);
      accept = λ g n. open_if (open_at here g n) (last_of (owned (completed_in (is_accept_at g n))) heard);
    }

-- the answers of these changes and of what was heard, cut by where they leave the server
abbrev pub answers_by : Here → Seat → List Change → List Heard → Answers
answers_by here seat changes heard =
    record {
      here = here;
      slots = slots_of here changes heard;
      making = making_of here changes;
      log = log_of seat changes;
      pending = pending_of (run_on seat.serve no_run (executed_in changes)).last heard;
      votes = votes_of here heard;
      unions = unions_of here changes;
      reports = reports_of here heard;
      hand = hand_of here heard;
      words = words_of changes;
      own = own_of here heard;
    }

-- What the records, a list of bodies with the oldest first, and what was heard answer.
unfoldable pub questions : Seat → List (List Change) → List Heard → Answers
questions seat records heard = answers_by (here_of seat (joined records)) seat (joined records) heard
