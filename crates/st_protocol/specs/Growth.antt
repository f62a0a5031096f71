-- How the answers grow: by a change that is recorded, by something that is heard, and by dropping what is left behind.
use Rattle.std.specs.Prelude.{ℕ, ◌+◌, max, cond, nat_eq, nat_lt, Option, Some, None, List}
use Rattle.std.specs.List.{fold}
use Rattle.st_message.specs.declared.change.Change.{Change}
use Rattle.st_message.specs.declared.change.Change.TheVariants.{EnterLocal, EnterGlobal, Made, Prepared, Accepted, Union, Executed}
use Rattle.st_message.specs.declared.change.Heard.{Heard}
use Rattle.st_message.specs.declared.message.ReportBody.{ReportBody}
use Rattle.st_protocol.specs.Keeping.{or_else, or_last, greatest, greatest_last, higher, open_if, from, joined}
use Rattle.st_protocol.specs.State.{Term, Seat, Here, Slots, Making, Log, Pended, Votes, Held, Hand, KeptViews, Own, Answers, at_place, at_vc, at_report, at_union, at_reply, backed_view, backed_local, pended_time, vote_view, asked_view, word_view, word_height, completed_view, completed_local, open_place, open_term, open_vc, open_number, open_at}
use Rattle.st_protocol.specs.Questions.{sealing_in, prepared_in, accepted_in, held_in, runs, no_run, if_other, if_own, share_in, local_vote_in, global_vote_in, asked_in, update_in, report_in, own_report_in, word_in, taken_height, proof_in, completed_in, is_global_vc, is_proposal_at, is_accept_at}

-- ---- a change: where it leaves the server, the log, and why views were entered

-- where a change leaves the server
abbrev pub here_after : Change → Here → Here
here_after (EnterLocal x q) here = record here { local = max here.local x.0 }
here_after (EnterGlobal y ws) here = record here { view = max here.view y.0 }
here_after (Made k s) here = record here { leaf = here.leaf + 1 }
here_after (Prepared s q) here = here
here_after (Accepted s q) here = here
here_after (Union s q) here = here
here_after (Executed n p) here = record here { executed = here.executed + 1 }

-- The log after a change: number e+1 is executed.
abbrev pub log_after : Change → Here → Log → Log
log_after (Executed n p) here log =
    record { run = runs here.seat.serve log.run p.value; proof = λ m. cond (nat_eq (here.executed + 1) m) (Some p) (log.proof m) }
log_after _ here log = log

-- why a view was entered, where it is a higher one
abbrev pub words_after : Change → Here → KeptViews → KeptViews
words_after (EnterLocal x q) here kept = record { local = cond (nat_lt here.local x.0) (Some q) kept.local; view = kept.view }
words_after (EnterGlobal y ws) here kept = record { local = kept.local; view = cond (nat_lt here.view y.0) (Some ws) kept.view }
words_after _ here kept = kept

-- ---- each group: after a change is noted (`here` is that after it), after something is heard, and what of it is dropped

-- slots: of a place the first statement made, of a number the highest item
abbrev pub slots_notes : Here → Change → Slots → Slots
slots_notes here x slots =
    record {
      made = λ p. open_if (open_place here p) (or_else (slots.made p) (sealing_in (at_place p) x));
      prepared = λ n. open_if (open_number here n) (higher backed_view backed_local (slots.prepared n) (prepared_in n x));
      accepted = λ n. open_if (open_number here n) (higher backed_view backed_local (slots.accepted n) (accepted_in n x));
      shares = slots.shares;
    }

-- slots: of a place and a server the first share
abbrev pub slots_takes : Heard → Slots → Slots
slots_takes m slots = record slots { shares = λ p i. or_else (slots.shares p i) (if_other m (share_in (at_place p) i)) }

-- slots: shares below the present state are dropped
abbrev pub slots_cuts : Here → Slots → Slots
slots_cuts here slots = record slots { shares = λ p i. open_if (open_place here p) (slots.shares p i) }

-- the other statements: of a term the first, of a number the first Reply
abbrev pub making_notes : Here → Change → Making → Making
making_notes here x making =
    record {
      vc = λ t. open_if (open_vc here t) (or_else (making.vc t) (sealing_in (at_vc t) x));
      report = λ t. open_if (open_term here t) (or_else (making.report t) (sealing_in (at_report t) x));
      union = λ t. open_if (open_term here t) (or_else (making.union t) (sealing_in (at_union t) x));
      reply = λ n. or_else (making.reply n) (sealing_in (at_reply n) x);
    }

-- unions: of a term and a site the first
abbrev pub unions_notes : Here → Change → (Term → ℕ → Option Held) → Term → ℕ → Option Held
unions_notes here x unions t s = open_if (open_term here t) (or_else (unions t s) (held_in t s x))

-- pending updates: of a client the one of the greatest time
abbrev pub pending_takes : Heard → (ℕ → Option Pended) → ℕ → Option Pended
pending_takes m pending c = greatest pended_time (pending c) (if_other m (update_in c))

-- pending updates that aren't above their client's last time are dropped
abbrev pub pending_cuts : (ℕ → ℕ) → (ℕ → Option Pended) → ℕ → Option Pended
pending_cuts last pending c = from pended_time (last c + 1) (pending c)

-- votes: of a server or site what asks for the greatest view
abbrev pub votes_takes : Heard → Votes → Votes
votes_takes m votes =
    record {
      local = λ i. greatest vote_view (votes.local i) (if_other m (local_vote_in i));
      global = λ i. greatest vote_view (votes.global i) (if_other m (global_vote_in i));
      unions = λ t i. or_else (votes.unions t i) (if_other m (share_in (at_union t) i));
      asked = λ s. greatest asked_view (votes.asked s) (if_other m (asked_in s));
    }

-- votes for views that aren't above the present ones are dropped
abbrev pub votes_cuts : Here → Votes → Votes
votes_cuts here votes =
    record {
      local = λ i. from vote_view (here.local + 1) (votes.local i);
      global = λ i. from vote_view (here.view + 1) (votes.global i);
      unions = λ t i. open_if (open_term here t) (votes.unions t i);
      asked = λ s. from asked_view (here.view + 1) (votes.asked s);
    }

-- reports: of a term and a server the first
abbrev pub reports_takes : Heard → (Term → ℕ → Option ReportBody) → Term → ℕ → Option ReportBody
reports_takes m reports t i = or_else (reports t i) (if_other m (report_in t i))

-- reports below the present views are dropped
abbrev pub reports_cuts : Here → (Term → ℕ → Option ReportBody) → Term → ℕ → Option ReportBody
reports_cuts here reports t i = open_if (open_term here t) (reports t i)

-- the hand: of a number the highest view, per site the word of the greatest view, and the first order proof
abbrev pub hand_takes : Heard → Hand → Hand
hand_takes m hand =
    record {
      highest = λ n. max (hand.highest n) (taken_height n m);
      word = λ n s. greatest word_view (hand.word n s) (if_other m (word_in n s));
      proof = λ n. or_else (hand.proof n) (if_other m (proof_in n));
    }

-- the hand: executed numbers, and words below the highest view, are dropped
abbrev pub hand_cuts : Here → Hand → Hand
hand_cuts here hand =
    record {
      highest = λ n. cond (open_number here n) (hand.highest n) 0;
      word = λ n s. open_if (open_number here n) (from word_height (hand.highest n) (hand.word n s));
      proof = λ n. open_if (open_number here n) (hand.proof n);
    }

-- what this server sent: the first report, the last of the certificates
abbrev pub own_takes : Heard → Own → Own
own_takes m own =
    record {
      report = λ t. or_else (own.report t) (if_own m (own_report_in t));
      vc = greatest_last completed_view own.vc (if_own m (completed_in is_global_vc));
      union = λ t. or_last (own.union t) (if_own m (completed_in (at_union t)));
      proposal = λ g n. greatest_last completed_local (own.proposal g n) (if_own m (completed_in (is_proposal_at g n)));
      accept = λ g n. or_last (own.accept g n) (if_own m (completed_in (is_accept_at g n)));
    }

-- what this server sent below the present state is dropped
abbrev pub own_cuts : Here → Own → Own
own_cuts here own =
    record {
      report = λ t. open_if (open_term here t) (own.report t);
      vc = from completed_view (here.view + 1) own.vc;
      union = λ t. open_if (open_term here t) (own.union t);
      proposal = λ g n. open_if (open_at here g n) (own.proposal g n);
      accept = λ g n. open_if (open_at here g n) (own.accept g n);
    }

-- ---- the three steps of which all is made

-- A change is recorded. It looks at nothing that was heard.
unfoldable pub notes : Answers → Change → Answers
notes state x =
    record {
      here = here_after x state.here;
      slots = slots_notes (here_after x state.here) x state.slots;
      making = making_notes (here_after x state.here) x state.making;
      log = log_after x state.here state.log;
      pending = state.pending;
      votes = state.votes;
      unions = unions_notes (here_after x state.here) x state.unions;
      reports = state.reports;
      hand = state.hand;
      words = words_after x state.here state.words;
      own = state.own;
    }

-- Something is heard. It looks at nothing that was recorded.
unfoldable pub takes : Answers → Heard → Answers
takes state m =
    record {
      here = state.here;
      slots = slots_takes m state.slots;
      making = state.making;
      log = state.log;
      pending = pending_takes m state.pending;
      votes = votes_takes m state.votes;
      unions = state.unions;
      reports = reports_takes m state.reports;
      hand = hand_takes m state.hand;
      words = state.words;
      own = own_takes m state.own;
    }

-- What no longer fits, or was replaced, is dropped. It leaves what was recorded.
unfoldable pub cuts : Answers → Answers
cuts state =
    record {
      here = state.here;
      slots = slots_cuts state.here state.slots;
      making = state.making;
      log = state.log;
      pending = pending_cuts state.log.run.last state.pending;
      votes = votes_cuts state.here state.votes;
      unions = state.unions;
      reports = reports_cuts state.here state.reports;
      hand = hand_cuts state.here state.hand;
      words = state.words;
      own = own_cuts state.here state.own;
    }

-- ---- over lists

-- before anything was recorded
abbrev pub fresh_here : Seat → Here
fresh_here seat = record { seat = seat; view = 0; local = 0; executed = 0; leaf = 0 }

-- The answers of a server that recorded and heard nothing.
unfoldable pub nothing : Seat → Answers
nothing seat =
    record {
      here = fresh_here seat;
      slots = record { made = λ p. None; prepared = λ n. None; accepted = λ n. None; shares = λ p i. None };
      making = record { vc = λ t. None; report = λ t. None; union = λ t. None; reply = λ n. None };
      log = record { run = no_run; proof = λ n. None };
      pending = λ c. None;
      votes = record { local = λ i. None; global = λ i. None; unions = λ t i. None; asked = λ s. None };
      unions = λ t s. None;
      reports = λ t i. None;
      hand = record { highest = λ n. 0; word = λ n s. None; proof = λ n. None };
      words = record { local = None; view = None };
      own = record { report = λ t. None; vc = None; union = λ t. None; proposal = λ g n. None; accept = λ g n. None };
    }

-- changes are recorded, in order
abbrev pub notes_all : Answers → List Change → Answers
notes_all state changes = fold notes state changes

-- things are heard, in order
abbrev pub takes_all : Answers → List Heard → Answers
takes_all state heard = fold takes state heard

-- The answers as they grow: all that was recorded is noted, all that was heard is taken, and what is left behind is dropped once.
unfoldable pub grown : Seat → List (List Change) → List Heard → Answers
grown seat records heard = cuts (takes_all (notes_all (nothing seat) (joined records)) heard)

-- The answers after one change more, and after one thing heard more.
unfoldable pub after : Answers → Change → Answers
after state x = cuts (notes state x)

-- The answers after one thing heard more.
unfoldable pub hears : Answers → Heard → Answers
hears state m = cuts (takes state m)

-- the answers after changes, in order
abbrev pub after_all : Answers → List Change → Answers
after_all state changes = fold after state changes

-- the answers after things heard, in order
abbrev pub hears_all : Answers → List Heard → Answers
hears_all state heard = fold hears state heard
