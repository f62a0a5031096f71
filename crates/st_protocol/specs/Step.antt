-- What a part of a server answers, and the words that the parts share.
use Rattle.std.specs.Prelude.{ℕ, ◌+◌, ◌*◌, ◌%◌, ◌/◌, Bool, true, false, cond, zero, suc, nat_eq, nat_lt, nat_le, ◌||◌, not, Option, Some, None, is_some, List, [], ◌∷◌, ◌++◌}
use Rattle.st_words.specs.declared.deployment.TheConstants.{WINDOW, LAST_NUMBER, MOST_VIEW}
use Rattle.st_words.specs.declared.statement.Statement.{Statement}
use Rattle.st_seal.specs.declared.quorum.Signed.{Signed}
use Rattle.st_message.specs.declared.message.Message.{Message}
use Rattle.st_message.specs.declared.message.Message.TheVariants as messages
use Rattle.st_message.specs.declared.event.Scope.{Scope}
use Rattle.st_message.specs.declared.change.Change.{Change}
use Rattle.st_message.specs.declared.change.Change.TheVariants.{Made}
use Rattle.st_message.specs.declared.reason.Reason.{Reason}
use Rattle.st_message.specs.declared.reason.Reason.TheVariants.{NotMine, OtherView, OutOfWindow, NotRep, Bound, Seen, SealsSpent, LogFull}
use Rattle.st_message.specs.declared.step.Form.{Form}
use Rattle.st_message.specs.declared.step.Out.{Out}
use Rattle.st_message.specs.declared.step.Out.TheVariants.{Make, Send}
use Rattle.st_message.specs.declared.step.Step.{Step}
use Rattle.st_protocol.specs.Words.{Quorum, to_site_at, to_server_at, same_statement}
use Rattle.st_protocol.specs.Keeping.{given, or_else}
use Rattle.st_protocol.specs.State.{Here, Share}

-- ---- what a part answers

-- Why nothing is done, or what is.
pub data Answer : Type 0 where
  Refused : (reason : Reason) → Answer
  Steps : (step : Step) → Answer

-- nothing
abbrev pub idle : Step
idle = record { changes = []; heard = []; out = [] }

-- one step and then another
abbrev pub then : Step → Step → Step
then a b = record { changes = a.changes ++ b.changes; heard = a.heard ++ b.heard; out = a.out ++ b.out }

-- a statement is made, with this leaf, and goes out
abbrev pub making : ℕ → Statement → Form → Scope → Step
making leaf s form to = record { changes = Made leaf s ∷ []; heard = []; out = Make s form to ∷ [] }

-- a change is recorded
abbrev pub recording : Change → Step
recording x = record { changes = x ∷ []; heard = []; out = [] }

-- another server's message is kept
abbrev pub keeping : Message → Step
keeping m = record { changes = []; heard = record { own = false; message = m } ∷ []; out = [] }

-- it is sent, and noted as this server's own
abbrev pub completing : Message → Scope → Step
completing m to = record { changes = []; heard = record { own = true; message = m } ∷ []; out = Send m to ∷ [] }

-- it goes out
abbrev pub putting : Out → Step
putting o = record { changes = []; heard = []; out = o ∷ [] }

-- the step, if b holds
abbrev pub when : Bool → Step → Step
when b step = cond b step idle

-- the first reason whose test is true, or else the step
abbrev pub decides : List (Bool × Reason) → Step → Answer
decides [] step = Steps step
decides (t ∷ ts) step = cond t.0 (Refused t.1) (decides ts step)

-- ---- over the numbers below one

-- how many numbers below k pass a test
unfoldable pub count_below : (ℕ → Bool) → ℕ → ℕ
count_below test zero = 0
count_below test (suc k) = count_below test k + cond (test k) 1 0

-- a number below k passes a test
unfoldable pub some_below : (ℕ → Bool) → ℕ → Bool
some_below test zero = false
some_below test (suc k) = some_below test k || test k

-- what is picked of the lowest number below k that gives something
unfoldable pub first_below : {A : Type 0} → (ℕ → Option A) → ℕ → Option A
first_below pick zero = None
first_below pick (suc k) = or_else (first_below pick k) (pick k)

-- lists joined, from 0 up
unfoldable pub all_below : {A : Type 0} → (ℕ → List A) → ℕ → List A
all_below f zero = []
all_below f (suc k) = all_below f k ++ f k

-- one element, or none
abbrev pub to_list : {A : Type 0} → Option A → List A
to_list None = []
to_list (Some a) = a ∷ []

-- 1 if b holds, else 0
abbrev pub one_if : Bool → ℕ
one_if b = cond b 1 0

-- ---- the place of a server

-- how many servers its site has
abbrev pub servers : Here → ℕ
servers here = 3 * here.seat.f + 1

-- how many servers of a site are a quorum
abbrev pub quorum : Here → ℕ
quorum here = 2 * here.seat.f + 1

-- how many sites are a majority
abbrev pub majority : Here → ℕ
majority here = here.seat.sites / 2 + 1

-- the index of the site's representative
abbrev pub rep : Here → ℕ
rep here = here.local % servers here

-- the site that leads the view
abbrev pub leader : Here → ℕ
leader here = here.view % here.seat.sites

-- to the site's representative
abbrev pub to_rep : Here → Scope
to_rep here = to_server_at here.seat.site (rep here)

-- to the servers of the site
abbrev pub to_site : Here → Scope
to_site here = to_site_at here.seat.site

-- a number that is executed, or above the window
abbrev pub out_of_window : Here → ℕ → Bool
out_of_window here n = nat_le n here.executed || nat_lt (here.executed + WINDOW) n

-- ---- the tests behind the reasons

-- another site's matter
abbrev pub not_site : Here → ℕ → Bool × Reason
not_site here site = (not (nat_eq site here.seat.site), NotMine)

-- not of the present views
abbrev pub other_view : Here → Bool → Bool × Reason
other_view here b = (b, OtherView here.view here.local)

-- not a number of the window
abbrev pub beyond : Here → ℕ → Bool × Reason
beyond here n = (out_of_window here n, OutOfWindow n here.executed)

-- this server isn't the representative
abbrev pub not_rep : Here → Bool × Reason
not_rep here = (not (nat_eq here.seat.index (rep here)), NotRep (rep here))

-- above the greatest view
abbrev pub bound : ℕ → Bool × Reason
bound view = (nat_lt MOST_VIEW view, Bound view)

-- nothing new
abbrev pub seen : Bool → Bool × Reason
seen b = (b, Seen)

-- fewer leaves are left than wanted
abbrev pub spent : Here → ℕ → Bool × Reason
spent here wanted = (nat_lt here.seat.capacity (here.leaf + wanted), SealsSpent here.leaf)

-- above the last number of a log
abbrev pub full : ℕ → Bool × Reason
full n = (nat_lt LAST_NUMBER n, LogFull n)

-- ---- shares of one slot, per index

-- a share over this statement
abbrev pub says : Statement → Option Share → Bool
says s x = given x false (λ y. same_statement y.statement s)

-- how many shares are over the statement
unfoldable pub agreeing : Here → (ℕ → Option Share) → Statement → ℕ
agreeing here shares s = count_below (λ i. says s (shares i)) (servers here)

-- q kept shares are over one statement
unfoldable pub complete : Here → (ℕ → Option Share) → Bool
complete here shares = some_below (λ i. given (shares i) false (λ x. nat_le (quorum here) (agreeing here shares x.statement))) (servers here)

-- a server's share is kept already, or its slot is complete
abbrev pub is_seen_share : Here → (ℕ → Option Share) → ℕ → Bool
is_seen_share here shares index = is_some (shares index) || complete here shares

-- the shares once this one is kept too
abbrev pub with_share : (ℕ → Option Share) → Statement → Signed → ℕ → Option Share
with_share shares s signed i = cond (nat_eq signed.index i) (Some (record { statement = s; seal = signed.seal })) (shares i)

-- with this share a quorum is over the statement
abbrev pub completes : Here → (ℕ → Option Share) → Statement → Signed → Bool
completes here shares s signed = nat_le (quorum here) (agreeing here (with_share shares s signed) s)

-- a server's seal on the statement, if it has one
abbrev pub signed_at : Statement → (ℕ → Option Share) → ℕ → List Signed
signed_at s shares i = given (shares i) [] (λ x. cond (same_statement x.statement s) (record { index = i; seal = x.seal } ∷ []) [])

-- the seals on the statement, by rising index
unfoldable pub quorum_of : Here → (ℕ → Option Share) → Statement → Quorum
quorum_of here shares s = all_below (signed_at s shares) (servers here)

-- the Quorum that this share completes
abbrev pub completed : Here → (ℕ → Option Share) → Statement → Signed → Quorum
completed here shares s signed = quorum_of here (with_share shares s signed) s

-- it is kept; where it completes its slot, the Certificate goes out
abbrev pub certifies : Here → (ℕ → Option Share) → Statement → Signed → Scope → Step
certifies here shares s signed to =
    then (keeping (messages.Share s signed)) (when (completes here shares s signed) (completing (messages.Certificate s (completed here shares s signed)) to))
