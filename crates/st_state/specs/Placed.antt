-- Which changes and which messages a server's tables take: those of its present views and window.
use Rattle.std.specs.Prelude.{ℕ, ◌+◌, Bool, true, false, nat_eq, nat_lt, nat_le, ◌&&◌, ◌||◌, not, IsTrue, List, [], ◌∷◌}
use Rattle.st_words.specs.declared.statement.Statement.{Statement}
use Rattle.st_words.specs.declared.statement.Statement.TheVariants.{Prepare, Proposal, Accept, Reply}
use Rattle.st_message.specs.declared.change.Change.{Change}
use Rattle.st_message.specs.declared.change.Change.TheVariants.{Made, Prepared, Accepted, Executed}
use Rattle.st_message.specs.declared.change.Heard.{Heard}
use Rattle.st_message.specs.declared.message.Message.{Message}
use Rattle.st_message.specs.declared.message.Message.TheVariants as messages
use Rattle.st_protocol.specs.State.{Here}
use Rattle.st_message.specs.declared.step.Step.{Step}
use Rattle.st_protocol.specs.Growth.{here_after}
use Rattle.st_protocol.specs.Step.{servers}
use Rattle.st_tables.specs.Window.{in_window}

abbrev pub is_at : Here → ℕ → ℕ → Bool
is_at here view local = nat_eq here.view view && nat_eq here.local local

-- a statement that may be made now
abbrev pub is_placed_statement : Here → Statement → Bool
is_placed_statement here (Prepare s g l n v) = is_at here g.0 l.0 && in_window here.executed n.0
is_placed_statement here (Proposal s g l n v) = is_at here g.0 l.0 && in_window here.executed n.0
is_placed_statement here (Accept s g n v) = nat_eq here.view g.0 && in_window here.executed n.0
is_placed_statement here (Reply s c t n r) = nat_lt 0 n.0 && nat_le n.0 here.executed
is_placed_statement here s = false

-- a change that the tables take: a statement is made with the next leaf
abbrev pub is_placed : Here → Change → Bool
is_placed here (Made leaf s) = nat_eq leaf here.leaf && nat_lt here.leaf here.seat.capacity && is_placed_statement here s
is_placed here (Prepared (Prepare s g l n v) q) = in_window here.executed n.0
is_placed here (Accepted (Proposal s g l n v) q) = in_window here.executed n.0
is_placed here (Executed n p) = nat_eq n.0 (here.executed + 1)
is_placed here x = false

-- a number that isn't above the window
abbrev pub is_within : Here → ℕ → Bool
is_within here n = nat_le n (here.executed + 16)

-- what the tables take of what is heard
abbrev pub is_kept_kind : Here → Message → Bool
is_kept_kind here (messages.Update u seal) = true
is_kept_kind here (messages.Share (Prepare s g l n v) signed) = is_at here g.0 l.0 && is_within here n.0 && nat_lt signed.index (servers here)
is_kept_kind here (messages.Share (Proposal s g l n v) signed) = is_at here g.0 l.0 && is_within here n.0 && nat_lt signed.index (servers here)
is_kept_kind here (messages.Share (Accept s g n v) signed) = nat_eq here.view g.0 && is_within here n.0 && nat_lt signed.index (servers here)
is_kept_kind here (messages.Certificate (Accept s g n v) q) = is_within here n.0 && nat_lt s.0 here.seat.sites
is_kept_kind here m = false

-- of its own certificates
abbrev pub is_own_kind : Here → Message → Bool
is_own_kind here (messages.Certificate (Proposal s g l n v) q) = nat_eq here.view g.0 && is_within here n.0
is_own_kind here (messages.Certificate (Accept s g n v) q) = nat_eq here.view g.0 && is_within here n.0
is_own_kind here m = false

abbrev pub is_taken : Here → Heard → Bool
is_taken here m = (m.own && is_own_kind here m.message) || (not m.own && is_kept_kind here m.message)

-- ---- of a step

-- the next numbers are executed, one after another, and nothing else is changed
abbrev pub all_executed : Here → List Change → Bool
all_executed here [] = true
all_executed here (Executed n p ∷ xs) = nat_eq n.0 (here.executed + 1) && all_executed (here_after (Executed n p) here) xs
all_executed here (x ∷ xs) = false

-- each change is taken, where the ones before it leave the server; numbers are executed last, since a Reply that
-- follows one uses a leaf
abbrev pub all_placed : Here → List Change → Bool
all_placed here [] = true
all_placed here (Executed n p ∷ xs) = all_executed here (Executed n p ∷ xs)
all_placed here (x ∷ xs) = is_placed here x && all_placed (here_after x here) xs

-- where changes leave a server
abbrev pub here_after_all : Here → List Change → Here
here_after_all here [] = here
here_after_all here (x ∷ xs) = here_after_all (here_after x here) xs

abbrev pub all_taken : Here → List Heard → Bool
all_taken here [] = true
all_taken here (m ∷ ms) = is_taken here m && all_taken here ms

-- The tables take all that the step changes and, after that, all that it hears.
pub record Fits (here : Here) (step : Step) : Type 0 where
  pub placed : IsTrue (all_placed here step.changes)
  pub taken : IsTrue (all_taken (here_after_all here step.changes) step.heard)
