-- Whether a change of a journal fits the state that the changes before it leave.
use Rattle.std.specs.Prelude.{ℕ, ◌+◌, Bool, false, nat_eq, nat_lt, nat_le, ◌&&◌, not, is_none, bytes_eq}
use Rattle.st_words.specs.declared.deployment.TheConstants.{LAST_NUMBER, MOST_VIEW}
use Rattle.st_words.specs.declared.value.Value.{Value}
use Rattle.st_words.specs.declared.value.Value.TheVariants as values
use Rattle.st_words.specs.declared.statement.Statement.{Statement}
use Rattle.st_words.specs.declared.statement.Statement.TheVariants.{Prepare, Proposal, Accept, LocalVc, GlobalVc, LocalReport, GlobalReport, LocalUnion, GlobalUnion, Reply, ClientUpdate}
use Rattle.st_message.specs.declared.change.Change.{Change}
use Rattle.st_message.specs.declared.change.Change.TheVariants.{EnterLocal, EnterGlobal, Made, Prepared, Accepted, Union, Executed}
use Rattle.st_message.specs.declared.log.Entry.{Entry}
use Rattle.st_message.specs.declared.log.Ran.{Ran}
use Rattle.st_message.specs.declared.log.Ran.TheVariants as outcomes
use Rattle.st_protocol.specs.Words.{Bytes, site_of}
use Rattle.st_protocol.specs.Keeping.{given, numbered}
use Rattle.st_protocol.specs.State.{OfLocal, OfGlobal, Seat, Here, Answers}
use Rattle.st_protocol.specs.Step.{out_of_window}
use Rattle.st_protocol.specs.Duty.{sealing_of}
use Rattle.st_protocol.specs.Known.{knows_statement, knows_quorum, knows_sites, knows_proof}

-- a place of the present views and the window
abbrev pub is_here : Here → ℕ → ℕ → ℕ → Bool
is_here here view local n = nat_eq view here.view && nat_eq local here.local && not (out_of_window here n)

-- the client's update of this time ran with this result
abbrev pub is_ran_by : ℕ → ℕ → Bytes → Value → Ran → Bool
is_ran_by client time result (values.Update u) (outcomes.Ran r) = nat_eq u.client.0 client && nat_eq u.time time && bytes_eq r result
is_ran_by client time result _ _ = false

-- the entry says that the client's update of this time ran with this result
abbrev pub is_ran : ℕ → ℕ → Bytes → Entry → Bool
is_ran client time result entry = is_ran_by client time result entry.value entry.ran

-- a statement of the present views, of the next ones that are asked for, or a Reply to an update that ran
abbrev pub may_be_made : Answers → Statement → Bool
may_be_made state (Prepare site view local number value) = is_here state.here view.0 local.0 number.0
may_be_made state (Proposal site view local number value) = is_here state.here view.0 local.0 number.0
may_be_made state (Accept site view number value) = is_here state.here view.0 state.here.local number.0
may_be_made state (LocalVc site local) = nat_eq local.0 (state.here.local + 1) && nat_le local.0 MOST_VIEW
may_be_made state (GlobalVc site view) = nat_eq view.0 (state.here.view + 1) && nat_le view.0 MOST_VIEW
may_be_made state (LocalReport site local index view base items) = nat_eq local.0 state.here.local && nat_eq index state.here.seat.index
may_be_made state (GlobalReport site view index base items) = nat_eq view.0 state.here.view && nat_eq index state.here.seat.index
may_be_made state (LocalUnion site local greatest base items) = nat_eq local.0 state.here.local
may_be_made state (GlobalUnion site view base items) = nat_eq view.0 state.here.view
may_be_made state (Reply site client time number result) =
    given (numbered state.log.run.entries number.0) false (is_ran client.0 time result)
may_be_made state (ClientUpdate update) = false

-- All sites, indices and clients that a change names are of the deployment, a Prepare's or a Proposal's site leads its
-- view, and Quorums and words are of exactly 2f+1 servers and a majority of sites.
abbrev pub knows_change : Seat → Change → Bool
knows_change seat (EnterLocal local q) = knows_quorum seat.sites seat.f seat.clients q
knows_change seat (EnterGlobal view words) = knows_sites seat.sites seat.f seat.clients words
knows_change seat (Made leaf s) = knows_statement seat.sites seat.f seat.clients s
knows_change seat (Prepared s q) = knows_statement seat.sites seat.f seat.clients s && knows_quorum seat.sites seat.f seat.clients q
knows_change seat (Accepted s q) = knows_statement seat.sites seat.f seat.clients s && knows_quorum seat.sites seat.f seat.clients q
knows_change seat (Union s q) = knows_statement seat.sites seat.f seat.clients s && knows_quorum seat.sites seat.f seat.clients q
knows_change seat (Executed number p) = knows_proof seat.sites seat.f seat.clients p

-- a change that the state may have next, whatever it names
abbrev pub may_follow : Answers → Change → Bool
may_follow state (EnterLocal local q) = nat_lt state.here.local local.0 && nat_le local.0 MOST_VIEW
may_follow state (EnterGlobal view sites) = nat_lt state.here.view view.0 && nat_le view.0 MOST_VIEW
may_follow state (Made leaf s) =
    nat_eq leaf state.here.leaf
    && nat_lt leaf state.here.seat.capacity
    && nat_eq (site_of s) state.here.seat.site
    && is_none (sealing_of state s)
    && may_be_made state s
may_follow state (Prepared (Prepare site view local number value) q) = nat_eq site.0 state.here.seat.site && is_here state.here view.0 local.0 number.0
may_follow state (Accepted (Proposal site view local number value) q) = is_here state.here view.0 state.here.local number.0
may_follow state (Union (LocalUnion site local greatest base items) q) =
    nat_eq site.0 state.here.seat.site && nat_eq local.0 state.here.local && is_none (state.unions (OfLocal local.0) site.0)
may_follow state (Union (GlobalUnion site view base items) q) = nat_eq view.0 state.here.view && is_none (state.unions (OfGlobal view.0) site.0)
may_follow state (Executed number p) = nat_eq number.0 (state.here.executed + 1) && nat_le number.0 LAST_NUMBER
may_follow state _ = false

-- A change that a server in this state may have recorded next.
abbrev pub fits : Answers → Change → Bool
fits state x = knows_change state.here.seat x && may_follow state x
