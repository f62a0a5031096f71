-- A run in which one site of four servers, the last of them faulty, orders an update through a change of local
-- view and a change of view. Two correct servers are a quorum with the faulty one each time: servers 0 and 1
-- first, and then, while server 0 is slow, servers 1 and 2.
use Rattle.std.specs.Prelude.{ℕ, nat_lt, Bool, List, [], ◌∷◌, ◌++◌}
use Rattle.st_words.specs.declared.value.Value.{Value}
use Rattle.st_words.specs.declared.statement.Item.{Item}
use Rattle.st_words.specs.declared.statement.Statement.{Statement}
use Rattle.st_words.specs.declared.statement.Statement.TheVariants.{LocalVc, GlobalVc}
use Rattle.st_message.specs.declared.change.Change.{Change}
use Rattle.st_message.specs.declared.change.Change.TheVariants.{EnterLocal, EnterGlobal, Made, Prepared, Accepted, Union, Executed}
use Rattle.st_agreement.specs.ExampleMoves.{update, value, order_proof, Move, Asks, Records, Hands, after, joined}
use Rattle.st_agreement.specs.MiniSteps.{first}
use Rattle.st_agreement.specs.Reports.{Report, local_report, global_report}
use Rattle.st_agreement.specs.Runs.{sites_of}
use Rattle.st_agreement.specs.Sites.{Sites}
use Rattle.st_agreement.specs.Statements.{prepare, proposal, accept, local_union, global_union}
use Rattle.st_agreement.specs.Worlds.{World}

-- one server may be faulty
abbrev pub faults : ℕ → ℕ
faults s = 1

-- of these
abbrev pub servers : ℕ → List ℕ
servers s = 0 ∷ 1 ∷ 2 ∷ 3 ∷ []

-- and it is the last
abbrev pub is_correct : ℕ → ℕ → Bool
is_correct s k = nat_lt k 3

-- the site
abbrev pub one_site : Sites
one_site = sites_of 1 faults servers is_correct

-- two servers record a change
abbrev pub both_record : (a b : ℕ) → Change → List Move
both_record a b c = Records 0 a c ∷ Records 0 b c ∷ []

-- a server makes a statement and hands it out; its leaves and seals don't matter here
abbrev pub seals : ℕ → Statement → List Move
seals k t = Records 0 k (Made 0 t) ∷ Hands 0 k t ∷ []

-- two servers do
abbrev pub both_seal : (a b : ℕ) → Statement → List Move
both_seal a b t = seals a t ++ seals b t

-- two servers prepare a value, and propose it
abbrev pub proposes : (a b view local : ℕ) → Value → List Move
proposes a b g l v =
    both_seal a b (prepare 0 g l 1 v) ++ both_record a b (Prepared (prepare 0 g l 1 v) []) ++ both_seal a b (proposal 0 g l 1 v)

-- and accept it
abbrev pub accepts : (a b view local : ℕ) → List Move
accepts a b g l =
    both_record a b (Accepted (proposal 0 g l 1 value) []) ++ both_seal a b (accept 0 g 1 value)

-- the execution of it, as ordered in this view
abbrev pub executed_in : (view : ℕ) → Change
executed_in g = Executed (record { 0 = 1 }) (order_proof g)

-- a server executes it
abbrev pub executes : (server view : ℕ) → List Move
executes k g = Records 0 k (executed_in g) ∷ []

-- what was prepared, or accepted, in view 0 and this local view
abbrev pub item : (local : ℕ) → Item
item l = record { number = record { 0 = 1 }; view = record { 0 = 0 }; local = record { 0 = l }; value = value }

-- a server's report on local view 1, or view 1, that it entered with these items
abbrev pub report : (server : ℕ) → List Item → Report
report k items = record { server = k; view = 0; base = 0; items = items }

-- the reports on local view 1: server 2 has prepared nothing, and the faulty one says so
abbrev pub local_reports : List Report
local_reports = report 1 (item 0 ∷ []) ∷ report 2 [] ∷ report 3 [] ∷ []

-- the reports on view 1
abbrev pub global_reports : List Report
global_reports = report 1 (item 1 ∷ []) ∷ report 2 (item 1 ∷ []) ∷ report 3 [] ∷ []

-- the union of the former
abbrev pub union_of_local : Statement
union_of_local = local_union 0 1 0 0 (item 0 ∷ [])

-- and of the latter
abbrev pub union_of_view : Statement
union_of_view = global_union 0 1 0 (item 1 ∷ [])

-- local view 0: servers 0 and 1 propose
abbrev pub local_0 : List Move
local_0 = Asks update ∷ proposes 0 1 0 0 value

-- the world then
abbrev pub proposed : World
proposed = after first local_0

-- what server 2 is to record then, where it has seen the quorum of requests
abbrev pub waiting : List Change
waiting = EnterLocal (record { 0 = 1 }) [] ∷ Made 0 (local_report 0 1 (report 2 [])) ∷ []

-- a request for local view 1
abbrev pub asks_local : Statement
asks_local = LocalVc (record { 0 = 0 }) (record { 0 = 1 })

-- two servers ask for local view 1, enter it and report
abbrev pub local_change : List Move
local_change =
    both_seal 1 2 asks_local ++ both_record 1 2 (EnterLocal (record { 0 = 1 }) [])
    ++ seals 1 (local_report 0 1 (report 1 (item 0 ∷ []))) ++ seals 2 (local_report 0 1 (report 2 []))

-- they hold the union
abbrev pub local_holds : List Move
local_holds = seals 2 union_of_local ++ both_record 1 2 (Union union_of_local [])

-- the value that it forces
abbrev pub again : Value
again = value

-- local view 1: they propose it again
abbrev pub local_1 : List Move
local_1 = proposes 1 2 0 1 again

-- they ask for view 1, enter it and report
abbrev pub view_change : List Move
view_change =
    both_seal 1 2 (GlobalVc (record { 0 = 0 }) (record { 0 = 1 })) ++ both_record 1 2 (EnterGlobal (record { 0 = 1 }) [])
    ++ seals 1 (global_report 0 1 (report 1 (item 1 ∷ []))) ++ seals 2 (global_report 0 1 (report 2 (item 1 ∷ [])))

-- they hold the union
abbrev pub view_holds : List Move
view_holds = seals 2 union_of_view ++ both_record 1 2 (Union union_of_view [])

-- view 1: they propose what it forces
abbrev pub view_1 : List Move
view_1 = proposes 1 2 1 1 value

-- the whole run: server 0, which is slow, executes in view 0, and server 1 in view 1
abbrev pub site_moves : List Move
site_moves =
    joined (local_0 ∷ local_change ∷ seals 1 union_of_local ∷ local_holds ∷ local_1 ∷ accepts 1 2 0 1 ∷ executes 0 0 ∷
    view_change ∷ seals 1 union_of_view ∷ view_holds ∷ view_1 ∷ accepts 1 2 1 1 ∷ executes 1 1 ∷ [])

-- and the world that it ends in
abbrev pub site_world : World
site_world = after first site_moves
