-- A run in which three sites order an update through a change of view: the first site's server proposes
-- and accepts it in view 0, and only the other two accept it in view 1.
use Rattle.std.specs.Prelude.{List, [], ◌∷◌}
use Rattle.st_words.specs.declared.statement.Item.{Item}
use Rattle.st_words.specs.declared.statement.Statement.{Statement}
use Rattle.st_message.specs.declared.change.Change.TheVariants.{EnterGlobal, Made, Prepared, Accepted, Union, Executed}
use Rattle.st_agreement.specs.ExampleMoves.{update, value, order_proof, Move, Asks, Records, Hands, joined}
use Rattle.st_agreement.specs.Sites.{Sites}
use Rattle.st_agreement.specs.Statements.{prepare, proposal, accept, global_union}

-- three sites of one server each
abbrev pub three : Sites
three = record { sites = 3; faults = λ s. 0; correct = λ s. 0 ∷ [] }

-- what the first site's server tells of view 0
abbrev pub item : Item
item = record { number = record { 0 = 1 }; view = record { 0 = 0 }; local = record { 0 = 0 }; value = value }

-- the first site's union for view 1
abbrev pub union : Statement
union = global_union 0 1 0 (item ∷ [])

-- the second site's, which has accepted nothing
abbrev pub empty_union : Statement
empty_union = global_union 1 1 0 []

-- view 0: the leader site's server prepares, proposes and accepts
abbrev pub view_0 : List Move
view_0 =
    Asks update ∷
    Records 0 0 (Made 0 (prepare 0 0 0 1 value)) ∷
    Hands 0 0 (prepare 0 0 0 1 value) ∷
    Records 0 0 (Prepared (prepare 0 0 0 1 value) []) ∷
    Records 0 0 (Made 1 (proposal 0 0 0 1 value)) ∷
    Hands 0 0 (proposal 0 0 0 1 value) ∷
    Records 0 0 (Accepted (proposal 0 0 0 1 value) []) ∷
    Records 0 0 (Made 2 (accept 0 0 1 value)) ∷
    Hands 0 0 (accept 0 0 1 value) ∷ []

-- the first two sites enter view 1, and the new leader holds the unions of both
abbrev pub change : List Move
change =
    Records 0 0 (EnterGlobal (record { 0 = 1 }) []) ∷
    Records 0 0 (Made 3 union) ∷
    Records 1 0 (EnterGlobal (record { 0 = 1 }) []) ∷
    Records 1 0 (Made 0 empty_union) ∷
    Records 1 0 (Union union []) ∷
    Records 1 0 (Union empty_union []) ∷ []

-- view 1: the new leader's server prepares and proposes the forced value, which two sites accept
abbrev pub view_1 : List Move
view_1 =
    Records 1 0 (Made 1 (prepare 1 1 0 1 value)) ∷
    Hands 1 0 (prepare 1 1 0 1 value) ∷
    Records 1 0 (Prepared (prepare 1 1 0 1 value) []) ∷
    Records 1 0 (Made 2 (proposal 1 1 0 1 value)) ∷
    Hands 1 0 (proposal 1 1 0 1 value) ∷
    Records 1 0 (Accepted (proposal 1 1 0 1 value) []) ∷
    Records 1 0 (Made 3 (accept 1 1 1 value)) ∷
    Hands 1 0 (accept 1 1 1 value) ∷
    Records 2 0 (EnterGlobal (record { 0 = 1 }) []) ∷
    Records 2 0 (Accepted (proposal 1 1 0 1 value) []) ∷
    Records 2 0 (Made 0 (accept 2 1 1 value)) ∷
    Hands 2 0 (accept 2 1 1 value) ∷ []

-- and one executes
abbrev pub executes : List Move
executes = Records 2 0 (Executed (record { 0 = 1 }) (order_proof 1)) ∷ []

-- the whole run
abbrev pub moves : List Move
moves = joined (view_0 ∷ change ∷ view_1 ∷ executes ∷ [])
