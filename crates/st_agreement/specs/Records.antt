-- One server's records, newest first: what they hold, and what may be recorded next.
use Rattle.std.specs.Prelude.{ℕ, ◌+◌, List, [], ◌∷◌}
use Rattle.st_words.specs.declared.statement.Statement.{Statement}
use Rattle.st_message.specs.declared.change.Change.{Change}
use Rattle.st_message.specs.declared.change.Change.TheVariants.{EnterLocal, EnterGlobal, Made, Prepared, Accepted, Union, Executed}

-- ---- what records hold

-- the statements that were made
abbrev pub made_of : List Change → List Statement
made_of [] = []
made_of (Made leaf s ∷ cs) = s ∷ made_of cs
made_of (_ ∷ cs) = made_of cs

-- the Prepares of which a quorum was seen
abbrev pub prepared_of : List Change → List Statement
prepared_of [] = []
prepared_of (Prepared s quorum ∷ cs) = s ∷ prepared_of cs
prepared_of (_ ∷ cs) = prepared_of cs

-- the Proposals of which a certificate was seen
abbrev pub accepted_of : List Change → List Statement
accepted_of [] = []
accepted_of (Accepted s quorum ∷ cs) = s ∷ accepted_of cs
accepted_of (_ ∷ cs) = accepted_of cs

-- the unions that were held
abbrev pub unions_of : List Change → List Statement
unions_of [] = []
unions_of (Union s quorum ∷ cs) = s ∷ unions_of cs
unions_of (_ ∷ cs) = unions_of cs

-- the view: that which was entered last
abbrev pub view_of : List Change → ℕ
view_of [] = 0
view_of (EnterGlobal view sites ∷ cs) = view.0
view_of (_ ∷ cs) = view_of cs

-- the local view: that which was entered last
abbrev pub local_of : List Change → ℕ
local_of [] = 0
local_of (EnterLocal local quorum ∷ cs) = local.0
local_of (_ ∷ cs) = local_of cs

-- how many numbers were executed
abbrev pub executed_of : List Change → ℕ
executed_of [] = 0
executed_of (Executed number proof ∷ cs) = executed_of cs + 1
executed_of (_ ∷ cs) = executed_of cs
