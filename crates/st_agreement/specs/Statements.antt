-- Statements, built of plain numbers, and tests of them.
use Rattle.std.specs.Prelude.{ℕ, ◌==◌, ◌&&◌, Bool, false, List}
use Rattle.st_words.specs.declared.value.Value.{Value}
use Rattle.st_words.specs.declared.statement.Item.{Item}
use Rattle.st_words.specs.declared.statement.Statement.{Statement}
use Rattle.st_words.specs.declared.statement.Statement.TheVariants.{Prepare, Proposal, Accept, LocalUnion, GlobalUnion}
use Rattle.st_registers.specs.Values.{value_eq}

-- a Prepare
abbrev pub prepare : (site view local number : ℕ) (value : Value) → Statement
prepare s g l n v = Prepare (record { 0 = s }) (record { 0 = g }) (record { 0 = l }) (record { 0 = n }) v

-- a Proposal
abbrev pub proposal : (site view local number : ℕ) (value : Value) → Statement
proposal s g l n v = Proposal (record { 0 = s }) (record { 0 = g }) (record { 0 = l }) (record { 0 = n }) v

-- an Accept
abbrev pub accept : (site view number : ℕ) (value : Value) → Statement
accept s g n v = Accept (record { 0 = s }) (record { 0 = g }) (record { 0 = n }) v

-- a union for a local view
abbrev pub local_union : (site local greatest base : ℕ) (items : List Item) → Statement
local_union s l greatest base items = LocalUnion (record { 0 = s }) (record { 0 = l }) (record { 0 = greatest }) base items

-- a union for a view
abbrev pub global_union : (site view base : ℕ) (items : List Item) → Statement
global_union s g base items = GlobalUnion (record { 0 = s }) (record { 0 = g }) base items

-- the statement is this Prepare
abbrev pub is_prepare : (site view local number : ℕ) (value : Value) → Statement → Bool
is_prepare s g l n v (Prepare s2 g2 l2 n2 v2) = s2.0 == s && g2.0 == g && l2.0 == l && n2.0 == n && value_eq v2 v
is_prepare s g l n v _ = false

-- the statement is this Proposal
abbrev pub is_proposal : (site view local number : ℕ) (value : Value) → Statement → Bool
is_proposal s g l n v (Proposal s2 g2 l2 n2 v2) = s2.0 == s && g2.0 == g && l2.0 == l && n2.0 == n && value_eq v2 v
is_proposal s g l n v _ = false

-- the statement is a Proposal in this slot, of whatever value
abbrev pub is_proposal_at : (site view local number : ℕ) → Statement → Bool
is_proposal_at s g l n (Proposal s2 g2 l2 n2 v2) = s2.0 == s && g2.0 == g && l2.0 == l && n2.0 == n
is_proposal_at s g l n _ = false

-- the statement is this Accept
abbrev pub is_accept : (site view number : ℕ) (value : Value) → Statement → Bool
is_accept s g n v (Accept s2 g2 n2 v2) = s2.0 == s && g2.0 == g && n2.0 == n && value_eq v2 v
is_accept s g n v _ = false

-- the statement is an Accept in this slot, of whatever value
abbrev pub is_accept_at : (site view number : ℕ) → Statement → Bool
is_accept_at s g n (Accept s2 g2 n2 v2) = s2.0 == s && g2.0 == g && n2.0 == n
is_accept_at s g n _ = false

-- the view of an Accept; 0 for other statements
abbrev pub view_in : Statement → ℕ
view_in (Accept s g n v) = g.0
view_in _ = 0

-- the local view of a Proposal; 0 for other statements
abbrev pub local_in : Statement → ℕ
local_in (Proposal s g l n v) = l.0
local_in _ = 0
