-- The mini-steps of example runs, and the worlds that they make.
use Rattle.std.specs.Prelude.{ℕ, List, [], ◌∷◌, ◌++◌}
use Rattle.st_words.specs.declared.value.Update.{Update}
use Rattle.st_words.specs.declared.value.Value.{Value}
use Rattle.st_words.specs.declared.value.Value.TheVariants as values
use Rattle.st_words.specs.declared.statement.Statement.{Statement}
use Rattle.st_message.specs.declared.change.Change.{Change}
use Rattle.st_message.specs.declared.message.Proof.{Proof}
use Rattle.st_agreement.specs.MiniSteps.{with_record, with_made, with_update}
use Rattle.st_agreement.specs.Worlds.{World}

-- the first update of a client
abbrev pub update : Update
update = record { client = record { 0 = 0 }; time = 1; op = 104 ∷ 105 ∷ [] }

-- the value that is ordered
abbrev pub value : Value
value = values.Update update

-- the proof by which it is executed; its seals don't matter here
abbrev pub order_proof : (view : ℕ) → Proof
order_proof g = record { view = record { 0 = g }; value = value; sites = [] }

-- one mini-step: a server of a site records a change, or hands a statement out; or a client asks
pub data Move : Type 0 where
  Asks : (u : Update) → Move
  Records : (site server : ℕ) (c : Change) → Move
  Hands : (site server : ℕ) (t : Statement) → Move

-- the world after a move
abbrev pub play : World → Move → World
play w (Asks u) = with_update w u
play w (Records s k c) = with_record w s k c
play w (Hands s k t) = with_made w s k t

-- the worlds that the moves make, one after the other
abbrev pub plays : World → List Move → List World
plays w [] = []
plays w (m ∷ ms) = play w m ∷ plays (play w m) ms

-- the world after moves
abbrev pub after : World → List Move → World
after w [] = w
after w (m ∷ ms) = after (play w m) ms

-- the moves of a run's parts, one part after the other
abbrev pub joined : List (List Move) → List Move
joined [] = []
joined (part ∷ parts) = part ++ joined parts
