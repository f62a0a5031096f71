-- The plain world of a world of definitions: the records of each server, newest first, and what was handed out.
use Rattle.std.specs.Prelude.{◌≡◌, ℕ, ◌<◌, cond, Some, List, [], ◌∷◌}
use Rattle.st_words.specs.declared.ids.Who.{Who}
use Rattle.st_words.specs.declared.ids.Who.TheVariants as parties
use Rattle.st_words.specs.declared.value.Update.{Update}
use Rattle.st_words.specs.declared.statement.Statement.{Statement}
use Rattle.st_words.specs.declared.statement.Statement.TheVariants.{ClientUpdate}
use Rattle.st_message.specs.declared.change.Change.{Change}
use Rattle.st_message.specs.declared.made.MadeSeal.{MadeSeal}
use Rattle.st_counts.specs.Counts.{Has, AllOf, numbers_below}
use Rattle.st_registers.specs.Steps.{IsRun}
use Rattle.st_agreement.specs.MiniSteps.{MiniStep, first}
use Rattle.st_agreement.specs.Runs.{sites_of, MayRecord}
use Rattle.st_agreement.specs.Sites.{Sites}
use Rattle.st_agreement.specs.Worlds as plain
use Rattle.st_protocol.specs.Words.{server_at, same_who}
use Rattle.st_answer_laws.specs.Sound.{IsSoundHeard}
use Rattle.st_protocol.specs.Keeping.{joined}
use Rattle.st_protocol.specs.World.{Deployment, World, servers_of, is_correct}

-- the elements in front of others, the last one foremost
abbrev pub onto : {A : Type 0} → List A → List A → List A
onto [] ys = ys
onto (x ∷ xs) ys = onto xs (x ∷ ys)

-- a server's records, newest first
abbrev pub newest : List (List Change) → List Change
newest bodies = onto (joined bodies) []

-- the statement of a seal in front of these, if this party made it
abbrev pub with_made_by : Who → MadeSeal → List Statement → List Statement
with_made_by who x ts = cond (same_who x.who who) (x.statement ∷ ts) ts

-- the statements that the party handed out, in front of these
unfoldable pub made_by : Who → List MadeSeal → List Statement → List Statement
made_by who [] ts = ts
made_by who (x ∷ xs) ts = made_by who xs (with_made_by who x ts)

-- the update over which a client sealed in front of these
abbrev pub with_update_of : Who → Statement → List Update → List Update
with_update_of (parties.Client c) (ClientUpdate u) us = u ∷ us
with_update_of who s us = us

-- the updates that clients handed out, in front of these
unfoldable pub updates_of : List MadeSeal → List Update → List Update
updates_of [] us = us
updates_of (x ∷ xs) us = updates_of xs (with_update_of x.who x.statement us)

module _ {Wire : Type 0} (d : Deployment Wire) where
  -- the sites, of whose servers the correct ones matter
  abbrev pub sites_in : Sites
  sites_in = sites_of d.sites (λ s. d.f) (λ s. numbers_below (servers_of d)) (is_correct d)

  -- what the states are to the agreement proof
  abbrev pub plain_of : World Wire → plain.World
  plain_of world =
      record {
        records = λ s k. newest (world.nodes s k).bodies;
        made = λ s k. made_by (server_at s k) world.made [];
        updates = updates_of world.made [];
      }

  -- The last world of a run.
  abbrev pub last_of : plain.World → List plain.World → plain.World
  last_of w [] = w
  last_of w (x ∷ xs) = last_of x xs

  -- A run of mini-steps leads from one plain world to another.
  pub record Leads (old new : plain.World) : Type 0 where
    pub worlds : List plain.World
    pub run : IsRun (MiniStep sites_in) old worlds
    pub ends : last_of old worlds ≡ new

  -- A run of mini-steps leads from one plain world to this world's, and what a stopped server was to record it still may.
  pub record RefinesFrom (start : plain.World) (world : World Wire) : Type 0 where
    pub leads : Leads start (plain_of world)
    pub apart : (s k : ℕ) (cs : List Change) → s < d.sites → Has k (sites_in.correct s) → (world.nodes s k).apart ≡ Some cs → MayRecord sites_in (plain_of world) s (newest (world.nodes s k).bodies) cs
    -- and what a correct server heard of others is sound
    pub heard : (s k : ℕ) → s < d.sites → Has k (sites_in.correct s) → AllOf (IsSoundHeard d world) (world.nodes s k).heard

  -- The plain world is reached by a run of mini-steps, and what a stopped server was to record it still may.
  abbrev pub Refines : World Wire → Type 0
  Refines world = RefinesFrom first world
