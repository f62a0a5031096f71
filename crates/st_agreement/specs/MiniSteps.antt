-- The two kinds of steps of which each event of a server is a list: it records one change, or hands one
-- statement out that it has recorded. A client hands out an update. And what these steps keep.
use Rattle.std.specs.Prelude.{◌≡◌, ℕ, ◌<◌, ◌≤◌, ◌==◌, ◌&&◌, cond, List, [], ◌∷◌}
use Rattle.st_words.specs.declared.value.Update.{Update}
use Rattle.st_words.specs.declared.value.Value.{Value}
use Rattle.st_words.specs.declared.statement.Statement.{Statement}
use Rattle.st_words.specs.declared.statement.Statement.TheVariants.{Prepare, Proposal, Accept, LocalUnion, GlobalUnion}
use Rattle.st_words.specs.declared.ids.Number.{Number}
use Rattle.st_message.specs.declared.message.Proof.{Proof}
use Rattle.st_message.specs.declared.change.Change.{Change}
use Rattle.st_message.specs.declared.change.Change.TheVariants.{Made, Prepared, Accepted, Union, Executed}
use Rattle.st_counts.specs.Counts.{Has}
use Rattle.st_registers.specs.Tests.{Safe, IsChosen}
use Rattle.std.specs.Prelude.{IsTrue}
use Rattle.st_agreement.specs.Records.{made_of, view_of, local_of}
use Rattle.st_agreement.specs.Rules.{Allowed, History}
use Rattle.st_agreement.specs.Sites.{Sites, leader}
use Rattle.st_agreement.specs.Statements.{prepare, is_prepare, is_proposal}
use Rattle.st_agreement.specs.Unions.{IsLocalUnion, IsGlobalUnion}
use Rattle.st_agreement.specs.Worlds.{World, IsOwn, stands, inside, outside}

-- a correct server of the site has recorded that it made the statement
pub record HasMaker (d : Sites) (w : World) (s : ℕ) (t : Statement) : Type 0 where
  pub exists : s < d.sites
  pub server : ℕ
  pub correct : Has server (d.correct s)
  pub recorded : Has t (made_of (w.records s server))

-- a made Prepare has an update that its client made, and a made union is one over the reporters' records
abbrev pub BackedMade : Sites → World → ℕ → Statement → Type 0
BackedMade d w s (Prepare s2 g l n v) = IsOwn w v
BackedMade d w s (LocalUnion s2 l greatest base items) = IsLocalUnion d w s l.0 greatest.0 base items
BackedMade d w s (GlobalUnion s2 g base items) = IsGlobalUnion d w s g.0 base items
BackedMade d w s _ = Unit {0}

-- a prepared Prepare stands at the server's own site
abbrev pub BackedPrepared : Sites → World → ℕ → Statement → Type 0
BackedPrepared d w s (Prepare s2 g l n v) = IsTrue (stands d w s (is_prepare s g.0 l.0 n.0 v))
BackedPrepared d w s _ = ⊥

-- an accepted Proposal stands at the site that leads its view
abbrev pub BackedAccepted : Sites → World → Statement → Type 0
BackedAccepted d w (Proposal s2 g l n v) = IsTrue (stands d w (leader d g.0) (is_proposal (leader d g.0) g.0 l.0 n.0 v))
BackedAccepted d w _ = ⊥

-- a union that is held has a correct maker
abbrev pub BackedUnion : Sites → World → Statement → Type 0
BackedUnion d w (LocalUnion s2 l greatest base items) = HasMaker d w s2.0 (LocalUnion s2 l greatest base items)
BackedUnion d w (GlobalUnion s2 g base items) = HasMaker d w s2.0 (GlobalUnion s2 g base items)
BackedUnion d w _ = ⊥

-- What stands behind a change of a server of site s, by the states of all. An executed value is chosen.
abbrev pub Backed : Sites → World → ℕ → Change → Type 0
Backed d w s (Made leaf t) = BackedMade d w s t
Backed d w s (Prepared t quorum) = BackedPrepared d w s t
Backed d w s (Accepted t quorum) = BackedAccepted d w t
Backed d w s (Union t quorum) = BackedUnion d w t
Backed d w s (Executed number proof) = IsChosen (outside d w number.0) proof.value
Backed d w s _ = Unit {0}

-- a Proposal or an Accept is handed out in its own views alone
abbrev pub IsCurrent : Statement → List Change → Type 0
IsCurrent (Proposal s g l n v) records = (view_of records ≤ g.0) × (local_of records ≤ l.0)
IsCurrent (Accept s g n v) records = view_of records ≤ g.0
IsCurrent _ records = Unit {0}

-- the world in which server k of site s has recorded the change
unfoldable pub with_record : World → ℕ → ℕ → Change → World
with_record w s k c =
    record w { records = λ site server. cond (site == s && server == k) (c ∷ w.records site server) (w.records site server) }

-- the world in which it has handed out the statement
unfoldable pub with_made : World → ℕ → ℕ → Statement → World
with_made w s k t =
    record w { made = λ site server. cond (site == s && server == k) (t ∷ w.made site server) (w.made site server) }

-- the world in which a client has handed out the update
abbrev pub with_update : World → Update → World
with_update w u = record w { updates = u ∷ w.updates }

-- A correct server records a change that it may.
pub record Records (d : Sites) (old new : World) : Type 0 where
  pub site : ℕ
  pub server : ℕ
  pub change : Change
  pub exists : site < d.sites
  pub correct : Has server (d.correct site)
  pub allowed : Allowed d site change (old.records site server)
  pub backed : Backed d old site change
  pub next : new ≡ with_record old site server change

-- A correct server hands out a statement that it has recorded.
pub record Hands (d : Sites) (old new : World) : Type 0 where
  pub site : ℕ
  pub server : ℕ
  pub statement : Statement
  pub exists : site < d.sites
  pub correct : Has server (d.correct site)
  pub recorded : Has statement (made_of (old.records site server))
  pub current : IsCurrent statement (old.records site server)
  pub next : new ≡ with_made old site server statement

-- a mini-step
pub data MiniStep (d : Sites) (old new : World) : Type 0 where
  records : Records d old new → MiniStep d old new
  hands : Hands d old new → MiniStep d old new
  asks : (u : Update) → new ≡ with_update old u → MiniStep d old new

-- What every mini-step keeps.
pub record Invariant (d : Sites) (w : World) : Type 0 where
  -- what was handed out was recorded
  pub recorded : (s k : ℕ) → s < d.sites → Has k (d.correct s) → (t : Statement) → Has t (w.made s k) → Has t (made_of (w.records s k))
  -- each record was allowed by those before it
  pub history : (s k : ℕ) → s < d.sites → Has k (d.correct s) → History d s (w.records s k)
  -- and has behind it what it needs
  pub backed : (s k : ℕ) → s < d.sites → Has k (d.correct s) → (c : Change) → Has c (w.records s k) → Backed d w s c
  -- each recorded Prepare's value is safe, at its site and among the sites
  pub safe_inside : (s k : ℕ) → s < d.sites → Has k (d.correct s) → (g l n : ℕ) (v : Value) → Has (prepare s g l n v) (made_of (w.records s k)) → Safe (inside d w g n) l v
  pub safe_outside : (s k : ℕ) → s < d.sites → Has k (d.correct s) → (g l n : ℕ) (v : Value) → Has (prepare s g l n v) (made_of (w.records s k)) → Safe (outside d w n) g v

-- at first nothing was recorded, and nothing handed out
abbrev pub first : World
first = record { records = λ s k. []; made = λ s k. []; updates = [] }

-- a correct server has executed the value at the number
pub record HasExecuted (d : Sites) (w : World) (n : ℕ) (v : Value) : Type 0 where
  pub site : ℕ
  pub server : ℕ
  pub number : Number
  pub proof : Proof
  pub exists : site < d.sites
  pub correct : Has server (d.correct site)
  pub recorded : Has (Executed number proof) (w.records site server)
  pub of_number : number.0 ≡ n
  pub of_value : proof.value ≡ v
