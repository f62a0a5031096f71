-- What a server handed out as a Reply stands in its log.
use Rattle.std.proofs.Common.{◌≡◌, ℕ, Bool, true, false, List, [], ◌∷◌, refl, subst}
use Rattle.std.proofs.lemmas.Bool.{and_parts}
use Rattle.std.specs.Prelude.{◌&&◌, ◌||◌}
use Rattle.std.specs.List.{AllByRecursion as Each}
use Rattle.st_words.specs.declared.ids.Who.{Who}
use Rattle.st_words.specs.declared.statement.Statement.{Statement}
use Rattle.st_message.specs.declared.change.Change.{Change}
use Rattle.st_message.specs.declared.change.Change.TheVariants.{Made}
use Rattle.st_message.specs.declared.made.MadeSeal.{MadeSeal}
use Rattle.st_schedule.specs.declared.line.Line.{Line}
use Rattle.st_protocol.specs.Words.{Bytes, server_at, a_reply, same_who, same_statement}
use Rattle.st_protocol.specs.Keeping.{joined}
use Rattle.st_protocol.specs.State.{Seat}
use Rattle.st_protocol.specs.Questions.{questions}
use Rattle.st_protocol.specs.World.{Deployment, Node, Customer, World, empty, has_made, seat_of}
use Rattle.st_protocol.specs.Schedule.{steps}
use Rattle.st_protocol.proofs.SameLaws.{same_who-Decides, same_statement-Decides}
use Rattle.st_frame_laws.proofs.ChoiceLaws.{each_has}
use Rattle.st_leaf_laws.proofs.LeafFacts.{IsMade}
use Rattle.st_leaf_laws.proofs.LeafWorlds.{LeavesCount, EntryAt, EntryHas, WorldCounts, worlds_count}
use Rattle.st_leaf_laws.proofs.OneLeaf.{Counts, leaves_count}
use Rattle.st_log_laws.specs.Fronts.{log_at}
use Rattle.st_result_laws.specs.Results.{IsRunAt}
use Rattle.st_result_laws.proofs.ReplyCourse.{ChangeSays, RepliesSay, first_say, duty_says}

-- leaves count up, and Replies say what the log has
abbrev BothHold : Seat → List (List Change) → Type 0
BothHold seat bodies = Counts seat bodies × RepliesSay seat bodies

-- Every duty keeps both.
both_hold : {Wire : Type 0} → LeavesCount Wire BothHold
both_hold {Wire} =
    let of_leaves : LeavesCount Wire Counts = leaves_count in
    record {
      order = λ seat bodies b. of_leaves.order seat bodies b.0;
      first = λ seat. (of_leaves.first seat, first_say seat);
      event = λ read pen seat bodies heard event b.
          let leaves = of_leaves.event read pen seat bodies heard event b.0 in ((leaves.0, duty_says seat bodies heard b.1 read pen event), leaves.1);
    }

-- what a server handed out is made in its records
made_there : (nodes : ℕ → ℕ → Node) (customers : ℕ → Customer) (site index : ℕ) (s : Statement) (made : List MadeSeal) → Each (EntryHas nodes customers) made → has_made made (server_at site index) s ≡ true →
    (leaf : ℕ) × IsMade leaf s (joined (nodes site index).bodies)
unfolding has_made
made_there nodes customers site index s [] h e = absurd (let no : false ≡ true = e in cc)
made_there nodes customers site index s (x ∷ xs) h e =
    by (same_who x.who (server_at site index) && same_statement x.statement s) (made_there nodes customers site index s xs h.1) refl e
  where
    by : (b : Bool) → (has_made xs (server_at site index) s ≡ true → (leaf : ℕ) × IsMade leaf s (joined (nodes site index).bodies)) → (same_who x.who (server_at site index) && same_statement x.statement s) ≡ b → (b || has_made xs (server_at site index) s) ≡ true → (leaf : ℕ) × IsMade leaf s (joined (nodes site index).bodies)
    by true more is f =
        let parts = and_parts (same_who x.who (server_at site index)) (same_statement x.statement s) is in
        let who : x.who ≡ server_at site index = (same_who-Decides x.who (server_at site index)).0 parts.0 in
        let same : x.statement ≡ s = (same_statement-Decides x.statement s).0 parts.1 in
        (x.leaf, subst (λ (t : Statement). IsMade x.leaf t (joined (nodes site index).bodies)) same (subst (λ (w : Who). EntryAt nodes customers w x.leaf x.statement) who h.0))
    by false more is f = more f

-- what the log is of which a server's records speak
log_says : {Wire : Type 0} (d : Deployment Wire) (world : World Wire) (site index leaf client time number : ℕ) (result : Bytes) →
    RepliesSay (seat_of d site index) (world.nodes site index).bodies → IsMade leaf (a_reply site client time number result) (joined (world.nodes site index).bodies) →
    IsRunAt (log_at d world site index) client time (record { number = number; result = result })
unfolding questions
log_says d world site index leaf client time number result b m = each_has (ChangeSays _) (joined (world.nodes site index).bodies) (Made leaf (a_reply site client time number result)) b.says m

module _ {Wire : Type 0} (d : Deployment Wire) (all : List Line) where
  -- in the world of any lines
  counts : WorldCounts d BothHold both_hold (steps d empty all)
  counts = worlds_count d BothHold both_hold all

  -- A Reply that a server handed out is of an update that ran in its log, with its outcome.
  pub reply_ran : (site index client time number : ℕ) (result : Bytes) → has_made (steps d empty all).made (server_at site index) (a_reply site client time number result) ≡ true →
      IsRunAt (log_at d (steps d empty all) site index) client time (record { number = number; result = result })
  reply_ran site index client time number result e =
      let world : World Wire = steps d empty all in
      let made = made_there world.nodes world.customers site index (a_reply site client time number result) world.made counts.entries e in
      log_says d world site index made.0 client time number result (counts.nodes site index).lists.1 made.1
