-- What is sound stays so while more seals are handed out.
use Rattle.std.proofs.Common.{◌≡◌, ℕ, Bool, true, false, cond, List, [], ◌∷◌, ◌++◌, refl}
use Rattle.std.specs.Prelude.{◌&&◌, ◌||◌, Option, Some, None, IsTrue}
use Rattle.st_words.specs.declared.ids.Who.{Who}
use Rattle.st_words.specs.declared.statement.Statement.{Statement}
use Rattle.st_message.specs.declared.change.Heard.{Heard}
use Rattle.st_message.specs.declared.event.Output.{Output}
use Rattle.st_message.specs.declared.made.MadeSeal.{MadeSeal}
use Rattle.st_message.specs.declared.message.Message.{Message}
use Rattle.st_counts.specs.Counts.{AllOf}
use Rattle.st_protocol.specs.Words.{server_at, same_who, same_statement}
use Rattle.st_protocol.specs.Keeping.{given}
use Rattle.st_protocol.specs.Known.{seals_of}
use Rattle.st_protocol.specs.World.{Deployment, World, Node, has_made, has_handed, with_node, handed, hands as hands_seal, sends_to, notes_seal, hands_one, hands_out}
use Rattle.st_answer_laws.specs.Sound.{IsHonestSeal, IsSound, IsSoundHeard}

-- what holds of each holds in a weaker form
all-weaker : {A : Type 0} (P Q : A → Type 0) → ((x : A) → P x → Q x) → (xs : List A) → AllOf P xs → AllOf Q xs
all-weaker P Q give [] h = tt
all-weaker P Q give (x ∷ xs) h = (give x h.0, all-weaker P Q give xs h.1)

-- what was handed out still is
abbrev pub Kept : {Wire : Type 0} → World Wire → World Wire → Type 0
Kept world new = (who : Who) (t : Statement) → IsTrue (has_made world.made who t) → IsTrue (has_made new.made who t)

-- one seal more
pub made-more : (xs : List MadeSeal) (x : MadeSeal) (who : Who) (t : Statement) → IsTrue (has_made xs who t) → IsTrue (has_made (xs ++ x ∷ []) who t)
unfolding has_made
made-more [] x who t h = absurd (let no_ : false ≡ true = h in cc)
made-more (y ∷ ys) x who t h = by_test (same_who y.who who && same_statement y.statement t) (made-more ys x who t) h
  where
    by_test : (b : Bool) → (IsTrue (has_made ys who t) → IsTrue (has_made (ys ++ x ∷ []) who t)) → IsTrue (b || has_made ys who t) → IsTrue (b || has_made (ys ++ x ∷ []) who t)
    by_test true later e = refl
    by_test false later e = later e

module _ {Wire : Type 0} (d : Deployment Wire) where
  sound-kept : (world new : World Wire) → Kept world new → (m : Message) → IsSound d world m → IsSound d new m
  sound-kept world new kept m sound =
      record { exact = sound.exact; honest = all-weaker (IsHonestSeal d world) (IsHonestSeal d new) (λ x h correct. kept x.who x.statement (h correct)) (seals_of d.sites m) sound.honest; ranged = sound.ranged }

  -- What was heard stays sound.
  pub heard-kept : (world new : World Wire) → Kept world new → (hs : List Heard) → AllOf (IsSoundHeard d world) hs → AllOf (IsSoundHeard d new) hs
  heard-kept world new kept hs all = all-weaker (IsSoundHeard d world) (IsSoundHeard d new) (λ h sound own. sound-kept world new kept h.message (sound own)) hs all

  -- a node changes
  pub kept-with_node : (world : World Wire) (s k : ℕ) (node : Node) → Kept world (with_node world s k node)
  unfolding with_node
  kept-with_node world s k node = λ who t h. h

  -- a seal is handed out
  pub kept-hands : (world : World Wire) (who : Who) (leaf : ℕ) (t : Statement) → Kept world (hands_seal world who leaf t)
  unfolding hands_seal
  kept-hands world who leaf t = λ who2 t2 h. by_test (has_handed world.made who leaf t) who2 t2 h
    where
      by_test : (b : Bool) (who2 : Who) (t2 : Statement) → IsTrue (has_made world.made who2 t2) →
          IsTrue (has_made (cond b world.made (world.made ++ record { who = who; leaf = leaf; statement = t } ∷ [])) who2 t2)
      by_test true who2 t2 h = h
      by_test false who2 t2 h = made-more world.made _ who2 t2 h

  kept-hands_one : (s k : ℕ) (world : World Wire) (o : Output) → Kept world (hands_one d s k world o)
  unfolding hands_one sends_to notes_seal
  kept-hands_one s k world o = λ who t h. by_leaf o.leaf who t h
    where
      by_statement : (leaf : ℕ) (x : Option Statement) (who : Who) (t : Statement) → IsTrue (has_made world.made who t) → IsTrue (has_made (given x world (λ u. hands_seal world (server_at s k) leaf u)).made who t)
      by_statement leaf None who t h = h
      by_statement leaf (Some u) who t h = kept-hands world (server_at s k) leaf u who t h

      by_leaf : (x : Option ℕ) (who : Who) (t : Statement) → IsTrue (has_made world.made who t) →
          IsTrue (has_made (given x world (λ leaf. given (handed s o.message) world (λ u. hands_seal world (server_at s k) leaf u))).made who t)
      by_leaf None who t h = h
      by_leaf (Some leaf) who t h = by_statement leaf (handed s o.message) who t h

  -- messages are handed out
  pub kept-hands_out : (s k : ℕ) (world : World Wire) (os : List Output) → Kept world (hands_out d s k world os)
  kept-hands_out s k world [] = λ who t h. h
  kept-hands_out s k world (o ∷ os) = λ who t h. kept-hands_out s k (hands_one d s k world o) os who t (kept-hands_one s k world o who t h)
