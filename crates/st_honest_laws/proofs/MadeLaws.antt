-- What was handed out stays handed out, and each seal of a server's own that goes out is among it.
use Rattle.std.proofs.Common.{◌≡◌, ℕ, Bool, true, false, cond, nat_eq, List, [], ◌∷◌, ◌++◌, refl}
use Rattle.std.proofs.lemmas.Bool.{and_from, or_left}
use Rattle.std.specs.Prelude.{◌&&◌, ◌||◌, Option, Some, None}
use Rattle.std.specs.Option.{IfSome}
use Rattle.std.specs.List.{AllByRecursion as Each}
use Rattle.st_words.specs.declared.ids.Who.{Who}
use Rattle.st_words.specs.declared.statement.Statement.{Statement}
use Rattle.st_message.specs.declared.event.Output.{Output}
use Rattle.st_message.specs.declared.made.MadeSeal.{MadeSeal}
use Rattle.st_protocol.specs.Words.{server_at, same_who, same_statement}
use Rattle.st_protocol.specs.Keeping.{given}
use Rattle.st_protocol.specs.World.{Deployment, Node, World, has_made, has_handed, handed, with_node, hands, sends_to, notes_seal, hands_one, hands_out}
use Rattle.st_protocol.proofs.SameLaws.{same_who-Decides, same_statement-Decides}

-- one of two, and a weaker second
or_more : (a b c : Bool) → (b ≡ true → c ≡ true) → (a || b) ≡ true → (a || c) ≡ true
or_more true b c f e = refl
or_more false b c f e = f e

-- with more behind
made_more : (made more : List MadeSeal) (who : Who) (s : Statement) → has_made made who s ≡ true → has_made (made ++ more) who s ≡ true
unfolding has_made
made_more [] more who s e = absurd (let no : false ≡ true = e in cc)
made_more (x ∷ xs) more who s e = or_more (same_who x.who who && same_statement x.statement s) (has_made xs who s) (has_made (xs ++ more) who s) (made_more xs more who s) e

-- the last
made_last : (made : List MadeSeal) (x : MadeSeal) → has_made (made ++ x ∷ []) x.who x.statement ≡ true
unfolding has_made
made_last [] x =
    or_left (same_who x.who x.who && same_statement x.statement x.statement) false
    (and_from (same_who x.who x.who) (same_statement x.statement x.statement) ((same_who-Decides x.who x.who).1 refl) ((same_statement-Decides x.statement x.statement).1 refl))
made_last (y ∷ ys) x = or_right_of (same_who y.who x.who && same_statement y.statement x.statement) (has_made (ys ++ x ∷ []) x.who x.statement) (made_last ys x)
  where
    or_right_of : (a b : Bool) → b ≡ true → (a || b) ≡ true
    or_right_of true b e = refl
    or_right_of false b e = e

-- what was handed out with a leaf
made_handed : (made : List MadeSeal) (who : Who) (leaf : ℕ) (s : Statement) → has_handed made who leaf s ≡ true → has_made made who s ≡ true
unfolding has_made has_handed
made_handed [] who leaf s e = absurd (let no : false ≡ true = e in cc)
made_handed (x ∷ xs) who leaf s e = by (same_who x.who who) (nat_eq x.leaf leaf) (same_statement x.statement s) (made_handed xs who leaf s) e
  where
    by : (a b c : Bool) → (has_handed xs who leaf s ≡ true → has_made xs who s ≡ true) → (a && b && c || has_handed xs who leaf s) ≡ true → (a && c || has_made xs who s) ≡ true
    by true b true f e = refl
    by true true false f e = f e
    by true false false f e = f e
    by false true c f e = f e
    by false false c f e = f e

-- `final` has all that `made` has
abbrev pub Covers : List MadeSeal → List MadeSeal → Type 0
Covers final made = (who : Who) (s : Statement) → has_made made who s ≡ true → has_made final who s ≡ true

module _ {Wire : Type 0} (final : List MadeSeal) where
  -- where a server is changed, no statement is handed out
  pub covers_node : (world : World Wire) (site index : ℕ) (node : Node) → Covers final (with_node world site index node).made → Covers final world.made
  unfolding with_node
  covers_node world site index node c = c

  -- a seal is handed out
  pub covers_hands : (world : World Wire) (who : Who) (leaf : ℕ) (s : Statement) → Covers final (hands world who leaf s).made → Covers final world.made × (has_made final who s ≡ true)
  unfolding hands
  covers_hands world who leaf s h = by (has_handed world.made who leaf s) refl h
    where
      new : MadeSeal
      new = record { who = who; leaf = leaf; statement = s }

      by : (b : Bool) → has_handed world.made who leaf s ≡ b → Covers final (cond b world.made (world.made ++ new ∷ [])) → Covers final world.made × (has_made final who s ≡ true)
      by true e h = (h, h who s (made_handed world.made who leaf s e))
      by false e h = ((λ v t m. h v t (made_more world.made (new ∷ []) v t m)), h who s (made_last world.made new))

  module _ (d : Deployment Wire) (site index : ℕ) where
    -- the server's own seal in an output, if there is one
    abbrev pub OwnIsMade : Output → Type 0
    OwnIsMade o = IfSome o.leaf (λ leaf. IfSome (handed site o.message) (λ s. has_made final (server_at site index) s ≡ true))

    -- it is noted
    covers_notes : (world : World Wire) (o : Output) → Covers final (notes_seal d site index world o).made → Covers final world.made × OwnIsMade o
    unfolding notes_seal
    covers_notes world o h = by o.leaf (handed site o.message) h
      where
        by : (leaf : Option ℕ) (x : Option Statement) → Covers final (given leaf world (λ n. given x world (λ s. hands world (server_at site index) n s))).made →
            Covers final world.made × IfSome leaf (λ leaf. IfSome x (λ s. has_made final (server_at site index) s ≡ true))
        by None x h = (h, tt)
        by (Some n) None h = (h, tt)
        by (Some n) (Some s) h = covers_hands world (server_at site index) n s h

    covers_one : (world : World Wire) (o : Output) → Covers final (hands_one d site index world o).made → Covers final world.made × OwnIsMade o
    unfolding hands_one sends_to
    covers_one world o h = covers_notes world o h

    -- So of all that a server hands out.
    pub covers_out : (world : World Wire) (outputs : List Output) → Covers final (hands_out d site index world outputs).made → Covers final world.made × Each OwnIsMade outputs
    covers_out world [] h = (h, tt)
    covers_out world (o ∷ os) h =
        let rest = covers_out (hands_one d site index world o) os h in
        let one = covers_one world o rest.0 in (one.0, (one.1, rest.1))
