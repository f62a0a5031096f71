-- The first that is picked of a list that grows at its end.
use Rattle.std.proofs.Math.Seq.{take-suc}
use Rattle.std.proofs.Common.{◌≡◌, ◌∙◌, ap, sym, arith, ℕ, suc, ◌+◌, ◌<◌, length, take, get_or, Option, Some, None, List, [], ◌∷◌, ◌++◌, refl}
use Rattle.st_message.specs.declared.change.Change.{Change}
use Rattle.st_protocol.specs.Keeping.{or_else, gathered, first_of}
use Rattle.st_protocol.specs.State.{Sealing, at_reply}
use Rattle.st_protocol.specs.Questions.{sealing_in}
use Rattle.st_protocol.proofs.GatherLaws.{firsts, gathered-append}
use Rattle.st_server.specs.Replying.{leaf_in, reply_leaf_in}

pub first_of_none : {X A : Type 0} (pick : X → Option A) → first_of pick [] ≡ None
unfolding gathered
first_of_none pick = refl

or_else_none : {A : Type 0} (x : Option A) → or_else x None ≡ x
or_else_none None = refl
or_else_none (Some a) = refl

pub first_of_more : {X A : Type 0} (pick : X → Option A) (xs : List X) (x : X) → first_of pick (xs ++ x ∷ []) ≡ or_else (first_of pick xs) (pick x)
unfolding gathered
first_of_more pick xs x = gathered-append firsts pick xs (x ∷ []) ∙ ap (or_else (first_of pick xs)) (or_else_none (pick x))

pub or_else_assoc : {A : Type 0} (x y z : Option A) → or_else (or_else x y) z ≡ or_else x (or_else y z)
or_else_assoc None y z = refl
or_else_assoc (Some a) y z = refl

pub reply_leaf_none : (n : ℕ) → reply_leaf_in n [] ≡ None
unfolding reply_leaf_in gathered
reply_leaf_none n = refl

leaf_in_either : (x y : Option Sealing) → leaf_in (or_else x y) ≡ or_else (leaf_in x) (leaf_in y)
leaf_in_either None y = refl
leaf_in_either (Some m) y = refl

pub reply_leaf_more : (n : ℕ) (xs : List Change) (x : Change) → reply_leaf_in n (xs ++ x ∷ []) ≡ or_else (reply_leaf_in n xs) (leaf_in (sealing_in (at_reply n) x))
unfolding reply_leaf_in
reply_leaf_more n xs x = ap leaf_in (first_of_more (sealing_in (at_reply n)) xs x) ∙ leaf_in_either (first_of (sealing_in (at_reply n)) xs) (sealing_in (at_reply n) x)

-- one element more of a list
pub take_item : {A : Type 0} (xs : List A) (i : ℕ) (x : A) → i < length xs → x ≡ get_or xs i x → take (i + 1) xs ≡ take i xs ++ x ∷ []
take_item xs i x below is = let next : suc i ≡ i + 1 = omega arith in ap (λ k. take k xs) (sym next) ∙ (take-suc xs i x below ∙ ap (λ y. take i xs ++ y ∷ []) (sym is))
