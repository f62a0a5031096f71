-- Laying out pieces, one list behind another.
use Rattle.std.proofs.Common.{◌≡◌, ℕ, ◌+◌, ◌<◌, List, [], ◌∷◌, ◌++◌, length, take, get_or, refl, sym, ap, ◌∙◌, append_assoc, arith}
use Rattle.std.specs.List.{flat_map}
use Rattle.std.proofs.lemmas.List.{append-nil, take_more, length-take-le}
use Rattle.std.proofs.lemmas.List.Concat.{flat_map-append}
use Rattle.st_words.specs.declared.statement.Item.{Item}
use Rattle.st_words.specs.declared.statement.Statement.{Statement}
use Rattle.st_seal.specs.declared.quorum.Signed.{Signed}
use Rattle.st_wire.specs.declared.layout.Layout.{Layout}
use Rattle.st_wire.specs.Seals.{Piece, quorum_pieces, item_statement, backing_pieces}
use Rattle.st_wire.specs.Layout.{lay_one, laid}

-- no piece at all
pub laid_none : (l : Layout) → l ≡ laid l []
unfolding laid
laid_none l = refl

-- these pieces, and then those
pub laid_append : (l : Layout) (xs ys : List Piece) → laid l (xs ++ ys) ≡ laid (laid l xs) ys
unfolding laid
laid_append l [] ys = refl
laid_append l (x ∷ xs) ys = laid_append (lay_one l x) xs ys

-- what is made of one element more
pub each_more : {A B : Type 0} (f : A → List B) (xs : List A) (i : ℕ) (x : A) → i < length xs → x ≡ get_or xs i x → flat_map f (take (i + 1) xs) ≡ flat_map f (take i xs) ++ f x
each_more {A} {B} f xs i x lt is =
    ap (flat_map f) (take_more xs i x lt ∙ ap (λ (y : A). take i xs ++ y ∷ []) (sym is))
    ∙ flat_map-append f (take i xs) (x ∷ [])
    ∙ ap (λ (t : List B). flat_map f (take i xs) ++ t) (append-nil (f x))

-- the pieces of one element more
pub laid_more : {A : Type 0} (f : A → List Piece) (start now : Layout) (xs : List A) (i : ℕ) (x : A) → i < length xs → x ≡ get_or xs i x → now ≡ laid start (flat_map f (take i xs)) → laid now (f x) ≡ laid start (flat_map f (take (i + 1) xs))
laid_more f start now xs i x lt is so_far =
    ap (λ (l : Layout). laid l (f x)) so_far
    ∙ sym (laid_append start (flat_map f (take i xs)) (f x))
    ∙ ap (laid start) (sym (each_more f xs i x lt is))

-- no item, and no quorum
pub backing_none : (sites : ℕ) (report : Statement) (l : Layout) → l ≡ laid l (backing_pieces sites report [] [])
unfolding laid backing_pieces
backing_none sites report l = refl

-- items and their quorums, and then more of them
backing_append : (sites : ℕ) (report : Statement) (xs ys : List Item) (ps qs : List (List Signed)) → length xs ≡ length ps → backing_pieces sites report (xs ++ ys) (ps ++ qs) ≡ backing_pieces sites report xs ps ++ backing_pieces sites report ys qs
unfolding backing_pieces
backing_append sites report [] ys [] qs e = refl
backing_append sites report [] ys (p ∷ ps) qs e = absurd (omega (arith, e))
backing_append sites report (x ∷ xs) ys [] qs e = absurd (omega (arith, e))
backing_append sites report (x ∷ xs) ys (p ∷ ps) qs e =
    ap (λ (t : List Piece). quorum_pieces (item_statement sites report x) p ++ t) (backing_append sites report xs ys ps qs (omega (arith, e)))
    ∙ sym (append_assoc (quorum_pieces (item_statement sites report x) p) (backing_pieces sites report xs ps) (backing_pieces sites report ys qs))

-- the quorum of one item more
pub backing_more : (sites : ℕ) (report : Statement) (start now : Layout) (items : List Item) (quorums : List (List Signed)) (k : ℕ) (i : Item) (q : List Signed) → k < length items → k < length quorums → i ≡ get_or items k i → q ≡ get_or quorums k q
    → now ≡ laid start (backing_pieces sites report (take k items) (take k quorums)) → laid now (quorum_pieces (item_statement sites report i) q) ≡ laid start (backing_pieces sites report (take (k + 1) items) (take (k + 1) quorums))
unfolding backing_pieces
backing_more sites report start now items quorums k i q below also i-is q-is so_far =
    let more-items : take (k + 1) items ≡ take k items ++ i ∷ [] = take_more items k i below ∙ ap (λ (y : Item). take k items ++ y ∷ []) (sym i-is) in
    let more-quorums : take (k + 1) quorums ≡ take k quorums ++ q ∷ [] = take_more quorums k q also ∙ ap (λ (y : List Signed). take k quorums ++ y ∷ []) (sym q-is) in
    let as-many : length (take k items) ≡ length (take k quorums) = length-take-le k items (omega arith) ∙ sym (length-take-le k quorums (omega arith)) in
    ap (λ (l : Layout). laid l (quorum_pieces (item_statement sites report i) q)) so_far
    ∙ sym (laid_append start (backing_pieces sites report (take k items) (take k quorums)) (quorum_pieces (item_statement sites report i) q))
    ∙ ap (λ (t : List Piece). laid start (backing_pieces sites report (take k items) (take k quorums) ++ t)) (sym (append-nil (quorum_pieces (item_statement sites report i) q)))
    ∙ ap (laid start) (sym (backing_append sites report (take k items) (i ∷ []) (take k quorums) (q ∷ []) as-many))
    ∙ ap (λ (p : List Item × List (List Signed)). laid start (backing_pieces sites report p.0 p.1)) (rw (more-items, more-quorums) refl)
