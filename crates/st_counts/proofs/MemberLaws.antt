-- Laws on what a list has: elements of a property, distinct elements, the numbers below one.
use Rattle.std.proofs.Common.{◌≡◌, ℕ, ◌+◌, ◌≤◌, ◌<◌, ◌⊎◌, zero, suc, Bool, true, false, cond, IsTrue, List, [], ◌∷◌, ◌++◌, length, get_or, filter, map, refl, sym, ◌∙◌, ap, subst, inl, inr, ⊎_elim, arith, length-append}
use Rattle.std.specs.List.{list_any}
use Rattle.std.proofs.lemmas.Bool.{cases_lt, or_left, or_right, or_cases}
use Rattle.st_counts.specs.Counts.{one_if, count, Has, AllOf, Distinct, Found, numbers_below}
use Rattle.st_counts.proofs.CountLaws.{count-append}

-- a property of each element, at an element that the list has
pub AllOf-at : {X : Type 0} (P : X → Type 0) (xs : List X) → AllOf P xs → (x : X) → Has x xs → P x
AllOf-at P [] all x among = absurd among
AllOf-at P (y ∷ ys) all x (inl e) = subst P (sym e) all.0
AllOf-at P (y ∷ ys) all x (inr among) = AllOf-at P ys all.1 x among

-- a property of all that the list has
pub AllOf-from : {X : Type 0} (P : X → Type 0) (xs : List X) → ((x : X) → Has x xs → P x) → AllOf P xs
AllOf-from P [] h = tt
AllOf-from P (y ∷ ys) h = (h y (inl refl), AllOf-from P ys (λ x among. h x (inr among)))

-- what a list has, lists that begin or end with it have
pub has-left : {X : Type 0} (x : X) (xs ys : List X) → Has x xs → Has x (xs ++ ys)
has-left x [] ys among = absurd among
has-left x (y ∷ xs) ys (inl e) = inl e
has-left x (y ∷ xs) ys (inr among) = inr (has-left x xs ys among)

-- and lists that end with it
pub has-right : {X : Type 0} (x : X) (xs ys : List X) → Has x ys → Has x (xs ++ ys)
has-right x [] ys among = among
has-right x (y ∷ xs) ys among = inr (has-right x xs ys among)

-- what two lists have together, one of them has
pub has-append : {X : Type 0} (x : X) (xs ys : List X) → Has x (xs ++ ys) → Has x xs ⊎ Has x ys
has-append x [] ys among = inr among
has-append x (y ∷ xs) ys (inl e) = inl (inl e)
has-append x (y ∷ xs) ys (inr among) = ⊎_elim (λ h. inl (inr h)) (λ h. inr h) (has-append x xs ys among)

-- the image of an element is in the list of images
pub has-map : {X Y : Type 0} (f : X → Y) (x : X) (xs : List X) → Has x xs → Has (f x) (map f xs)
has-map f x [] among = absurd among
has-map f x (y ∷ ys) (inl e) = inl (ap f e)
has-map f x (y ∷ ys) (inr among) = inr (has-map f x ys among)

-- an element that passes is kept by the filter
pub has-filter : {X : Type 0} (p : X → Bool) (x : X) (xs : List X) → IsTrue (p x) → Has x xs → Has x (filter p xs)
has-filter p x [] passes among = absurd among
has-filter p x (y ∷ ys) passes (inl e) = first (p y) (subst (λ z. IsTrue (p z)) e passes)
  where
    first : (b : Bool) → IsTrue b → Has x (cond b (y ∷ filter p ys) (filter p ys))
    first true t = inl e
    first false t = absurd (let no : false ≡ true = t in cc)
has-filter p x (y ∷ ys) passes (inr among) = later (p y) (has-filter p x ys passes among)
  where
    later : (b : Bool) → Has x (filter p ys) → Has x (cond b (y ∷ filter p ys) (filter p ys))
    later true h = inr h
    later false h = h

-- what a filter keeps passes, and the list has it
pub filter-has : {X : Type 0} (p : X → Bool) (x : X) (xs : List X) → Has x (filter p xs) → Has x xs × IsTrue (p x)
filter-has p x [] among = absurd among
filter-has p x (y ∷ ys) among = by_test (p y) refl (filter-has p x ys) among
  where
    by_test : (b : Bool) → p y ≡ b → (Has x (filter p ys) → Has x ys × IsTrue (p x)) → Has x (cond b (y ∷ filter p ys) (filter p ys)) → ((x ≡ y) ⊎ Has x ys) × IsTrue (p x)
    by_test true passes later (inl same) = (inl same, subst (λ z. IsTrue (p z)) (sym same) passes)
    by_test true passes later (inr h) = (inr (later h).0, (later h).1)
    by_test false fails later h = (inr (later h).0, (later h).1)

-- some element of a list passes where one that it has does
pub any-from : {X : Type 0} (p : X → Bool) (x : X) (xs : List X) → Has x xs → IsTrue (p x) → IsTrue (list_any p xs)
any-from p x [] among passes = absurd among
any-from p x (y ∷ ys) (inl same) passes = or_left (p y) (list_any p ys) (subst (λ z. IsTrue (p z)) same passes)
any-from p x (y ∷ ys) (inr among) passes = or_right (p y) (list_any p ys) (any-from p x ys among passes)

-- and where some element passes one is found
pub any-found : {X : Type 0} (p : X → Bool) (xs : List X) → IsTrue (list_any p xs) → Found p xs
any-found p [] passes = absurd (let no : false ≡ true = passes in cc)
any-found {X} p (y ∷ ys) passes =
    ⊎_elim
    (λ first. let here : Found p (y ∷ ys) = record { element = y; among = inl refl; passes = first } in here)
    (λ later. let rest : Found p ys = any-found p ys later in
    let there : Found p (y ∷ ys) = record { element = rest.element; among = inr rest.among; passes = rest.passes } in there)
    (or_cases (p y) (list_any p ys) passes)

-- where some element passes, and what passes passes another test over another list, some passes there
pub any-mono : {X : Type 0} (p q : X → Bool) (xs ys : List X) → ((x : X) → Has x xs → IsTrue (p x) → Has x ys × IsTrue (q x)) → IsTrue (list_any p xs) → IsTrue (list_any q ys)
any-mono {X} p q xs ys follows passes =
    let some : Found p xs = any-found p xs passes in
    let there : Has some.element ys × IsTrue (q some.element) = follows some.element some.among some.passes in
    any-from q some.element ys there.0 there.1

-- an image is the image of an element
pub map-has : {X Y : Type 0} (f : X → Y) (y : Y) (xs : List X) → Has y (map f xs) → (x : X) × (Has x xs × (f x ≡ y))
map-has f y [] among = absurd among
map-has f y (x ∷ xs) (inl same) = (x, (inl refl, sym same))
map-has f y (x ∷ xs) (inr among) =
    let rest = map-has f y xs among in
    (rest.0, (inr rest.1.0, rest.1.1))

-- what a filter keeps of distinct elements is distinct
pub distinct-filter : {X : Type 0} (p : X → Bool) (xs : List X) → Distinct xs → Distinct (filter p xs)
distinct-filter p [] distinct = tt
distinct-filter p (x ∷ xs) distinct = by_test (p x) (distinct-filter p xs distinct.1)
  where
    by_test : (b : Bool) → Distinct (filter p xs) → Distinct (cond b (x ∷ filter p xs) (filter p xs))
    by_test true rest = (λ among. distinct.0 (filter-has p x xs among).0, rest)
    by_test false rest = rest

-- a list without one place of an element: all others stay, and counts fall by that one
record Without {X : Type 0} (x : X) (xs : List X) : Type 0 where
  others : List X
  counts : (p : X → Bool) → count p xs ≡ one_if (p x) + count p others
  keeps : (y : X) → ¬ (y ≡ x) → Has y xs → Has y others

-- any list that has the element has such a rest
without : {X : Type 0} (x : X) (xs : List X) → Has x xs → Without x xs
without x [] among = absurd among
without x (y ∷ ys) (inl e) =
    record {
      others = ys;
      counts = λ p. ap (λ z. one_if (p z) + count p ys) (sym e);
      keeps = λ z other. ⊎_elim (λ same. absurd (other (same ∙ sym e))) (λ h. h);
    }
without x (y ∷ ys) (inr among) =
    let rest : Without x ys = without x ys among in
    record {
      others = y ∷ rest.others;
      counts = λ p. omega (arith, rest.counts p);
      keeps = λ z other. ⊎_elim (λ same. inl same) (λ h. inr (rest.keeps z other h));
    }

-- distinct elements of a list that all pass are no more than those that pass
pub distinct-le-count : {X : Type 0} (p : X → Bool) (ds xs : List X) → Distinct ds → ((d : X) → Has d ds → Has d xs) → ((d : X) → Has d ds → IsTrue (p d)) → length ds ≤ count p xs
distinct-le-count p [] xs distinct within pass = omega arith
distinct-le-count {X} p (d ∷ ds) xs distinct within pass =
    let rest : Without d xs = without d xs (within d (inl refl)) in
    let other : (e : X) → Has e ds → ¬ (e ≡ d) = λ e among same. distinct.0 (subst (λ z. Has z ds) same among) in
    let below : length ds ≤ count p rest.others =
    distinct-le-count p ds rest.others distinct.1 (λ e among. rest.keeps e (other e among) (within e (inr among))) (λ e among. pass e (inr among)) in
    let head : one_if (p d) ≡ 1 = ap one_if (pass d (inl refl)) in
    omega (arith, rest.counts p)

-- there are m numbers below m
pub length-numbers_below : (m : ℕ) → length (numbers_below m) ≡ m
length-numbers_below zero = refl
length-numbers_below (suc m) = omega (arith, length-append (numbers_below m) (m ∷ []), length-numbers_below m)

-- they are the numbers below m
pub has-numbers_below : (k m : ℕ) → k < m → Has k (numbers_below m)
has-numbers_below k zero h = absurd (omega arith)
has-numbers_below k (suc m) h =
    ⊎_elim (λ less. has-left k (numbers_below m) (m ∷ []) (has-numbers_below k m less))
    (λ above. has-right k (numbers_below m) (m ∷ []) (inl (omega arith)))
    (cases_lt k m)

-- and no others
pub numbers_below-lt : (k m : ℕ) → Has k (numbers_below m) → k < m
numbers_below-lt k zero among = absurd among
numbers_below-lt k (suc m) among =
    ⊎_elim (λ h. let less : k < m = numbers_below-lt k m h in omega arith)
    (⊎_elim (λ (e : k ≡ m). omega arith) (λ no. absurd no))
    (has-append k (numbers_below m) (m ∷ []) among)

-- a list with one more element at its end, which it did not have, stays distinct
pub distinct-push : {X : Type 0} (x : X) (xs : List X) → Distinct xs → ¬ Has x xs → Distinct (xs ++ x ∷ [])
distinct-push x [] distinct fresh = (λ no. no, tt)
distinct-push x (y ∷ ys) distinct fresh = (
  λ among. ⊎_elim distinct.0 (⊎_elim (λ e. fresh (inl (sym e))) (λ no. no)) (has-append y ys (x ∷ []) among),
  distinct-push x ys distinct.1 (λ among. fresh (inr among)),
)

-- the numbers below m are distinct
pub distinct-numbers_below : (m : ℕ) → Distinct (numbers_below m)
distinct-numbers_below zero = tt
distinct-numbers_below (suc m) =
    distinct-push m (numbers_below m) (distinct-numbers_below m) (λ among. let less : m < m = numbers_below-lt m m among in omega arith)

-- a count over the numbers below one more
pub count-numbers_below : (p : ℕ → Bool) (m : ℕ) → count p (numbers_below (suc m)) ≡ count p (numbers_below m) + one_if (p m)
count-numbers_below p m = omega (arith, count-append p (numbers_below m) (m ∷ []))

-- a count over the numbers below one more, the first apart
pub count-numbers_below_first : (p : ℕ → Bool) (m : ℕ) → count p (numbers_below (suc m)) ≡ one_if (p 0) + count (λ k. p (suc k)) (numbers_below m)
count-numbers_below_first p zero = refl
count-numbers_below_first p (suc m) =
    count-numbers_below p (suc m)
    ∙ (ap (λ n. n + one_if (p (suc m))) (count-numbers_below_first p m)
    ∙ (omega arith ∙ ap (λ n. one_if (p 0) + n) (sym (count-numbers_below (λ k. p (suc k)) m))))

-- a count over the places of a list is one over its elements
pub count-places : {X : Type 0} (p : X → Bool) (xs : List X) (d : X) → count (λ k. p (get_or xs k d)) (numbers_below (length xs)) ≡ count p xs
count-places p [] d = refl
count-places p (x ∷ xs) d =
    count-numbers_below_first (λ k. p (get_or (x ∷ xs) k d)) (length xs) ∙ ap (λ n. one_if (p x) + n) (count-places p xs d)
