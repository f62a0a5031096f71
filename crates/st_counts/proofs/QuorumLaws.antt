-- Laws on overlap: tests that most of the members pass have a member in common.
use Rattle.std.proofs.Common.{◌≡◌, ℕ, ◌+◌, ◌*◌, ◌/◌, ◌≤◌, ◌<◌, Bool, true, false, not, ◌&&◌, ◌||◌, IsTrue, List, length, filter, refl, arith}
use Rattle.std.proofs.lemmas.Bool.{and_parts}
use Rattle.st_counts.specs.Counts.{count, Has, Distinct, HasMajority, AllBut, Found, Shared}
use Rattle.st_counts.proofs.CountLaws.{count-mono, count-both, count-filter, count-implies, length-filter, found}
use Rattle.st_counts.proofs.MemberLaws.{distinct-le-count}

-- tests that count more than the length together share a member
pub overlap : {X : Type 0} (p q : X → Bool) (xs : List X) → length xs < count p xs + count q xs → Shared p q xs
overlap p q xs more =
    let both : Found (λ x. p x && q x) xs = found (λ x. p x && q x) xs (omega (arith, count-both p q xs)) in
    let parts = and_parts (p both.element) (q both.element) both.passes in
    record { element = both.element; among = both.among; first = parts.0; second = parts.1 }

-- two tests that all but f of more than 2f members pass share a member
pub shared : {X : Type 0} (f : ℕ) (members : List X) (p q : X → Bool) → 2 * f < length members → AllBut f members p → AllBut f members q → Shared p q members
shared f members p q many first second = overlap p q members (omega arith)

-- two majorities share a member
pub majorities-share : {X : Type 0} (members : List X) (p q : X → Bool) → HasMajority members p → HasMajority members q → Shared p q members
majorities-share members p q first second = overlap p q members (omega arith)

-- a majority has a member that passes
pub majority-found : {X : Type 0} (members : List X) (p : X → Bool) → HasMajority members p → Found p members
majority-found members p most = found p members (omega arith)

-- a majority stays one where the test gets weaker
pub majority-mono : {X : Type 0} (members : List X) (p q : X → Bool) → ((x : X) → Has x members → IsTrue (p x) → IsTrue (q x)) → HasMajority members p → HasMajority members q
majority-mono members p q weaker most = omega (arith, count-mono p q members weaker)

-- all but f stay so where the test gets weaker
pub all_but-mono : {X : Type 0} (f : ℕ) (members : List X) (p q : X → Bool) → ((x : X) → Has x members → IsTrue (p x) → IsTrue (q x)) → AllBut f members p → AllBut f members q
all_but-mono f members p q weaker most = omega (arith, count-mono p q members weaker)

-- all but f of more than 2f members are a majority
pub all_but-majority : {X : Type 0} (f : ℕ) (members : List X) (p : X → Bool) → 2 * f < length members → AllBut f members p → HasMajority members p
all_but-majority f members p many most = omega arith

-- all but f of more than f members: one of them is found
pub all_but-found : {X : Type 0} (f : ℕ) (members : List X) (p : X → Bool) → f < length members → AllBut f members p → Found p members
all_but-found f members p many most = found p members (omega arith)

-- a test that follows from another: it holds or the other does not
if_correct : (a b : Bool) → (IsTrue a → IsTrue b) → IsTrue (not a || b)
if_correct true b h = h refl
if_correct false b h = refl

-- Of the servers of a site all but f signed. Then all but f of the correct servers did what correct
-- signers do.
pub quorum-stands : {X : Type 0} (f : ℕ) (is_correct did : X → Bool) (servers signers : List X) → Distinct signers → ((s : X) → Has s signers → Has s servers) → length servers ≤ f + length signers → ((s : X) → Has s signers → IsTrue (is_correct s) → IsTrue (did s)) → AllBut f (filter is_correct servers) did
quorum-stands {X} f is_correct did servers signers distinct within many honest =
    let as_told : X → Bool = λ s. not (is_correct s) || did s in
    let told : (s : X) → Has s signers → IsTrue (as_told s) = λ s among. if_correct (is_correct s) (did s) (honest s among) in
    omega (
      arith,
      distinct-le-count as_told signers servers distinct within told,
      count-implies is_correct did servers,
      length-filter is_correct servers,
      count-filter did is_correct servers,
    )

-- distinct members that pass, at least one more than half of all, are a majority
pub sites-majority : {X : Type 0} (p : X → Bool) (members signers : List X) → Distinct signers → ((s : X) → Has s signers → Has s members) → length members / 2 + 1 ≤ length signers → ((s : X) → Has s signers → IsTrue (p s)) → HasMajority members p
sites-majority p members signers distinct within many pass =
    omega (arith, distinct-le-count p signers members distinct within pass)
