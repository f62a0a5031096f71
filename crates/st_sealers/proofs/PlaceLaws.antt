-- Sealers in their clients' places.
use Rattle.std.proofs.Common.{◌≡◌, ◌∙◌, ap, sym, subst, ℕ, zero, suc, ◌+◌, ◌<◌, nat_eq, Bool, true, false, Option, Some, None, List, [], ◌∷◌, ◌++◌, length, refl, arith}
use Rattle.std.specs.Prelude.{slice_index_or, slice_set}
use Rattle.std.specs.Option.{ForSome}
use Rattle.std.proofs.lemmas.Bool.{eqb-true, eqb-false}
use Rattle.std.proofs.lemmas.List.{get_or-set_same, get_or-set_other, length-set, length-append}
use Rattle.st_seal.specs.Scheme.{Scheme}
use Rattle.st_hss_seal.specs.declared.deployment.PartySealer.{PartySealer}
use Rattle.st_protocol.specs.Words.{client_at}
use Rattle.st_sealers.specs.declared.sealers.ClientSealers.{ClientSealers}
use Rattle.st_sealers.specs.Keeping.{IsOf, sealer_at, AreOwn, KeepsSealers}

-- where there is no place there is no other's sealer
pub own_nowhere : (s : Scheme) → AreOwn s []
unfolding AreOwn
own_nowhere s zero sealer is = absurd (let none : None ≡ Some sealer = is in cc)
own_nowhere s (suc c) sealer is = absurd (let none : None ≡ Some sealer = is in cc)

-- an empty place more changes what stands in none
more_at : (places : List (Option PartySealer)) (c : ℕ) → sealer_at (places ++ None ∷ []) c ≡ sealer_at places c
more_at [] zero = refl
more_at [] (suc c) = refl
more_at (p ∷ places) zero = refl
more_at (p ∷ places) (suc c) = more_at places c

pub own_more : (s : Scheme) (places : List (Option PartySealer)) → AreOwn s places → AreOwn s (places ++ None ∷ [])
unfolding AreOwn
own_more s places own c sealer is = own c sealer (sym (more_at places c) ∙ is)

-- and there is one more
pub length_more : (places : List (Option PartySealer)) (n : ℕ) → length places ≡ n → length (places ++ None ∷ []) ≡ n + 1
length_more places n is = let more = length-append places (None ∷ []) in omega (arith, more, is)

some_same : (a b : PartySealer) → Some a ≡ Some b → a ≡ b
some_same a b is = let same : Some a ≡ Some b = is in cc

-- a client's own sealer, or none, is put in its place
pub own_set : (s : Scheme) (places : List (Option PartySealer)) (place : ℕ) (item : Option PartySealer) → place < length places → AreOwn s places → ForSome item (IsOf s (client_at place)) → AreOwn s (slice_set places place item)
unfolding AreOwn
own_set s places place item below own is c sealer found = by (nat_eq c place) refl
  where
    by : (b : Bool) → nat_eq c place ≡ b → IsOf s (client_at c) sealer
    by true e =
        let same : c ≡ place = eqb-true c place e in
        let here : sealer_at (slice_set places place item) c ≡ item = ap (sealer_at (slice_set places place item)) same ∙ get_or-set_same places place item None below in
        subst (λ (k : ℕ). IsOf s (client_at k) sealer) (sym same) (is sealer (sym here ∙ found))
    by false e = own c sealer (sym (get_or-set_other places place c item None (eqb-false c place e)) ∙ found)

-- a place that there is holds the same whatever stands for one that there is not
same_found : (places : List (Option PartySealer)) (i : ℕ) (a b : Option PartySealer) → i < length places → slice_index_or places i a ≡ slice_index_or places i b
same_found [] i a b below = absurd (omega (arith, below))
same_found (p ∷ places) zero a b below = refl
same_found (p ∷ places) (suc i) a b below = same_found places i a b (omega (arith, below))

-- a client has a place
pub has_place : (s : Scheme) (all : ClientSealers) (place client : ℕ) → KeepsSealers s all → place ≡ client → client < s.clients → place < length all.places.items
has_place s all place client keeps same below = let clients = keeps.clients in omega (arith, clients, same, below)

-- the sealer that is found in a client's place is the client's
pub own_at : (s : Scheme) (all : ClientSealers) (place client : ℕ) (found : Option PartySealer) (sealer : PartySealer) → KeepsSealers s all → place ≡ client → client < s.clients
    → found ≡ slice_index_or all.places.items place found → found ≡ Some sealer → IsOf s (client_at client) sealer
unfolding AreOwn
own_at s all place client found sealer keeps same below at is =
    let here : sealer_at all.places.items place ≡ Some sealer = same_found all.places.items place None found (has_place s all place client keeps same below) ∙ (sym at ∙ is) in
    subst (λ (k : ℕ). IsOf s (client_at k) sealer) same (keeps.own place sealer here)

-- what is kept with a client's own sealer, or none, in its place
pub keeps_set : (s : Scheme) (old new : ClientSealers) (place client : ℕ) (item : Option PartySealer) → KeepsSealers s old → place ≡ client → client < s.clients → new.places.items ≡ slice_set old.places.items place item
    → ForSome item (IsOf s (client_at client)) → KeepsSealers s new
keeps_set s old new place client item keeps same below set own =
    let here : ForSome item (IsOf s (client_at place)) = λ sealer is. subst (λ (k : ℕ). IsOf s (client_at k) sealer) (sym same) (own sealer is) in
    record {
      clients = ap length set ∙ (length-set old.places.items place item ∙ keeps.clients);
      own = subst (AreOwn s) (sym set) (own_set s old.places.items place item (has_place s old place client keeps same below) keeps.own here);
    }

-- what is kept with a client's own sealer in its place
pub keeps_put : (s : Scheme) (old new : ClientSealers) (place client : ℕ) (sealer : PartySealer) → KeepsSealers s old → place ≡ client → client < length old.places.items → new.places.items ≡ slice_set old.places.items place (Some sealer)
    → IsOf s (client_at client) sealer → KeepsSealers s new
keeps_put s old new place client sealer keeps same below set own =
    let clients = keeps.clients in
    keeps_set s old new place client (Some sealer) keeps same (omega (arith, clients, below)) set (λ other is. subst (IsOf s (client_at client)) (some_same sealer other is) own)
