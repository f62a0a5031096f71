-- Laws on tables by key.
use Rattle.std.proofs.Common.{◌≡◌, ◌≢◌, ◌∙◌, ap, sym, ℕ, zero, suc, Bool, true, false, nat_eq, Option, None, List, [], ◌∷◌, ◌++◌, length, replicate, refl}
use Rattle.std.proofs.lemmas.Bool.{eqb-true, eqb-false}
use Rattle.st_tables.specs.Entries.{entry}

-- a table of no entries answers none
pub entry_of_replicate : {T : Type 0} (n k : ℕ) → entry {T = T} (replicate n None) k ≡ None
unfolding entry
entry_of_replicate zero k = refl
entry_of_replicate (suc n) zero = refl
entry_of_replicate (suc n) (suc k) = entry_of_replicate n k

-- an entry put last is that of the next key
pub entry_of_last : {T : Type 0} (xs : List (Option T)) (x : Option T) → entry (xs ++ x ∷ []) (length xs) ≡ x
unfolding entry
entry_of_last [] x = refl
entry_of_last (y ∷ xs) x = entry_of_last xs x

-- an entry put last changes no other key's
pub entry_of_others : {T : Type 0} (xs : List (Option T)) (x : Option T) (k : ℕ) → k ≢ length xs → entry (xs ++ x ∷ []) k ≡ entry xs k
unfolding entry
entry_of_others [] x zero other = absurd (other refl)
entry_of_others [] x (suc k) other = refl
entry_of_others (y ∷ xs) x zero other = refl
entry_of_others (y ∷ xs) x (suc k) other = entry_of_others xs x k (λ e. other (ap suc e))

-- past the end there is none
pub entry_of_past : {T : Type 0} (xs : List (Option T)) → entry xs (length xs) ≡ None
unfolding entry
entry_of_past [] = refl
entry_of_past (y ∷ xs) = entry_of_past xs

-- no entry put last changes none
pub entry_of_more : {T : Type 0} (xs : List (Option T)) (k : ℕ) → entry (xs ++ None ∷ []) k ≡ entry xs k
entry_of_more xs k = by_test (nat_eq k (length xs)) refl
  where
    by_test : (b : Bool) → nat_eq k (length xs) ≡ b → entry (xs ++ None ∷ []) k ≡ entry xs k
    by_test true e = let same : k ≡ length xs = eqb-true k (length xs) e in rw same (entry_of_last xs None ∙ sym (entry_of_past xs))
    by_test false e = entry_of_others xs None k (eqb-false k (length xs) e)
