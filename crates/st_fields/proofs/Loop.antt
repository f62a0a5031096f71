-- Reading elements one after another, as a loop does.
use Rattle.std.proofs.Common.{◌≡◌, ℕ, suc, ◌-◌, ◌+◌, ◌≤◌, ◌<◌, List, [], ◌∷◌, ◌++◌, Ok, Err, refl, sym, ap, ◌∙◌, append_assoc, arith}
use Rattle.std.proofs.lemmas.List.{append-nil}
use Rattle.st_fields.specs.declared.error.FieldError.{FieldError}
use Rattle.st_fields.specs.declared.error.FieldError.TheVariants as fields
use Rattle.st_fields.specs.Reading.{Read, ◌>>=◌, Fails, list_at}

-- what was read before, and what is still read
abbrev pub with_front : {A : Type 0} → List A → Read (List A) → Read (List A)
with_front front read = read >>= λ xs rest. Ok (front ++ xs, rest)

-- an element that was read joins those before it
with_front-cons : {A : Type 0} (front : List A) (x : A) (read : Read (List A)) → with_front front (read >>= λ xs rest. Ok (x ∷ xs, rest)) ≡ with_front (front ++ x ∷ []) read
with_front-cons {A} front x (Ok p) = ap (λ (xs : List A). Ok (xs, p.1)) (simp append_assoc)
with_front-cons front x (Err left) = refl

-- one element more
pub goes_on : {A S : Type 0} (read : S → List ℕ → Read A) (next : S → A → S) (front : List A) (count i : ℕ) (state : S) (bytes : List ℕ) (x : A) (rest : List ℕ) (total : Read (List A)) → i < count → read state bytes ≡ Ok (x, rest)
    → with_front front (list_at read next (count - i) state bytes) ≡ total → with_front (front ++ x ∷ []) (list_at read next (count - (i + 1)) (next state x) rest) ≡ total
unfolding list_at
goes_on read next front count i state bytes x rest total lt e so_far =
    let k : count - i ≡ suc (count - (i + 1)) = omega arith in
    let one : with_front front (list_at read next (count - i) state bytes) ≡ with_front (front ++ x ∷ []) (list_at read next (count - (i + 1)) (next state x) rest) = rw (k, e) (with_front-cons front x (list_at read next (count - (i + 1)) (next state x) rest)) in
    sym one ∙ so_far

-- the first fault ends the list
pub ends : {A S : Type 0} (read : S → List ℕ → Read A) (next : S → A → S) (error : FieldError) (front : List A) (count i : ℕ) (state : S) (bytes : List ℕ) (total : Read (List A)) → i < count → Fails error (read state bytes)
    → with_front front (list_at read next (count - i) state bytes) ≡ total → Fails error total
unfolding list_at
ends read next fields.OutOfMemory front count i state bytes total lt fault so_far = tt
ends read next (fields.Refused left) front count i state bytes total lt fault so_far =
    let k : count - i ≡ suc (count - (i + 1)) = omega arith in
    let one : with_front front (list_at read next (count - i) state bytes) ≡ Err left = rw (k, fault) refl in
    sym so_far ∙ one

-- no element is left
pub is_done : {A S : Type 0} (read : S → List ℕ → Read A) (next : S → A → S) (front : List A) (count i : ℕ) (state : S) (bytes : List ℕ) (total : Read (List A)) → count ≤ i
    → with_front front (list_at read next (count - i) state bytes) ≡ total → total ≡ Ok (front, bytes)
unfolding list_at
is_done {A} read next front count i state bytes total le so_far =
    let k : count - i ≡ 0 = omega arith in
    let one : with_front front (list_at read next (count - i) state bytes) ≡ Ok (front, bytes) = rw k (ap (λ (xs : List A). Ok (xs, bytes)) (append-nil front)) in
    sym so_far ∙ one
