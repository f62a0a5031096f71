-- What reading a whole input says: the bytes are the value's spelling, and a value's spelling is read.
use Rattle.std.proofs.Common.{◌≡◌, ℕ, eqb, List, [], ◌++◌, length, Result, Ok, Err, sym, ap, subst, ◌∙◌}
use Rattle.std.proofs.lemmas.List.{append-nil, nil_from_length}
use Rattle.std.proofs.lemmas.Bool.{eqb-true}
use Rattle.std.specs.Prelude.{IfOk}
use Rattle.st_fields.specs.declared.error.WordsError.{WordsError}
use Rattle.st_fields.specs.Reading.{Read, ◌>>=◌, ended, placed, all_read, whole, Answers}
use Rattle.st_fields.proofs.Fields.{IsBytes, IsField, guard_ok, step}

-- placing a fault changes no value
placed_ok : {A : Type 0} (total : ℕ) (read : Result A ℕ) (x : A) → placed total read ≡ Ok x → read ≡ Ok x
placed_ok total (Ok y) x e = e
placed_ok total (Err left) x e = absurd cc

-- what was read is spelled so, all of it
pub whole_takes : {A : Type 0} {read : List ℕ → Read A} {spell : A → List ℕ} {Keeps : A → Type 0} → IsField read spell Keeps → (bytes : List ℕ) (x : A) → IsBytes bytes → whole read bytes ≡ Ok x → (bytes ≡ spell x) × Keeps x
unfolding whole
whole_takes {A} {read} {spell} {Keeps} field bytes x fits e =
    step field bytes x fits (placed_ok (length bytes) (read bytes >>= ended) x e) λ y rest t keeps e'.
    let g = guard_ok (eqb (length rest) 0) y x (length rest) e' in
    let nothing : rest ≡ [] = nil_from_length rest (eqb-true (length rest) 0 g.0) in
    subst (λ (z : A). (bytes ≡ spell z) × Keeps z) g.1 (t.parts ∙ ap (λ (r : List ℕ). spell y ++ r) nothing ∙ append-nil (spell y), keeps)

-- what is spelled so is read
pub whole_again : {A : Type 0} {read : List ℕ → Read A} {spell : A → List ℕ} {Keeps : A → Type 0} → IsField read spell Keeps → (x : A) → Keeps x → whole read (spell x) ≡ Ok x
unfolding whole
whole_again {A} {read} {spell} field x keeps =
    ap (λ (r : Read A). all_read (length (spell x)) r) (ap read (sym (append-nil (spell x))) ∙ field.again x [] keeps)

-- an answer that is read: it is the value of the bytes
pub found : {A : Type 0} {read : List ℕ → Read A} {spell : A → List ℕ} {Keeps : A → Type 0} → IsField read spell Keeps → (bytes : List ℕ) (result : Result A WordsError) → IsBytes bytes → Answers result (whole read bytes) → IfOk result (λ x. (bytes ≡ spell x) × Keeps x)
found field bytes (Ok x) fits e = whole_takes field bytes x fits e
found field bytes (Err error) fits e = tt

-- the answer at the bytes of a value: it is that value
pub only : {A : Type 0} {read : List ℕ → Read A} {spell : A → List ℕ} {Keeps : A → Type 0} → IsField read spell Keeps → (bytes : List ℕ) (result : Result A WordsError) → Answers result (whole read bytes) → (x : A) → Keeps x → bytes ≡ spell x → Answers result (Ok x)
only {A} {read} field bytes result e x keeps same = subst (λ (r : Result A ℕ). Answers result r) (ap (whole read) same ∙ whole_again field x keeps) e
