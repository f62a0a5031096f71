-- Laws on rows of answers.
use Rattle.std.proofs.Common.{◌≡◌, ◌∙◌, ap, sym, ℕ, Bool, true, false, cond, nat_eq, Option, List, refl}
use Rattle.std.proofs.lemmas.Bool.{eqb-true, eqb-false}
use Rattle.st_tables.specs.Entries.{entry, Sets}

-- a table with one entry written, by the entries it had
pub entry_set : {A : Type 0} (old new : List (Option A)) (j i : ℕ) (item : Option A) → Sets old new j item → entry new i ≡ cond (nat_eq j i) item (entry old i)
entry_set old new j i item sets = by_test (nat_eq j i) refl
  where
    by_test : (b : Bool) → nat_eq j i ≡ b → entry new i ≡ cond b item (entry old i)
    by_test true e = ap (entry new) (sym (eqb-true j i e)) ∙ sets.here
    by_test false e = sets.others i (λ same. eqb-false j i e (sym same))
