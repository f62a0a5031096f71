-- Lists of fields, with a rule on each element that hangs on those before it.
use Rattle.std.proofs.Common.{◌≡◌, ℕ, zero, suc, ◌^◌, ◌<◌, List, [], ◌∷◌, ◌++◌, length, Ok, refl, sym, ap, subst, ◌∙◌, append_assoc, arith}
use Rattle.std.specs.Int.{IsInRange}
use Rattle.std.specs.List.{flat_map}
use Rattle.st_fields.specs.Spelling.{byte, counted, KeepsEach}
use Rattle.st_fields.specs.Reading.{Read, ◌>>=◌, list_at, counted_at}
use Rattle.st_fields.proofs.Fields.{IsBytes, Takes, IsField, ok_is, bind_ok, step, again_step, ◌▷◌, none, joined-append}
use Rattle.st_fields.proofs.Leaves.{byte_in_field}

-- lists of a field whose range hangs on a state, which each element carries on
module _ {A S : Type 0} (read : S → List ℕ → Read A) (next : S → A → S) (spell : A → List ℕ) (Keeps : S → A → Type 0) (field : (state : S) → IsField (read state) spell (Keeps state)) where
  -- the elements that are read are spelled so
  list_takes : (n : ℕ) (state : S) (bytes : List ℕ) (xs : List A) (rest : List ℕ) → IsBytes bytes → list_at read next n state bytes ≡ Ok (xs, rest) → Takes bytes (flat_map spell xs) rest × ((length xs ≡ n) × KeepsEach Keeps next state xs)
  unfolding list_at
  list_takes zero state bytes xs rest fits e =
      subst (λ (p : List A × List ℕ). Takes bytes (flat_map spell p.0) p.1 × ((length p.0 ≡ 0) × KeepsEach Keeps next state p.0)) (ok_is ([], bytes) (xs, rest) e) (none fits, (refl, tt))
  list_takes (suc n) state bytes xs rest fits e =
      step (field state) bytes (xs, rest) fits e λ x r t keeps e'.
      let b = bind_ok (list_at read next n (next state x) r) (λ others rest'. Ok (x ∷ others, rest')) (xs, rest) e' in
      let more = list_takes n (next state x) r b.0 b.1 t.rest_fits b.2 in
      subst (λ (p : List A × List ℕ). Takes bytes (flat_map spell p.0) p.1 × ((length p.0 ≡ suc n) × KeepsEach Keeps next state p.0)) (ok_is (x ∷ b.0, b.1) (xs, rest) b.3)
      (t ▷ more.0, (ap (λ (k : ℕ). suc k) more.1.0, (keeps, more.1.1)))

  -- elements that are spelled so are read
  list_again : (state : S) (xs : List A) (rest : List ℕ) → KeepsEach Keeps next state xs → list_at read next (length xs) state (flat_map spell xs ++ rest) ≡ Ok (xs, rest)
  unfolding list_at
  list_again state [] rest keeps = refl
  list_again state (x ∷ xs) rest keeps =
      ap (list_at read next (suc (length xs)) state) (append_assoc (spell x) (flat_map spell xs) rest)
      ∙ again_step (field state) _ _ x keeps.0
      (ap (λ (r : Read (List A)). r >>= λ others rest'. Ok (x ∷ others, rest')) (list_again (next state x) xs rest keeps.1))

  -- n elements one after another
  pub list_field : (n : ℕ) (state : S) → IsField (list_at read next n state) (flat_map spell) (λ xs. (length xs ≡ n) × KeepsEach Keeps next state xs)
  list_field n state = record {
    takes = λ bytes xs rest fits e. list_takes n state bytes xs rest fits e;
    again = λ xs rest keeps. ap (λ (k : ℕ). list_at read next k state (flat_map spell xs ++ rest)) (sym keeps.0) ∙ list_again state xs rest keeps.1;
  }

  -- from least to most elements, behind their number
  pub counted_field : (least most : ℕ) → most < 2 ^ 8 → (state : S) → IsField (counted_at least most read next state) (counted spell) (λ xs. IsInRange least most (length xs) × KeepsEach Keeps next state xs)
  unfolding counted_at counted
  counted_field least most below state = record {
    takes = λ bytes xs rest fits e.
        step (byte_in_field least most) bytes (xs, rest) fits e λ n r t keeps e'.
        let l = list_takes n state r xs rest t.rest_fits e' in
        (subst (λ (k : ℕ). Takes bytes (byte k ++ (flat_map spell xs ++ [])) rest) (sym l.1.0) (t ▷ (l.0 ▷ none l.0.rest_fits)), (rw l.1.0 keeps.1, l.1.1));
    again = λ xs rest keeps.
        ap (counted_at least most read next state) (joined-append (byte (length xs) ∷ flat_map spell xs ∷ []) rest)
        ∙ again_step (byte_in_field least most) _ _ (length xs) (omega arith, keeps.0) (list_again state xs rest keeps.1);
  }
