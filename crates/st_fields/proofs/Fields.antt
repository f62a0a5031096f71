-- What a field is: what is read is spelled so, and what is spelled so is read. A format's laws are
-- records of this kind, one for each field, and one made of them for the whole.
use Rattle.std.proofs.Common.{◌≡◌, ℕ, ◌<◌, Bool, true, false, cond, List, [], ◌∷◌, ◌++◌, length, get_or, Result, Ok, Err, refl, sym, ap, subst, ◌∙◌, append_assoc, inl, inr, ◌⊎◌}
use Rattle.std.proofs.lemmas.List.{append-nil}
use Rattle.st_fields.specs.Spelling.{joined}
use Rattle.st_fields.specs.Reading.{Read, ◌>>=◌, checked}

-- each element is a byte's value
abbrev pub IsBytes : List ℕ → Type 0
IsBytes bytes = (i : ℕ) → get_or bytes i 0 < 256

-- the bytes are a text and then a rest of bytes
pub record Takes (bytes text rest : List ℕ) : Type 0 where
  pub parts : bytes ≡ text ++ rest
  pub rest_fits : IsBytes rest

-- reading takes the spelling of a value that keeps its ranges, and takes that spelling again whatever follows it
pub record IsField {A : Type 0} (read : List ℕ → Read A) (spell : A → List ℕ) (Keeps : A → Type 0) : Type 0 where
  pub takes : (bytes : List ℕ) (x : A) (rest : List ℕ) → IsBytes bytes → read bytes ≡ Ok (x, rest) → Takes bytes (spell x) rest × Keeps x
  pub again : (x : A) (rest : List ℕ) → Keeps x → read (spell x ++ rest) ≡ Ok (x, rest)

-- ---- what an Ok says

-- an answer, whose error is a place
abbrev done : {A : Type 0} → A → Result A ℕ
done x = Ok x

-- two answers are one value
pub ok_is : {A : Type 0} (x y : A) → done x ≡ done y → x ≡ y
ok_is x y e = cc

-- the field that was read, and what came of it
pub bind_ok : {A X : Type 0} (read : Read A) (more : A → List ℕ → Result X ℕ) (y : X) → (read >>= more) ≡ Ok y → (x : A) × (rest : List ℕ) × (read ≡ Ok (x, rest)) × (more x rest ≡ Ok y)
bind_ok (Ok p) more y e = (p.0, p.1, refl, e)
bind_ok (Err left) more y e = absurd cc

-- a test that was passed
pub guard_ok : {A : Type 0} (b : Bool) (x y : A) (left : ℕ) → cond b (Ok x) (Err left) ≡ done y → (b ≡ true) × (x ≡ y)
guard_ok true x y left e = (refl, ok_is x y e)
guard_ok false x y left e = absurd cc

-- a test that was passed, before more is read
pub guard_read : {A : Type 0} (b : Bool) (read : Result A ℕ) (y : A) (left : ℕ) → cond b read (Err left) ≡ Ok y → (b ≡ true) × (read ≡ Ok y)
guard_read true read y left e = (refl, e)
guard_read false read y left e = absurd cc

-- a test that would have refused
pub short_ok : {A : Type 0} (b : Bool) (x y : A) (left : ℕ) → cond b (Err left) (Ok x) ≡ done y → (b ≡ false) × (x ≡ y)
short_ok true x y left e = absurd cc
short_ok false x y left e = (refl, ok_is x y e)

-- which way a choice went
pub chosen : {X : Type 0} (b : Bool) (x y z : X) → cond b x y ≡ z → ((b ≡ true) × (x ≡ z)) ⊎ ((b ≡ false) × (y ≡ z))
chosen true x y z e = inl (refl, e)
chosen false x y z e = inr (refl, e)

-- ---- a chain of fields, one line a field

-- reads on after a field
pub step : {A X P : Type 0} {read : List ℕ → Read A} {spell : A → List ℕ} {Keeps : A → Type 0} (field : IsField read spell Keeps) {more : A → List ℕ → Result X ℕ} (bytes : List ℕ) (y : X) → IsBytes bytes → (read bytes >>= more) ≡ Ok y
    → ((x : A) (rest : List ℕ) → Takes bytes (spell x) rest → Keeps x → more x rest ≡ Ok y → P) → P
step {A} {X} {P} {read} field {more} bytes y fits e go =
    let b = bind_ok (read bytes) more y e in
    let t = field.takes bytes b.0 b.1 fits b.2 in
    go b.0 b.1 t.0 t.1 b.3

-- reads a field's spelling again, and goes on
pub again_step : {A X : Type 0} {read : List ℕ → Read A} {spell : A → List ℕ} {Keeps : A → Type 0} (field : IsField read spell Keeps) (more : A → List ℕ → Result X ℕ) (rest : List ℕ) {y : Result X ℕ} (x : A) → Keeps x → more x rest ≡ y → (read (spell x ++ rest) >>= more) ≡ y
again_step {A} field more rest x keeps e = ap (λ (r : Read A). r >>= more) (field.again x rest keeps) ∙ e

-- one text after the other
infixr 5 ◌▷◌
pub ◌▷◌ : {a x b y c : List ℕ} → Takes a x b → Takes b y c → Takes a (x ++ y) c
◌▷◌ {a} {x} {b} {y} {c} p q = record { parts = p.parts ∙ ap (λ (t : List ℕ). x ++ t) q.parts ∙ sym (append_assoc x y c); rest_fits = q.rest_fits }

-- no text at all
pub none : {bytes : List ℕ} → IsBytes bytes → Takes bytes [] bytes
none fits = record { parts = refl; rest_fits = fits }

-- fields one after another, before a rest
abbrev pub before : List (List ℕ) → List ℕ → List ℕ
before [] rest = rest
before (field ∷ fields) rest = field ++ before fields rest

-- fields and a rest, regrouped for reading
pub joined-append : (fields : List (List ℕ)) (rest : List ℕ) → joined fields ++ rest ≡ before fields rest
joined-append [] rest = refl
joined-append (field ∷ fields) rest = append_assoc field (joined fields) rest ∙ ap (λ (t : List ℕ). field ++ t) (joined-append fields rest)

-- ---- fields made of fields

-- the same field, by another fact on its values
pub kept_by : {A : Type 0} {read : List ℕ → Read A} {spell : A → List ℕ} {Keeps Other : A → Type 0} → IsField read spell Keeps → ((x : A) → Keeps x → Other x) → ((x : A) → Other x → Keeps x) → IsField read spell Other
kept_by field to from = record {
  takes = λ bytes x rest fits e. let t = field.takes bytes x rest fits e in (t.0, to x t.1);
  again = λ x rest other. field.again x rest (from x other);
}

-- a field whose values pass a test
pub checked_field : {A : Type 0} {read : List ℕ → Read A} {spell : A → List ℕ} {Keeps : A → Type 0} (test : A → Bool) → IsField read spell Keeps → IsField (checked test read) spell (λ x. Keeps x × (test x ≡ true))
unfolding checked
checked_field {A} {read} {spell} {Keeps} test field = record {
  takes = λ bytes x rest fits e.
      step field bytes (x, rest) fits e λ y rest' t keeps e'.
      let g = guard_ok (test y) (y, rest') (x, rest) (length bytes) e' in
      subst (λ (p : A × List ℕ). Takes bytes (spell p.0) p.1 × (Keeps p.0 × (test p.0 ≡ true))) g.1 (t, (keeps, g.0));
  again = λ x rest keeps. again_step field _ _ x keeps.0 (rw keeps.1 refl);
}

-- ---- what follows for each field

-- no spelling is a front of another
pub prefix_free : {A : Type 0} {read : List ℕ → Read A} {spell : A → List ℕ} {Keeps : A → Type 0} → IsField read spell Keeps → (x y : A) (rest : List ℕ) → Keeps x → Keeps y → spell x ++ rest ≡ spell y → (x ≡ y) × (rest ≡ [])
prefix_free {A} {read} {spell} field x y rest kx ky e =
    let both : done (x, rest) ≡ done (y, []) = sym (field.again x rest kx) ∙ ap read (e ∙ sym (append-nil (spell y))) ∙ field.again y [] ky in
    let same : (x, rest) ≡ (y, []) = ok_is (x, rest) (y, []) both in
    (ap (λ (p : A × List ℕ). p.0) same, ap (λ (p : A × List ℕ). p.1) same)

-- a value has its own spelling
pub one_spelling : {A : Type 0} {read : List ℕ → Read A} {spell : A → List ℕ} {Keeps : A → Type 0} → IsField read spell Keeps → (x y : A) → Keeps x → Keeps y → spell x ≡ spell y → x ≡ y
one_spelling {spell} field x y kx ky e = (prefix_free field x y [] kx ky (append-nil (spell x) ∙ e)).0
