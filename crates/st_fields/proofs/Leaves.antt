-- The fields that every format is made of: bytes, numbers, texts and marks.
use Rattle.std.proofs.Common.{◌≡◌, ℕ, suc, ◌+◌, ◌-◌, ◌^◌, ◌<◌, ◌≤◌, true, false, eqb, ltb, leb, List, [], ◌∷◌, ◌++◌, length, take, drop, Ok, refl, sym, ap, subst, ◌∙◌, arith, inl, inr}
use Rattle.std.specs.Int.{Width, w16, w32, w64, byte_len, from_be_bytes, to_be_bytes, is_in_range, IsInRange}
use Rattle.std.specs.List.{starts_with}
use Rattle.std.proofs.lemmas.Bool.Decides.{Decides-eqb}
use Rattle.std.proofs.lemmas.Slice.Eq.{starts_is}
use Rattle.std.proofs.lemmas.Bool.{cases_lt, ltb-false, le-ltb, leb-true, le-leb, and_parts, and_from}
use Rattle.std.proofs.lemmas.List.{take_at, drop_at, take-append-drop, length-append, length-take, get_or-drop, get_or-take, get_or_past}
use Rattle.std.proofs.lemmas.Nat.{be_bytes_2, be_bytes_4, be_bytes_8, from_be_bytes-to_be_bytes_2, from_be_bytes-to_be_bytes_4, from_be_bytes-to_be_bytes_8}
use Rattle.st_fields.specs.Spelling.{byte, number, text}
use Rattle.st_fields.specs.Reading.{Read, ◌>>=◌, byte_at, bytes_at, number_at, checked, byte_in, number_in, number_above, positive_at, text_at, mark_at}
use Rattle.st_fields.proofs.Fields.{IsBytes, Takes, IsField, ok_is, bind_ok, guard_ok, short_ok, step, again_step, ◌▷◌, none, joined-append, kept_by, checked_field}

-- a byte
pub byte_field : IsField byte_at byte (λ n. n < 2 ^ 8)
unfolding byte_at
byte_field = record { takes = byte_takes; again = λ n rest lt. refl }
  where
    byte_takes : (bytes : List ℕ) (n : ℕ) (rest : List ℕ) → IsBytes bytes → byte_at bytes ≡ Ok (n, rest) → Takes bytes (byte n) rest × (n < 2 ^ 8)
    byte_takes [] n rest fits e = absurd cc
    byte_takes (b ∷ bytes) n rest fits e =
        let same = ok_is (b, bytes) (n, rest) e in
        subst (λ (p : ℕ × List ℕ). Takes (b ∷ bytes) (byte p.0) p.1 × (p.0 < 2 ^ 8)) same (record { parts = refl; rest_fits = λ i. fits (suc i) }, fits 0)

-- ---- bytes by their number

-- bytes without their front are bytes
IsBytes-drop : (n : ℕ) (bytes : List ℕ) → IsBytes bytes → IsBytes (drop n bytes)
IsBytes-drop n bytes fits i = rw get_or-drop (fits (n + i))

-- a front of bytes is bytes
IsBytes-take : (n : ℕ) (bytes : List ℕ) → IsBytes bytes → IsBytes (take n bytes)
IsBytes-take n bytes fits i =
    elim (cases_lt i n) [
      | inl lt ↦ rw (get_or-take n bytes i 0 lt) (fits i)
      | inr le ↦ rw (get_or_past (take n bytes) i 0 (omega (arith, length-take n bytes))) (omega arith)
    ]

-- what the next bytes are: as many as asked, each a byte
pub record IsFront (n : ℕ) (bytes front rest : List ℕ) : Type 0 where
  pub taken : Takes bytes front rest
  pub count : length front ≡ n
  pub fits : IsBytes front

-- what is read is the front
pub bytes_at_takes : (n : ℕ) (bytes front rest : List ℕ) → IsBytes bytes → bytes_at n bytes ≡ Ok (front, rest) → IsFront n bytes front rest
unfolding bytes_at
bytes_at_takes n bytes front rest fits e =
    let g = short_ok (ltb (length bytes) n) (take n bytes, drop n bytes) (front, rest) (length bytes) e in
    let long : n ≤ length bytes = ltb-false _ _ g.0 in
    subst (λ (p : List ℕ × List ℕ). IsFront n bytes p.0 p.1) g.1
    (record {
      taken = record { parts = sym (take-append-drop n bytes); rest_fits = IsBytes-drop n bytes fits };
      count = omega (arith, length-take n bytes);
      fits = IsBytes-take n bytes fits;
    })

-- a front of that many bytes is read
pub bytes_at_again : (n : ℕ) (front rest : List ℕ) → length front ≡ n → bytes_at n (front ++ rest) ≡ Ok (front, rest)
unfolding bytes_at
bytes_at_again n front rest count =
    let long : ltb (length (front ++ rest)) n ≡ false = le-ltb _ _ (omega (arith, length-append front rest)) in
    rw (long, take_at front rest n count, drop_at front rest n count) refl

-- ---- numbers

-- what a width keeps: a number below its limit is its bytes, and back
pub record IsWide (w : Width) (limit : ℕ) : Type 0 where
  pub len : (n : ℕ) → length (to_be_bytes w n) ≡ byte_len w
  pub back : (bytes : List ℕ) → length bytes ≡ byte_len w → IsBytes bytes → to_be_bytes w (from_be_bytes w bytes) ≡ bytes
  pub again : (n : ℕ) → n < limit → from_be_bytes w (to_be_bytes w n) ≡ n
  pub below : (bytes : List ℕ) → IsBytes bytes → from_be_bytes w bytes < limit

-- two bytes
pub wide16 : IsWide w16 (2 ^ 16)
wide16 = record {
  len = λ n. refl;
  back = λ bytes len fits. be_bytes_2 bytes _ len fits refl;
  again = λ n lt. from_be_bytes-to_be_bytes_2 n lt;
  below = λ bytes fits. omega (arith, fits 0, fits 1);
}

-- four bytes
pub wide32 : IsWide w32 (2 ^ 32)
wide32 = record {
  len = λ n. refl;
  back = λ bytes len fits. be_bytes_4 bytes _ len fits refl;
  again = λ n lt. from_be_bytes-to_be_bytes_4 n lt;
  below = λ bytes fits. omega (arith, fits 0, fits 1, fits 2, fits 3);
}

-- eight bytes
pub wide64 : IsWide w64 (2 ^ 64)
wide64 = record {
  len = λ n. refl;
  back = λ bytes len fits. be_bytes_8 bytes _ len fits refl;
  again = λ n lt. from_be_bytes-to_be_bytes_8 n lt;
  below = λ bytes fits. omega (arith, fits 0, fits 1, fits 2, fits 3, fits 4, fits 5, fits 6, fits 7);
}

-- a number of a width
pub number_field : (w : Width) (limit : ℕ) → IsWide w limit → IsField (number_at w) (number w) (λ n. n < limit)
unfolding number_at number
number_field w limit wide = record {
  takes = λ bytes n rest fits e.
      let b = bind_ok (bytes_at (byte_len w) bytes) (λ front rest'. Ok (from_be_bytes w front, rest')) (n, rest) e in
      let f = bytes_at_takes (byte_len w) bytes b.0 b.1 fits b.2 in
      subst (λ (p : ℕ × List ℕ). Takes bytes (to_be_bytes w p.0) p.1 × (p.0 < limit)) (ok_is _ (n, rest) b.3)
      (rw (wide.back b.0 f.count f.fits) f.taken, wide.below b.0 f.fits);
  again = λ n rest lt.
      ap (λ (r : Read (List ℕ)). r >>= λ front rest'. Ok (from_be_bytes w front, rest')) (bytes_at_again (byte_len w) (to_be_bytes w n) rest (wide.len n))
      ∙ ap (λ (m : ℕ). Ok (m, rest)) (wide.again n lt);
}

-- a number of two bytes
pub u16_field : IsField (number_at w16) (number w16) (λ n. n < 2 ^ 16)
u16_field = number_field w16 (2 ^ 16) wide16

-- a number of four bytes
pub u32_field : IsField (number_at w32) (number w32) (λ n. n < 2 ^ 32)
u32_field = number_field w32 (2 ^ 32) wide32

-- a number of eight bytes
pub u64_field : IsField (number_at w64) (number w64) (λ n. n < 2 ^ 64)
u64_field = number_field w64 (2 ^ 64) wide64

-- ---- ranges

-- what the test of a range says
pub is_in_range-true : (least most n : ℕ) → is_in_range least most n ≡ true → IsInRange least most n
is_in_range-true least most n e =
    let parts = and_parts (leb least n) (leb n most) e in
    (leb-true least n parts.0, leb-true n most parts.1)

-- and what passes it
pub is_in_range-from : (least most n : ℕ) → IsInRange least most n → is_in_range least most n ≡ true
is_in_range-from least most n within = and_from (leb least n) (leb n most) (le-leb least n within.0) (le-leb n most within.1)

-- a field of numbers, from least to most
in_range_field : {read : List ℕ → Read ℕ} {spell : ℕ → List ℕ} {Keeps : ℕ → Type 0} (least most : ℕ) → IsField read spell Keeps → IsField (checked (is_in_range least most) read) spell (λ n. Keeps n × IsInRange least most n)
in_range_field least most field =
    kept_by (checked_field (is_in_range least most) field) (λ n keeps. (keeps.0, is_in_range-true least most n keeps.1)) (λ n keeps. (keeps.0, is_in_range-from least most n keeps.1))

-- a byte from least to most
pub byte_in_field : (least most : ℕ) → IsField (byte_in least most) byte (λ n. (n < 2 ^ 8) × IsInRange least most n)
unfolding byte_in
byte_in_field least most = in_range_field least most byte_field

-- a number of two bytes from least to most
pub u16_in_field : (least most : ℕ) → IsField (number_in w16 least most) (number w16) (λ n. (n < 2 ^ 16) × IsInRange least most n)
unfolding number_in
u16_in_field least most = in_range_field least most u16_field

-- a number of four bytes from least to most
pub u32_in_field : (least most : ℕ) → IsField (number_in w32 least most) (number w32) (λ n. (n < 2 ^ 32) × IsInRange least most n)
unfolding number_in
u32_in_field least most = in_range_field least most u32_field

-- a number of four bytes above low, and at most most
pub u32_above_field : (low most : ℕ) → IsField (number_above w32 low most) (number w32) (λ n. (n < 2 ^ 32) × (low < n) × (n ≤ most))
u32_above_field low most = kept_by (u32_in_field (low + 1) most) (λ n keeps. (keeps.0, omega arith, keeps.1.1)) (λ n keeps. (keeps.0, (omega arith, keeps.2)))

-- a number of four bytes, at least 1
pub positive_field : IsField positive_at (number w32) (λ n. (n < 2 ^ 32) × (1 ≤ n))
unfolding positive_at
positive_field = kept_by (u32_above_field 0 (2 ^ 32 - 1)) (λ n keeps. (keeps.0, keeps.1)) (λ n keeps. (keeps.0, keeps.1, omega arith))

-- ---- texts and marks

-- from least to most bytes behind their number
pub text_field : (least most : ℕ) → most < 2 ^ 16 → IsField (text_at least most) text (λ bytes. IsInRange least most (length bytes))
unfolding text_at text
text_field least most below = record {
  takes = λ bytes x rest fits e.
      step (u16_in_field least most) bytes (x, rest) fits e λ n r t keeps e'.
      let f = bytes_at_takes n r x rest t.rest_fits e' in
      (subst (λ (k : ℕ). Takes bytes (number w16 k ++ (x ++ [])) rest) (sym f.count) (t ▷ (f.taken ▷ none f.taken.rest_fits)), rw f.count keeps.1);
  again = λ x rest keeps.
      ap (text_at least most) (joined-append (number w16 (length x) ∷ x ∷ []) rest)
      ∙ again_step (u16_in_field least most) _ _ (length x) (omega arith, keeps) (bytes_at_again (length x) x rest refl);
}

-- just these bytes
pub mark_field : (mark : List ℕ) → IsField (mark_at mark) (λ _. mark) (λ _. Unit {0})
unfolding mark_at
mark_field mark = record {
  takes = λ bytes x rest fits e.
      let g = guard_ok (starts_with eqb bytes mark) (tt, drop (length mark) bytes) (x, rest) (length bytes) e in
      let parts : bytes ≡ mark ++ drop (length mark) bytes = (starts_is Decides-eqb bytes mark true (sym g.0)).0 refl in
      subst (λ (p : Unit {0} × List ℕ). Takes bytes mark p.1 × Unit {0}) g.1 (record { parts = parts; rest_fits = IsBytes-drop (length mark) bytes fits }, tt);
  again = λ x rest keeps.
      let begins : starts_with eqb (mark ++ rest) mark ≡ true = (starts_is Decides-eqb (mark ++ rest) mark _ refl).1 rest refl in
      rw (begins, drop_at mark rest (length mark) refl) refl;
}
