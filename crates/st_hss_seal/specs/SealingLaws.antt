-- The seals of a deployment keep the laws of a pen.
use Rattle.std.specs.Prelude.{◌≡◌, ℕ, ◌*◌, ◌^◌, ◌<◌, ◌≤◌, List, ◌∷◌, ◌++◌, Bool, true, false, ◌&&◌, ◌||◌, ◌==◌, length, Some, refl}
use Rattle.std.proofs.Common.{◌∙◌, ap, arith, subst, sym}
use Rattle.std.proofs.lemmas.Bool.{and_from, and_parts, eqb-true}
use Rattle.std.proofs.lemmas.List.{length-take-le}
use Rattle.sha2.specs.Sha256.{sha256}
use Rattle.sha2.proofs.Facts256.{length-sha256}
use Rattle.st_words.specs.declared.ids.Who.{Who}
use Rattle.st_words.specs.declared.deployment.SealKind.{SealKind}
use Rattle.st_words.specs.declared.deployment.SealKind.TheVariants.{Keyed, Hss}
use Rattle.st_seal.specs.Scheme.{Scheme, is_party}
use Rattle.st_seal.specs.Pen.{IsSound, most_seal}
use Rattle.st_seal.specs.Keyed.{party_bytes, secret_of}
use Rattle.st_seal.specs.KeyedLaws.{keyed_sound}
use Rattle.st_lmots.specs.declared.kind.OtsKind.{OtsKind}
use Rattle.st_lmots.specs.declared.kind.OtsKind.TheVariants.{W4, W8}
use Rattle.st_lms.specs.declared.kind.LmsKind.{LmsKind}
use Rattle.st_lms.specs.declared.kind.LmsKind.TheVariants.{H5, H10}
use Rattle.st_hss.specs.declared.secret.Levels.{Levels}
use Rattle.st_hss.specs.declared.secret.Levels.TheVariants.{One, Two}
use Rattle.st_hss.specs.declared.secret.HssSecret.{HssSecret}
use Rattle.st_hss.specs.Formulas.{capacity_of, secret_for, hss_seal_length}
use Rattle.st_hss.proofs.SealLaws.{hss_sealed_checks, length_of_hss_signature}
use Rattle.st_hss_seal.specs.Keys.{is_choice, identifier_of, party_secret}
use Rattle.st_hss_seal.specs.Sealing.{hss_holds, hss_sealed_by, pen_by, pen_in}

-- ---- the choices

-- one of two numbers
either : (P : ℕ → Type 0) (n a b : ℕ) → ((n == a) || (n == b)) ≡ true → P a → P b → P n
either P n a b e first second = by_test (n == a) refl e
  where
    by_test : (t : Bool) → (n == a) ≡ t → (t || (n == b)) ≡ true → P n
    by_test true is other = subst P (sym (eqb-true n a is)) first
    by_test false is other = subst P (sym (eqb-true n b other)) second

-- what holds of the eight choices holds of each that is one
by_choice : (P : ℕ → ℕ → ℕ → Type 0) (height width levels : ℕ) → is_choice (Hss height width levels) ≡ true → P 5 4 1 → P 5 4 2 → P 5 8 1 → P 5 8 2 → P 10 4 1 → P 10 4 2 → P 10 8 1 → P 10 8 2 → P height width levels
by_choice P height width levels choice a b c d e f g h =
    let parts = and_parts (((height == 5) || (height == 10)) && ((width == 4) || (width == 8))) _ choice in
    let first = and_parts ((height == 5) || (height == 10)) _ parts.0 in
    either (λ (n : ℕ). P n width levels) height 5 10 first.0
    (either (λ (n : ℕ). P 5 n levels) width 4 8 first.1 (either (P 5 4) levels 1 2 parts.1 a b) (either (P 5 8) levels 1 2 parts.1 c d))
    (either (λ (n : ℕ). P 10 n levels) width 4 8 first.1 (either (P 10 4) levels 1 2 parts.1 e f) (either (P 10 8) levels 1 2 parts.1 g h))

-- what a key of a choice is made from: it has the identifier, its seals are few, and none is long
pub record IsMade (height levels : ℕ) (i : List ℕ) (s : HssSecret) : Type 0 where
  pub own : s.first.i ≡ i
  pub capacity : capacity_of s ≡ 2 ^ (height * levels)
  pub few : capacity_of s ≤ 2 ^ 20
  pub some : 1 ≤ hss_seal_length s
  pub short : hss_seal_length s ≤ most_seal

-- a choice makes one
abbrev pub Makes : List ℕ → List ℕ → ℕ → ℕ → ℕ → Type 0
Makes i seed height width levels = (s : HssSecret) × (secret_for height width levels i seed ≡ Some s) × IsMade height levels i s

-- of these types and levels
of_types : LmsKind → OtsKind → Levels → List ℕ → List ℕ → HssSecret
of_types kind ots levels i seed = record { levels = levels; first = record { kind = kind; ots = ots; i = i; seed = seed } }

-- every choice does
choice_makes : (i seed : List ℕ) (height width levels : ℕ) → is_choice (Hss height width levels) ≡ true → Makes i seed height width levels
unfolding of_types
choice_makes i seed height width levels choice =
    by_choice (Makes i seed) height width levels choice
    (of_types H5 W4 One i seed, refl, record { own = refl; capacity = refl; few = omega arith; some = omega arith; short = omega arith })
    (of_types H5 W4 Two i seed, refl, record { own = refl; capacity = refl; few = omega arith; some = omega arith; short = omega arith })
    (of_types H5 W8 One i seed, refl, record { own = refl; capacity = refl; few = omega arith; some = omega arith; short = omega arith })
    (of_types H5 W8 Two i seed, refl, record { own = refl; capacity = refl; few = omega arith; some = omega arith; short = omega arith })
    (of_types H10 W4 One i seed, refl, record { own = refl; capacity = refl; few = omega arith; some = omega arith; short = omega arith })
    (of_types H10 W4 Two i seed, refl, record { own = refl; capacity = refl; few = omega arith; some = omega arith; short = omega arith })
    (of_types H10 W8 One i seed, refl, record { own = refl; capacity = refl; few = omega arith; some = omega arith; short = omega arith })
    (of_types H10 W8 Two i seed, refl, record { own = refl; capacity = refl; few = omega arith; some = omega arith; short = omega arith })

-- ---- a party's key

-- the identifier has 16 bytes
length-identifier_of : (seed : List ℕ) (who : Who) → length (identifier_of seed who) ≡ 16
unfolding identifier_of
length-identifier_of seed who =
    let wide = length-sha256 ((2 ∷ seed) ++ party_bytes who) in
    length-take-le 16 _ (let room : 16 ≤ length (sha256 ((2 ∷ seed) ++ party_bytes who)) = omega arith in room)

-- a party's key is made from something
pub party_key : (seed : List ℕ) (who : Who) (height width levels : ℕ) → is_choice (Hss height width levels) ≡ true → (s : HssSecret) × (party_secret height width levels seed who ≡ Some s) × IsMade height levels (identifier_of seed who) s
unfolding party_secret
party_key seed who height width levels choice = choice_makes (identifier_of seed who) (secret_of seed who) height width levels choice

-- ---- the laws

-- what a party of HSS seals checks as its own
pub hss_sound : (height width levels : ℕ) (s : Scheme) (who : Who) → is_choice (Hss height width levels) ≡ true → is_party s who ≡ true → IsSound (pen_by (Hss height width levels) s who)
unfolding hss_holds hss_sealed_by
hss_sound height width levels s who choice party =
    let key = party_key s.seed who height width levels choice in
    let secret : HssSecret = key.0 in
    let made : party_secret height width levels s.seed who ≡ Some secret = key.1 in
    let is : IsMade height levels (identifier_of s.seed who) secret = key.2 in
    let wide : length secret.first.i ≡ 16 = ap length is.own ∙ length-identifier_of s.seed who in
    record {
      accepted = λ leaf bytes below.
          let inside : leaf < capacity_of secret = omega (arith, is.capacity) in
          rw made (and_from (is_party s who) _ party (hss_sealed_checks secret leaf bytes wide inside));
      fits = λ leaf bytes below.
          let inside : leaf < capacity_of secret = omega (arith, is.capacity) in
          let long = length_of_hss_signature secret leaf bytes inside in
          rw made (omega (arith, long, is.some), omega (arith, long, is.short));
      few = omega (arith, is.capacity, is.few);
    }

-- of both kinds
sound_by : (kind : SealKind) (s : Scheme) (who : Who) → is_choice kind ≡ true → is_party s who ≡ true → IsSound (pen_by kind s who)
sound_by Keyed s who choice party = keyed_sound s who party
sound_by (Hss height width levels) s who choice party = hss_sound height width levels s who choice party

-- a party's seals keep the laws of a pen
pub pens_are_sound : (s : Scheme) (who : Who) → is_choice s.kind ≡ true → is_party s who ≡ true → IsSound (pen_in s who)
pens_are_sound s who choice party = sound_by s.kind s who choice party
