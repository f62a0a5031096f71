-- What is sealed checks.
use Rattle.std.proofs.Common.{◌≡◌, ℕ, ◌/◌, ◌%◌, ◌+◌, ◌^◌, ◌<◌, ◌≤◌, List, ◌∷◌, ◌++◌, true, length, Some, refl, ap, ◌∙◌, arith, append_assoc}
use Rattle.std.specs.Int.{w32}
use Rattle.std.proofs.lemmas.List.{length-append, take_at, drop_at, length-take-le}
use Rattle.std.proofs.lemmas.Nat.{div_below}
use Rattle.sha2.specs.Sha256.{sha256}
use Rattle.sha2.proofs.Facts256.{length-sha256}
use Rattle.st_fields.specs.Spelling.{number}
use Rattle.st_lmots.proofs.SealLaws.{length-number, type_again}
use Rattle.st_lms.specs.declared.kind.LmsKind.{LmsKind}
use Rattle.st_lms.specs.declared.kind.LmsKind.TheVariants.{H5, H10, H15, H20, H25}
use Rattle.st_lms.specs.declared.secret.LmsSecret.{LmsSecret}
use Rattle.st_lms.specs.Kinds.{leaves_of, lms_seal_length}
use Rattle.st_lms.specs.Formulas.{lms_key, lms_signature}
use Rattle.st_lms.specs.Answers.{signature_length}
use Rattle.st_lms.proofs.SealLaws.{length-lms_key, length-lms_signature, signature_length-lms_key, sealed_checks}
use Rattle.st_hss.specs.declared.secret.Levels.{Levels}
use Rattle.st_hss.specs.declared.secret.Levels.TheVariants.{One, Two}
use Rattle.st_hss.specs.declared.secret.HssSecret.{HssSecret}
use Rattle.st_hss.specs.Formulas.{number_of_levels, hss_key, second_secret, second_front, capacity_of, capacity_by_levels, signature_by_levels, hss_signature, length_by_levels, hss_seal_length}
use Rattle.st_hss.specs.Checks.{is_right, both_check, checks_by_levels, hss_checks}

-- the second tree's identifier has 16 bytes
second_i : (s : LmsSecret) (q : ℕ) → length (second_secret s q).i ≡ 16
unfolding second_secret
second_i s q =
    let wide = length-sha256 ((4 ∷ s.seed) ++ number w32 q) in
    length-take-le 16 _ (let room : 16 ≤ length (sha256 ((4 ∷ s.seed) ++ number w32 q)) = omega arith in room)

-- and its leaves are as many
second_leaves : (s : LmsSecret) (q : ℕ) → leaves_of (second_secret s q).kind ≡ leaves_of s.kind
unfolding second_secret
second_leaves s q = refl

-- a check of what begins with two numbers
by_numbers : (levels signed : ℕ) (key message rest : List ℕ) → levels < 2 ^ 32 → signed < 2 ^ 32 → hss_checks (number w32 levels ++ key) message (number w32 signed ++ rest) ≡ checks_by_levels (Some levels) (Some signed) key message rest
unfolding hss_checks
by_numbers levels signed key message rest few less =
    rw (type_again levels key few, type_again signed rest less, drop_at (number w32 levels) key 4 (length-number levels), drop_at (number w32 signed) rest 4 (length-number signed)) refl

-- one level
one_checks : (s : LmsSecret) (q : ℕ) (message : List ℕ) → length s.i ≡ 16 → q < leaves_of s.kind → hss_checks (number w32 1 ++ lms_key s) message (number w32 0 ++ lms_signature s q message) ≡ true
one_checks s q message wide below =
    by_numbers 1 0 (lms_key s) message (lms_signature s q message) (omega arith) (omega arith)
    ∙ ap is_right (sealed_checks s q message wide below)

-- two signatures with the second key between them
both : (s t : LmsSecret) (q leaf : ℕ) (message : List ℕ) → length s.i ≡ 16 → length t.i ≡ 16 → q < leaves_of s.kind → leaf < leaves_of t.kind → both_check (signature_length (lms_key s)) (lms_key s) message (lms_signature s q (lms_key t) ++ (lms_key t ++ lms_signature t leaf message)) ≡ true
both s t q leaf message wide own below inside =
    let first : List ℕ = lms_signature s q (lms_key t) in
    let last : List ℕ = lms_signature t leaf message in
    let many = length-lms_signature s q (lms_key t) below in
    let long = length-lms_key t own in
    rw (signature_length-lms_key s wide, take_at first (lms_key t ++ last) (lms_seal_length s.kind s.ots) many, drop_at first (lms_key t ++ last) (lms_seal_length s.kind s.ots) many, take_at (lms_key t) last 56 long, drop_at (lms_key t) last 56 long, sealed_checks s q (lms_key t) wide below, sealed_checks t leaf message own inside) refl

-- two levels
two_checks : (s : LmsSecret) (q leaf : ℕ) (message : List ℕ) → length s.i ≡ 16 → q < leaves_of s.kind → leaf < leaves_of s.kind → hss_checks (number w32 2 ++ lms_key s) message (second_front s q ++ lms_signature (second_secret s q) leaf message) ≡ true
unfolding second_front
two_checks s q leaf message wide below inside =
    let t : LmsSecret = second_secret s q in
    let rest : List ℕ = lms_signature s q (lms_key t) ++ (lms_key t ++ lms_signature t leaf message) in
    let parts : ((number w32 1 ++ lms_signature s q (lms_key t)) ++ lms_key t) ++ lms_signature t leaf message ≡ number w32 1 ++ rest = simp append_assoc in
    let there : leaf < leaves_of t.kind = rw (second_leaves s q) inside in
    ap (hss_checks (number w32 2 ++ lms_key s) message) parts
    ∙ (by_numbers 2 1 (lms_key s) message rest (omega arith) (omega arith)
    ∙ both s t q leaf message wide (second_i s q) below there)

-- a tree has leaves
leaves_some : (kind : LmsKind) → 0 < leaves_of kind
leaves_some H5 = omega arith
leaves_some H10 = omega arith
leaves_some H15 = omega arith
leaves_some H20 = omega arith
leaves_some H25 = omega arith

-- by the levels of the key
pub sealed_by_levels : (levels : Levels) (s : LmsSecret) (index : ℕ) (message : List ℕ) → length s.i ≡ 16 → index < capacity_by_levels levels s → hss_checks (number w32 (number_of_levels levels) ++ lms_key s) message (signature_by_levels levels s index message) ≡ true
sealed_by_levels One s index message wide below = one_checks s index message wide below
sealed_by_levels Two s index message wide below =
    let some : 0 < leaves_of s.kind = leaves_some s.kind in
    two_checks s (index / leaves_of s.kind) (index % leaves_of s.kind) message wide (div_below index (leaves_of s.kind) (leaves_of s.kind) some below) (omega arith)

-- what a key seals with an index below its capacity checks under it
pub hss_sealed_checks : (s : HssSecret) (index : ℕ) (message : List ℕ) → length s.first.i ≡ 16 → index < capacity_of s → hss_checks (hss_key s) message (hss_signature s index message) ≡ true
unfolding hss_key hss_signature
hss_sealed_checks s index message wide below = sealed_by_levels s.levels s.first index message wide below

-- ---- lengths

-- a second tree's signatures are as long as the first's
second_length : (s : LmsSecret) (q : ℕ) → lms_seal_length (second_secret s q).kind (second_secret s q).ots ≡ lms_seal_length s.kind s.ots
unfolding second_secret
second_length s q = refl

-- what stands before the last signature of two
length-second_front : (s : LmsSecret) (q : ℕ) → q < leaves_of s.kind → length (second_front s q) ≡ 4 + lms_seal_length s.kind s.ots + 56
unfolding second_front
length-second_front s q below =
    let key : List ℕ = lms_key (second_secret s q) in
    let own = length-lms_key (second_secret s q) (second_i s q) in
    let first = length-lms_signature s q key below in
    omega (arith, length-append (number w32 1 ++ lms_signature s q key) key, length-append (number w32 1) (lms_signature s q key), length-number 1, own, first)

-- by the levels of the key
length_is_by_levels : (levels : Levels) (s : LmsSecret) (index : ℕ) (message : List ℕ) → index < capacity_by_levels levels s → length (signature_by_levels levels s index message) ≡ length_by_levels levels s
length_is_by_levels One s index message below =
    omega (arith, length-append (number w32 0) (lms_signature s index message), length-number 0, length-lms_signature s index message below)
length_is_by_levels Two s index message below =
    let some : 0 < leaves_of s.kind = leaves_some s.kind in
    let q : ℕ = index / leaves_of s.kind in
    let leaf : ℕ = index % leaves_of s.kind in
    let inside : leaf < leaves_of (second_secret s q).kind = rw (second_leaves s q) (let less : index % leaves_of s.kind < leaves_of s.kind = omega arith in less) in
    let first = length-second_front s q (div_below index (leaves_of s.kind) (leaves_of s.kind) some below) in
    let last = length-lms_signature (second_secret s q) leaf message inside in
    omega (arith, length-append (second_front s q) (lms_signature (second_secret s q) leaf message), first, last, second_length s q)

-- a signature is as long as its key's levels and types say
pub length_of_hss_signature : (s : HssSecret) (index : ℕ) (message : List ℕ) → index < capacity_of s → length (hss_signature s index message) ≡ hss_seal_length s
unfolding hss_signature
length_of_hss_signature s index message below = length_is_by_levels s.levels s.first index message below
