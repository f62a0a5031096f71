-- What parties seal has from 1 to 5,076 bytes, whatever the leaf: also one that the party doesn't have.
use Rattle.std.proofs.Common.{◌≡◌, ◌∙◌, ap, sym, refl, arith, ℕ, ◌+◌, ◌*◌, ◌/◌, ◌%◌, ◌≤◌, nat_le, Bool, true, false, cond, zero, suc, List, ◌∷◌, ◌++◌, length, take, Some, IsTrue}
use Rattle.std.specs.Int.{w32, IsInRange}
use Rattle.std.proofs.lemmas.List.{length-append, length-take-le}
use Rattle.sha2.specs.Sha256.{sha256}
use Rattle.sha2.proofs.Facts256.{length-sha256}
use Rattle.st_fields.specs.Spelling.{number}
use Rattle.st_words.specs.declared.ids.Who.{Who}
use Rattle.st_words.specs.declared.deployment.SealKind.{SealKind}
use Rattle.st_words.specs.declared.deployment.SealKind.TheVariants.{Keyed, Hss}
use Rattle.st_seal.specs.Scheme.{Scheme}
use Rattle.st_seal.specs.Keyed.{secret_of, sealed_by}
use Rattle.st_seal.specs.KeyedLaws.{length-keyed_seal}
use Rattle.st_lmots.specs.Formulas.{ots_key, ots_signature}
use Rattle.st_lmots.proofs.SealLaws.{length-number, length-ots_signature}
use Rattle.st_lms.specs.declared.secret.LmsSecret.{LmsSecret}
use Rattle.st_lms.specs.Kinds.{lms_number_of, height_of, leaves_of, lms_seal_length}
use Rattle.st_lms.specs.Formulas.{leaf_node, inner_node, tree_node, node_within, lms_key, sibling, path_from, lms_signature}
use Rattle.st_lms.proofs.SealLaws.{length-lms_key}
use Rattle.st_hss.specs.declared.secret.Levels.{Levels}
use Rattle.st_hss.specs.declared.secret.Levels.TheVariants.{One, Two}
use Rattle.st_hss.specs.declared.secret.HssSecret.{HssSecret}
use Rattle.st_hss.specs.Formulas.{second_secret, second_front, signature_by_levels, length_by_levels, hss_signature, hss_seal_length}
use Rattle.st_hss_seal.specs.Keys.{is_choice, identifier_of}
use Rattle.st_hss_seal.specs.Sealing.{hss_sealed_by, seal_by}
use Rattle.st_hss_seal.specs.SealingLaws.{IsMade, party_key}
use Rattle.st_wire.specs.Ranges.{most_seal, KeepsSeal}

-- ---- trees

-- one of two
of_both : (b : Bool) (x y : List ℕ) → length x ≡ 32 → length y ≡ 32 → length (cond b x y) ≡ 32
of_both true x y e f = e
of_both false x y e f = f

-- a leaf and a node above others are digests
length_of_leaf : (i : List ℕ) (r : ℕ) (key : List ℕ) → length (leaf_node i r key) ≡ 32
unfolding leaf_node
length_of_leaf i r key = length-sha256 _

length_of_inner : (i : List ℕ) (r : ℕ) (left right : List ℕ) → length (inner_node i r left right) ≡ 32
unfolding inner_node
length_of_inner i r left right = length-sha256 _

-- so is every node
length_of_node : (s : LmsSecret) (n r : ℕ) → length (node_within s n r) ≡ 32
unfolding node_within
length_of_node s zero r = length_of_leaf s.i r _
length_of_node s (suc n) r = of_both (nat_le (leaves_of s.kind) r) (leaf_node s.i r _) (inner_node s.i r _ _) (length_of_leaf s.i r _) (length_of_inner s.i r _ _)

-- a path has 32 bytes a level
length_of_path : (s : LmsSecret) (n r : ℕ) → length (path_from s n r) ≡ 32 * n
unfolding path_from
length_of_path s zero r = refl
length_of_path s (suc n) r =
    omega (arith, length-append (tree_node s (sibling r)) (path_from s n (r / 2)), length_of_node s (height_of s.kind) (sibling r), length_of_path s n (r / 2))

-- a tree's signature
length_of_lms : (s : LmsSecret) (q : ℕ) (message : List ℕ) → length (lms_signature s q message) ≡ lms_seal_length s.kind s.ots
unfolding lms_signature
length_of_lms s q message =
    let front : List ℕ = number w32 q in
    let own : List ℕ = ots_signature s.ots s.i q s.seed message in
    let mark : List ℕ = number w32 (lms_number_of s.kind) in
    let path : List ℕ = path_from s (height_of s.kind) (leaves_of s.kind + q) in
    omega (
      arith,
      length-append ((front ++ own) ++ mark) path,
      length-append (front ++ own) mark,
      length-append front own,
      length-number q,
      length-ots_signature s.ots s.i q s.seed message,
      length-number (lms_number_of s.kind),
      length_of_path s (height_of s.kind) (leaves_of s.kind + q),
    )

-- ---- levels

-- the identifier of a second tree
length_of_second : (s : LmsSecret) (q : ℕ) → length (second_secret s q).i ≡ 16
unfolding second_secret
length_of_second s q = length-take-le 16 _ (let wide = length-sha256 ((4 ∷ s.seed) ++ number w32 q) in let room : 16 ≤ length (sha256 ((4 ∷ s.seed) ++ number w32 q)) = omega (arith, wide) in room)

-- a second tree's signatures are as long as the first's
second_as_long : (s : LmsSecret) (q : ℕ) → lms_seal_length (second_secret s q).kind (second_secret s q).ots ≡ lms_seal_length s.kind s.ots
unfolding second_secret
second_as_long s q = refl

-- what stands before the last signature of two
length_of_front : (s : LmsSecret) (q : ℕ) → length (second_front s q) ≡ 4 + lms_seal_length s.kind s.ots + 56
unfolding second_front
length_of_front s q =
    let key : List ℕ = lms_key (second_secret s q) in
    omega (
      arith,
      length-append (number w32 1 ++ lms_signature s q key) key,
      length-append (number w32 1) (lms_signature s q key),
      length-number 1,
      length-lms_key (second_secret s q) (length_of_second s q),
      length_of_lms s q key,
    )

-- by the levels of the key
length_of_levels : (levels : Levels) (s : LmsSecret) (index : ℕ) (message : List ℕ) → length (signature_by_levels levels s index message) ≡ length_by_levels levels s
length_of_levels One s index message = omega (arith, length-append (number w32 0) (lms_signature s index message), length-number 0, length_of_lms s index message)
length_of_levels Two s index message =
    let q : ℕ = index / leaves_of s.kind in
    let leaf : ℕ = index % leaves_of s.kind in
    omega (
      arith,
      length-append (second_front s q) (lms_signature (second_secret s q) leaf message),
      length_of_front s q,
      length_of_lms (second_secret s q) leaf message,
      second_as_long s q,
    )

-- a signature
length_of_hss : (s : HssSecret) (index : ℕ) (message : List ℕ) → length (hss_signature s index message) ≡ hss_seal_length s
unfolding hss_signature
length_of_hss s index message = length_of_levels s.levels s.first index message

-- ---- the seals of a party

-- of HSS keys
hss_keeps : (height width levels : ℕ) (s : Scheme) (who : Who) (leaf : ℕ) (bytes : List ℕ) → is_choice (Hss height width levels) ≡ true → KeepsSeal (hss_sealed_by height width levels s who leaf bytes)
unfolding hss_sealed_by
hss_keeps height width levels s who leaf bytes choice =
    let key = party_key s.seed who height width levels choice in
    let secret : HssSecret = key.0 in
    let is : IsMade height levels (identifier_of s.seed who) secret = key.2 in
    let long = length_of_hss secret leaf bytes in
    rw (key.1) (omega (arith, long, is.some), omega (arith, long, is.short))

-- Of both kinds.
pub seals_keep : (kind : SealKind) (s : Scheme) (who : Who) (leaf : ℕ) (bytes : List ℕ) → is_choice kind ≡ true → KeepsSeal (seal_by kind s who leaf bytes)
unfolding sealed_by
seals_keep Keyed s who leaf bytes choice = let e = length-keyed_seal (secret_of s.seed who) leaf bytes in (omega (arith, e), omega (arith, e))
seals_keep (Hss height width levels) s who leaf bytes choice = hss_keeps height width levels s who leaf bytes choice
