-- HSS over SHA-256 (RFC 8554, section 6) with one or two levels of the same types, as functions on
-- lists of bytes.
use Rattle.std.specs.Prelude.{ℕ, ◌+◌, ◌*◌, ◌/◌, ◌%◌, List, ◌∷◌, ◌++◌, take, ◌==◌, Option, Some, None, if◌then◌else◌}
use Rattle.std.specs.Int.{w32}
use Rattle.sha2.specs.Sha256.{sha256}
use Rattle.st_fields.specs.Spelling.{number}
use Rattle.st_lmots.specs.declared.kind.OtsKind.{OtsKind}
use Rattle.st_lmots.specs.declared.kind.OtsKind.TheVariants.{W4, W8}
use Rattle.st_lms.specs.declared.kind.LmsKind.{LmsKind}
use Rattle.st_lms.specs.declared.kind.LmsKind.TheVariants.{H5, H10}
use Rattle.st_lms.specs.declared.secret.LmsSecret.{LmsSecret}
use Rattle.st_lms.specs.Kinds.{leaves_of, key_length, lms_seal_length}
use Rattle.st_lms.specs.Formulas.{lms_key, lms_signature}
use Rattle.st_hss.specs.declared.secret.Levels.{Levels}
use Rattle.st_hss.specs.declared.secret.Levels.TheVariants.{One, Two}
use Rattle.st_hss.specs.declared.secret.HssSecret.{HssSecret}

-- ---- keys

-- L
abbrev pub number_of_levels : Levels → ℕ
number_of_levels One = 1
number_of_levels Two = 2

-- the public key: L, and the first tree's
unfoldable pub hss_key : HssSecret → List ℕ
hss_key s = number w32 (number_of_levels s.levels) ++ lms_key s.first

-- the second tree under leaf q of the first: of the same types, from the first's seed
unfoldable pub second_secret : LmsSecret → ℕ → LmsSecret
second_secret s q = record {
  kind = s.kind;
  ots = s.ots;
  i = take 16 (sha256 ((4 ∷ s.seed) ++ number w32 q));
  seed = sha256 ((3 ∷ s.seed) ++ number w32 q);
}

-- how many seals there are
abbrev pub capacity_by_levels : Levels → LmsSecret → ℕ
capacity_by_levels One s = leaves_of s.kind
capacity_by_levels Two s = leaves_of s.kind * leaves_of s.kind

abbrev pub capacity_of : HssSecret → ℕ
capacity_of s = capacity_by_levels s.levels s.first

-- ---- signatures

-- what stands before the last signature: how many keys are signed, and the second key with the signature
-- of leaf q of the first over it
unfoldable pub second_front : LmsSecret → ℕ → List ℕ
second_front s q =
    let key = lms_key (second_secret s q) in
    number w32 1 ++ lms_signature s q key ++ key

-- the signature of a message with an index: the leaf of the one tree, or the first tree's leaf and the
-- second's
abbrev pub signature_by_levels : Levels → LmsSecret → ℕ → List ℕ → List ℕ
signature_by_levels One s index message = number w32 0 ++ lms_signature s index message
signature_by_levels Two s index message = second_front s (index / leaves_of s.kind) ++ lms_signature (second_secret s (index / leaves_of s.kind)) (index % leaves_of s.kind) message

unfoldable pub hss_signature : HssSecret → ℕ → List ℕ → List ℕ
hss_signature s index message = signature_by_levels s.levels s.first index message

-- the bytes of a signature: how many keys are signed, and a tree's signature for each level, with the second
-- key between two
abbrev pub length_by_levels : Levels → LmsSecret → ℕ
length_by_levels One s = 4 + lms_seal_length s.kind s.ots
length_by_levels Two s = 4 + lms_seal_length s.kind s.ots + key_length + lms_seal_length s.kind s.ots

abbrev pub hss_seal_length : HssSecret → ℕ
hss_seal_length s = length_by_levels s.levels s.first

-- ---- the choices

-- trees of height 5 or 10
abbrev pub kind_of_height : ℕ → Option LmsKind
kind_of_height n = if n == 5 then Some H5 else if n == 10 then Some H10 else None

-- digits of 4 or 8 bits
abbrev pub ots_of_width : ℕ → Option OtsKind
ots_of_width n = if n == 4 then Some W4 else if n == 8 then Some W8 else None

-- one or two levels
abbrev pub levels_of : ℕ → Option Levels
levels_of n = if n == 1 then Some One else if n == 2 then Some Two else None

abbrev pub secret_by_choices : Option LmsKind → Option OtsKind → Option Levels → List ℕ → List ℕ → Option HssSecret
secret_by_choices None ots levels i seed = None
secret_by_choices (Some kind) None levels i seed = None
secret_by_choices (Some kind) (Some ots) None i seed = None
secret_by_choices (Some kind) (Some ots) (Some levels) i seed = Some (record { levels = levels; first = record { kind = kind; ots = ots; i = i; seed = seed } })

-- what a key of these choices is made from; None where one is no choice
abbrev pub secret_for : ℕ → ℕ → ℕ → List ℕ → List ℕ → Option HssSecret
secret_for height width levels i seed = secret_by_choices (kind_of_height height) (ots_of_width width) (levels_of levels) i seed
