-- The parameter sets of LMS over SHA-256 with nodes of 32 bytes (RFC 8554, section 5.1).
use Rattle.std.specs.Prelude.{ℕ, ◌+◌, ◌*◌, ◌^◌, ◌==◌, Option, Some, None, if◌then◌else◌}
use Rattle.st_lmots.specs.declared.kind.OtsKind.{OtsKind}
use Rattle.st_lmots.specs.declared.kind.OtsKind.TheVariants.{W4, W8}
use Rattle.st_lmots.specs.Kinds.{seal_length}
use Rattle.st_lms.specs.declared.kind.LmsKind.{LmsKind}
use Rattle.st_lms.specs.declared.kind.LmsKind.TheVariants.{H5, H10, H15, H20, H25}

-- the number that stands for the set in keys and signatures
abbrev pub lms_number_of : LmsKind → ℕ
lms_number_of H5 = 5
lms_number_of H10 = 6
lms_number_of H15 = 7
lms_number_of H20 = 8
lms_number_of H25 = 9

-- the set that a number stands for
abbrev pub lms_kind_of : ℕ → Option LmsKind
lms_kind_of n = if n == 5 then Some H5 else if n == 6 then Some H10 else if n == 7 then Some H15 else if n == 8 then Some H20 else if n == 9 then Some H25 else None

-- h: how many nodes a path has
abbrev pub height_of : LmsKind → ℕ
height_of H5 = 5
height_of H10 = 10
height_of H15 = 15
height_of H20 = 20
height_of H25 = 25

-- how many leaves a tree has
abbrev pub leaves_of : LmsKind → ℕ
leaves_of kind = 2 ^ height_of kind

-- the bytes of a key: two types, I, and the root
abbrev pub key_length : ℕ
key_length = 56

-- the bytes of a signature: q, the leaf's signature, the type, and the path
abbrev pub lms_seal_length : LmsKind → OtsKind → ℕ
lms_seal_length kind ots = 8 + seal_length ots + 32 * height_of kind

-- the sets that trees are made of: heights 5 and 10, digits of 4 and 8 bits
abbrev pub made_kind : ℕ → Option LmsKind
made_kind n = if n == 5 then Some H5 else if n == 6 then Some H10 else None

abbrev pub made_ots : ℕ → Option OtsKind
made_ots n = if n == 3 then Some W4 else if n == 4 then Some W8 else None
