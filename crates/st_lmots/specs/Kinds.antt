-- The parameter sets of LM-OTS over SHA-256 with digests of 32 bytes (RFC 8554, section 4.1).
use Rattle.std.specs.Prelude.{ℕ, ◌+◌, ◌-◌, ◌*◌, ◌^◌, ◌==◌, Option, Some, None, if◌then◌else◌}
use Rattle.st_lmots.specs.declared.kind.OtsKind.{OtsKind}
use Rattle.st_lmots.specs.declared.kind.OtsKind.TheVariants.{W1, W2, W4, W8}

-- the number that stands for the set in keys and signatures
abbrev pub number_of : OtsKind → ℕ
number_of W1 = 1
number_of W2 = 2
number_of W4 = 3
number_of W8 = 4

-- the set that a number stands for
abbrev pub kind_of : ℕ → Option OtsKind
kind_of n = if n == 1 then Some W1 else if n == 2 then Some W2 else if n == 3 then Some W4 else if n == 4 then Some W8 else None

-- w: the bits of a digit
abbrev pub width_of : OtsKind → ℕ
width_of W1 = 1
width_of W2 = 2
width_of W4 = 4
width_of W8 = 8

-- p: how many chains there are
abbrev pub chains_of : OtsKind → ℕ
chains_of W1 = 265
chains_of W2 = 133
chains_of W4 = 67
chains_of W8 = 34

-- ls: how far the checksum is shifted to the left
abbrev pub shift_of : OtsKind → ℕ
shift_of W1 = 7
shift_of W2 = 6
shift_of W4 = 4
shift_of W8 = 0

-- the greatest digit, which is how many steps a chain has
abbrev pub top_of : OtsKind → ℕ
top_of kind = 2 ^ width_of kind - 1

-- the bytes of a signature: its type, C, and an element of each chain
abbrev pub seal_length : OtsKind → ℕ
seal_length kind = 36 + 32 * chains_of kind
