-- What a check answers, and why a signature is refused.
use Rattle.std.specs.Prelude.{ℕ, ◌+◌, List, take, drop, Bool, true, ◌==◌, ◌&&◌, nat_eq, nat_lt, length, Option, Some, None, is_some, Result, Ok, Err, if◌then◌else◌}
use Rattle.std.specs.Int.{w32, from_be_bytes}
use Rattle.std.specs.Cmp.Lexicographic.{pointwise}
use Rattle.st_lmots.specs.declared.kind.OtsKind.{OtsKind}
use Rattle.st_lmots.specs.Kinds.{kind_of, seal_length}
use Rattle.st_lmots.specs.Answers.{number_in_front}
use Rattle.st_lms.specs.declared.kind.LmsKind.{LmsKind}
use Rattle.st_lms.specs.declared.error.LmsError.{LmsError}
use Rattle.st_lms.specs.declared.error.LmsError.TheVariants.{BadType, BadLength, BadLeaf}
use Rattle.st_lms.specs.Kinds.{lms_kind_of, leaves_of, key_length, lms_seal_length}
use Rattle.st_lms.specs.Formulas.{root_candidate}

-- ---- types

-- whether a type is this one, where there is one to compare it with
abbrev pub is_same_type : Option ℕ → ℕ → Bool
is_same_type None n = true
is_same_type (Some known) n = n == known

-- a type that the bytes hold, where it is none of the table's or another than the one to compare it with
abbrev pub refused_lms : Option ℕ → Option ℕ → Option ℕ
refused_lms known None = None
refused_lms known (Some n) = if is_some (lms_kind_of n) && is_same_type known n then None else Some n

abbrev pub refused_ots : Option ℕ → Option ℕ → Option ℕ
refused_ots known None = None
refused_ots known (Some n) = if is_some (kind_of n) && is_same_type known n then None else Some n

-- the first, or else the second
abbrev pub first_of : Option ℕ → Option ℕ → Option ℕ
first_of None other = other
first_of (Some n) other = Some n

-- the set of a type that the bytes hold
abbrev pub ots_named : Option ℕ → Option OtsKind
ots_named None = None
ots_named (Some n) = kind_of n

abbrev pub lms_named : Option ℕ → Option LmsKind
lms_named None = None
lms_named (Some n) = lms_kind_of n

-- the types in front of a key, and of a signature behind its leaf
abbrev pub kind_in : List ℕ → Option ℕ
kind_in key = number_in_front key

abbrev pub ots_in : List ℕ → Option ℕ
ots_in bytes = number_in_front (drop 4 bytes)

-- how long the signatures of a key are, where it holds two types of the tables
abbrev pub length_by_kinds : Option LmsKind → Option OtsKind → Option ℕ
length_by_kinds None ots = None
length_by_kinds (Some kind) None = None
length_by_kinds (Some kind) (Some ots) = Some (lms_seal_length kind ots)

unfoldable pub signature_length : List ℕ → Option ℕ
signature_length key = length_by_kinds (lms_named (kind_in key)) (ots_named (ots_in key))

-- the type in a signature stands behind a leaf's signature of that type
abbrev pub kind_behind : Option OtsKind → List ℕ → Option ℕ
kind_behind None signature = None
kind_behind (Some ots) signature = number_in_front (drop (4 + seal_length ots) signature)

-- the first type that is none of its table or, in the signature, another than the key's: of the key's
-- types, then of the signature's
unfoldable pub bad_type : List ℕ → List ℕ → Option ℕ
bad_type key signature =
    first_of (refused_lms None (kind_in key))
    (first_of (refused_ots None (ots_in key))
    (first_of (refused_ots (ots_in key) (ots_in signature))
    (refused_lms (kind_in key) (kind_behind (ots_named (ots_in signature)) signature))))

-- ---- lengths, leaves, the root

-- a signature of the key's types is refused for its length or its leaf, or else its root is compared
unfoldable pub whole_answer : LmsKind → OtsKind → List ℕ → List ℕ → List ℕ → Result Bool LmsError
whole_answer kind ots key message signature =
    let q = from_be_bytes w32 (take 4 signature) in
    if length signature == lms_seal_length kind ots then (if nat_lt q (leaves_of kind) then Ok (pointwise nat_eq (root_candidate kind ots (take 16 (drop 8 key)) q message signature) (drop 24 key)) else Err (BadLeaf q)) else Err (BadLength (length signature) (lms_seal_length kind ots))

-- a key of the right length holds both types
abbrev pub answer_by_kinds : Option LmsKind → Option OtsKind → List ℕ → List ℕ → List ℕ → Result Bool LmsError
answer_by_kinds (Some kind) (Some ots) key message signature = if length key == key_length then whole_answer kind ots key message signature else Err (BadLength (length key) key_length)
answer_by_kinds (Some kind) None key message signature = Err (BadLength (length key) key_length)
answer_by_kinds None ots key message signature = Err (BadLength (length key) key_length)

abbrev pub answer_by_type : Option ℕ → Result Bool LmsError → Result Bool LmsError
answer_by_type None answer = answer
answer_by_type (Some got) answer = Err (BadType got)

-- whether the signature is the key's over the message, or the first reason why that can't be asked: a
-- type, the key's length, the signature's, the leaf
unfoldable pub lms_answer : List ℕ → List ℕ → List ℕ → Result Bool LmsError
lms_answer key message signature =
    answer_by_type (bad_type key signature) (answer_by_kinds (lms_named (kind_in key)) (ots_named (ots_in key)) key message signature)
