-- When a signature has a candidate, and why one has none.
use Rattle.std.specs.Prelude.{ℕ, List, ◌==◌, length, Option, Some, None, Result, Ok, Err, if◌then◌else◌}
use Rattle.std.specs.Int.{w32}
use Rattle.st_fields.specs.Reading.{Read, number_at}
use Rattle.st_lmots.specs.declared.kind.OtsKind.{OtsKind}
use Rattle.st_lmots.specs.declared.error.OtsError.{OtsError}
use Rattle.st_lmots.specs.declared.error.OtsError.TheVariants.{BadType, BadLength}
use Rattle.st_lmots.specs.Kinds.{kind_of, seal_length}
use Rattle.st_lmots.specs.Formulas.{key_candidate}

-- what was read, where it was
abbrev pub value_read : Read ℕ → Option ℕ
value_read (Ok read) = Some read.0
value_read (Err left) = None

-- the number of four bytes in front, as a type is, where the bytes hold one
unfoldable pub number_in_front : List ℕ → Option ℕ
number_in_front bytes = value_read (number_at w32 bytes)

-- a signature of the right type has a candidate where its length is right
abbrev pub candidate_by_length : OtsKind → List ℕ → ℕ → List ℕ → List ℕ → Result (List ℕ) OtsError
candidate_by_length kind i q message signature =
    if length signature == seal_length kind then Ok (key_candidate kind i q message signature) else Err (BadLength (length signature) (seal_length kind))

-- a type that a signature holds has to be that of the key
abbrev pub candidate_by_type : ℕ → Option ℕ → Result (List ℕ) OtsError → Result (List ℕ) OtsError
candidate_by_type number None answer = answer
candidate_by_type number (Some got) answer = if got == number then answer else Err (BadType got)

-- the type of the key has to be one of the four
abbrev pub candidate_by_kind : ℕ → Option OtsKind → List ℕ → ℕ → List ℕ → List ℕ → Result (List ℕ) OtsError
candidate_by_kind number None i q message signature = Err (BadType number)
candidate_by_kind number (Some kind) i q message signature =
    candidate_by_type number (number_in_front signature) (candidate_by_length kind i q message signature)

-- the candidate of a signature for a key of this type, or the first reason why there is none: the
-- key's type, the signature's, its length
unfoldable pub candidate_answer : ℕ → List ℕ → ℕ → List ℕ → List ℕ → Result (List ℕ) OtsError
candidate_answer number i q message signature = candidate_by_kind number (kind_of number) i q message signature
