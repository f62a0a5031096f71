-- Trees whose nodes are kept.
use Rattle.std.specs.Prelude.{◌≡◌, ℕ, ◌*◌, ◌<◌, ◌≤◌, List, length, slice_index_or, Option, Some, None, Result, Ok, Err}
use Rattle.st_lmots.specs.declared.kind.OtsKind.{OtsKind}
use Rattle.st_lms.specs.declared.kind.LmsKind.{LmsKind}
use Rattle.st_lms.specs.declared.secret.LmsSecret.{LmsSecret}
use Rattle.st_lms.specs.declared.error.LmsError.{LmsError}
use Rattle.st_lms.specs.declared.error.LmsError.TheVariants.{BadType}
use Rattle.st_lms.specs.Kinds.{leaves_of, made_kind, made_ots}
use Rattle.st_lms.specs.Formulas.{tree_node}

-- the kept nodes from `from` on are the tree's
abbrev pub IsBuiltFrom : LmsSecret → ℕ → List (List ℕ) → Type 0
IsBuiltFrom s from nodes = (r : ℕ) (d : List ℕ) → from ≤ r → r < 2 * leaves_of s.kind → slice_index_or nodes r d ≡ tree_node s r

-- all nodes are kept, each at its number
pub record IsBuilt (s : LmsSecret) (nodes : List (List ℕ)) : Type 0 where
  pub all : length nodes ≡ 2 * leaves_of s.kind
  pub each : IsBuiltFrom s 1 nodes

-- the secret that a tree of these types has, or the type that none is made of
abbrev pub secret_by_kinds : Option LmsKind → Option OtsKind → ℕ → ℕ → List ℕ → List ℕ → Result LmsSecret LmsError
secret_by_kinds None ots kind_number ots_number i seed = Err (BadType kind_number)
secret_by_kinds (Some kind) None kind_number ots_number i seed = Err (BadType ots_number)
secret_by_kinds (Some kind) (Some ots) kind_number ots_number i seed = Ok (record { kind = kind; ots = ots; i = i; seed = seed })

abbrev pub secret_answer : ℕ → ℕ → List ℕ → List ℕ → Result LmsSecret LmsError
secret_answer kind ots i seed = secret_by_kinds (made_kind kind) (made_ots ots) kind ots i seed
