-- The second trees that are kept, each with what stands before its signatures.
use Rattle.std.specs.Prelude.{◌≡◌, ℕ, List, Option, Some}
use Rattle.st_lms.specs.declared.secret.LmsSecret.{LmsSecret}
use Rattle.st_lms.specs.TreeSecrets.{secret_of}
use Rattle.st_tables.specs.Entries.{entry}
use Rattle.st_hss.specs.declared.second.Second.{Second}
use Rattle.st_hss.specs.Formulas.{second_secret, second_front}

-- this is the second tree under leaf q of the first
pub record IsSecond (s : LmsSecret) (q : ℕ) (second : Second) : Type 0 where
  pub front : second.front ≡ second_front s q
  pub tree : secret_of second.tree ≡ second_secret s q

-- each kept one is that of its leaf
abbrev pub KeepsSeconds : LmsSecret → List (Option Second) → Type 0
KeepsSeconds s seconds = (q : ℕ) (second : Second) → entry seconds q ≡ Some second → IsSecond s q second
