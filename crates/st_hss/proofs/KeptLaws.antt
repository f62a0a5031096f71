-- The second trees that are kept.
use Rattle.std.proofs.Common.{◌≡◌, ℕ, ◌*◌, ◌^◌, ◌<◌, ◌≤◌, List, Option, None, sym, ap, ◌∙◌, arith}
use Rattle.std.proofs.Math.Nat.{mul-le-mul_left}
use Rattle.st_lms.specs.declared.secret.LmsSecret.{LmsSecret}
use Rattle.st_lms.specs.Kinds.{leaves_of}
use Rattle.st_lms.specs.TreeSecrets.{secret_of}
use Rattle.st_tables.specs.Entries.{entry}
use Rattle.st_hss.specs.declared.second.Second.{Second}
use Rattle.st_hss.specs.Formulas.{second_secret}
use Rattle.st_hss.specs.Kept.{IsSecond, KeepsSeconds}

-- none is kept of a table without entries
pub none_kept : (s : LmsSecret) (seconds : List (Option Second)) → ((k : ℕ) → entry seconds k ≡ None) → KeepsSeconds s seconds
none_kept s seconds empty q second there = absurd (let no = sym there ∙ empty q in cc)

-- the square of few leaves
pub square_few : (n : ℕ) → n ≤ 1024 → n * n < 2 ^ 32
square_few n few =
    let once : n * n ≤ n * 1024 = mul-le-mul_left n few in
    omega arith

-- a second tree has as many leaves as the first
pub leaves_of_second : (s : LmsSecret) (q : ℕ) (second : Second) → IsSecond s q second → leaves_of (secret_of second.tree).kind ≡ leaves_of s.kind
unfolding second_secret
leaves_of_second s q second is = ap (λ (own : LmsSecret). leaves_of own.kind) is.tree
