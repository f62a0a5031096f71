-- What is counted of a slot's shares.
use Rattle.std.specs.Prelude.{ℕ, Bool, true, false, cond, nat_eq, nat_le, Option, None}
use Rattle.st_words.specs.declared.statement.Statement.{Statement}
use Rattle.st_protocol.specs.Keeping.{given}
use Rattle.st_protocol.specs.State.{Share}
use Rattle.st_protocol.specs.Step.{count_below, says}

-- a key that is sure, or has a share over the statement
abbrev pub is_counted : Option ℕ → (ℕ → Option Share) → Statement → ℕ → Bool
is_counted sure shares s i = cond (given sure false (λ k. nat_eq k i)) true (says s (shares i))

-- a key has a share over a statement on which so many of the servers agree
unfoldable pub is_agreed_at : ℕ → ℕ → (ℕ → Option Share) → ℕ → Bool
is_agreed_at servers quorum shares i = given (shares i) false (λ x. nat_le quorum (count_below (is_counted None shares x.statement) servers))
