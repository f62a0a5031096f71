-- Laws on counting the shares of a slot.
use Rattle.std.proofs.Common.{◌≡◌, ap, ℕ, Bool, true, false, cond, nat_eq, Option, Some, None, refl, arith}
use Rattle.st_words.specs.declared.statement.Statement.{Statement}
use Rattle.st_seal.specs.declared.quorum.Signed.{Signed}
use Rattle.st_protocol.specs.Keeping.{given}
use Rattle.st_protocol.specs.Words.{same_statement}
use Rattle.st_protocol.specs.State.{Here, Share}
use Rattle.st_protocol.specs.Step.{count_below, some_below, servers, quorum, says, agreeing, with_share, complete}
use Rattle.st_shares.specs.Counts.{is_counted, is_agreed_at}
use Rattle.st_protocol.proofs.SameLaws.{same_statement-Decides}

-- a statement is the same as itself
pub same_as_itself : (s : Statement) → same_statement s s ≡ true
same_as_itself s = (same_statement-Decides s s).1 refl

-- a share over the statement counts for its server
says_with_share : (shares : ℕ → Option Share) (s : Statement) (signed : Signed) (i : ℕ)
    → says s (with_share shares s signed i) ≡ cond (nat_eq signed.index i) true (says s (shares i))
says_with_share shares s signed i = by_test (nat_eq signed.index i)
  where
    by_test : (b : Bool) → says s (cond b (Some (record { statement = s; seal = signed.seal })) (shares i)) ≡ cond b true (says s (shares i))
    by_test true = same_as_itself s
    by_test false = refl

pub agreeing_with_share : (h : Here) (shares : ℕ → Option Share) (s : Statement) (signed : Signed)
    → agreeing h (with_share shares s signed) s ≡ count_below (is_counted (Some signed.index) shares s) (servers h)
unfolding agreeing
agreeing_with_share h shares s signed = ap (λ (test : ℕ → Bool). count_below test (servers h)) (λ j i. says_with_share shares s signed i j)

pub complete_by : (h : Here) (shares : ℕ → Option Share) → complete h shares ≡ some_below (is_agreed_at (servers h) (quorum h) shares) (servers h)
unfolding complete agreeing is_agreed_at
complete_by h shares = refl
