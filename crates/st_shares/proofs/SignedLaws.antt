-- The seals over a statement have rising indices.
use Rattle.std.proofs.Common.{◌≡◌, ℕ, zero, suc, ◌+◌, ◌<◌, ◌≤◌, Bool, true, false, cond, Option, Some, None, List, [], ◌∷◌, ◌++◌, All, refl, arith}
use Rattle.std.proofs.lemmas.Bool.{eq-eqb}
use Rattle.std.proofs.lemmas.List.Elements.{All-nil, All-cons, All-append, All-weaker}
use Rattle.st_words.specs.declared.statement.Statement.{Statement}
use Rattle.st_seal.specs.declared.quorum.Signed.{Signed}
use Rattle.st_protocol.specs.Keeping.{given}
use Rattle.st_protocol.specs.Words.{same_statement}
use Rattle.st_protocol.specs.State.{Share}
use Rattle.st_protocol.specs.Step.{signed_at, with_share, all_below}
use Rattle.st_shares.proofs.CountLaws.{same_as_itself}

-- a key's seal has the key as its index
index_at : (s : Statement) (shares : ℕ → Option Share) (k : ℕ) → All (λ (x : Signed). x.index < suc k) (signed_at s shares k)
index_at s shares k = by_entry (shares k)
  where
    by_test : (b : Bool) (x : Signed) → x.index < suc k → All (λ (y : Signed). y.index < suc k) (cond b (x ∷ []) [])
    by_test true x below = All-cons (λ (y : Signed). y.index < suc k) x [] below (All-nil (λ (y : Signed). y.index < suc k))
    by_test false x below = All-nil (λ (y : Signed). y.index < suc k)

    by_entry : (share : Option Share) → All (λ (x : Signed). x.index < suc k) (given share [] (λ y. cond (same_statement y.statement s) (record { index = k; seal = y.seal } ∷ []) []))
    by_entry None = All-nil (λ (y : Signed). y.index < suc k)
    by_entry (Some share) = by_test (same_statement share.statement s) (record { index = k; seal = share.seal }) (omega arith)

pub indices_below : (s : Statement) (shares : ℕ → Option Share) (n : ℕ) → All (λ (x : Signed). x.index < n) (all_below (signed_at s shares) n)
unfolding all_below
indices_below s shares zero = All-nil (λ (x : Signed). x.index < 0)
indices_below s shares (suc k) =
    All-append (λ (x : Signed). x.index < suc k) (all_below (signed_at s shares) k) (signed_at s shares k)
    (All-weaker (λ (x : Signed). x.index < k) (λ (x : Signed). x.index < suc k) (λ x below. omega (arith, below)) (all_below (signed_at s shares) k) (indices_below s shares k))
    (index_at s shares k)

-- the seal of the server whose share it is
pub signed_with_share : (shares : ℕ → Option Share) (s : Statement) (signed : Signed) (k : ℕ)
    → signed.index ≡ k → signed_at s (with_share shares s signed) k ≡ record { index = k; seal = signed.seal } ∷ []
signed_with_share shares s signed k same =
    rw (eq-eqb signed.index k same, same_as_itself s) refl
