-- How many numbers below one pass a test, and when shares agree: with one share more of a slot that isn't complete, as
-- many are over a statement as are wanted, or fewer.
use Rattle.std.proofs.Common.{◌≡◌, ℕ, ◌+◌, ◌<◌, ◌≤◌, Bool, true, false, cond, zero, suc, nat_eq, nat_lt, nat_le, sym, subst, refl, inl, inr, ◌∙◌, arith}
use Rattle.std.proofs.lemmas.Bool.{eqb-true, ltb-true, lt-ltb, le-ltb, leb-true, le-leb, or_parts, cases_eq, cases_lt}
use Rattle.std.specs.Prelude.{◌⊎◌, Option, Some, None}
use Rattle.st_words.specs.declared.statement.Statement.{Statement}
use Rattle.st_seal.specs.declared.quorum.Signed.{Signed}
use Rattle.st_protocol.specs.Keeping.{given}
use Rattle.st_protocol.specs.State.{Here, Share}
use Rattle.st_protocol.specs.Step.{count_below, some_below, servers, quorum, says, agreeing, complete, with_share, completes}
use Rattle.st_protocol.proofs.SameLaws.{same_statement-Decides}

-- ---- over the numbers below one

-- a test as a number
pub one_most : (x : Bool) → cond x 1 0 ≤ 1
one_most true = omega arith
one_most false = omega arith

-- a stronger test counts no more
one_less : (x y : Bool) → (x ≡ true → y ≡ true) → cond x 1 0 ≤ cond y 1 0
one_less true true h = omega arith
one_less true false h = absurd (let no : false ≡ true = h refl in cc)
one_less false y h = omega arith

-- a test that is passed counts one
one_true : (x : Bool) → x ≡ true → 1 ≤ cond x 1 0
one_true true e = omega arith
one_true false e = absurd (let no : false ≡ true = e in cc)

-- A stronger test is passed by no more;
pub fewer_below : (a b : ℕ → Bool) → ((i : ℕ) → a i ≡ true → b i ≡ true) → (k : ℕ) → count_below a k ≤ count_below b k
unfolding count_below
fewer_below a b h zero = omega arith
fewer_below a b h (suc k) =
    let before : count_below a k ≤ count_below b k = fewer_below a b h k in
    let last : cond (a k) 1 0 ≤ cond (b k) 1 0 = one_less (a k) (b k) (h k) in
    omega (arith, before, last)

-- and by one more at most, where one number is apart.
pub one_more_below : (a b : ℕ → Bool) (at : ℕ) → ((i : ℕ) → nat_eq at i ≡ false → a i ≡ true → b i ≡ true) → (k : ℕ) → count_below a k ≤ count_below b k + cond (nat_lt at k) 1 0
unfolding count_below
one_more_below a b at h zero = omega arith
one_more_below a b at h (suc k) = by (nat_eq at k) refl (one_more_below a b at h k)
  where
    later : cond (nat_lt at k) 1 0 ≤ cond (nat_lt at (suc k)) 1 0
    later = one_less (nat_lt at k) (nat_lt at (suc k)) (λ e. let less = ltb-true at k e in lt-ltb at (suc k) (omega (arith, less)))

    by : (c : Bool) → nat_eq at k ≡ c → count_below a k ≤ count_below b k + cond (nat_lt at k) 1 0 → count_below a k + cond (a k) 1 0 ≤ count_below b k + cond (b k) 1 0 + cond (nat_lt at (suc k)) 1 0
    by true e before =
        let is : at ≡ k = eqb-true at k e in
        let none : nat_lt at k ≡ false = le-ltb at k (omega (arith, is)) in
        let one : 1 ≤ cond (nat_lt at (suc k)) 1 0 = one_true (nat_lt at (suc k)) (lt-ltb at (suc k) (omega (arith, is))) in
        let old : count_below a k ≤ count_below b k + 0 = subst (λ c. count_below a k ≤ count_below b k + cond c 1 0) none before in
        let last = one_most (a k) in
        omega (arith, old, one, last)
    by false e before = let last : cond (a k) 1 0 ≤ cond (b k) 1 0 = one_less (a k) (b k) (h k e) in omega (arith, before, later, last)

-- a number that passes, where some do
some_found : (test : ℕ → Bool) (k : ℕ) → 1 ≤ count_below test k → (i : ℕ) × ((i < k) × (test i ≡ true))
unfolding count_below
some_found test zero e = absurd (omega (arith, e))
some_found test (suc k) e = by (test k) refl (some_found test k)
  where
    by : (c : Bool) → test k ≡ c → (1 ≤ count_below test k → (i : ℕ) × ((i < k) × (test i ≡ true))) → (i : ℕ) × ((i < suc k) × (test i ≡ true))
    by true is below = (k, (omega arith, is))
    by false is below =
        let fewer : 1 ≤ count_below test k + 0 = subst (λ c. 1 ≤ count_below test k + cond c 1 0) is e in
        let found = below (omega (arith, fewer)) in
        let less = found.1.0 in
        (found.0, (omega (arith, less), found.1.1))

-- none passes, where not some do
none_below : (test : ℕ → Bool) (k : ℕ) → some_below test k ≡ false → (i : ℕ) → i < k → test i ≡ false
unfolding some_below
none_below test zero e i less = absurd (omega (arith, less))
none_below test (suc k) e i less = by (cases_eq i k) (none_below test k (or_parts (some_below test k) (test k) e).0 i)
  where
    by : (i ≡ k) ⊎ (i ≡ k → ⊥) → (i < k → test i ≡ false) → test i ≡ false
    by (inl is) below = subst (λ n. test n ≡ false) (sym is) (or_parts (some_below test k) (test k) e).1
    by (inr other) below = below (lower (cases_lt i k))
      where
        lower : (i < k) ⊎ (k ≤ i) → i < k
        lower (inl under) = under
        lower (inr above) = absurd (other (omega (arith, above, less)))

-- ---- shares of a slot

module _ (here : Here) (shares : ℕ → Option Share) (s : Statement) where
  -- of a slot that isn't complete, fewer agree than are wanted
  few_agree : complete here shares ≡ false → agreeing here shares s < quorum here
  unfolding complete agreeing
  few_agree e = by (cases_lt (count_below (λ i. says s (shares i)) (servers here)) (quorum here))
    where
      agree : ℕ
      agree = count_below (λ i. says s (shares i)) (servers here)

      full : (i : ℕ) → (x : Option Share) → quorum here ≤ agree → says s x ≡ true →
          given x false (λ y. nat_le (quorum here) (count_below (λ j. says y.statement (shares j)) (servers here))) ≡ false → ⊥
      full i None many is small = absurd (let bad : false ≡ true = is in cc)
      full i (Some x) many is small =
          let same : x.statement ≡ s = (same_statement-Decides x.statement s).0 is in
          let not_full : nat_le (quorum here) agree ≡ false = subst (λ (t : Statement). nat_le (quorum here) (count_below (λ j. says t (shares j)) (servers here)) ≡ false) same small in
          let bad : true ≡ false = sym (le-leb (quorum here) agree many) ∙ not_full in
          absurd (let no : true ≡ false = bad in cc)

      by : (agree < quorum here) ⊎ (quorum here ≤ agree) → agree < quorum here
      by (inl less) = less
      by (inr many) =
          let found = some_found (λ i. says s (shares i)) (servers here) (omega (arith, many)) in
          absurd (full found.0 (shares found.0) many found.1.1 (none_below (λ i. given (shares i) false (λ y. nat_le (quorum here) (count_below (λ j. says y.statement (shares j)) (servers here)))) (servers here) e found.0 found.1.0))

  -- With a share that completes it, exactly so many agree.
  pub exactly_agree : (signed : Signed) → complete here shares ≡ false → completes here shares s signed ≡ true → agreeing here (with_share shares s signed) s ≡ quorum here
  unfolding agreeing
  exactly_agree signed e done =
      let few : count_below (λ i. says s (shares i)) (servers here) < quorum here = few_agree e in
      let more = one_more_below (λ i. says s (with_share shares s signed i)) (λ i. says s (shares i)) signed.index other (servers here) in
      let most = one_most (nat_lt signed.index (servers here)) in
      let enough : quorum here ≤ count_below (λ i. says s (with_share shares s signed i)) (servers here) = leb-true _ _ done in
      omega (arith, few, more, most, enough)
    where
      other : (i : ℕ) → nat_eq signed.index i ≡ false → says s (with_share shares s signed i) ≡ true → says s (shares i) ≡ true
      other i apart is = subst (λ b. says s (cond b (Some (record { statement = s; seal = signed.seal })) (shares i)) ≡ true) apart is
