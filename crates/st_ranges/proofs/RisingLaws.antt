-- What is gathered over the numbers below one rises by them: the quorum of kept shares, and the words of sites.
use Rattle.std.proofs.Common.{◌≡◌, ◌∙◌, ap, sym, subst, refl, ℕ, ◌+◌, ◌*◌, ◌^◌, ◌<◌, ◌≤◌, zero, suc, Bool, true, false, cond, Option, Some, None, List, [], ◌∷◌, ◌++◌, take, append-nil, arith}
use Rattle.std.specs.Prelude.{length, nat_le, nat_eq}
use Rattle.std.specs.Option.{IfSome}
use Rattle.std.specs.List.{AllByRecursion as Each}
use Rattle.std.proofs.lemmas.List.{length-append, length-take-le}
use Rattle.std.proofs.lemmas.List.Elements.{All-from_recursion}
use Rattle.std.proofs.lemmas.Bool.{leb-true}
use Rattle.st_fields.specs.Spelling.{KeepsEach}
use Rattle.st_words.specs.declared.value.Value.{Value}
use Rattle.st_words.specs.declared.statement.Statement.{Statement}
use Rattle.st_seal.specs.declared.quorum.Signed.{Signed}
use Rattle.st_message.specs.declared.message.SiteWord.{SiteWord}
use Rattle.st_wire.specs.declared.rising.Rising.{Rising}
use Rattle.st_wire.specs.Ranges.{KeepsSeal, KeepsQuorum, first, FitsSigned, FitsQuorum, FitsSite}
use Rattle.st_protocol.specs.Words.{Quorum, same_value, same_statement}
use Rattle.st_protocol.specs.Keeping.{given}
use Rattle.st_protocol.specs.State.{Here, Share, Word}
use Rattle.st_protocol.specs.Step.{count_below, all_below, servers, quorum, majority, says, agreeing, with_share, completes, signed_at, quorum_of, completed}
use Rattle.st_protocol.specs.Ordering.{names, site_word}
use Rattle.st_ranges.specs.Ranges.{QuorumInRange, SitesInRange}
use Rattle.st_ranges.proofs.ChoiceLaws.{append_all}

-- what holds of each holds in a weaker form
pub each_weaker : {A : Type 0} (P Q : A → Type 0) → ((x : A) → P x → Q x) → (xs : List A) → Each P xs → Each Q xs
each_weaker P Q give [] h = tt
each_weaker P Q give (x ∷ xs) h = (give x h.0, each_weaker P Q give xs h.1)

module _ {A : Type 0} (key : A → ℕ) (G : A → Type 0) where
  -- an element at least at the place that those before it leave
  abbrev Stands : Rising → A → Type 0
  Stands r a = (r.least ≤ key a) × G a

  -- the place behind it
  abbrev behind : Rising → A → Rising
  behind r a = record { least = key a + 1 }

  -- nothing, or the one element of a place
  abbrev pub AtMostOne : ℕ → List A → Type 0
  AtMostOne i [] = Unit {0}
  AtMostOne i (a ∷ []) = (key a ≡ i) × G a
  AtMostOne i (a ∷ b ∷ more) = ⊥

  -- one more element, above all before it
  rises_last : (r : Rising) (xs : List A) (a : A) (k : ℕ) → r.least ≤ k → key a ≡ k → G a → Each (λ x. key x < k) xs → KeepsEach Stands behind r xs →
      KeepsEach Stands behind r (xs ++ a ∷ [])
  rises_last r [] a k low at g below h = ((omega (arith, low, at), g), tt)
  rises_last r (x ∷ xs) a k low at g below h =
      let head : key x < k = below.0 in
      (h.0, rises_last (behind r x) xs a k (omega (arith, head)) at g below.1 h.1)

  -- What is gathered over the numbers below one.
  pub record Rises (k : ℕ) (xs : List A) : Type 0 where
    pub keeps : KeepsEach Stands behind first xs
    pub below : Each (λ x. key x < k) xs
    pub short : length xs ≤ k

  -- one place more
  rises_more : (k : ℕ) (xs more : List A) → AtMostOne k more → Rises k xs → Rises (suc k) (xs ++ more)
  rises_more k xs [] at h =
      subst (Rises (suc k)) (sym (append-nil xs))
      (record { keeps = h.keeps; below = each_weaker (λ x. key x < k) (λ x. key x < suc k) (λ x less. omega (arith, less)) xs h.below; short = omega (arith, h.short) })
  rises_more k xs (a ∷ []) at h =
      let size : length (xs ++ a ∷ []) ≡ length xs + 1 = length-append xs (a ∷ []) in
      record {
        keeps = rises_last first xs a k (omega arith) at.0 at.1 h.below h.keeps;
        below =
            append_all (λ x. key x < suc k) xs (a ∷ []) (each_weaker (λ x. key x < k) (λ x. key x < suc k) (λ x less. omega (arith, less)) xs h.below)
            (omega (arith, at.0), tt);
        short = omega (arith, size, h.short);
      }
  rises_more k xs (a ∷ b ∷ more) at h = absurd at

  -- all places below a number
  pub rises_below : (f : ℕ → List A) (k : ℕ) → ((i : ℕ) → AtMostOne i (f i)) → Rises k (all_below f k)
  unfolding all_below
  rises_below f zero at = record { keeps = tt; below = tt; short = omega arith }
  rises_below f (suc k) at = rises_more k (all_below f k) (f k) (at k) (rises_below f k at)

  -- the first elements of a rising list
  pub keeps_take : (r : Rising) (n : ℕ) (xs : List A) → KeepsEach Stands behind r xs → KeepsEach Stands behind r (take n xs)
  keeps_take r zero xs h = tt
  keeps_take r (suc n) [] h = tt
  keeps_take r (suc n) (x ∷ xs) h = (h.0, keeps_take (behind r x) n xs h.1)

  -- each element of a rising list
  pub each_kept : (r : Rising) (xs : List A) → KeepsEach Stands behind r xs → Each G xs
  each_kept r [] h = tt
  each_kept r (x ∷ xs) h = (h.0.1, each_kept (behind r x) xs h.1)

-- two things that hold of each
pub each_both : {A : Type 0} (P Q : A → Type 0) (xs : List A) → Each P xs → Each Q xs → Each (λ x. P x × Q x) xs
each_both P Q [] h k = tt
each_both P Q (x ∷ xs) h k = ((h.0, k.0), each_both P Q xs h.1 k.1)

-- the first elements of a list
pub each_take : {A : Type 0} (P : A → Type 0) (n : ℕ) (xs : List A) → Each P xs → Each P (take n xs)
each_take P zero xs h = tt
each_take P (suc n) [] h = tt
each_take P (suc n) (x ∷ xs) h = (h.0, each_take P n xs h.1)

-- as many are gathered as pass the test by which each is
pub as_many : {A : Type 0} (f : ℕ → List A) (test : ℕ → Bool) → ((i : ℕ) → length (f i) ≡ cond (test i) 1 0) → (k : ℕ) → length (all_below f k) ≡ count_below test k
unfolding all_below count_below
as_many f test one zero = refl
as_many f test one (suc k) =
    let size : length (all_below f k ++ f k) ≡ length (all_below f k) + length (f k) = length-append (all_below f k) (f k) in
    let before : length (all_below f k) ≡ count_below test k = as_many f test one k in
    size ∙ ap (λ n. n + length (f k)) before ∙ ap (λ n. count_below test k + n) (one k)

-- ---- a quorum of kept shares

-- the seal of a kept share
abbrev pub ShareInRange : Share → Type 0
ShareInRange x = KeepsSeal x.seal

-- a kept share gives a seal of its place
signed_once : (s : Statement) (shares : ℕ → Option Share) (i : ℕ) → IfSome (shares i) ShareInRange → AtMostOne (λ (x : Signed). x.index) (λ x. KeepsSeal x.seal) i (signed_at s shares i)
signed_once s shares i h = by (shares i) h
  where
    by_same : (x : Share) (b : Bool) → KeepsSeal x.seal →
        AtMostOne (λ (y : Signed). y.index) (λ y. KeepsSeal y.seal) i (cond b (record { index = i; seal = x.seal } ∷ []) [])
    by_same x true h = (refl, h)
    by_same x false h = tt

    by : (x : Option Share) → IfSome x ShareInRange →
        AtMostOne (λ (y : Signed). y.index) (λ y. KeepsSeal y.seal) i (given x [] (λ y. cond (same_statement y.statement s) (record { index = i; seal = y.seal } ∷ []) []))
    by None h = tt
    by (Some x) h = by_same x (same_statement x.statement s) h

-- and counts as one
signed_counts : (s : Statement) (shares : ℕ → Option Share) (i : ℕ) → length (signed_at s shares i) ≡ cond (says s (shares i)) 1 0
signed_counts s shares i = by (shares i)
  where
    by_same : (y : Signed) (b : Bool) → length (cond b (y ∷ []) []) ≡ cond b 1 0
    by_same y true = refl
    by_same y false = refl

    by : (x : Option Share) → length {A = Signed} (given x [] (λ y. cond (same_statement y.statement s) (record { index = i; seal = y.seal } ∷ []) [])) ≡ cond (says s x) 1 0
    by None = refl
    by (Some x) = by_same (record { index = i; seal = x.seal }) (same_statement x.statement s)

-- the shares with one more
with_share_in_range : (shares : ℕ → Option Share) (s : Statement) (signed : Signed) → ((i : ℕ) → IfSome (shares i) ShareInRange) → KeepsSeal signed.seal →
    (i : ℕ) → IfSome (with_share shares s signed i) ShareInRange
with_share_in_range shares s signed all seal i = by (nat_eq signed.index i)
  where
    by : (b : Bool) → IfSome (cond b (Some (record { statement = s; seal = signed.seal })) (shares i)) ShareInRange
    by true = seal
    by false = all i

-- The quorum that a share completes.
pub completed_in_range : (here : Here) (shares : ℕ → Option Share) (s : Statement) (signed : Signed) → 3 * here.seat.f + 1 < 2 ^ 8 → ((i : ℕ) → IfSome (shares i) ShareInRange) →
    KeepsSeal signed.seal → completes here shares s signed ≡ true → QuorumInRange (completed here shares s signed)
unfolding quorum_of agreeing
completed_in_range here shares s signed few all seal done =
    let more : (ℕ → Option Share) = with_share shares s signed in
    let q : List Signed = all_below (signed_at s more) (servers here) in
    let rises : Rises (λ (x : Signed). x.index) (λ x. KeepsSeal x.seal) (servers here) q =
    rises_below (λ (x : Signed). x.index) (λ x. KeepsSeal x.seal) (signed_at s more) (servers here)
    (λ i. signed_once s more i (with_share_in_range shares s signed all seal i))
    in
    let size : length q ≡ count_below (λ i. says s (more i)) (servers here) = as_many (signed_at s more) (λ i. says s (more i)) (signed_counts s more) (servers here) in
    let enough : quorum here ≤ count_below (λ i. says s (more i)) (servers here) = leb-true (quorum here) (count_below (λ i. says s (more i)) (servers here)) done in (
      ((omega (arith, size, enough), omega (arith, rises.short, few)), rises.keeps),
      All-from_recursion FitsSigned q (each_weaker (λ (x : Signed). x.index < servers here) FitsSigned (λ x less. omega (arith, less, few)) q rises.below),
    )

-- ---- words of sites

-- a kept word gives a word of its site, whose quorum is as the kept one's
word_once : (G : Quorum → Type 0) (v : Value) (words : ℕ → Option Word) (s : ℕ) → IfSome (words s) (λ w. G w.quorum) →
    AtMostOne (λ (x : SiteWord). x.site.0) (λ x. G x.quorum) s (site_word v words s)
word_once G v words s h = by (words s) h
  where
    by_same : (w : Word) (b : Bool) → G w.quorum →
        AtMostOne (λ (x : SiteWord). x.site.0) (λ x. G x.quorum) s (cond b (record { site = record { 0 = s }; quorum = w.quorum } ∷ []) [])
    by_same w true h = (refl, h)
    by_same w false h = tt

    by : (w : Option Word) → IfSome w (λ y. G y.quorum) →
        AtMostOne (λ (x : SiteWord). x.site.0) (λ x. G x.quorum) s (given w [] (λ y. cond (same_value y.value v) (record { site = record { 0 = s }; quorum = y.quorum } ∷ []) []))
    by None h = tt
    by (Some w) h = by_same w (same_value w.value v) h

-- and counts as one
word_counts : (v : Value) (words : ℕ → Option Word) (s : ℕ) → length (site_word v words s) ≡ cond (names v (words s)) 1 0
word_counts v words s = by (words s)
  where
    by_same : (x : SiteWord) (b : Bool) → length (cond b (x ∷ []) []) ≡ cond b 1 0
    by_same x true = refl
    by_same x false = refl

    by : (w : Option Word) → length {A = SiteWord} (given w [] (λ y. cond (same_value y.value v) (record { site = record { 0 = s }; quorum = y.quorum } ∷ []) [])) ≡ cond (names v w) 1 0
    by None = refl
    by (Some w) = by_same (record { site = record { 0 = s }; quorum = w.quorum }) (same_value w.value v)

-- part of what holds of a kept word
pub word_part : (P Q : Word → Type 0) → ((w : Word) → P w → Q w) → (w : Option Word) → IfSome w P → IfSome w Q
word_part P Q give None h = tt
word_part P Q give (Some w) h = give w h

-- The words of a majority of sites.
pub sites_in_range : (here : Here) (v : Value) (words : ℕ → Option Word) → here.seat.sites < 2 ^ 8 → ((s : ℕ) → IfSome (words s) (λ w. QuorumInRange w.quorum)) →
    nat_le (majority here) (count_below (λ t. names v (words t)) here.seat.sites) ≡ true → SitesInRange (take (majority here) (all_below (site_word v words) here.seat.sites))
sites_in_range here v words few all done =
    let most : ℕ = majority here in
    let sites : List SiteWord = all_below (site_word v words) here.seat.sites in
    let keeps : Rises (λ (x : SiteWord). x.site.0) (λ x. KeepsQuorum x.quorum) here.seat.sites sites =
    rises_below (λ (x : SiteWord). x.site.0) (λ x. KeepsQuorum x.quorum) (site_word v words) here.seat.sites
    (λ s. word_once KeepsQuorum v words s (word_part (λ w. QuorumInRange w.quorum) (λ w. KeepsQuorum w.quorum) (λ w h. h.0) (words s) (all s)))
    in
    let fits : Rises (λ (x : SiteWord). x.site.0) (λ x. FitsQuorum x.quorum) here.seat.sites sites =
    rises_below (λ (x : SiteWord). x.site.0) (λ x. FitsQuorum x.quorum) (site_word v words) here.seat.sites
    (λ s. word_once FitsQuorum v words s (word_part (λ w. QuorumInRange w.quorum) (λ w. FitsQuorum w.quorum) (λ w h. h.1) (words s) (all s)))
    in
    let size : length sites ≡ count_below (λ t. names v (words t)) here.seat.sites =
    as_many (site_word v words) (λ t. names v (words t)) (word_counts v words) here.seat.sites
    in
    let enough : most ≤ count_below (λ t. names v (words t)) here.seat.sites = leb-true most (count_below (λ t. names v (words t)) here.seat.sites) done in
    let taken : length (take most sites) ≡ most = length-take-le most sites (omega (arith, size, enough)) in
    let quorums : Each (λ (x : SiteWord). FitsQuorum x.quorum) sites = each_kept (λ (x : SiteWord). x.site.0) (λ x. FitsQuorum x.quorum) first sites fits.keeps in
    let below : Each (λ (x : SiteWord). x.site.0 < 2 ^ 8) sites =
    each_weaker (λ (x : SiteWord). x.site.0 < here.seat.sites) (λ x. x.site.0 < 2 ^ 8) (λ x less. omega (arith, less, few)) sites keeps.below
    in (
      ((omega (arith, taken), omega (arith, taken, size, enough, keeps.short, few)), keeps_take (λ (x : SiteWord). x.site.0) (λ x. KeepsQuorum x.quorum) first most sites keeps.keeps),
      All-from_recursion FitsSite (take most sites)
          (each_take FitsSite most sites (each_both (λ (x : SiteWord). x.site.0 < 2 ^ 8) (λ x. FitsQuorum x.quorum) sites below quorums)),
    )
