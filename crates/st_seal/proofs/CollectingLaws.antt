-- Laws on the shares of a slot.
use Rattle.std.proofs.Common.{◌≡◌, ℕ, All, zero, suc, ◌+◌, ◌<◌, List, [], ◌∷◌, ◌++◌, arith, refl, true, false, ap, sym, ◌∙◌, subst, add-one}
use Rattle.std.specs.Prelude.{Bool, ◌||◌, ◌==◌, if◌then◌else◌, Option, None, Some, IfSome, find, nat_eq}
use Rattle.std.specs.Option.{option_or}
use Rattle.std.specs.Cmp.Lexicographic.{pointwise}
use Rattle.std.proofs.lemmas.Bool.{eqb-true}
use Rattle.std.proofs.lemmas.List.Folds.{find-append}
use Rattle.std.proofs.lemmas.List.Elements.{All-nil, All-cons, All-append, All-weaker}
use Rattle.st_seal.specs.declared.quorum.Signed.{Signed}
use Rattle.st_seal.specs.declared.collector.Share.{Share}
use Rattle.st_seal.specs.Voices.{count_below}
use Rattle.st_seal.specs.Collecting.{Shares, share_in, some_below, with_share, seal_over, seals_below}

-- ---- one index more

-- a count with one index more
pub count_more : (test : ℕ → Bool) (n : ℕ) → count_below test (n + 1) ≡ count_below test n + (if test n then 1 else 0)
unfolding count_below
count_more test n = rw add-one refl

-- a search with one index more
pub some_more : (test : ℕ → Bool) (n : ℕ) → some_below test (n + 1) ≡ (some_below test n || test n)
unfolding some_below
some_more test n = rw add-one refl

-- the seals with one server more
pub seals_more : (bytes : List ℕ) (shares : Shares) (n : ℕ) → seals_below bytes shares (n + 1) ≡ seals_below bytes shares n ++ seal_over bytes n (shares n)
unfolding seals_below
seals_more bytes shares n = rw add-one refl

-- ---- shares of an index

-- one step of a search by index
find_own_step : (b : Bool) (i : ℕ) (s : Share) (rest : Option Share) (x : Share) → (s.index == i) ≡ b → (rest ≡ Some x → x.index ≡ i) → (if b then Some s else rest) ≡ Some x → x.index ≡ i
find_own_step true i s rest x test later e = let same : s ≡ x = cc in ap (λ (y : Share). y.index) (sym same) ∙ eqb-true s.index i test
find_own_step false i s rest x test later e = later e

-- a share that is found under an index has that index
pub share_own : (shares : List Share) (i : ℕ) (x : Share) → share_in shares i ≡ Some x → x.index ≡ i
unfolding share_in
share_own [] i x e = absurd (let no : None ≡ Some x = e in cc)
share_own (s ∷ shares) i x e = find_own_step (s.index == i) i s (find (λ (y : Share). y.index == i) shares) x refl (share_own shares i x) e

-- what is kept, or else the new one, where nothing is kept under the new one's index
or_none : (b : Bool) (old : Option Share) (s : Share) → (b ≡ true → old ≡ None) → option_or old (if b then Some s else None) ≡ (if b then Some s else old)
or_none true old s none = ap (λ (o : Option Share). option_or o (Some s)) (none refl)
or_none false None s none = refl
or_none false (Some x) s none = refl

-- a share put last, of an index that has none yet
share_last_at : (shares : List Share) (s : Share) (i : ℕ) → share_in shares s.index ≡ None → share_in (shares ++ s ∷ []) i ≡ with_share (share_in shares) s i
unfolding share_in
share_last_at shares s i none =
    find-append (λ (y : Share). y.index == i) shares (s ∷ [])
    ∙ or_none (s.index == i) (find (λ (y : Share). y.index == i) shares) s
    (λ test. subst (λ (k : ℕ). find (λ (y : Share). y.index == k) shares ≡ None) (eqb-true s.index i test) none)

-- the same for every index
pub share_last : (shares : List Share) (s : Share) → share_in shares s.index ≡ None → share_in (shares ++ s ∷ []) ≡ with_share (share_in shares) s
share_last shares s none = λ k i. share_last_at shares s i none k

-- ---- the seals of a completed slot

-- the seal of an index, if it counts, is below the next
seal_if_index : (b : Bool) (i : ℕ) (s : Signed) → s.index ≡ i → All (λ (t : Signed). t.index < i + 1) (if b then s ∷ [] else [])
seal_if_index true i s same = All-cons (λ (t : Signed). t.index < i + 1) s [] (omega arith) (All-nil (λ (t : Signed). t.index < i + 1))
seal_if_index false i s same = All-nil (λ (t : Signed). t.index < i + 1)

-- the same of a server's share
seal_over_index : (bytes : List ℕ) (i : ℕ) (share : Option Share) → All (λ (s : Signed). s.index < i + 1) (seal_over bytes i share)
seal_over_index bytes i None = All-nil (λ (t : Signed). t.index < i + 1)
seal_over_index bytes i (Some s) = seal_if_index (pointwise nat_eq s.bytes bytes) i (record { index = i; seal = s.seal }) refl

-- the seals of servers below an index have indices below it
pub seals_index : (bytes : List ℕ) (shares : Shares) (n : ℕ) → All (λ (s : Signed). s.index < n) (seals_below bytes shares n)
unfolding seals_below
seals_index bytes shares zero = All-nil (λ (s : Signed). s.index < 0)
seals_index bytes shares (suc n) =
    let before = All-weaker (λ (s : Signed). s.index < n) (λ (s : Signed). s.index < suc n) (λ s h. omega arith) (seals_below bytes shares n) (seals_index bytes shares n) in
    let here = All-weaker (λ (s : Signed). s.index < n + 1) (λ (s : Signed). s.index < suc n) (λ s h. omega arith) (seal_over bytes n (shares n)) (seal_over_index bytes n (shares n)) in
    All-append (λ (s : Signed). s.index < suc n) (seals_below bytes shares n) (seal_over bytes n (shares n)) before here

-- a seal of the next index may be put last
pub next_seal : (seal : Option Signed) (i : ℕ) (seals : List Signed) → IfSome seal (λ (s : Signed). s.index ≡ i) → All (λ (t : Signed). t.index < i) seals → IfSome seal (λ (s : Signed). All (λ (t : Signed). t.index < s.index) seals)
next_seal None i seals own all = tt
next_seal (Some s) i seals own all = subst (λ (k : ℕ). All (λ (t : Signed). t.index < k) seals) (sym own) all
