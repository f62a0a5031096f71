-- A mini-step only lets both flat worlds grow.
use Rattle.std.proofs.Common.{◌≡◌, ℕ, ◌<◌, ◌≤◌, ◌⊎◌, ◌||◌, not, false, IsTrue, refl, subst, inl, inr, ⊎_elim, arith, nat_lt, nat_le}
use Rattle.std.specs.List.{list_any}
use Rattle.std.proofs.lemmas.Bool.{leb-true, le-leb, ltb-true, lt-ltb, and_parts, and_from, or_cases, or_left, or_right, not-true, not_from_false, false_from_ne_true, both_ways}
use Rattle.st_words.specs.declared.value.Value.{Value}
use Rattle.st_counts.specs.Counts.{Has, Found, count, numbers_below}
use Rattle.st_counts.proofs.CountLaws.{count-mono}
use Rattle.st_counts.proofs.MemberLaws.{any-from, any-found, any-mono, numbers_below-lt}
use Rattle.st_registers.specs.Advances.{Grows}
use Rattle.st_agreement.specs.MiniSteps.{IsCurrent}
use Rattle.st_agreement.specs.Records.{view_of, local_of}
use Rattle.st_agreement.specs.Sites.{Sites, AreSites, leader}
use Rattle.st_agreement.specs.Statements.{proposal, accept, is_prepare, is_proposal, is_proposal_at, is_accept, is_accept_at, local_in, view_in}
use Rattle.st_agreement.specs.Worlds.{World, has_made, stands, inside, outside, may_accept, are_accepting}
use Rattle.st_agreement.proofs.StatementLaws.{is_proposal_at-true, is_accept_at-true}
use Rattle.st_agreement.proofs.WorldLaws.{Extends, view-longer, local-longer, has_made-kept, stands-kept}

-- the site that leads a view is one of the sites
pub leader-lt : (d : Sites) (g : ℕ) → AreSites d → leader d g < d.sites
leader-lt d g sites = let some : 0 < d.sites = sites.some in omega arith

-- ---- inside

-- a server that is past a slot hands out no Proposal in it
not-proposing : (d : Sites) (old new : World) (s k g l n : ℕ) → Extends d old new → s < d.sites → Has k (d.correct s) → has_made old s (is_proposal_at s g l n) k ≡ false → (l < local_of (old.records s k)) ⊎ (g < view_of (old.records s k)) → has_made new s (is_proposal_at s g l n) k ≡ false
not-proposing d old new s k g l n step exists correct none past =
    false_from_ne_true _ (λ has.
    let some : Found (is_proposal_at s g l n) (new.made s k) = any-found (is_proposal_at s g l n) (new.made s k) has in
    let which = is_proposal_at-true s g l n some.element some.passes in
    ⊎_elim
    (λ was. both_ways _ none (any-from (is_proposal_at s g l n) some.element (old.made s k) was some.passes))
    (λ current. let now : IsCurrent (proposal s g l n which.0) (old.records s k) = subst (λ t. IsCurrent t (old.records s k)) which.1 current.0 in
    ⊎_elim (λ (past_local : l < local_of (old.records s k)). omega (arith, now.1)) (λ (past_view : g < view_of (old.records s k)). omega (arith, now.0)) past)
    (step.fresh s k exists correct some.element some.among))

-- past a local view or a view, by a test
past-from : (local view l g : ℕ) → IsTrue (nat_lt l local || nat_lt g view) → (l < local) ⊎ (g < view)
past-from local view l g passes =
    ⊎_elim (λ a. inl (ltb-true l local a)) (λ b. inr (ltb-true g view b)) (or_cases (nat_lt l local) (nat_lt g view) passes)

-- and back
past-to : (local view l g : ℕ) → (l < local) ⊎ (g < view) → IsTrue (nat_lt l local || nat_lt g view)
past-to local view l g past =
    ⊎_elim (λ a. or_left _ _ (lt-ltb l local a)) (λ b. or_right _ _ (lt-ltb g view b)) past

-- the flat world inside a leader site grows
pub inside-grows : (d : Sites) (old new : World) → AreSites d → Extends d old new → (g n : ℕ) → Grows (inside d old g n) (inside d new g n)
inside-grows d old new sites step g n =
    let s : ℕ = leader d g in
    let exists : s < d.sites = leader-lt d g sites in
    record {
      members = refl;
      proposed = λ l v stand. stands-kept d old new s (is_prepare s g l n v) step exists stand;
      accepted = λ k l v correct has. has_made-kept d old new s (is_proposal s g l n v) step exists k correct has;
      closed = λ k l correct closed.
          let parts = and_parts (not (has_made old s (is_proposal_at s g l n) k)) _ closed in
          let past = past-from (local_of (old.records s k)) (view_of (old.records s k)) l g parts.1 in
          let none = not-proposing d old new s k g l n step exists correct (not-true (has_made old s (is_proposal_at s g l n) k) parts.0) past in
          let longer = step.records s k exists correct in
          and_from _ _ (not_from_false _ none)
          (past-to (local_of (new.records s k)) (view_of (new.records s k)) l g
          (⊎_elim
          (λ (a : l < local_of (old.records s k)). inl (omega (arith, local-longer d old s (old.records s k) (new.records s k) longer)))
          (λ (b : g < view_of (old.records s k)). inr (omega (arith, view-longer d old s (old.records s k) (new.records s k) longer)))
          past));
      logged = λ v logged. logged;
    }

-- ---- outside

-- who may accept after the step could before it
may_accept-before : (d : Sites) (old new : World) (s g n : ℕ) → Extends d old new → s < d.sites → (k : ℕ) → Has k (d.correct s) → IsTrue (may_accept new s g n k) → IsTrue (may_accept old s g n k)
may_accept-before d old new s g n step exists k correct may =
    ⊎_elim
    (λ below. let view : view_of (new.records s k) ≤ g = leb-true (view_of (new.records s k)) g below in
    or_left _ _ (le-leb (view_of (old.records s k)) g (omega (arith, view-longer d old s (old.records s k) (new.records s k) (step.records s k exists correct)))))
    (λ has.
    let some : Found (is_accept_at s g n) (new.made s k) = any-found (is_accept_at s g n) (new.made s k) has in
    let which = is_accept_at-true s g n some.element some.passes in
    ⊎_elim
    (λ was. or_right (nat_le (view_of (old.records s k)) g) _ (any-from (is_accept_at s g n) some.element (old.made s k) was some.passes))
    (λ current. let now : IsCurrent (accept s g n which.0) (old.records s k) = subst (λ t. IsCurrent t (old.records s k)) which.1 current.0 in
    or_left _ _ (le-leb _ _ now))
    (step.fresh s k exists correct some.element some.among))
    (or_cases (nat_le (view_of (new.records s k)) g) (has_made new s (is_accept_at s g n) k) may)

-- what the sites have accepted they have accepted for good
are_accepting-kept : (d : Sites) (old new : World) (n g : ℕ) (v : Value) → Extends d old new → IsTrue (are_accepting d old n g v) → IsTrue (are_accepting d new n g v)
are_accepting-kept d old new n g v step most =
    let more : count (λ s. stands d old s (is_accept s g n v)) (numbers_below d.sites) ≤ count (λ s. stands d new s (is_accept s g n v)) (numbers_below d.sites) =
    count-mono (λ s. stands d old s (is_accept s g n v)) (λ s. stands d new s (is_accept s g n v)) (numbers_below d.sites)
    (λ s among stand. stands-kept d old new s (is_accept s g n v) step (numbers_below-lt s d.sites among) stand) in
    lt-ltb _ _ (omega (arith, ltb-true _ _ most))

-- the flat world of the sites grows
pub outside-grows : (d : Sites) (old new : World) → AreSites d → Extends d old new → (n : ℕ) → Grows (outside d old n) (outside d new n)
outside-grows d old new sites step n =
    record {
      members = refl;
      proposed = λ g v proposed.
          let s : ℕ = leader d g in
          let exists : s < d.sites = leader-lt d g sites in
          any-mono (λ k. list_any (λ t. stands d old s (is_proposal s g (local_in t) n v)) (old.made s k))
          (λ k. list_any (λ t. stands d new s (is_proposal s g (local_in t) n v)) (new.made s k)) (d.correct s) (d.correct s)
          (λ k correct some. (
            correct,
            any-mono (λ t. stands d old s (is_proposal s g (local_in t) n v)) (λ t. stands d new s (is_proposal s g (local_in t) n v)) (old.made s k) (new.made s k)
                (λ t has stand. (step.made s k exists correct t has, stands-kept d old new s (is_proposal s g (local_in t) n v) step exists stand)) some,
          ))
          proposed;
      accepted = λ s g v among stand. stands-kept d old new s (is_accept s g n v) step (numbers_below-lt s d.sites among) stand;
      closed = λ s g among few.
          let exists : s < d.sites = numbers_below-lt s d.sites among in
          lt-ltb _ _ (omega (arith, ltb-true _ _ few, count-mono (may_accept new s g n) (may_accept old s g n) (d.correct s) (may_accept-before d old new s g n step exists)));
      logged = λ v logged.
          any-mono (λ s. list_any (λ k. list_any (λ t. are_accepting d old n (view_in t) v) (old.made s k)) (d.correct s))
          (λ s. list_any (λ k. list_any (λ t. are_accepting d new n (view_in t) v) (new.made s k)) (d.correct s)) (numbers_below d.sites) (numbers_below d.sites)
          (λ s among some. (
            among,
            any-mono (λ k. list_any (λ t. are_accepting d old n (view_in t) v) (old.made s k)) (λ k. list_any (λ t. are_accepting d new n (view_in t) v) (new.made s k)) (d.correct s) (d.correct s)
                (λ k correct some2. (
                  correct,
                  any-mono (λ t. are_accepting d old n (view_in t) v) (λ t. are_accepting d new n (view_in t) v) (old.made s k) (new.made s k)
                      (λ t has most. (step.made s k (numbers_below-lt s d.sites among) correct t has, are_accepting-kept d old new n (view_in t) v step most)) some2,
                )) some,
          ))
          logged;
    }
