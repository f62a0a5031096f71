-- The steps of an append and of a start: what crashes leave, and what the last sync left.
use Rattle.std.proofs.Common.{◌≡◌, ℕ, ◌+◌, ◌^◌, ◌<◌, ◌≤◌, Bool, true, false, cond, List, [], ◌∷◌, ◌++◌, length, Ok, ap, subst, ◌∙◌, arith, inl}
use Rattle.st_disk.specs.Files.{padded, written, Torn, Resized}
use Rattle.st_disk.specs.Crashes.{Only, LeavesOnly}
use Rattle.st_journal.specs.Blocks.{staged, bodies_of, IsFile, IsBeforeOrAfter}
use Rattle.st_journal.specs.Devices.{TornFrom, ResizedFrom}
use Rattle.st_journal.specs.Ready.{IsReady}
use Rattle.st_journal.proofs.BlockLaws.{file_reads}
use Rattle.st_journal.proofs.CrashLaws.{staged_file, staged_reads, torn_behind, torn_gate, open_file, opened_file, padded_none, cut_short, torn_fresh, cut_behind}
use Rattle.st_journal.proofs.Runs.{weaker, and_then, at_first}

module _ {D : Type 0} (seen synced : D → List ℕ) (moment : D → ℕ) (left_since : D → ℕ → List ℕ → Type 0) (may_leave : D → List ℕ → Type 0)
    (leaves_synced : (d : D) → may_leave d (synced d)) (only_now : (d : D) (c : List ℕ) → left_since d (moment d) c → may_leave d c) where
  -- ---- an append

  module _ (bodies : List (List ℕ)) (body : List ℕ) (end : ℕ) (old : D) (ready : IsReady bodies end (seen old) (may_leave old)) where
    -- before the first write
    pub add_first : LeavesOnly moment left_since old old (IsBeforeOrAfter bodies body)
    add_first = at_first seen moment left_since may_leave old (IsBeforeOrAfter bodies body) (only_now old) (λ c image. inl (ap bodies_of (ready.durable c image) ∙ file_reads bodies end [] (seen old) ready.is))

    -- the first write leaves the bodies as they were
    pub stage_moments : (mid : D) (n : ℕ) → LeavesOnly moment left_since old mid (TornFrom (may_leave old) (end + 1) n) → LeavesOnly moment left_since old mid (IsBeforeOrAfter bodies body)
    stage_moments mid n run =
        weaker moment left_since old mid (TornFrom (may_leave old) (end + 1) n) (IsBeforeOrAfter bodies body) run
        (λ c torn. inl (torn_behind bodies body end (seen old) ready.is n c (subst (λ (f : List ℕ). Torn (end + 1) n f c) (ready.durable torn.0 torn.1) torn.2)))

    -- the second leaves them with the new one or without
    pub gate_moments : length body < 2 ^ 32 → (mid new : D) (n : ℕ) → seen mid ≡ written (end + 1) (staged body) (seen old) → Only (seen mid) (may_leave mid) → LeavesOnly moment left_since old mid (TornFrom (may_leave old) (end + 1) n)
        → LeavesOnly moment left_since mid new (TornFrom (may_leave mid) end 1) → LeavesOnly moment left_since old new (IsBeforeOrAfter bodies body)
    gate_moments short mid new n stands durable first run =
        let is = stands ∙ staged_file bodies body end (seen old) ready.is in
        and_then moment left_since old mid new (IsBeforeOrAfter bodies body) (stage_moments mid n first)
        (weaker moment left_since mid new (TornFrom (may_leave mid) end 1) (IsBeforeOrAfter bodies body) run
        (λ c torn. torn_gate bodies body end (seen old) ready.is short (seen mid) c is (subst (λ (f : List ℕ). Torn end 1 f c) (durable torn.0 torn.1) torn.2)))

    -- what the last sync left, before the first write and after its sync
    pub lost_first : (d : D) → synced d ≡ synced old → bodies_of (synced d) ≡ Ok bodies
    lost_first d same = ap bodies_of (same ∙ ready.durable (synced old) (leaves_synced old)) ∙ file_reads bodies end [] (seen old) ready.is

    pub lost_staged : (mid d : D) → seen mid ≡ written (end + 1) (staged body) (seen old) → Only (seen mid) (may_leave mid) → synced d ≡ synced mid → bodies_of (synced d) ≡ Ok bodies
    lost_staged mid d stands durable same =
        staged_reads bodies body end (seen old) ready.is (synced d) (same ∙ durable (synced mid) (leaves_synced mid) ∙ stands ∙ staged_file bodies body end (seen old) ready.is)

    -- what is read where the first write or its sync failed
    pub kept_first : (b : Bool) (f : List ℕ) → f ≡ cond b (seen old) (written (end + 1) (staged body) (seen old)) → bodies_of f ≡ Ok bodies
    kept_first true f is = ap bodies_of is ∙ file_reads bodies end [] (seen old) ready.is
    kept_first false f is = staged_reads bodies body end (seen old) ready.is f (is ∙ staged_file bodies body end (seen old) ready.is)

    -- and where the second did
    pub kept_gate : length body < 2 ^ 32 → (mid : D) → seen mid ≡ written (end + 1) (staged body) (seen old) → (b : Bool) (f : List ℕ) → f ≡ cond b (seen mid) (written end (1 ∷ []) (seen mid))
        → bodies_of f ≡ Ok (cond b bodies (bodies ++ body ∷ []))
    kept_gate short mid stands true f is = staged_reads bodies body end (seen old) ready.is f (is ∙ stands ∙ staged_file bodies body end (seen old) ready.is)
    kept_gate short mid stands false f is =
        let whole = stands ∙ staged_file bodies body end (seen old) ready.is in
        let opened = opened_file bodies body end (seen old) ready.is short 1 f (λ e. omega (arith, e)) (is ∙ open_file bodies body end (seen old) ready.is (seen mid) whole) in
        file_reads (bodies ++ body ∷ []) (end + (5 + length body)) [] f opened

    -- the file with the new body
    pub added : length body < 2 ^ 32 → (mid new : D) → seen mid ≡ written (end + 1) (staged body) (seen old) → seen new ≡ written end (1 ∷ []) (seen mid) → Only (seen new) (may_leave new)
        → IsReady (bodies ++ body ∷ []) (end + (5 + length body)) (seen new) (may_leave new)
    added short mid new stands is durable =
        let whole = stands ∙ staged_file bodies body end (seen old) ready.is in
        record {
          is = opened_file bodies body end (seen old) ready.is short 1 (seen new) (λ e. omega (arith, e)) (is ∙ open_file bodies body end (seen old) ready.is (seen mid) whole);
          durable = durable;
        }

  -- ---- a new journal

  pub cut_moments : (old mid : D) → length (seen old) ≤ 9 → Only (seen old) (may_leave old) → LeavesOnly moment left_since old mid (ResizedFrom (may_leave old) 0) → LeavesOnly moment left_since old mid (λ c. bodies_of c ≡ Ok [])
  cut_moments old mid short only run =
      weaker moment left_since old mid (ResizedFrom (may_leave old) 0) (λ c. bodies_of c ≡ Ok []) run
      (λ c cut. cut_short (seen old) c short (subst (λ (f : List ℕ). Resized 0 f c) (only cut.0 cut.1) cut.2))

  pub fresh_moments : (old mid new : D) → LeavesOnly moment left_since old mid (λ c. bodies_of c ≡ Ok []) → seen mid ≡ padded 0 (seen old) → Only (seen mid) (may_leave mid) → LeavesOnly moment left_since mid new (TornFrom (may_leave mid) 0 9)
      → LeavesOnly moment left_since old new (λ c. bodies_of c ≡ Ok [])
  fresh_moments old mid new first is only run =
      and_then moment left_since old mid new (λ c. bodies_of c ≡ Ok []) first
      (weaker moment left_since mid new (TornFrom (may_leave mid) 0 9) (λ c. bodies_of c ≡ Ok []) run
      (λ c torn. torn_fresh (seen mid) c (is ∙ padded_none (seen old)) (subst (λ (f : List ℕ). Torn 0 9 f c) (only torn.0 torn.1) torn.2)))

  -- ---- the bytes behind the closed gate

  module _ (bodies : List (List ℕ)) (end : ℕ) (junk : List ℕ) (old : D) (f : IsFile bodies end junk (seen old)) (only : Only (seen old) (may_leave old)) where
    pub trim_first : LeavesOnly moment left_since old old (λ c. bodies_of c ≡ Ok bodies)
    trim_first = at_first seen moment left_since may_leave old (λ c. bodies_of c ≡ Ok bodies) (only_now old) (λ c image. ap bodies_of (only c image) ∙ file_reads bodies end junk (seen old) f)

    pub trim_moments : (new : D) → LeavesOnly moment left_since old new (ResizedFrom (may_leave old) (end + 1)) → LeavesOnly moment left_since old new (λ c. bodies_of c ≡ Ok bodies)
    trim_moments new run =
        weaker moment left_since old new (ResizedFrom (may_leave old) (end + 1)) (λ c. bodies_of c ≡ Ok bodies) run
        (λ c cut. cut_behind bodies end junk (seen old) f c (subst (λ (f : List ℕ). Resized (end + 1) f c) (only cut.0 cut.1) cut.2))
