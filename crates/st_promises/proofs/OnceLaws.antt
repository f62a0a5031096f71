-- A client's update of a time runs once: after it the client's last time is not below.
use Rattle.std.proofs.Common.{◌≡◌, ◌∙◌, ap, sym, subst, ℕ, ◌+◌, ◌<◌, ◌≤◌, Bool, true, false, cond, nat_eq, nat_lt, ◌&&◌, List, [], ◌∷◌, ◌++◌, refl, arith}
use Rattle.std.proofs.lemmas.Bool.{eqb-true, ltb-true, ltb-false, lt-ltb}
use Rattle.st_words.specs.declared.value.Update.{Update}
use Rattle.st_words.specs.declared.value.Value.{Value}
use Rattle.st_words.specs.declared.value.Value.TheVariants as values
use Rattle.st_message.specs.declared.log.Ran.TheVariants as outcomes
use Rattle.st_message.specs.declared.log.Entry.{Entry}
use Rattle.st_protocol.specs.Words.{Bytes}
use Rattle.st_protocol.specs.Keeping.{gathered}
use Rattle.st_protocol.specs.State.{Run}
use Rattle.st_protocol.specs.Questions.{ran_by, last_after, runs, run_on, no_run}
use Rattle.st_protocol.proofs.GatherLaws.{sums, gathered-append}
use Rattle.st_promises.specs.Logs.{has_ran, ran_at, times_ran}

-- 1 if b holds, else 0
abbrev one : Bool → ℕ
one b = cond b 1 0

-- one entry more
times_more : (c t : ℕ) (entries : List Entry) (entry : Entry) → times_ran c t (entries ++ entry ∷ []) ≡ times_ran c t entries + one (ran_at c t entry)
unfolding times_ran gathered
times_more c t entries entry = gathered-append sums (λ (e : Entry). one (ran_at c t e)) entries (entry ∷ []) ∙ last
  where
    last : gathered ◌+◌ 0 (λ (e : Entry). one (ran_at c t e)) entries + (one (ran_at c t entry) + 0) ≡ gathered ◌+◌ 0 (λ (e : Entry). one (ran_at c t e)) entries + one (ran_at c t entry)
    last = omega arith

-- Each update ran at most once, and none of a time above its client's last.
record Once (run : Run) : Type 0 where
  once : (c t : ℕ) → times_ran c t run.entries ≤ 1
  above : (c t : ℕ) → run.last c < t → times_ran c t run.entries ≡ 0

-- of an entry that did not run
still : (serve : List Bytes → Bytes → Bytes) (run : Run) (v : Value) → Once run → ((c t : ℕ) → ran_at c t (record { value = v; ran = ran_by serve run v }) ≡ false) → ((c : ℕ) → run.last c ≤ last_after run.last v c)
    → Once (runs serve run v)
unfolding runs
still serve run v so none rises =
    record {
      once = λ c t.
          let more = times_more c t run.entries (record { value = v; ran = ran_by serve run v }) in
          let no : one (ran_at c t (record { value = v; ran = ran_by serve run v })) ≡ 0 = ap one (none c t) in
          let was = so.once c t in
          omega (arith, more, no, was);
      above = λ c t beyond.
          let more = times_more c t run.entries (record { value = v; ran = ran_by serve run v }) in
          let no : one (ran_at c t (record { value = v; ran = ran_by serve run v })) ≡ 0 = ap one (none c t) in
          let up = rises c in
          let was = so.above c t (omega (arith, up, beyond)) in
          omega (arith, more, no, was);
    }

-- of an update that ran: its time was above its client's last
ran_more : (serve : List Bytes → Bytes → Bytes) (run : Run) (u : Update) → Once run → run.last u.client.0 < u.time → Once (runs serve run (values.Update u))
unfolding runs
ran_more serve run u so above = record { once = once; above = beyond }
  where
    entry : Entry
    entry = record { value = values.Update u; ran = ran_by serve run (values.Update u) }

    test : nat_lt (run.last u.client.0) u.time ≡ true
    test = lt-ltb (run.last u.client.0) u.time above

    ran : has_ran (ran_by serve run (values.Update u)) ≡ true
    ran = ap (λ b. has_ran (cond b (outcomes.Ran (serve run.ran u.op)) (outcomes.Skipped (run.last u.client.0)))) test

    -- where the entry counts it is of the update's client and time
    counts : (c t : ℕ) (a b d : Bool) → nat_eq u.client.0 c ≡ a → nat_eq u.time t ≡ b → (times_ran c t run.entries + one ((a && b) && d) ≤ 1)
    counts c t true true d e f =
        let client = eqb-true u.client.0 c e in
        let time = eqb-true u.time t f in
        let none : times_ran c t run.entries ≡ 0 = so.above c t (subst (λ k. run.last k < t) client (subst (λ k. run.last u.client.0 < k) time above)) in
        bounded d none
      where
        bounded : (d : Bool) → times_ran c t run.entries ≡ 0 → times_ran c t run.entries + one d ≤ 1
        bounded true none = omega (arith, none)
        bounded false none = omega (arith, none)
    counts c t true false d e f = let was = so.once c t in omega (arith, was)
    counts c t false b d e f = let was = so.once c t in omega (arith, was)

    once : (c t : ℕ) → times_ran c t (run.entries ++ entry ∷ []) ≤ 1
    once c t = subst (λ n. n ≤ 1) (sym (times_more c t run.entries entry)) (counts c t (nat_eq u.client.0 c) (nat_eq u.time t) (has_ran entry.ran) refl refl)

    -- of a time above the new last one nothing is counted
    none_above : (c t : ℕ) (a b d e : Bool) → nat_eq u.client.0 c ≡ a → nat_eq u.time t ≡ b → nat_lt (run.last c) u.time ≡ d → cond (a && d) u.time (run.last c) < t
        → times_ran c t run.entries + one ((a && b) && e) ≡ 0
    none_above c t true true true e f g h up = absurd (let time = eqb-true u.time t g in omega (arith, time, up))
    none_above c t true true false e f g h up =
        absurd (let low = ltb-false (run.last c) u.time h in let high : run.last c < u.time = subst (λ k. run.last k < u.time) (eqb-true u.client.0 c f) above in omega (arith, low, high))
    none_above c t true false true e f g h up =
        let low = ltb-true (run.last c) u.time h in let was = so.above c t (omega (arith, low, up)) in omega (arith, was)
    none_above c t true false false e f g h up = let was = so.above c t up in omega (arith, was)
    none_above c t false b d e f g h up = let was = so.above c t up in omega (arith, was)

    beyond : (c t : ℕ) → last_after run.last (values.Update u) c < t → times_ran c t (run.entries ++ entry ∷ []) ≡ 0
    beyond c t up = times_more c t run.entries entry ∙ none_above c t (nat_eq u.client.0 c) (nat_eq u.time t) (nat_lt (run.last c) u.time) (has_ran entry.ran) refl refl refl up

-- the last time never falls
last_rises : (last : ℕ → ℕ) (v : Value) (c : ℕ) → last c ≤ last_after last v c
last_rises last values.Noop c = omega arith
last_rises last (values.Update u) c = by (nat_eq u.client.0 c) (nat_lt (last c) u.time) refl
  where
    by : (a b : Bool) → nat_lt (last c) u.time ≡ b → last c ≤ cond (a && b) u.time (last c)
    by true true e = let below = ltb-true (last c) u.time e in omega (arith, below)
    by true false e = omega arith
    by false b e = omega arith

-- one value more
once_more : (serve : List Bytes → Bytes → Bytes) (run : Run) (v : Value) → Once run → Once (runs serve run v)
once_more serve run values.Noop so = still serve run values.Noop so (λ c t. refl) (last_rises run.last values.Noop)
once_more serve run (values.Update u) so = by (nat_lt (run.last u.client.0) u.time) refl
  where
    -- skipped, it is not counted
    skipped : (a b : Bool) → a ≡ false → (b && has_ran (cond a (outcomes.Ran (serve run.ran u.op)) (outcomes.Skipped (run.last u.client.0)))) ≡ false
    skipped a true e = ap (λ k. has_ran (cond k (outcomes.Ran (serve run.ran u.op)) (outcomes.Skipped (run.last u.client.0)))) e
    skipped a false e = refl

    by : (b : Bool) → nat_lt (run.last u.client.0) u.time ≡ b → Once (runs serve run (values.Update u))
    by true e = ran_more serve run u so (ltb-true (run.last u.client.0) u.time e)
    by false e =
        still serve run (values.Update u) so (λ c t. skipped (nat_lt (run.last u.client.0) u.time) (nat_eq u.client.0 c && nat_eq u.time t) e) (last_rises run.last (values.Update u))

-- of all values
all_once : (serve : List Bytes → Bytes → Bytes) (run : Run) (xs : List Value) → Once run → Once (run_on serve run xs)
all_once serve run [] so = so
all_once serve run (v ∷ vs) so = all_once serve (runs serve run v) vs (once_more serve run v so)

pub runs_once : (serve : List Bytes → Bytes → Bytes) (xs : List Value) (c t : ℕ) → times_ran c t (run_on serve no_run xs).entries ≤ 1
unfolding times_ran gathered
runs_once serve xs c t = (all_once serve no_run xs (record { once = λ c t. omega arith; above = λ c t up. refl })).once c t
