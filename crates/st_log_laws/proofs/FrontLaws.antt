-- Lists that agree entry by entry: one is a front of the other, and so are the runs of what they have.
use Rattle.std.proofs.Common.{◌≡◌, ◌∙◌, ap, sym, subst, ℕ, zero, suc, inl, inr, List, [], ◌∷◌, ◌++◌, append-nil, refl}
use Rattle.std.proofs.lemmas.List.{append_assoc}
use Rattle.std.specs.Prelude.{Some, slice_get}
use Rattle.std.specs.List.{AllByRecursion as Each}
use Rattle.st_words.specs.declared.value.Value.{Value}
use Rattle.st_message.specs.declared.log.Entry.{Entry}
use Rattle.st_protocol.specs.Words.{Bytes}
use Rattle.st_protocol.specs.State.{Run}
use Rattle.st_protocol.specs.Questions.{executed_values, questions, ran_by, runs, run_on, no_run}
use Rattle.st_protocol.specs.World.{Deployment, World}
use Rattle.st_frame_laws.proofs.ChoiceLaws.{append_all}
use Rattle.st_log_laws.specs.Fronts.{IsFront, Agree, log_at}

-- entries at one place are one
abbrev pub SameEntries : {A : Type 0} → List A → List A → Type 0
SameEntries {A} xs ys = (i : ℕ) (u v : A) → slice_get xs i ≡ Some u → slice_get ys i ≡ Some v → u ≡ v

-- So one list is a front of the other.
pub fronts : {A : Type 0} (xs ys : List A) → SameEntries xs ys → Agree xs ys
fronts {A} [] ys h = inl (ys, refl)
fronts {A} (x ∷ xs) [] h = inr (x ∷ xs, refl)
fronts {A} (x ∷ xs) (y ∷ ys) h = by (h zero x y refl refl) (fronts xs ys (λ i u v e f. h (suc i) u v e f))
  where
    by : x ≡ y → Agree xs ys → Agree (x ∷ xs) (y ∷ ys)
    by e (inl f) = inl (f.0, λ i. sym e i ∷ f.1 i)
    by e (inr f) = inr (f.0, λ i. e i ∷ f.1 i)

module _ (serve : List Bytes → Bytes → Bytes) where
  -- a run of two lists
  run_append : (run : Run) (xs ys : List Value) → run_on serve run (xs ++ ys) ≡ run_on serve (run_on serve run xs) ys
  run_append run [] ys = refl
  run_append run (x ∷ xs) ys = run_append (runs serve run x) xs ys

  -- a longer run has more entries
  grows : (run : Run) (ys : List Value) → IsFront run.entries (run_on serve run ys).entries
  unfolding runs
  grows run [] = ([], sym (append-nil run.entries))
  grows run (y ∷ ys) =
      let entry : Entry = record { value = y; ran = ran_by serve run y } in
      let more = grows (runs serve run y) ys in
      (entry ∷ more.0, more.1 ∙ append_assoc run.entries (entry ∷ []) more.0)

  -- Of longer values.
  pub run_front : (xs ys : List Value) → IsFront xs ys → IsFront (run_on serve no_run xs).entries (run_on serve no_run ys).entries
  run_front xs ys f =
      let more = grows (run_on serve no_run xs) f.0 in
      (more.0, ap (λ (zs : List Value). (run_on serve no_run zs).entries) f.1 ∙ (ap (λ (r : Run). r.entries) (run_append no_run xs f.0) ∙ more.1))

  -- The run of a log is a function of its values.
  pub runs_agree : (xs ys : List Value) → Agree xs ys → Agree (run_on serve no_run xs).entries (run_on serve no_run ys).entries
  runs_agree xs ys (inl f) = inl (run_front xs ys f)
  runs_agree xs ys (inr f) = inr (run_front ys xs f)

-- A server's log is the run of what it executed.
pub log_is : {Wire : Type 0} (d : Deployment Wire) (world : World Wire) (site index : ℕ) → log_at d world site index ≡ (run_on d.serve no_run (executed_values (world.nodes site index).bodies)).entries
unfolding questions executed_values
log_is d world site index = refl

-- what holds of each entry at its place holds of each
pub each_at : {A : Type 0} (P : A → Type 0) (xs : List A) → ((i : ℕ) (v : A) → slice_get xs i ≡ Some v → P v) → Each P xs
each_at P [] h = tt
each_at P (x ∷ xs) h = (h zero x refl, each_at P xs (λ i v e. h (suc i) v e))

-- What holds of all values holds of the entries of their run.
module _ (P : Value → Type 0) where
  abbrev pub OfValue : Entry → Type 0
  OfValue entry = P entry.value

  entries_have : (serve : List Bytes → Bytes → Bytes) (run : Run) (xs : List Value) → Each OfValue run.entries → Each P xs → Each OfValue (run_on serve run xs).entries
  unfolding runs
  entries_have serve run [] so h = so
  entries_have serve run (v ∷ vs) so h =
      entries_have serve (runs serve run v) vs (append_all OfValue run.entries (record { value = v; ran = ran_by serve run v } ∷ []) so (h.0, tt)) h.1

  pub log_has : {Wire : Type 0} (d : Deployment Wire) (world : World Wire) (site index : ℕ) → Each P (executed_values (world.nodes site index).bodies) → Each OfValue (log_at d world site index)
  log_has d world site index h =
      subst (λ (entries : List Entry). Each OfValue entries) (sym (log_is d world site index)) (entries_have d.serve no_run (executed_values (world.nodes site index).bodies) tt h)
