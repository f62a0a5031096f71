-- Along a run each world advances, so that all pairs ever ordered have one value per number.
use Rattle.std.proofs.Common.{◌≡◌, ℕ, IsTrue, List, [], ◌∷◌, sym, subst, inl, inr, ⊎_elim}
use Rattle.std.proofs.lemmas.Bool.{cases_eq}
use Rattle.st_counts.specs.Counts.{Has}
use Rattle.st_registers.specs.Tests.{Tests}
use Rattle.st_registers.specs.Steps.{At, FlatStep, proposes, accepts, closes, orders, IsRun}
use Rattle.st_registers.specs.Advances.{IsWell, Advances}
use Rattle.st_registers.proofs.AdvancesLaws.{advances-refl, advances-trans, advances-one_value}
use Rattle.st_registers.proofs.StepLaws.{proposes-advances, accepts-advances, closes-advances, orders-advances}
use Rattle.st_registers.proofs.WellLaws.{one-logged}

-- a step at one number advances there, and leaves the others
pub at-advances : {V : Type 0} (number : ℕ) (Step : Tests V → Tests V → Type 0) (old new : ℕ → Tests V) → ((n : ℕ) → IsWell (old n)) → At number Step old new → (Step (old number) (new number) → Advances (old number) (new number)) → (n : ℕ) → Advances (old n) (new n)
at-advances number Step old new well step here n =
    ⊎_elim
    (λ same. subst (λ (k : ℕ). Advances (old k) (new k)) (sym same) (here step.here))
    (λ other. subst (λ t. Advances (old n) t) (sym (step.others n other)) (advances-refl (old n) (well n)))
    (cases_eq n number)

-- each flat step advances at each number
pub step-advances : {V : Type 0} (old new : ℕ → Tests V) → ((n : ℕ) → IsWell (old n)) → FlatStep old new → (n : ℕ) → Advances (old n) (new n)
step-advances old new well (proposes number view v step) =
    at-advances number _ old new well step (proposes-advances (old number) (new number) view v (well number))
step-advances old new well (accepts number member view v step) =
    at-advances number _ old new well step (accepts-advances (old number) (new number) member view v (well number))
step-advances old new well (closes is_closing step) =
    λ n. closes-advances (old n) (new n) (is_closing n) (well n) (step n)
step-advances old new well (orders number v step) =
    at-advances number _ old new well step (orders-advances (old number) (new number) v (well number))

-- each world of a run advances on the first
pub run-advances : {V : Type 0} (world : ℕ → Tests V) (worlds : List (ℕ → Tests V)) → ((n : ℕ) → IsWell (world n)) → IsRun FlatStep world worlds → (later : ℕ → Tests V) → Has later worlds → (n : ℕ) → Advances (world n) (later n)
run-advances world [] well run later among = absurd among
run-advances world (next ∷ rest) well run later (inl same) =
    λ n. subst (λ w. Advances (world n) (w n)) (sym same) (step-advances world next well run.0 n)
run-advances world (next ∷ rest) well run later (inr among) =
    let first : (n : ℕ) → Advances (world n) (next n) = step-advances world next well run.0 in
    λ n. advances-trans (world n) (next n) (later n) (first n) (run-advances next rest (λ k. (first k).well) run.1 later among n)

-- two pairs in the logs of two worlds of a run, the first among them
pub run-one_value : {V : Type 0} (world : ℕ → Tests V) (worlds : List (ℕ → Tests V)) → ((n : ℕ) → IsWell (world n)) → IsRun FlatStep world worlds → (a b : ℕ → Tests V) → Has a (world ∷ worlds) → Has b (world ∷ worlds) → (n : ℕ) (u v : V) → IsTrue ((a n).logged u) → IsTrue ((b n).logged v) → u ≡ v
run-one_value world worlds well run a b (inl first) (inl second) n u v early late =
    one-logged (world n) u v (well n) (subst (λ w. IsTrue ((w n).logged u)) first early) (subst (λ w. IsTrue ((w n).logged v)) second late)
run-one_value world worlds well run a b (inl first) (inr second) n u v early late =
    advances-one_value (world n) (b n) u v (run-advances world worlds well run b second n) (subst (λ w. IsTrue ((w n).logged u)) first early) late
run-one_value world worlds well run a b (inr first) (inl second) n u v early late =
    sym (advances-one_value (world n) (a n) v u (run-advances world worlds well run a first n) (subst (λ w. IsTrue ((w n).logged v)) second late) early)
run-one_value world [] well run a b (inr first) (inr second) n u v early late = absurd first
run-one_value world (next ∷ rest) well run a b (inr first) (inr second) n u v early late =
    run-one_value next rest (λ k. (step-advances world next well run.0 k).well) run.1 a b first second n u v early late
