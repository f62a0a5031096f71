-- Along every run of mini-steps the invariant holds, both flat worlds advance, and executed values agree.
use Rattle.std.proofs.Common.{◌≡◌, ℕ, ◌<◌, ◌⊎◌, IsTrue, List, [], ◌∷◌, sym, ap, subst, inl, inr, arith}
use Rattle.std.specs.List.{list_any}
use Rattle.std.proofs.lemmas.Bool.{lt-ltb}
use Rattle.st_words.specs.declared.value.Value.{Value}
use Rattle.st_message.specs.declared.change.Change.TheVariants.{Made, Executed}
use Rattle.st_counts.specs.Counts.{Has, Found, numbers_below}
use Rattle.st_counts.proofs.MemberLaws.{any-from, numbers_below-lt, length-numbers_below}
use Rattle.st_counts.proofs.QuorumLaws.{majority-found}
use Rattle.st_registers.specs.Advances.{Advances}
use Rattle.st_registers.specs.Steps.{IsRun}
use Rattle.st_registers.specs.Tests.{IsChosen}
use Rattle.st_registers.proofs.AdvancesLaws.{advances-refl, advances-trans, chosen-kept}
use Rattle.st_registers.proofs.WellLaws.{one-chosen}
use Rattle.st_agreement.specs.MiniSteps.{HasMaker, Invariant, MiniStep, first, HasExecuted}
use Rattle.st_agreement.specs.Runs.{Reached}
use Rattle.st_agreement.specs.Sites.{Sites, AreSites, leader}
use Rattle.st_agreement.specs.Statements.{prepare, accept, is_prepare, is_accept, view_in}
use Rattle.st_agreement.specs.Worlds.{World, IsOwn, inside, outside, stands, are_accepting}
use Rattle.st_agreement.proofs.GrowLaws.{leader-lt}
use Rattle.st_agreement.proofs.HistoryLaws.{made-recorded}
use Rattle.st_agreement.proofs.KeptLaws.{step-invariant, step-inside, step-outside}
use Rattle.st_agreement.proofs.StatementLaws.{is_prepare-true, is_accept-true}
use Rattle.st_agreement.proofs.VoiceLaws.{outside-well, stands-recorded, Proposed, accept-stands, proposal-prepared}
use Rattle.st_agreement.proofs.WorldLaws.{Maker, maker}

-- at first the invariant holds
pub first-invariant : (d : Sites) → Invariant d first
first-invariant d =
    record {
      recorded = λ s k exists correct t made. absurd made;
      history = λ s k exists correct. tt;
      backed = λ s k exists correct c has. absurd has;
      safe_inside = λ s k exists correct g l n v made. absurd made;
      safe_outside = λ s k exists correct g l n v made. absurd made;
    }

-- it holds in each world of a run
pub run-invariant : (d : Sites) (w : World) (ws : List World) → AreSites d → Invariant d w → IsRun (MiniStep d) w ws → (later : World) → Has later ws → Invariant d later
run-invariant d w [] sites inv run later among = absurd among
run-invariant d w (next ∷ rest) sites inv run later (inl same) = subst (λ x. Invariant d x) (sym same) (step-invariant d w next sites inv run.0)
run-invariant d w (next ∷ rest) sites inv run later (inr among) = run-invariant d next rest sites (step-invariant d w next sites inv run.0) run.1 later among

-- each world of a run advances on the first, inside each site
pub run-inside : (d : Sites) (w : World) (ws : List World) → AreSites d → Invariant d w → IsRun (MiniStep d) w ws → (later : World) → Has later ws → (g n : ℕ) → Advances (inside d w g n) (inside d later g n)
run-inside d w [] sites inv run later among g n = absurd among
run-inside d w (next ∷ rest) sites inv run later (inl same) g n =
    subst (λ x. Advances (inside d w g n) (inside d x g n)) (sym same) (step-inside d w next sites inv run.0 g n)
run-inside d w (next ∷ rest) sites inv run later (inr among) g n =
    advances-trans (inside d w g n) (inside d next g n) (inside d later g n) (step-inside d w next sites inv run.0 g n)
    (run-inside d next rest sites (step-invariant d w next sites inv run.0) run.1 later among g n)

-- and among the sites
pub run-outside : (d : Sites) (w : World) (ws : List World) → AreSites d → Invariant d w → IsRun (MiniStep d) w ws → (later : World) → Has later ws → (n : ℕ) → Advances (outside d w n) (outside d later n)
run-outside d w [] sites inv run later among n = absurd among
run-outside d w (next ∷ rest) sites inv run later (inl same) n =
    subst (λ x. Advances (outside d w n) (outside d x n)) (sym same) (step-outside d w next sites inv run.0 n)
run-outside d w (next ∷ rest) sites inv run later (inr among) n =
    advances-trans (outside d w n) (outside d next n) (outside d later n) (step-outside d w next sites inv run.0 n)
    (run-outside d next rest sites (step-invariant d w next sites inv run.0) run.1 later among n)

-- ---- executed values

-- an executed value is chosen
pub executed-chosen : (d : Sites) (w : World) (n : ℕ) (v : Value) → Invariant d w → HasExecuted d w n v → IsChosen (outside d w n) v
executed-chosen d w n v inv executed =
    subst (λ (x : Value). IsChosen (outside d w n) x) executed.of_value
    (subst (λ x. IsChosen (outside d w x) executed.proof.value) executed.of_number
    (inv.backed executed.site executed.server executed.exists executed.correct (Executed executed.number executed.proof) executed.recorded))

-- a chosen value is no update, or one that its client made
pub chosen-own : (d : Sites) (w : World) (n : ℕ) (v : Value) → AreSites d → Invariant d w → IsChosen (outside d w n) v → IsOwn w v
chosen-own d w n v sites inv chosen =
    let g : ℕ = chosen.0 in
    let q : ℕ = leader d g in
    let lead : q < d.sites = leader-lt d g sites in
    let site : Found (λ s. stands d w s (is_accept s g n v)) (numbers_below d.sites) = majority-found (numbers_below d.sites) (λ s. stands d w s (is_accept s g n v)) chosen.1 in
    let exists : site.element < d.sites = numbers_below-lt site.element d.sites site.among in
    let who : HasMaker d w site.element (accept site.element g n v) =
    stands-recorded d w site.element (is_accept site.element g n v) (accept site.element g n v) sites inv exists (is_accept-true site.element g n v) site.passes in
    let proposed : Proposed d w g n v = accept-stands d w site.element who.server g n v inv exists who.correct who.recorded in
    let prepared : IsTrue (stands d w q (is_prepare q g proposed.local n v)) = proposal-prepared d w q g proposed.local n v sites inv lead proposed.stand in
    let maker : HasMaker d w q (prepare q g proposed.local n v) =
    stands-recorded d w q (is_prepare q g proposed.local n v) (prepare q g proposed.local n v) sites inv lead (is_prepare-true q g proposed.local n v) prepared in
    let made = made-recorded (w.records q maker.server) (prepare q g proposed.local n v) maker.recorded in
    inv.backed q maker.server lead maker.correct (Made made.0 (prepare q g proposed.local n v)) made.1

-- what is chosen is in the log of the flat world
pub chosen-logged : (d : Sites) (w : World) (n : ℕ) (v : Value) → AreSites d → IsChosen (outside d w n) v → IsTrue ((outside d w n).logged v)
chosen-logged d w n v sites chosen =
    let g : ℕ = chosen.0 in
    let site : Found (λ s. stands d w s (is_accept s g n v)) (numbers_below d.sites) = majority-found (numbers_below d.sites) (λ s. stands d w s (is_accept s g n v)) chosen.1 in
    let who : Maker d w site.element (is_accept site.element g n v) =
    maker d w site.element (is_accept site.element g n v) sites (numbers_below-lt site.element d.sites site.among) site.passes in
    let view : view_in who.statement ≡ g = ap view_in (is_accept-true site.element g n v who.statement who.passes) in
    let most : IsTrue (are_accepting d w n g v) = lt-ltb _ _ (omega (arith, chosen.1, length-numbers_below d.sites)) in
    any-from (λ s. list_any (λ k. list_any (λ t. are_accepting d w n (view_in t) v) (w.made s k)) (d.correct s)) site.element (numbers_below d.sites) site.among
    (any-from (λ k. list_any (λ t. are_accepting d w n (view_in t) v) (w.made site.element k)) who.server (d.correct site.element) who.correct
    (any-from (λ t. are_accepting d w n (view_in t) v) who.statement (w.made site.element who.server) who.made
    (subst (λ x. IsTrue (are_accepting d w n x v)) (sym view) most)))

-- two executed values of a number, in a world and in a later one
executed-later : (d : Sites) (early late : World) (n : ℕ) (u v : Value) → AreSites d → Invariant d early → Invariant d late → Advances (outside d early n) (outside d late n) → HasExecuted d early n u → HasExecuted d late n v → u ≡ v
executed-later d early late n u v sites inv_early inv_late advances first second =
    one-chosen (outside d late n) u v (outside-well d late sites inv_late n)
    (chosen-kept (outside d early n) (outside d late n) u advances.grows (executed-chosen d early n u inv_early first))
    (executed-chosen d late n v inv_late second)

-- in whatever worlds of a run two servers executed a number, they executed one value
pub run-executed : (d : Sites) (w : World) (ws : List World) → AreSites d → Invariant d w → IsRun (MiniStep d) w ws → (a b : World) → Has a (w ∷ ws) → Has b (w ∷ ws) → (n : ℕ) (u v : Value) → HasExecuted d a n u → HasExecuted d b n v → u ≡ v
run-executed d w ws sites inv run a b (inl first) (inl second) n u v one other =
    executed-later d w w n u v sites inv inv (advances-refl (outside d w n) (outside-well d w sites inv n))
    (subst (λ x. HasExecuted d x n u) first one) (subst (λ x. HasExecuted d x n v) second other)
run-executed d w ws sites inv run a b (inl first) (inr second) n u v one other =
    executed-later d w b n u v sites inv (run-invariant d w ws sites inv run b second) (run-outside d w ws sites inv run b second n)
    (subst (λ x. HasExecuted d x n u) first one) other
run-executed d w ws sites inv run a b (inr first) (inl second) n u v one other =
    sym (executed-later d w a n v u sites inv (run-invariant d w ws sites inv run a first) (run-outside d w ws sites inv run a first n)
    (subst (λ x. HasExecuted d x n v) second other) one)
run-executed d w [] sites inv run a b (inr first) (inr second) n u v one other = absurd first
run-executed d w (next ∷ rest) sites inv run a b (inr first) (inr second) n u v one other =
    run-executed d next rest sites (step-invariant d w next sites inv run.0) run.1 a b first second n u v one other

-- each world that is reached has the invariant
pub reached-invariant : (d : Sites) (w : World) → AreSites d → Reached d w → Invariant d w
reached-invariant d w sites reached = at_place reached.among
  where
    at_place : (w ≡ first) ⊎ Has w reached.worlds → Invariant d w
    at_place (inl same) = subst (λ x. Invariant d x) (sym same) (first-invariant d)
    at_place (inr among) = run-invariant d first reached.worlds sites (first-invariant d) reached.run w among
