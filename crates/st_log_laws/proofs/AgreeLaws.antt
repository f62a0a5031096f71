-- The worlds of lines in range go, so the logs of correct servers agree, and each update in them was handed out by its client.
use Rattle.std.proofs.Common.{◌≡◌, sym, subst, refl, ℕ, ◌+◌, Bool, true, false, List, [], ◌++◌}
use Rattle.std.specs.Prelude.{IsTrue}
use Rattle.std.specs.List.{AllByRecursion as Each}
use Rattle.st_words.specs.declared.value.Value.{Value}
use Rattle.st_message.specs.declared.log.Entry.{Entry}
use Rattle.st_message.specs.declared.change.Change.{Change}
use Rattle.st_schedule.specs.declared.line.Line.{Line}
use Rattle.st_agreement.specs.MiniSteps.{HasExecuted, Invariant, first}
use Rattle.st_agreement.specs.Runs.{Reached}
use Rattle.st_agreement.specs.Sites.{AreSites}
use Rattle.st_agreement.proofs.RunLaws.{reached-invariant, executed-chosen, chosen-own}
use Rattle.st_protocol.specs.Keeping.{joined}
use Rattle.st_protocol.specs.Questions.{executed_in, executed_values, run_on, no_run}
use Rattle.st_protocol.specs.World.{Deployment, World, empty}
use Rattle.st_protocol.specs.Schedule.{steps}
use Rattle.st_ranges.specs.Ranges.{MessageInRange}
use Rattle.st_ranges.specs.Deployments.{DeploymentInRange, LineInRange}
use Rattle.st_log_laws.specs.Handed.{comes_from_client}
use Rattle.st_honest_laws.specs.Honest.{SealsAreRead}
use Rattle.st_answer_laws.specs.Plain.{sites_in, plain_of, Refines}
use Rattle.st_refinement_laws.proofs.RunLaws.{leads-refl}
use Rattle.st_refinement_laws.proofs.WorldLaws.{are-sites, refines-empty, leads-reached, executed-agree}
use Rattle.st_refinement_laws.proofs.LogLaws.{entry-executed, logs-agree}
use Rattle.st_refinement_laws.proofs.LineLaws.{refines-steps}
use Rattle.st_answer_laws.specs.Fair.{HasFewFaulty}
use Rattle.st_log_laws.specs.Fronts.{IsFront, Agree, log_at}
use Rattle.st_log_laws.proofs.FrontLaws.{fronts, run_front, runs_agree, each_at, log_has, log_is}
use Rattle.st_log_laws.proofs.IdleLaws.{faulty_idle}
use Rattle.st_log_laws.proofs.GrowLaws.{front_agrees, stays_executed, steps_on}
use Rattle.st_log_laws.proofs.OwnUpdates.{updates_own, own_comes}
use Rattle.st_log_laws.proofs.HonestLines.{all_lines_honest}

module _ {Wire : Type 0} (d : Deployment Wire) (few : HasFewFaulty d) (h : DeploymentInRange d) (formats : SealsAreRead d MessageInRange) (all : List Line) (l : Each (LineInRange d) all) where
  pub sites : AreSites (sites_in d)
  sites = are-sites d few

  abbrev pub last : World Wire
  last = steps d empty all

  -- the world refines a run
  pub goes : Refines d last
  goes = refines-steps d few h.keeps sites first (leads-refl d first) empty all (all_lines_honest d h formats all l) (refines-empty d few h.keeps sites)

  -- Its plain world is reached by mini-steps.
  pub is_reached : Reached (sites_in d) (plain_of d last)
  is_reached = leads-reached d few h.keeps sites (plain_of d last) goes.leads

  pub invariant : Invariant (sites_in d) (plain_of d last)
  invariant = reached-invariant (sites_in d) (plain_of d last) sites is_reached

  -- One value a number.
  pub is_same : (n : ℕ) (u v : Value) → HasExecuted (sites_in d) (plain_of d last) n u → HasExecuted (sites_in d) (plain_of d last) n v → u ≡ v
  is_same n u v one other = executed-agree d few h.keeps sites last last goes (leads-refl d (plain_of d last)) n u v one other

  values_agree : (s k s2 k2 : ℕ) → d.faulty s k ≡ false → d.faulty s2 k2 ≡ false → Agree (executed_values (last.nodes s k).bodies) (executed_values (last.nodes s2 k2).bodies)
  values_agree s k s2 k2 runs other = fronts _ _ (λ i u v e f. logs-agree d few h.keeps sites last s k s2 k2 i u v runs other goes e f)

  -- Of two correct servers' logs one is a front of the other.
  pub are_fronts : (s k s2 k2 : ℕ) → d.faulty s k ≡ false → d.faulty s2 k2 ≡ false → Agree (log_at d last s k) (log_at d last s2 k2)
  are_fronts s k s2 k2 runs other =
      subst (λ (ys : List Entry). Agree (log_at d last s k) ys) (sym (log_is d last s2 k2))
      (subst (λ (xs : List Entry). Agree xs (run_on d.serve no_run (executed_values (last.nodes s2 k2).bodies)).entries) (sym (log_is d last s k))
      (runs_agree d.serve (executed_values (last.nodes s k).bodies) (executed_values (last.nodes s2 k2).bodies) (values_agree s k s2 k2 runs other)))

  -- what a correct server executed comes from clients
  values_handed : (s k : ℕ) → d.faulty s k ≡ false → Each (λ (v : Value). IsTrue (comes_from_client last.made v)) (executed_values (last.nodes s k).bodies)
  values_handed s k runs =
      each_at (λ (v : Value). IsTrue (comes_from_client last.made v)) (executed_values (last.nodes s k).bodies)
      (λ i v e.
      own_comes d last v (updates_own d all)
      (chosen-own (sites_in d) (plain_of d last) (i + 1) v sites invariant (executed-chosen (sites_in d) (plain_of d last) (i + 1) v invariant (entry-executed d few h.keeps sites last s k i v runs goes e))))

  -- a faulty server executed nothing
  none_handed : (bodies : List (List Change)) → bodies ≡ [] → Each (λ (v : Value). IsTrue (comes_from_client last.made v)) (executed_values bodies)
  unfolding executed_values executed_in joined
  none_handed bodies e = subst (λ (xss : List (List Change)). Each (λ (v : Value). IsTrue (comes_from_client last.made v)) (executed_values xss)) (sym e) tt

  -- Each value of a log is a no-op, or an update that its client handed out.
  pub are_handed : (s k : ℕ) → Each (λ (entry : Entry). IsTrue (comes_from_client last.made entry.value)) (log_at d last s k)
  are_handed s k = log_has (λ (v : Value). IsTrue (comes_from_client last.made v)) d last s k (by (d.faulty s k) refl)
    where
      by : (b : Bool) → d.faulty s k ≡ b → Each (λ (v : Value). IsTrue (comes_from_client last.made v)) (executed_values (last.nodes s k).bodies)
      by true e = none_handed (last.nodes s k).bodies (faulty_idle d all s k e)
      by false e = values_handed s k e

-- A server's log is a front of its log after more lines.
pub log_grows : {Wire : Type 0} (d : Deployment Wire) (all more : List Line) (s i : ℕ) → IsFront (log_at d (steps d empty all) s i) (log_at d (steps d empty (all ++ more)) s i)
log_grows {Wire} d all more s i =
    subst (λ (late : World Wire). IsFront (log_at d (steps d empty all) s i) (log_at d late s i)) (sym (steps_on d empty all more))
    (subst (λ (ys : List Entry). IsFront (log_at d (steps d empty all) s i) ys) (sym (log_is d (steps d (steps d empty all) more) s i))
    (subst (λ (xs : List Entry). IsFront xs (run_on d.serve no_run (executed_values ((steps d (steps d empty all) more).nodes s i).bodies)).entries) (sym (log_is d (steps d empty all) s i))
    (run_front d.serve (executed_values ((steps d empty all).nodes s i).bodies) (executed_values ((steps d (steps d empty all) more).nodes s i).bodies) (stays_executed d (steps d empty all) more s i))))

-- So logs agree also of an earlier world and a later one.
pub agree_later : {Wire : Type 0} (d : Deployment Wire) (few : HasFewFaulty d) (h : DeploymentInRange d) (formats : SealsAreRead d MessageInRange) (all more : List Line) → Each (LineInRange d) (all ++ more) →
    (s i t j : ℕ) → d.faulty s i ≡ false → d.faulty t j ≡ false → Agree (log_at d (steps d empty all) s i) (log_at d (steps d empty (all ++ more)) t j)
agree_later d few h formats all more l s i t j runs other =
    front_agrees (log_at d (steps d empty all) s i) (log_at d (steps d empty (all ++ more)) s i) (log_at d (steps d empty (all ++ more)) t j) (log_grows d all more s i)
    (are_fronts d few h formats (all ++ more) l s i t j runs other)
