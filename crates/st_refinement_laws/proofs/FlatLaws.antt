-- Along honest lines both flat worlds advance, and each site has one voice.
use Rattle.std.proofs.Common.{◌≡◌, ℕ, List, ◌∷◌, sym, subst, inl, inr}
use Rattle.std.specs.Prelude.{IsTrue}
use Rattle.st_words.specs.declared.value.Value.{Value}
use Rattle.st_schedule.specs.declared.line.Line.{Line}
use Rattle.st_counts.specs.Counts.{Has}
use Rattle.st_registers.specs.Advances.{Advances}
use Rattle.st_registers.specs.Steps.{IsRun}
use Rattle.st_registers.proofs.AdvancesLaws.{advances-refl}
use Rattle.st_agreement.specs.MiniSteps.{MiniStep, Invariant, first}
use Rattle.st_agreement.specs.Sites.{AreSites, leader}
use Rattle.st_agreement.specs.Statements.{is_proposal}
use Rattle.st_agreement.specs.Worlds as plain
use Rattle.st_agreement.proofs.RunLaws.{run-inside, run-outside}
use Rattle.st_agreement.proofs.VoiceLaws.{inside-well, outside-well, one_voice}
use Rattle.st_protocol.specs.World.{Deployment, World}
use Rattle.st_protocol.specs.Schedule.{steps}
use Rattle.st_ranges.specs.Deployments.{KeepsRanges}
use Rattle.st_answer_laws.specs.Fair.{HasFewFaulty}
use Rattle.st_answer_laws.specs.Plain.{sites_in, plain_of, Leads, RefinesFrom, Refines}
use Rattle.st_refinement_laws.specs.Lines.{AreHonestLines}
use Rattle.st_refinement_laws.proofs.RunLaws.{leads-refl}
use Rattle.st_refinement_laws.proofs.WorldLaws.{last-has, refines-invariant}
use Rattle.st_refinement_laws.proofs.LineLaws.{refines-steps}

module _ {Wire : Type 0} (d : Deployment Wire) (few : HasFewFaulty d) (ranges : KeepsRanges d) (sites : AreSites (sites_in d)) where
  -- ---- from one plain world to another

  inside-at : (a b : plain.World) (ws : List plain.World) → Invariant (sites_in d) a → IsRun (MiniStep (sites_in d)) a ws → Has b (a ∷ ws) → (g n : ℕ) → Advances (plain.inside (sites_in d) a g n) (plain.inside (sites_in d) b g n)
  inside-at a b ws inv run (inl same) g n =
      subst (λ x. Advances (plain.inside (sites_in d) a g n) (plain.inside (sites_in d) x g n)) (sym same) (advances-refl (plain.inside (sites_in d) a g n) (inside-well (sites_in d) a sites inv g n))
  inside-at a b ws inv run (inr among) g n = run-inside (sites_in d) a ws sites inv run b among g n

  outside-at : (a b : plain.World) (ws : List plain.World) → Invariant (sites_in d) a → IsRun (MiniStep (sites_in d)) a ws → Has b (a ∷ ws) → (n : ℕ) → Advances (plain.outside (sites_in d) a n) (plain.outside (sites_in d) b n)
  outside-at a b ws inv run (inl same) n =
      subst (λ x. Advances (plain.outside (sites_in d) a n) (plain.outside (sites_in d) x n)) (sym same) (advances-refl (plain.outside (sites_in d) a n) (outside-well (sites_in d) a sites inv n))
  outside-at a b ws inv run (inr among) n = run-outside (sites_in d) a ws sites inv run b among n

  last-among : (a b : plain.World) (leads : Leads d a b) → Has b (a ∷ leads.worlds)
  last-among a b leads = subst (λ x. Has x (a ∷ leads.worlds)) leads.ends (last-has d few ranges sites a leads.worlds)

  -- Servers of a leader site, by local views.
  pub leads-inside : (early : World Wire) (b : plain.World) → Refines d early → Leads d (plain_of d early) b → (g n : ℕ) → Advances (plain.inside (sites_in d) (plain_of d early) g n) (plain.inside (sites_in d) b g n)
  leads-inside early b go leads g n =
      inside-at (plain_of d early) b leads.worlds (refines-invariant d few ranges sites first (leads-refl d first) early go) leads.run (last-among (plain_of d early) b leads) g n

  -- Sites, by views.
  pub leads-outside : (early : World Wire) (b : plain.World) → Refines d early → Leads d (plain_of d early) b → (n : ℕ) → Advances (plain.outside (sites_in d) (plain_of d early) n) (plain.outside (sites_in d) b n)
  leads-outside early b go leads n =
      outside-at (plain_of d early) b leads.worlds (refines-invariant d few ranges sites first (leads-refl d first) early go) leads.run (last-among (plain_of d early) b leads) n

  -- ---- lines

  -- a world's own plain world is where a run from it begins
  from-here : (world : World Wire) → Refines d world → RefinesFrom d (plain_of d world) world
  from-here world go = record { leads = leads-refl d (plain_of d world); apart = go.apart; heard = go.heard }

  -- Lines lead from the plain world before them to that behind them.
  pub lines-lead : (world : World Wire) (all : List Line) → Refines d world → AreHonestLines d world all → Leads d (plain_of d world) (plain_of d (steps d world all))
  lines-lead world all go honest = (refines-steps d few ranges sites (plain_of d world) go.leads world all honest (from-here world go)).leads

  -- ---- one voice

  -- Two Proposals of one view and number that stand at the leader site have one value.
  pub one-voice : (world : World Wire) (g n l m : ℕ) (u v : Value) → Refines d world →
      IsTrue (plain.stands (sites_in d) (plain_of d world) (leader (sites_in d) g) (is_proposal (leader (sites_in d) g) g l n u)) →
      IsTrue (plain.stands (sites_in d) (plain_of d world) (leader (sites_in d) g) (is_proposal (leader (sites_in d) g) g m n v)) → u ≡ v
  one-voice world g n l m u v go one other = one_voice (sites_in d) (plain_of d world) g n l m u v sites (refines-invariant d few ranges sites first (leads-refl d first) world go) one other
