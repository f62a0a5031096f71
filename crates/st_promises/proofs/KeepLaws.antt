-- The worlds of deployments in range keep their promises.
use Rattle.std.proofs.Common.{◌≡◌, ◌∙◌, ap, sym, subst, ℕ, ◌+◌, List, ◌++◌, arith, IsTrue}
use Rattle.std.specs.Prelude.{take, drop, ◌≤◌}
use Rattle.std.specs.List.{AllByRecursion as Each}
use Rattle.std.proofs.lemmas.List.{take-append-drop, take-take, drop-take}
use Rattle.std.proofs.lemmas.List.Elements.{All-take, All-from_recursion, recursion_from_All}
use Rattle.st_message.specs.declared.log.Entry.{Entry}
use Rattle.st_schedule.specs.declared.line.Line.{Line}
use Rattle.st_protocol.specs.Questions.{executed_values, questions}
use Rattle.st_protocol.specs.World.{Deployment, World, empty}
use Rattle.st_protocol.specs.Schedule.{steps}
use Rattle.st_ranges.specs.Ranges.{MessageInRange}
use Rattle.st_ranges.specs.Deployments.{DeploymentInRange, LineInRange}
use Rattle.st_log_laws.specs.Handed.{comes_from_client}
use Rattle.st_in_hand.proofs.ServerLaws.{servers_up_to_date, next_event_executes}
use Rattle.st_agreement.specs.Worlds.{inside, outside}
use Rattle.st_frame_laws.proofs.ChoiceLaws.{append_all, append_parts}
use Rattle.st_frame_laws.proofs.NodeFrame.{runs_of}
use Rattle.st_flat_laws.specs.Flat.{LeadsFlat}
use Rattle.st_answer_laws.specs.Plain.{sites_in, plain_of, Leads}
use Rattle.st_refinement_laws.proofs.WorldLaws.{are-sites}
use Rattle.st_refinement_laws.proofs.FlatLaws.{one-voice, lines-lead, leads-inside, leads-outside}
use Rattle.st_refinement_laws.proofs.FiniteLaws.{inside-run, outside-run}
use Rattle.st_leaf_laws.proofs.RecordLaws.{same_entry}
use Rattle.st_certificate_laws.proofs.EnterLaws.{local_proved, view_proved}
use Rattle.st_certificate_laws.proofs.RiseLaws.{view_stays, local_stays}
use Rattle.st_result_laws.proofs.ResultLaws.{result_stands}
use Rattle.st_log_laws.proofs.HonestLines.{later_lines_honest}
use Rattle.st_honest_laws.specs.Honest.{SealsAreRead}
use Rattle.st_answer_laws.specs.Fair.{HasFewFaulty}
use Rattle.st_log_laws.specs.Fronts.{log_at}
use Rattle.st_log_laws.proofs.AgreeLaws.{goes, are_fronts, are_handed, agree_later}
use Rattle.st_log_laws.proofs.GrowLaws.{steps_on}
use Rattle.st_promises.specs.Logs.{times_ran}
use Rattle.st_promises.specs.Promises.{KeepsPromises, KeepsPromisesOverTime, AlwaysKeepsPromises, world_at}
use Rattle.st_promises.proofs.OnceLaws.{runs_once}
use Rattle.st_promises.proofs.FlowLaws.{ones, flows_are_lines, ones_in_range}

-- what holds of each element of a list holds of its front
take_all : {A : Type 0} (P : A → Type 0) (n : ℕ) (xs : List A) → Each P xs → Each P (take n xs)
take_all P n xs h = recursion_from_All P (take n xs) (All-take P n xs (All-from_recursion P xs h))

-- a longer front has more behind
take_more : {A : Type 0} (n m : ℕ) (xs : List A) → take (n + m) xs ≡ take n xs ++ take m (drop n xs)
take_more n m xs =
    sym (take-append-drop n (take (n + m) xs))
    ∙ (ap (λ ys. ys ++ drop n (take (n + m) xs)) (take-take n (n + m) xs (omega arith)) ∙ ap (λ zs. take n xs ++ zs) (drop-take n m xs))

module _ {Wire : Type 0} (d : Deployment Wire) where
  -- an update runs once in a server's log
  runs_once_at : (world : World Wire) (site index client time : ℕ) → times_ran client time (log_at d world site index) ≤ 1
  unfolding questions executed_values
  runs_once_at world site index client time = runs_once d.serve (executed_values (world.nodes site index).bodies) client time

module _ {Wire : Type 0} (d : Deployment Wire) (few : HasFewFaulty d) (h : DeploymentInRange d) (formats : SealsAreRead d MessageInRange) where
  -- after lines in range
  keeps : (all : List Line) → Each (LineInRange d) all → KeepsPromises d (steps d empty all)
  keeps all l =
      let world : World Wire = steps d empty all in
      record {
        agree = λ s i t j first second. are_fronts d few h formats all l s i t j (runs_of d s i first) (runs_of d t j second);
        handed = λ s i.
            All-from_recursion (λ (entry : Entry). IsTrue (comes_from_client world.made entry.value)) (log_at d world s i) (are_handed d few h formats all l s i);
        once = λ s i client time. runs_once_at d world s i client time;
        executes = λ s i event. next_event_executes d all s i event;
        prompt = λ s i. (servers_up_to_date d all s i).next;
        results = λ client a e. result_stands d few h formats all l client a e;
        leaves = λ i j x y e f who leaf. same_entry d all i j x y e f who leaf;
        locals = λ s i above. local_proved d h formats all l s i above;
        views = λ s i above. view_proved d h formats all l s i above;
        voice = λ view number local other u v one two. one-voice d few h.keeps (are-sites d few) world view number local other u v (goes d few h formats all l) one two;
      }

  -- and after more
  keeps_later : (all more : List Line) → Each (LineInRange d) all → Each (LineInRange d) more → KeepsPromisesOverTime d (steps d empty all) (steps d empty (all ++ more))
  keeps_later all more l m =
      record {
        agree = λ s i t j first second. agree_later d few h formats all more (append_all (LineInRange d) all more l m) s i t j (runs_of d s i first) (runs_of d t j second);
        locals = λ s i. local_stays d all more s i;
        views = λ s i. view_stays d all more s i;
        sites = subst (λ (late : World Wire). LeadsFlat (λ n. outside (sites_in d) (plain_of d early) n) (λ n. outside (sites_in d) (plain_of d late) n)) (sym (steps_on d empty all more))
            (outside-run (sites_in d) (plain_of d early) (plain_of d (steps d early more)) (are-sites d few)
            (λ n. leads-outside d few h.keeps (are-sites d few) early (plain_of d (steps d early more)) (goes d few h formats all l) leads n));
        servers = λ view.
            subst (λ (late : World Wire). LeadsFlat (λ n. inside (sites_in d) (plain_of d early) view n) (λ n. inside (sites_in d) (plain_of d late) view n)) (sym (steps_on d empty all more))
            (inside-run (sites_in d) (plain_of d early) (plain_of d (steps d early more)) view (are-sites d few)
            (λ n. leads-inside d few h.keeps (are-sites d few) early (plain_of d (steps d early more)) (goes d few h formats all l) leads view n));
      }
    where
      early : World Wire
      early = steps d empty all

      leads : Leads d (plain_of d early) (plain_of d (steps d early more))
      leads = lines-lead d few h.keeps (are-sites d few) early more (goes d few h formats all l) (later_lines_honest d h formats all more l m)

  -- the world within a flow is one of lines
  at_is : (all : List Line) (lines deliveries : ℕ) → steps d empty (take lines all ++ ones deliveries) ≡ world_at d all lines deliveries
  at_is all lines deliveries =
      steps_on d empty (take lines all) (ones deliveries) ∙ sym (flows_are_lines d deliveries (record { world = steps d empty (take lines all); pairs = 0; did = 0; ignored = 0 }))

  -- Before the first line, after each, and within each flow.
  pub always_keeps : (all : List Line) → Each (LineInRange d) all → AlwaysKeepsPromises d all
  always_keeps all l =
      record {
        each = λ lines deliveries.
            subst (λ (w : World Wire). KeepsPromises d w) (at_is all lines deliveries)
            (keeps (take lines all ++ ones deliveries) (append_all (LineInRange d) (take lines all) (ones deliveries) (take_all (LineInRange d) lines all l) (ones_in_range d deliveries)));
        later = λ lines more.
            subst (λ (front : List Line). KeepsPromisesOverTime d (steps d empty (take lines all)) (steps d empty front)) (sym (take_more lines more all))
            (let both = append_parts (LineInRange d) (take lines all) (take more (drop lines all)) (subst (λ (front : List Line). Each (LineInRange d) front) (take_more lines more all) (take_all (LineInRange d) (lines + more) all l)) in
            keeps_later (take lines all) (take more (drop lines all)) both.0 both.1);
      }
