-- A client's result stands in a correct server's log, and so in each that has an entry there.
use Rattle.std.proofs.Common.{◌≡◌, ℕ, false, List, ◌∙◌, ap, sym, inl, inr}
use Rattle.std.proofs.lemmas.Option.{same_Some}
use Rattle.std.specs.Prelude.{Some, slice_get}
use Rattle.std.specs.List.{AllByRecursion as Each}
use Rattle.st_message.specs.declared.log.Entry.{Entry}
use Rattle.st_schedule.specs.declared.line.Line.{Line}
use Rattle.st_protocol.specs.World.{Deployment, Answered, empty}
use Rattle.st_protocol.specs.Schedule.{steps}
use Rattle.st_ranges.specs.Ranges.{MessageInRange}
use Rattle.st_ranges.specs.Deployments.{DeploymentInRange, LineInRange}
use Rattle.st_frame_laws.proofs.NodeFrame.{runs_of}
use Rattle.st_honest_laws.specs.Honest.{SealsAreRead}
use Rattle.st_answer_laws.specs.Fair.{HasFewFaulty}
use Rattle.st_log_laws.specs.Fronts.{Agree, log_at}
use Rattle.st_log_laws.proofs.AgreeLaws.{are_fronts}
use Rattle.st_result_laws.specs.Results.{entry_of, IsAnsweredBy}
use Rattle.st_result_laws.proofs.ReplyCourse.{still_there}
use Rattle.st_result_laws.proofs.ReplyWorlds.{reply_ran}
use Rattle.st_result_laws.proofs.CustomerLaws.{IsGiven, clients_served}

-- of lists that agree, two entries at one place are one
one_entry : {A : Type 0} (xs ys : List A) (k : ℕ) (x y : A) → Agree xs ys → slice_get xs k ≡ Some x → slice_get ys k ≡ Some y → x ≡ y
one_entry xs ys k x y (inl more) e f = same_Some x y (sym (still_there xs more.0 k x e) ∙ (ap (λ zs. slice_get zs k) (sym more.1) ∙ f))
one_entry xs ys k x y (inr more) e f = same_Some x y (sym e ∙ (ap (λ zs. slice_get zs k) more.1 ∙ still_there ys more.0 k y f))

module _ {Wire : Type 0} (d : Deployment Wire) (few : HasFewFaulty d) (h : DeploymentInRange d) (formats : SealsAreRead d MessageInRange) (all : List Line) (l : Each (LineInRange d) all) where
  -- A client's result is that of its last update in the log of a correct server.
  pub result_stands : (client : ℕ) (a : Answered) → ((steps d empty all).customers client).result ≡ Some a → IsAnsweredBy d (steps d empty all) client a
  result_stands client a e =
      let by : IsGiven d (steps d empty all).made client ((steps d empty all).customers client).time a = (clients_served d few h formats all l client).result a e in
      record { site = by.site; index = by.index; correct = by.correct; ran = reply_ran d all by.site by.index client ((steps d empty all).customers client).time a.number a.result by.gave }

  -- Each correct server's log that has an entry there has this one.
  pub result_is_one : (client : ℕ) (a : Answered) (by : IsAnsweredBy d (steps d empty all) client a) (s i : ℕ) (entry : Entry) → d.faulty s i ≡ false →
      slice_get (log_at d (steps d empty all) s i) by.ran.before ≡ Some entry → entry ≡ entry_of by.ran.update a
  result_is_one client a by s i entry runs e =
      one_entry (log_at d (steps d empty all) s i) (log_at d (steps d empty all) by.site by.index) by.ran.before entry (entry_of by.ran.update a)
      (are_fronts d few h formats all l s i by.site by.index runs (runs_of d by.site by.index by.correct)) e by.ran.there
