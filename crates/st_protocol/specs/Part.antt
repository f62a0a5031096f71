-- How the code of a part answers: by the first reason whose test is true, or else by its step.
use Rattle.std.specs.Prelude.{Bool, cond, Option, Some, None, Result, Ok, Err, List, [], ◌∷◌, ◌≡◌}
use Rattle.st_message.specs.declared.reason.Reason.{Reason}
use Rattle.st_message.specs.declared.step.Refused as refusals
use Rattle.st_message.specs.declared.step.Refused.TheVariants as refused
use Rattle.st_message.specs.declared.step.Step.{Step}
use Rattle.st_protocol.specs.Step.{Answer, Refused, Steps}

-- the first reason whose test is true
abbrev pub first_reason : List (Bool × Reason) → Option Reason
first_reason [] = None
first_reason (t ∷ ts) = cond t.0 (Some t.1) (first_reason ts)

-- the reason, or else the step
abbrev pub answer_by : Option Reason → Step → Answer
answer_by None step = Steps step
answer_by (Some reason) step = Refused reason

-- The result is this answer. Where memory is refused it says nothing.
abbrev pub Answers : Result Step refusals.Refused → Answer → Type 0
Answers (Ok step) answer = answer ≡ Steps step
Answers (Err (refused.Ignored reason)) answer = answer ≡ Refused reason
Answers (Err refused.OutOfMemory) answer = Unit {0}
