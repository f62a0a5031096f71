-- Laws on how a part answers.
use Rattle.std.proofs.Common.{◌≡◌, ◌∙◌, ap, sym, Bool, true, false, cond, Option, Some, None, List, [], ◌∷◌, refl}
use Rattle.st_message.specs.declared.reason.Reason.{Reason}
use Rattle.st_message.specs.declared.step.Step.{Step}
use Rattle.st_protocol.specs.Step.{Refused, Steps, decides}
use Rattle.st_protocol.specs.Part.{first_reason, answer_by}

-- the first reason whose test is true is the answer, or else the step
pub decides_by : (ts : List (Bool × Reason)) (step : Step) → decides ts step ≡ answer_by (first_reason ts) step
decides_by [] step = refl
decides_by (t ∷ ts) step = by_test t.0 (decides_by ts step)
  where
    by_test : (b : Bool) → decides ts step ≡ answer_by (first_reason ts) step
        → cond b (Refused t.1) (decides ts step) ≡ answer_by (cond b (Some t.1) (first_reason ts)) step
    by_test true e = refl
    by_test false e = e

-- no test is true
abbrev pub NoneTrue : List (Bool × Reason) → Type 0
NoneTrue [] = Unit {0}
NoneTrue (t ∷ ts) = (t.0 ≡ false) × NoneTrue ts

-- without a reason, no test is true
pub none_true : (ts : List (Bool × Reason)) → first_reason ts ≡ None → NoneTrue ts
none_true [] e = tt
none_true (t ∷ ts) e = by_test t.0 refl e (none_true ts)
  where
    by_test : (b : Bool) → t.0 ≡ b → cond b (Some t.1) (first_reason ts) ≡ None → (first_reason ts ≡ None → NoneTrue ts) → (t.0 ≡ false) × NoneTrue ts
    by_test true is e more = absurd (let no : Some t.1 ≡ None = e in cc)
    by_test false is e more = (is, more e)

-- the answer where there is a reason, and where there is none
pub refused_by : (ts : List (Bool × Reason)) (step : Step) (reason : Reason) → Some reason ≡ first_reason ts → decides ts step ≡ Refused reason
refused_by ts step reason e = decides_by ts step ∙ ap (λ (r : Option Reason). answer_by r step) (sym e)

pub steps_by : (ts : List (Bool × Reason)) (step done : Step) → None ≡ first_reason ts → done ≡ step → decides ts step ≡ Steps done
steps_by ts step done e is = decides_by ts step ∙ (ap (λ (r : Option Reason). answer_by r step) (sym e) ∙ ap Steps (sym is))
