-- What each assignment of the fill keeps, the fill keeps.
use Rattle.std.proofs.Common.{◌≡◌, ℕ, ◌+◌, ◌-◌, Bool, true, false, zero, suc, nat_eq, nat_le, refl}
use Rattle.std.specs.Prelude.{◌&&◌, min, not, Option, Some, None, is_some}
use Rattle.std.specs.Option.{IfSome}
use Rattle.st_words.specs.declared.deployment.TheConstants.{WINDOW, LAST_NUMBER}
use Rattle.st_words.specs.declared.value.Value.{Value}
use Rattle.st_message.specs.declared.step.Form.TheVariants as forms
use Rattle.st_message.specs.declared.step.Step.{Step}
use Rattle.st_protocol.specs.Words.{Bytes, a_prepare}
use Rattle.st_protocol.specs.State.{AtPrepare, Here, Slots, Pended}
use Rattle.st_protocol.specs.Step.{idle, then, making, when, rep, leader, to_site}
use Rattle.st_protocol.specs.Forced.{Forced, waits}
use Rattle.st_protocol.specs.Assigning.{fill_value, Filling, fill_makes, fill_number, fills, fill}
use Rattle.st_frame_laws.proofs.ChoiceLaws.{chosen, either_has}

module _ (S : Step → Type 0) (V : Value × Bytes → Type 0) (here : Here) (pending : ℕ → Option Pended) (forced : Forced) where
  -- V holds of each value that is assigned, with its client's seal, and S is kept by one assignment more.
  pub record IsKeptByAssigning : Type 0 where
    pub value : (slots : Slots) (n : ℕ) → IfSome (fill_value here slots pending forced n) V
    pub assigning : (step : Step) (leaf n : ℕ) (x : Value × Bytes) → S step → V x →
        S (then step (making leaf (a_prepare here.seat.site here.view here.local n x.0) (forms.Assign x.1) (to_site here)))

  -- what is filled by now
  abbrev FillingHas : Filling → Type 0
  FillingHas filling = S filling.step

  module _ (k : IsKeptByAssigning) where
    -- one number
    number_kept : (filling : Filling) (n : ℕ) → FillingHas filling → IfSome (fill_number here pending forced filling n) FillingHas
    unfolding fill_number
    number_kept filling n h =
        either_has FillingHas (is_some (filling.slots.made (AtPrepare here.view here.local n))) _ _ h
        (either_has FillingHas (nat_le here.seat.capacity filling.leaf) None _ tt
        (chosen V (λ (x : Option Filling). IfSome x FillingHas) (fill_value here filling.slots pending forced n) None (λ x. Some (fill_makes here filling n x)) (k.value filling.slots n) tt
        (λ x g. k.assigning filling.step filling.leaf n x h g)))

    -- numbers in order
    numbers_kept : (count n : ℕ) (filling : Filling) → FillingHas filling → FillingHas (fills here pending forced count n filling)
    unfolding fills
    numbers_kept zero n filling h = h
    numbers_kept (suc count) n filling h =
        chosen FillingHas FillingHas (fill_number here pending forced filling n) filling (fills here pending forced count (n + 1)) (number_kept filling n h) h (λ more g. numbers_kept count (n + 1) more g)

  -- the test by which a server fills: it represents the site that leads, and no union is waited for
  abbrev pub may_fill : Bool
  may_fill = nat_eq here.seat.index (rep here) && nat_eq here.seat.site (leader here) && not (waits forced)

  -- The fill.
  pub fill_kept : (slots : Slots) → S idle → (may_fill ≡ true → IsKeptByAssigning) → S (fill here slots pending forced)
  unfolding fill
  fill_kept slots none k = by may_fill refl
    where
      filled : Step
      filled = (fills here pending forced (min (here.executed + WINDOW) LAST_NUMBER - forced.base) (forced.base + 1) (record { step = idle; leaf = here.leaf; slots = slots })).step

      by : (b : Bool) → may_fill ≡ b → S (when b filled)
      by true e = numbers_kept (k e) (min (here.executed + WINDOW) LAST_NUMBER - forced.base) (forced.base + 1) (record { step = idle; leaf = here.leaf; slots = slots }) none
      by false e = none
