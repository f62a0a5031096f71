-- The fill keeps ranges: a no-op, a forced value, or an update that waits, at a number of the window.
use Rattle.std.proofs.Common.{◌≡◌, refl, ℕ, ◌+◌, ◌-◌, ◌^◌, ◌<◌, ◌≤◌, Bool, true, false, cond, zero, suc, nat_eq, nat_le, List, [], ◌∷◌, arith}
use Rattle.std.specs.Prelude.{◌&&◌, not, min, max, length, Option, Some, None, is_some}
use Rattle.std.specs.Option.{IfSome}
use Rattle.std.specs.List.{AllByRecursion as Each}
use Rattle.std.proofs.lemmas.Bool.{leb-false}
use Rattle.st_words.specs.declared.deployment.TheConstants.{WINDOW, LAST_NUMBER}
use Rattle.st_words.specs.declared.value.Value.{Value}
use Rattle.st_words.specs.declared.value.Value.TheVariants as values
use Rattle.st_words.specs.declared.statement.Item.{Item}
use Rattle.st_words.specs.declared.statement.Statement.{Statement}
use Rattle.st_message.specs.declared.step.Form.TheVariants as forms
use Rattle.st_wire.specs.Ranges.{most_client_seal}
use Rattle.st_protocol.specs.Words.{Bytes, a_prepare}
use Rattle.st_protocol.specs.Keeping.{given, or_else}
use Rattle.st_protocol.specs.State.{AtPrepare, Term, OfLocal, OfGlobal, Here, Slots, Pended, Held, Answers}
use Rattle.st_protocol.specs.Step.{idle, making, rep, leader, to_site}
use Rattle.st_protocol.specs.Forced.{Forced, item_at, item_view, item_local, local_held, site_held, highest_item, above_zero, local_item, forced_of, waits, forced_above}
use Rattle.st_protocol.specs.Assigning.{is_assigned, next_pending, fill_value, Filling, fill_makes, fill_number, fills, fill}
use Rattle.st_ranges.specs.Ranges.{ValueInRange, StatementInRange}
use Rattle.st_ranges.proofs.ChoiceLaws.{chosen, either_has, first_has, higher_has, first_below_has}
use Rattle.st_ranges.proofs.StateLaws.{Top, PendedInRange, ItemValueInRange, HeldInRange, StateInRange}
use Rattle.st_ranges.proofs.CourseLaws.{StandsInRange}
use Rattle.st_ranges.proofs.StepLaws.{open_slot, idle_stands, then_stands, making_stands, when_stands}

-- ---- what unions force

-- the first item of a number
item_in_range : (n : ℕ) (is : List Item) → Each ItemValueInRange is → IfSome (item_at n is) ItemValueInRange
unfolding item_at
item_in_range n [] h = tt
item_in_range n (i ∷ is) h = either_has ItemValueInRange (nat_eq i.number.0 n) (Some i) (item_at n is) h.0 (item_in_range n is h.1)

-- the highest item of the sites below k
highest_item_in_range : (held : ℕ → Option Held) (n k : ℕ) → ((s : ℕ) → IfSome (held s) HeldInRange) → IfSome (highest_item held n k) ItemValueInRange
unfolding highest_item
highest_item_in_range held n zero all = tt
highest_item_in_range held n (suc k) all =
    higher_has ItemValueInRange item_view item_local (highest_item held n k) (given (held k) None (λ u. item_at n u.items)) (highest_item_in_range held n k all)
    (chosen HeldInRange (λ (i : Option Item). IfSome i ItemValueInRange) (held k) None (λ u. item_at n u.items) (all k) tt (λ u h. item_in_range n u.items h))

-- what counts only above view 0
above_zero_in_range : {A : Type 0} (G : A → Type 0) (n : ℕ) (x : Option A) → IfSome x G → IfSome (above_zero n x) G
above_zero_in_range G zero x h = tt
above_zero_in_range G (suc n) x h = h

-- the item that the local union has of the present view
local_item_in_range : (here : Here) (unions : Term → ℕ → Option Held) (n : ℕ) → ((t : Term) (s : ℕ) → IfSome (unions t s) HeldInRange) → IfSome (local_item here unions n) ItemValueInRange
local_item_in_range here unions n all =
    chosen HeldInRange (λ (i : Option Item). IfSome i ItemValueInRange) (above_zero here.local (local_held here unions)) None
    (λ u. given (item_at n u.items) None (λ i. cond (nat_eq i.view.0 here.view) (Some i) None))
    (above_zero_in_range HeldInRange here.local (local_held here unions) (all (OfLocal here.local) here.seat.site)) tt
    (λ u h.
    chosen ItemValueInRange (λ (i : Option Item). IfSome i ItemValueInRange) (item_at n u.items) None (λ i. cond (nat_eq i.view.0 here.view) (Some i) None)
    (item_in_range n u.items h) tt (λ i g. either_has ItemValueInRange (nat_eq i.view.0 here.view) (Some i) None g tt))

-- a value that is forced
abbrev ForcedInRange : Forced → Type 0
ForcedInRange forced = (n : ℕ) → IfSome (forced.value n) ValueInRange

-- by the unions that are held
forced_in_range : (here : Here) (unions : Term → ℕ → Option Held) → ((t : Term) (s : ℕ) → IfSome (unions t s) HeldInRange) → ForcedInRange (forced_of here unions)
unfolding forced_of
forced_in_range here unions all n =
    let sites : Option Item = above_zero here.view (highest_item (site_held here unions) n here.seat.sites) in
    chosen ItemValueInRange (λ (v : Option Value). IfSome v ValueInRange) (or_else (local_item here unions n) sites) None (λ i. Some i.value)
    (first_has ItemValueInRange (local_item here unions n) sites (local_item_in_range here unions n all)
    (above_zero_in_range ItemValueInRange here.view (highest_item (site_held here unions) n here.seat.sites)
    (highest_item_in_range (site_held here unions) n here.seat.sites (λ s. all (OfGlobal here.view) s))))
    tt (λ i h. h)

-- the base isn't below what is executed
base_above : (here : Here) (unions : Term → ℕ → Option Held) → here.executed ≤ (forced_of here unions).base
unfolding forced_of
base_above here unions = above here.executed _
  where
    above : (a b : ℕ) → a ≤ max a b
    above a b = grind arith

-- ---- the fill

-- a value, and the client's seal with it, where there is one
abbrev SealedValueInRange : Value × Bytes → Type 0
SealedValueInRange x = ValueInRange x.0 × (length x.1 ≤ most_client_seal x.0)

module _ (top : Top) (state : Answers) (inside : StateInRange top state) where
  -- the fill so far
  abbrev FillingInRange : Filling → Type 0
  FillingInRange filling = StandsInRange top state filling.step

  -- the lowest client's update of which no Prepare was made
  next_pending_in_range : (slots : Slots) → IfSome (next_pending state.here slots state.pending) PendedInRange
  next_pending_in_range slots =
      first_below_has PendedInRange (λ c. given (state.pending c) None (λ k. cond (is_assigned state.here slots k.update) None (Some k))) state.here.seat.clients
      (λ c.
      chosen PendedInRange (λ (k : Option Pended). IfSome k PendedInRange) (state.pending c) None (λ k. cond (is_assigned state.here slots k.update) None (Some k))
      (inside.pending c) tt (λ k h. either_has PendedInRange (is_assigned state.here slots k.update) None (Some k) tt h))

  module _ (forced : Forced) (follows : ForcedInRange forced) where
    -- the value at n
    fill_value_in_range : (slots : Slots) (n : ℕ) → IfSome (fill_value state.here slots state.pending forced n) SealedValueInRange
    fill_value_in_range slots n =
        let next : Option (Value × Bytes) = given (next_pending state.here slots state.pending) None (λ k. Some (values.Update k.update, k.seal)) in
        chosen ValueInRange (λ (x : Option (Value × Bytes)). IfSome x SealedValueInRange) (forced.value n)
        (cond (forced_above state.here forced n) (Some (values.Noop, [])) next)
        (λ v. Some (v, [])) (follows n)
        (either_has SealedValueInRange (forced_above state.here forced n) (Some (values.Noop, [])) next ((tt, tt), omega arith)
        (chosen PendedInRange (λ (x : Option (Value × Bytes)). IfSome x SealedValueInRange) (next_pending state.here slots state.pending) None
        (λ k. Some (values.Update k.update, k.seal)) (next_pending_in_range slots) tt (λ k h. ((h.0, h.1), h.2.1))))
        (λ v h. (h, omega arith))

    -- a number that is filled
    fill_makes_in_range : (filling : Filling) (n : ℕ) (x : Value × Bytes) → state.here.executed < n → n < 2 ^ 32 → filling.leaf < 2 ^ 32 → FillingInRange filling → SealedValueInRange x →
        FillingInRange (fill_makes state.here filling n x)
    fill_makes_in_range filling n x above few leaf h v =
        let statement : Statement = a_prepare state.here.seat.site state.here.view state.here.local n x.0 in
        let number : 1 ≤ n = omega (arith, above) in
        let s : StatementInRange statement = ((number, v.0.0), (inside.here.seat.site, inside.here.view, inside.here.local, few, v.0.1)) in
        then_stands top state filling.step (making filling.leaf statement (forms.Assign x.1) (to_site state.here)) h
        (making_stands top state filling.leaf statement (forms.Assign x.1) (to_site state.here) leaf
        (s, λ signed g. ((number, v.0.0, v.1, g.0), (inside.here.view, inside.here.local, few, v.0.1, g.1)))
        (open_slot state.here.view state.here.local state.here.executed state.here.view state.here.local n (omega arith) (omega arith) above))

    -- one number
    fill_number_in_range : (filling : Filling) (n : ℕ) → state.here.executed < n → n < 2 ^ 32 → FillingInRange filling →
        IfSome (fill_number state.here state.pending forced filling n) FillingInRange
    unfolding fill_number
    fill_number_in_range filling n above few h =
        either_has FillingInRange (is_some (filling.slots.made (AtPrepare state.here.view state.here.local n))) (Some filling) _ h
        (by (nat_le state.here.seat.capacity filling.leaf) refl)
      where
        by : (b : Bool) → nat_le state.here.seat.capacity filling.leaf ≡ b →
            IfSome (cond b None (given (fill_value state.here filling.slots state.pending forced n) None (λ x. Some (fill_makes state.here filling n x)))) FillingInRange
        by true e = tt
        by false e =
            let left : filling.leaf < state.here.seat.capacity = leb-false state.here.seat.capacity filling.leaf e in
            let most : state.here.seat.capacity < 2 ^ 32 = inside.here.seat.capacity in
            chosen SealedValueInRange (λ (x : Option Filling). IfSome x FillingInRange) (fill_value state.here filling.slots state.pending forced n) None
            (λ x. Some (fill_makes state.here filling n x)) (fill_value_in_range filling.slots n) tt
            (λ x v. fill_makes_in_range filling n x above few (omega (arith, left, most)) h v)

    -- so many numbers
    fills_in_range : (k n : ℕ) (filling : Filling) → state.here.executed < n → (0 < k → n + k ≤ 2 ^ 32) → FillingInRange filling →
        FillingInRange (fills state.here state.pending forced k n filling)
    unfolding fills
    fills_in_range zero n filling above few h = h
    fills_in_range (suc k) n filling above few h =
        let most : n + suc k ≤ 2 ^ 32 = few (omega arith) in
        chosen FillingInRange FillingInRange (fill_number state.here state.pending forced filling n) filling (fills state.here state.pending forced k (n + 1))
        (fill_number_in_range filling n above (omega (arith, most)) h) h
        (λ more g. fills_in_range k (n + 1) more (omega (arith, above)) (λ some. omega (arith, most)) g)

  -- What the representative makes.
  pub fill_in_range : StandsInRange top state (fill state.here state.slots state.pending (forced_of state.here state.unions))
  unfolding fill
  fill_in_range =
      let forced : Forced = forced_of state.here state.unions in
      let base : state.here.executed ≤ forced.base = base_above state.here state.unions in
      when_stands top state (nat_eq state.here.seat.index (rep state.here) && nat_eq state.here.seat.site (leader state.here) && not (waits forced)) _
      (λ its.
      fills_in_range forced (forced_in_range state.here state.unions inside.unions) (min (state.here.executed + WINDOW) LAST_NUMBER - forced.base) (forced.base + 1)
      (record { step = idle; leaf = state.here.leaf; slots = state.slots }) (omega (arith, base)) (λ some. most state.here.executed forced.base some) (idle_stands top state))
    where
      most : (e b : ℕ) → 0 < min (e + 16) 1024 - b → b + 1 + (min (e + 16) 1024 - b) ≤ 2 ^ 32
      most e b some = grind (arith, some)
