-- Laws on what unions force where none is held.
use Rattle.std.proofs.Common.{◌≡◌, ◌∙◌, ap, sym, ℕ, zero, suc, ◌+◌, ◌/◌, max, Bool, true, false, cond, nat_eq, nat_lt, ◌&&◌, not, Option, Some, None, List, refl, arith}
use Rattle.st_words.specs.declared.value.Value.{Value}
use Rattle.st_words.specs.declared.statement.Item.{Item}
use Rattle.st_tables.specs.Window.{kept}
use Rattle.st_protocol.specs.State.{Here, Held}
use Rattle.st_protocol.specs.Keeping.{given, or_else}
use Rattle.st_protocol.specs.Step.{count_below, majority}
use Rattle.st_protocol.specs.Forced as forced
use Rattle.st_protocol.specs.Forced.{above_zero, highest_item, greatest_base, sites_held, lacks_sites, lacks_local, forced_value, base_of, forced_of}
use Rattle.st_state.specs.ForcedView.{no_unions}

above_zero_of_none : {A : Type 0} (n : ℕ) → above_zero {A = A} n None ≡ None
above_zero_of_none zero = refl
above_zero_of_none (suc n) = refl

-- no site has an item, a base or a union
no_item : (n k : ℕ) → highest_item (λ s. None) n k ≡ None
unfolding highest_item
no_item n zero = refl
no_item n (suc k) = rw (no_item n k) refl

no_base : (k : ℕ) → greatest_base (λ s. None) k ≡ 0
unfolding greatest_base
no_base zero = refl
no_base (suc k) = rw (no_base k) refl

none_counted : (k : ℕ) → count_below (λ s. false) k ≡ 0
unfolding count_below
none_counted zero = refl
none_counted (suc k) = rw (none_counted k) refl

no_site : (h : Here) → sites_held h no_unions ≡ 0
unfolding sites_held
no_site h = none_counted h.seat.sites

no_value : (h : Here) (n : ℕ) → forced_value h no_unions n ≡ None
no_value h n = rw (above_zero_of_none {A = Held} h.local, no_item n h.seat.sites, above_zero_of_none {A = Item} h.view) refl

own_base : (h : Here) → base_of h no_unions ≡ h.executed
own_base h = rw (above_zero_of_none {A = Held} h.local, no_base h.seat.sites) (by_test (nat_eq h.view 0))
  where
    by_test : (b : Bool) → max h.executed (max 0 (cond b 0 0)) ≡ h.executed
    by_test true = omega arith
    by_test false = omega arith

-- whether unions are missing
lacks_by : (a b c : Bool) (m : ℕ)
    → cond (a && true) m (cond (b && not false) 1 0) ≡ cond a m (cond b 1 0)
lacks_by true b c m = refl
lacks_by false true c m = refl
lacks_by false false c m = refl

wanted_of_none : (h : Here) → (forced_of h no_unions).wanted ≡ cond (nat_lt 0 h.view) (majority h) (cond (nat_lt 0 h.local) 1 0)
unfolding forced_of
wanted_of_none h =
    let some : nat_lt 0 (h.seat.sites / 2 + 1) ≡ true = grind arith in
    rw (no_site h, some) (lacks_by (nat_lt 0 h.view) (nat_lt 0 h.local) true (majority h))

held_of_none : (h : Here) → (forced_of h no_unions).held ≡ 0
unfolding forced_of
held_of_none h = rw (no_site h) (by_test (nat_lt 0 h.view && nat_lt 0 (majority h)))
  where
    by_test : (b : Bool) → cond {A = ℕ} b 0 0 ≡ 0
    by_test true = refl
    by_test false = refl

-- nothing is forced
pub no_union_forces : (h : Here)
    → forced_of h no_unions
    ≡ record { value = λ n. None; base = h.executed; held = 0; wanted = cond (nat_lt 0 h.view) (majority h) (cond (nat_lt 0 h.local) 1 0) }
unfolding forced_of
no_union_forces h = λ i. record { value = λ n. no_value h n i; base = own_base h i; held = held_of_none h i; wanted = wanted_of_none h i }
