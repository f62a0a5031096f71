-- What unions say: whether enough of them are held, the base, and the values that they force.
use Rattle.std.specs.Prelude.{ℕ, ◌+◌, max, Bool, false, cond, zero, suc, nat_eq, nat_lt, nat_le, ◌&&◌, not, Option, Some, None, is_some, List, [], ◌∷◌}
use Rattle.st_words.specs.declared.deployment.TheConstants.{WINDOW}
use Rattle.st_words.specs.declared.value.Value.{Value}
use Rattle.st_words.specs.declared.statement.Item.{Item}
use Rattle.st_protocol.specs.Keeping.{given, or_else, higher}
use Rattle.st_protocol.specs.State.{Term, OfLocal, OfGlobal, Here, Held}
use Rattle.st_protocol.specs.Step.{count_below, some_below, majority}

-- Per number a value or none; the base; and how many unions are held and wanted where fewer are held, else 0 and 0.
pub record Forced : Type 0 where
  pub value : ℕ → Option Value
  pub base : ℕ
  pub held : ℕ
  pub wanted : ℕ

-- the first item of a number
unfoldable pub item_at : ℕ → List Item → Option Item
item_at n [] = None
item_at n (i ∷ is) = cond (nat_eq i.number.0 n) (Some i) (item_at n is)

-- the view in which an item's value stood
abbrev pub item_view : Item → ℕ
item_view i = i.view.0

-- the local view in which an item's value stood
abbrev pub item_local : Item → ℕ
item_local i = i.local.0

-- the higher (view, local view), of equals the first
abbrev pub higher_item : Option Item → Option Item → Option Item
higher_item x y = higher item_view item_local x y

-- the union of the present local view that is held
abbrev pub local_held : Here → (Term → ℕ → Option Held) → Option Held
local_held here unions = unions (OfLocal here.local) here.seat.site

-- a site's union of the present view that is held
abbrev pub site_held : Here → (Term → ℕ → Option Held) → ℕ → Option Held
site_held here unions site = unions (OfGlobal here.view) site

-- a local union is held whose greatest view isn't above the present one
abbrev pub usable : Here → (Term → ℕ → Option Held) → Bool
usable here unions = given (local_held here unions) false (λ u. nat_le u.greatest here.view)

-- how many site unions of the view are held
unfoldable pub sites_held : Here → (Term → ℕ → Option Held) → ℕ
sites_held here unions = count_below (λ s. is_some (site_held here unions s)) here.seat.sites

-- the item at n of the highest (view, local view) in the unions of the sites below k, of the lowest site among equals
unfoldable pub highest_item : (ℕ → Option Held) → ℕ → ℕ → Option Item
highest_item held n zero = None
highest_item held n (suc k) = higher_item (highest_item held n k) (given (held k) None (λ u. item_at n u.items))

-- the greatest base of the unions of the sites below k
unfoldable pub greatest_base : (ℕ → Option Held) → ℕ → ℕ
greatest_base held zero = 0
greatest_base held (suc k) = max (greatest_base held k) (given (held k) 0 (λ u. u.base))

-- what counts only above view 0
abbrev pub above_zero : {A : Type 0} → ℕ → Option A → Option A
above_zero zero x = None
above_zero (suc k) x = x

-- the local union's item at n where its view is the present one
abbrev pub local_item : Here → (Term → ℕ → Option Held) → ℕ → Option Item
local_item here unions n =
    given (above_zero here.local (local_held here unions)) None (λ u. given (item_at n u.items) None (λ i. cond (nat_eq i.view.0 here.view) (Some i) None))

-- the value that unions force at n: the local union's where it is of this view, else the highest of the sites'
abbrev pub forced_value : Here → (Term → ℕ → Option Held) → ℕ → Option Value
forced_value here unions n =
    given (or_else (local_item here unions n) (above_zero here.view (highest_item (site_held here unions) n here.seat.sites))) None (λ i. Some i.value)

-- the number up to which all is settled: executed here, or below a held union
abbrev pub base_of : Here → (Term → ℕ → Option Held) → ℕ
base_of here unions =
    max here.executed
    (max (given (above_zero here.local (local_held here unions)) 0 (λ u. u.base))
    (cond (nat_eq here.view 0) 0 (greatest_base (site_held here unions) here.seat.sites)))

-- the view is above 0, and of fewer than M sites a union is held
abbrev pub lacks_sites : Here → (Term → ℕ → Option Held) → Bool
lacks_sites here unions = nat_lt 0 here.view && nat_lt (sites_held here unions) (majority here)

-- the local view is above 0, and no usable local union is held
abbrev pub lacks_local : Here → (Term → ℕ → Option Held) → Bool
lacks_local here unions = nat_lt 0 here.local && not (usable here unions)

-- What the held unions say at the present views.
unfoldable pub forced_of : Here → (Term → ℕ → Option Held) → Forced
forced_of here unions =
    record {
      value = forced_value here unions;
      base = base_of here unions;
      held = cond (lacks_sites here unions) (sites_held here unions) 0;
      wanted = cond (lacks_sites here unions) (majority here) (cond (lacks_local here unions) 1 0);
    }

-- unions are missing
abbrev pub waits : Forced → Bool
waits forced = nat_lt forced.held forced.wanted

-- a greater number of the window is forced
abbrev pub forced_above : Here → Forced → ℕ → Bool
forced_above here forced n =
    some_below (λ k. nat_lt n (here.executed + 1 + k) && is_some (forced.value (here.executed + 1 + k))) WINDOW
