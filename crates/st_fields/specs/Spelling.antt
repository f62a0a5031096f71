-- How fields are spelled, one after another.
use Rattle.std.specs.Prelude.{ℕ, List, [], ◌∷◌, ◌++◌, length, Bool, ◌==◌}
use Rattle.std.specs.Int.{Width, w16, to_be_bytes}
use Rattle.std.specs.List.{flat_map, list_any}

-- fields one after another
abbrev pub joined : List (List ℕ) → List ℕ
joined [] = []
joined (field ∷ fields) = field ++ joined fields

-- one byte
abbrev pub byte : ℕ → List ℕ
byte n = n ∷ []

-- a number, its highest byte first
unfoldable pub number : Width → ℕ → List ℕ
number w n = to_be_bytes w n

-- bytes behind their number, which takes two bytes
unfoldable pub text : List ℕ → List ℕ
text bytes = joined (number w16 (length bytes) ∷ bytes ∷ [])

-- elements one after another behind their number, which takes one byte
unfoldable pub counted : {A : Type 0} → (A → List ℕ) → List A → List ℕ
counted spell xs = joined (byte (length xs) ∷ flat_map spell xs ∷ [])

-- each element keeps the rule at the state that those before it leave
abbrev pub KeepsEach : {A S : Type 0} → (S → A → Type 0) → (S → A → S) → S → List A → Type 0
KeepsEach Keeps next state [] = Unit {0}
KeepsEach Keeps next state (x ∷ xs) = Keeps state x × KeepsEach Keeps next (next state x) xs

-- whether a kind is among these, by its number
abbrev pub is_among : {K : Type 0} → (K → ℕ) → List K → K → Bool
is_among number_of kinds kind = list_any (λ other. number_of other == number_of kind) kinds
