-- Reading fields from left to right. A reading answers the value and the bytes after it, or how many
-- bytes were left where the refused field begins.
use Rattle.std.specs.Prelude.{◌≡◌, ℕ, zero, suc, ◌+◌, ◌-◌, ◌^◌, List, [], ◌∷◌, length, take, drop, Bool, Result, Ok, Err, nat_eq, nat_lt, ◌==◌, if◌then◌else◌}
use Rattle.std.specs.Int.{Width, w16, w32, byte_len, from_be_bytes, is_in_range}
use Rattle.std.specs.List.{starts_with, find}
use Rattle.std.specs.Option.{ok_or, option_map}
use Rattle.st_fields.specs.declared.error.WordsError.{WordsError}
use Rattle.st_fields.specs.declared.error.WordsError.TheVariants as words
use Rattle.st_fields.specs.declared.error.FieldError.{FieldError}
use Rattle.st_fields.specs.declared.error.FieldError.TheVariants as fields

-- what reading a field answers
abbrev pub Read : Type 0 → Type 0
Read A = Result (A × List ℕ) ℕ

-- goes on with the value and the bytes after it, unless the field was refused
infixl 10 ◌>>=◌
abbrev pub ◌>>=◌ : {A X : Type 0} → Read A → (A → List ℕ → Result X ℕ) → Result X ℕ
(Ok x) >>= more = more x.0 x.1
(Err left) >>= more = Err left

-- the next byte
unfoldable pub byte_at : List ℕ → Read ℕ
byte_at [] = Err 0
byte_at (b ∷ rest) = Ok (b, rest)

-- the next n bytes
unfoldable pub bytes_at : ℕ → List ℕ → Read (List ℕ)
bytes_at n bytes = if nat_lt (length bytes) n then Err (length bytes) else Ok (take n bytes, drop n bytes)

-- a number, its highest byte first
unfoldable pub number_at : Width → List ℕ → Read ℕ
number_at w bytes = bytes_at (byte_len w) bytes >>= λ front rest. Ok (from_be_bytes w front, rest)

-- a field whose value has to pass the test
unfoldable pub checked : {A : Type 0} → (A → Bool) → (List ℕ → Read A) → List ℕ → Read A
checked test read bytes = read bytes >>= λ x rest. if test x then Ok (x, rest) else Err (length bytes)

-- a byte from least to most
unfoldable pub byte_in : ℕ → ℕ → List ℕ → Read ℕ
byte_in least most = checked (is_in_range least most) byte_at

-- a number from least to most
unfoldable pub number_in : Width → ℕ → ℕ → List ℕ → Read ℕ
number_in w least most = checked (is_in_range least most) (number_at w)

-- a number above low, and at most most
abbrev pub number_above : Width → ℕ → ℕ → List ℕ → Read ℕ
number_above w low most = number_in w (low + 1) most

-- a number of four bytes, at least 1
unfoldable pub positive_at : List ℕ → Read ℕ
positive_at = number_above w32 0 (2 ^ 32 - 1)

-- one of these kinds, by its number of one byte
unfoldable pub kind_at : {K : Type 0} → (K → ℕ) → List K → List ℕ → Read K
kind_at number_of kinds bytes = byte_at bytes >>= λ n rest. ok_or (option_map (λ kind. (kind, rest)) (find (λ kind. number_of kind == n) kinds)) (length bytes)

-- from least to most bytes, behind their number
unfoldable pub text_at : ℕ → ℕ → List ℕ → Read (List ℕ)
text_at least most bytes = number_in w16 least most bytes >>= λ n rest. bytes_at n rest

-- just these bytes, which stand for nothing
unfoldable pub mark_at : List ℕ → List ℕ → Read (Unit {0})
mark_at mark bytes = if starts_with nat_eq bytes mark then Ok (tt, drop (length mark) bytes) else Err (length bytes)

-- n elements one after another; what a later one may be hangs on those before it, by a state
unfoldable pub list_at : {A S : Type 0} → (S → List ℕ → Read A) → (S → A → S) → ℕ → S → List ℕ → Read (List A)
list_at read next zero state bytes = Ok ([], bytes)
list_at read next (suc n) state bytes =
    read state bytes >>= λ first rest.
    list_at read next n (next state first) rest >>= λ others rest'.
    Ok (first ∷ others, rest')

-- from least to most elements, behind their number
unfoldable pub counted_at : {A S : Type 0} → ℕ → ℕ → (S → List ℕ → Read A) → (S → A → S) → S → List ℕ → Read (List A)
counted_at least most read next state bytes = byte_in least most bytes >>= λ n rest. list_at read next n state rest

-- the value, where no bytes are left
abbrev pub ended : {A : Type 0} → A → List ℕ → Result A ℕ
ended x rest = if length rest == 0 then Ok x else Err (length rest)

-- a fault by its offset from the front of so many bytes
abbrev pub placed : {A : Type 0} → ℕ → Result A ℕ → Result A ℕ
placed total (Ok x) = Ok x
placed total (Err left) = Err (total - left)

-- the value of so many bytes, all of them, or the offset of the first fault
abbrev pub all_read : {A : Type 0} → ℕ → Read A → Result A ℕ
all_read total read = placed total (read >>= ended)

-- all of the bytes as one value
unfoldable pub whole : {A : Type 0} → (List ℕ → Read A) → List ℕ → Result A ℕ
whole read bytes = all_read (length bytes) (read bytes)

-- what the code refused is what reading refuses, unless memory was refused
abbrev pub Fails : {A : Type 0} → FieldError → Result A ℕ → Type 0
Fails (fields.Refused left) read = read ≡ Err left
Fails fields.OutOfMemory read = Unit {0}

-- what the code read, seen by view, is what reading answers, unless memory was refused
abbrev pub Gives : {X Y : Type 0} → (X → Y) → Result X FieldError → Result Y ℕ → Type 0
Gives view (Ok x) read = read ≡ Ok (view x)
Gives view (Err e) read = Fails e read

-- what a public reader answered is what reading the whole answers, unless memory was refused
abbrev pub Answers : {A : Type 0} → Result A WordsError → Result A ℕ → Type 0
Answers (Ok x) read = read ≡ Ok x
Answers (Err (words.Malformed place)) read = read ≡ Err place
Answers (Err words.OutOfMemory) read = Unit {0}

-- a field was refused: what a reader that takes no memory fails by
abbrev pub IsRefused : FieldError → Type 0
IsRefused (fields.Refused left) = Unit {0}
IsRefused fields.OutOfMemory = ⊥
