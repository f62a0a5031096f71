-- Laws on bytes that are written piece by piece.
use Rattle.std.proofs.Common.{◌≡◌, ℕ, ◌+◌, ◌-◌, ◌<◌, ◌≤◌, List, [], ◌++◌, length, take, drop, refl, ap, sym, ◌∙◌, arith, append_assoc, append-nil, length-drop, length-append, take-append-drop}
use Rattle.std.proofs.Math.Seq.{take-append-add}
use Rattle.std.proofs.lemmas.List.{nil_from_length, take_all, drop_at, length-take-le}
use Rattle.std.specs.Prelude.{Option, Some, Err}
use Rattle.st_io.specs.Streams.{Adds, AddsFront, AddsSome, Gives, HasRead, LosesFew, ReadsAll, ReadsSome}
use Rattle.st_io.specs.declared.whole.ReadError.{ReadError}
use Rattle.st_io.specs.declared.whole.ReadError.TheVariants.{Failed, TooLong, OutOfMemory}

-- what is left after the first n bytes
pub rest_of : (n : ℕ) (bytes : List ℕ) → bytes ≡ take n bytes ++ take (length bytes - n) (drop n bytes)
rest_of n bytes =
    let long : length (drop n bytes) ≤ length bytes - n = omega (arith, length-drop n bytes) in
    sym (ap (λ (l : List ℕ). take n bytes ++ l) (take_all (length bytes - n) (drop n bytes) long) ∙ take-append-drop n bytes)

-- some bytes, and then all others
pub adds_on : (before now last : Option (List ℕ)) (bytes rest : List ℕ) → AddsSome before now bytes rest → Adds now last rest → Adds before last bytes
adds_on before now last bytes rest some others had told =
    others (had ++ some.front) (some.added had told) ∙ ap Some (append_assoc had some.front rest ∙ ap (λ (l : List ℕ). had ++ l) (sym some.parts))

-- some bytes, and then some others
pub adds_front_on : (before now last : Option (List ℕ)) (bytes rest : List ℕ) → AddsSome before now bytes rest → AddsFront now last rest → AddsFront before last bytes
adds_front_on before now last bytes rest some others had told =
    let more = others (had ++ some.front) (some.added had told) in
    let whole : length bytes ≡ length some.front + length rest = ap length some.parts ∙ length-append some.front rest in
    let front : had ++ some.front ++ take more.0 rest ≡ had ++ take (length some.front + more.0) bytes
    = append_assoc had some.front (take more.0 rest) ∙ ap (λ (l : List ℕ). had ++ l) (sym (take-append-add some.front rest more.0) ∙ ap (take (length some.front + more.0)) (sym some.parts)) in
    (length some.front + more.0, omega (arith, whole, more.1), more.2 ∙ ap Some front)

-- no bytes
pub adds_none : (told : Option (List ℕ)) (bytes : List ℕ) → length bytes ≡ 0 → Adds told told bytes
adds_none told bytes none had e = e ∙ ap Some (sym (ap (λ (l : List ℕ). had ++ l) (nil_from_length bytes none) ∙ append-nil had))

-- none of some bytes
pub adds_front_none : (before now : Option (List ℕ)) (bytes : List ℕ) → 0 < length bytes → now ≡ before → AddsFront before now bytes
adds_front_none before now bytes some same had e = (0, some, same ∙ e ∙ ap Some (sym (append-nil had)))

-- a read that gave n bytes, at the end of those so far
pub given_some : (left piece old new : List ℕ) (now : Option (List ℕ)) (n : ℕ) → Gives left now n piece → 0 < length piece → new ≡ old ++ take n piece → ReadsSome left now old new
given_some left piece old new now n gives room added =
    let long : length (take n left) ≡ n = length-take-le n left gives.there in
    record {
      front = take n left;
      added = added ∙ ap (λ (l : List ℕ). old ++ l) gives.first;
      read = record { rest = drop n left; parts = sym (take-append-drop n left); left = gives.rest };
      ended = λ none. gives.ended (omega arith) room;
    }

-- a read that gave n bytes
pub given_few : (left piece : List ℕ) (now : Option (List ℕ)) (n most : ℕ) → Gives left now n piece → n ≤ most → LosesFew left now most
given_few left piece now n most gives few =
    let long : length (take n left) ≡ n = length-take-le n left gives.there in
    record {
      front = take n left;
      few = omega arith;
      read = record { rest = drop n left; parts = sym (take-append-drop n left); left = gives.rest };
    }

-- one piece more
pub read_on : (all old new : List ℕ) (before now : Option (List ℕ)) → HasRead all old before → ((left : List ℕ) → before ≡ Some left → ReadsSome left now old new) → HasRead all new now
read_on all old new before now read more =
    let some = more read.rest read.left in
    record {
      rest = some.read.rest;
      parts = read.parts ∙ ap (λ (l : List ℕ). old ++ l) some.read.parts ∙ sym (append_assoc old some.front some.read.rest) ∙ ap (λ (l : List ℕ). l ++ some.read.rest) (sym some.added);
      left = some.read.left;
    }

-- no bytes more: the end
pub read_end : (all old new : List ℕ) (before now : Option (List ℕ)) → HasRead all old before → ((left : List ℕ) → before ≡ Some left → ReadsSome left now old new) → length new ≡ length old → (new ≡ all) × (now ≡ Some [])
read_end all old new before now read more same =
    let some = more read.rest read.left in
    let long : length new ≡ length old + length some.front = ap length some.added ∙ length-append old some.front in
    let none : length some.front ≡ 0 = omega arith in
    let left : read.rest ≡ [] = some.ended none in
    let front : some.front ≡ [] = nil_from_length some.front none in
    let rest : some.read.rest ≡ [] = ap (λ (l : List ℕ). l ++ some.read.rest) (sym front) ∙ sym some.read.parts ∙ left in
    (some.added ∙ ap (λ (l : List ℕ). old ++ l) (front ∙ sym left) ∙ sym read.parts, some.read.left ∙ ap Some rest)

-- some bytes more are lost
pub lost_few : (all old : List ℕ) (before now : Option (List ℕ)) (most top : ℕ) → HasRead all old before → ((left : List ℕ) → before ≡ Some left → LosesFew left now most) → length old + most ≤ top → LosesFew all now top
lost_few all old before now most top read more fits =
    let few = more read.rest read.left in
    let long : length (old ++ few.front) ≡ length old + length few.front = length-append old few.front in
    record {
      front = old ++ few.front;
      few = omega (arith, few.few);
      read = record {
        rest = few.read.rest;
        parts = read.parts ∙ ap (λ (l : List ℕ). old ++ l) few.read.parts ∙ sym (append_assoc old few.front few.read.rest);
        left = few.read.left;
      };
    }

-- one byte more than the limit was read
pub read_past : (all bytes : List ℕ) (now : Option (List ℕ)) (limit : ℕ) → HasRead all bytes now → length bytes ≡ limit + 1 → (limit < length all) × (now ≡ Some (drop (limit + 1) all))
read_past all bytes now limit read long =
    let whole : length all ≡ length bytes + length read.rest = ap length read.parts ∙ length-append bytes read.rest in
    (omega arith, read.left ∙ ap Some (sym (ap (drop (limit + 1)) read.parts ∙ drop_at bytes read.rest (limit + 1) long)))

-- nothing more is lost
pub lost_none : (all old : List ℕ) (before now : Option (List ℕ)) (top : ℕ) → HasRead all old before → now ≡ before → length old ≤ top → LosesFew all now top
lost_none all old before now top read same few = record {
  front = old;
  few = few;
  read = record { rest = read.rest; parts = read.parts; left = same ∙ read.left };
}

-- what a read of all bytes leaves at an error other than TooLong
pub reads_all_lost : (all : List ℕ) (limit : ℕ) (e : ReadError) (now : Option (List ℕ)) → (e ≡ TooLong → ⊥) → LosesFew all now (limit + 1) → (e ≡ Failed → LosesFew all now limit) → ReadsAll all limit (Err e) now
reads_all_lost all limit Failed now other few failed = failed refl
reads_all_lost all limit TooLong now other few failed = absurd (other refl)
reads_all_lost all limit OutOfMemory now other few failed = few
