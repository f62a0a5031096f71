-- How event lines are read, line by line.
use Rattle.std.proofs.Common.{◌≡◌, ◌∙◌, ℕ, ◌+◌, ◌≤◌, List, [], ◌∷◌, ◌++◌, length, Result, Ok, Err, refl, sym, ap, subst, arith}
use Rattle.std.specs.Str.Lines.{lines}
use Rattle.std.proofs.lemmas.List.{append-nil, append_assoc, length-append}
use Rattle.st_input.specs.declared.fault.InputFault.{InputFault}
use Rattle.st_input.specs.declared.fault.InputError.{InputError}
use Rattle.st_input.specs.declared.fault.InputError.TheVariants.{Fault, OutOfMemory}
use Rattle.st_input.specs.declared.input.InputLine.{InputLine}
use Rattle.st_input.specs.Input.{Read, Reads, ◌>>=◌, before, events_from, line_at}

-- These events are those of the lines so far, and the lines of the rest begin with this number.
pub record IsReading (text : List ℕ) (first : ℕ) (events : List InputLine) (number : ℕ) (rest : List ℕ) : Type 0 where
  pub read : before events (events_from number (length events) (lines rest)) ≡ events_from first 0 (lines text)
  pub few : number + length rest ≤ first + length text

-- before no events
nothing_before : (read : Read (List InputLine)) → before [] read ≡ read
nothing_before (Ok events) = refl
nothing_before (Err fault) = refl

-- before some events and before others
both_before : (a b : List InputLine) (read : Read (List InputLine)) → before a (before b read) ≡ before (a ++ b) read
both_before a b (Ok events) = ap Ok (sym (append_assoc a b events))
both_before a b (Err fault) = refl

-- what is read at and below a line, with what was read above it
abbrev at_and_below : ℕ → List InputLine → List (List ℕ) → Read (List InputLine) → Read (List InputLine)
at_and_below number events more here = before events (here >>= λ xs. before xs (events_from (number + 1) (length events + length xs) more))

-- a line of which all is read
read_on : (number : ℕ) (events now : List InputLine) (more : List (List ℕ)) (here : Read (List InputLine)) → before events here ≡ Ok now
    → at_and_below number events more here ≡ before now (events_from (number + 1) (length now) more)
read_on number events now more (Ok xs) e =
    let same : events ++ xs ≡ now = cc in
    both_before events xs (events_from (number + 1) (length events + length xs) more)
    ∙ (ap (λ (k : ℕ). before (events ++ xs) (events_from (number + 1) k more)) (sym (length-append events xs))
    ∙ ap (λ (ys : List InputLine). before ys (events_from (number + 1) (length ys) more)) same)
read_on number events now more (Err fault) e = absurd (cc)

-- a line with a fault
stopped_at : (number : ℕ) (events : List InputLine) (more : List (List ℕ)) (here : Read (List InputLine)) (fault : InputFault) → before events here ≡ Err fault
    → at_and_below number events more here ≡ Err fault
stopped_at number events more (Ok xs) fault e = absurd (cc)
stopped_at number events more (Err found) fault e = e

-- the next line of the text
next_line : (text : List ℕ) (first : ℕ) (events : List InputLine) (number : ℕ) (rest line : List ℕ) (more : List (List ℕ))
    → IsReading text first events number rest → lines rest ≡ line ∷ more → at_and_below number events more (line_at number (length events) line) ≡ events_from first 0 (lines text)
unfolding events_from
next_line text first events number rest line more r e =
    sym (ap (λ (ls : List (List ℕ)). before events (events_from number (length events) ls)) e) ∙ r.read

-- at first no line is read
pub begun : (text : List ℕ) (first : ℕ) → IsReading text first [] first text
begun text first = record { read = nothing_before (events_from first 0 (lines text)); few = omega arith }

-- one line more is read
pub goes_on : (text : List ℕ) (first : ℕ) (events : List InputLine) (number : ℕ) (rest line more : List ℕ) (now : List InputLine)
    → IsReading text first events number rest → lines rest ≡ line ∷ lines more → length more + 1 ≤ length rest
    → before events (line_at number (length events) line) ≡ Ok now → IsReading text first now (number + 1) more
goes_on text first events number rest line more now r e less here = record {
  read =
      sym (read_on number events now (lines more) (line_at number (length events) line) here)
      ∙ next_line text first events number rest line (lines more) r e;
  few = omega (arith, r.few);
}

-- the first line with a fault
pub stops : (text : List ℕ) (first : ℕ) (events : List InputLine) (number : ℕ) (rest line : List ℕ) (more : List (List ℕ)) (fault : InputFault)
    → IsReading text first events number rest → lines rest ≡ line ∷ more → before events (line_at number (length events) line) ≡ Err fault
    → events_from first 0 (lines text) ≡ Err fault
stops text first events number rest line more fault r e here =
    sym (next_line text first events number rest line more r e) ∙ stopped_at number events more (line_at number (length events) line) fault here

-- at the end all events are read
pub at_end : (text : List ℕ) (first : ℕ) (events : List InputLine) (number : ℕ) (rest : List ℕ) → IsReading text first events number rest → rest ≡ []
    → events_from first 0 (lines text) ≡ Ok events
unfolding events_from
at_end text first events number rest r e =
    sym r.read ∙ (ap (λ (xs : List ℕ). before events (events_from number (length events) (lines xs))) e ∙ ap Ok (append-nil events))

-- a fault that was found is what is read, unless memory is refused
pub refused : {A : Type 0} (r : Result A InputError) (error : InputError) (read : Read A) → r ≡ Err error → ((fault : InputFault) → error ≡ Fault fault → read ≡ Err fault) → Reads r read
refused {A} r (Fault fault) read e is = subst (λ (x : Result A InputError). Reads x read) (sym e) (is fault refl)
refused {A} r OutOfMemory read e is = subst (λ (x : Result A InputError). Reads x read) (sym e) tt
