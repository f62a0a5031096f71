-- Which answer is given to which words and bytes.
use Rattle.std.proofs.Common.{◌≡◌, ◌≢◌, ◌∙◌, ap, ◌<◌, ◌≤◌, ℕ, true, false, List, [], ◌∷◌, ◌++◌, length, leb, Option, Some, inl, inr, refl, sym, arith}
use Rattle.std.specs.Fmt.{decimal}
use Rattle.std.proofs.lemmas.Bool.{cond-true, cond-false, cond_both, leb-true, false_from_ne_true, false≢true}
use Rattle.st_protocol.specs.World.{Fault, BadReference, Forged, TooMany, TooMuch}
use Rattle.st_input.specs.declared.limits.TheConstants.{MOST_INPUT}
use Rattle.st_input.specs.declared.fault.InputFault.{InputFault}
use Rattle.st_input.specs.declared.fault.InputFault.TheVariants as faults
use Rattle.st_input.specs.declared.input.Input.{Input}
use Rattle.st_input.specs.declared.input.InputLine.{InputLine}
use Rattle.st_input.specs.Input.{Read, input_of}
use Rattle.st_run.specs.declared.answer.Answer.{Answer}
use Rattle.st_run.specs.declared.status.Status.{Status}
use Rattle.st_run.specs.declared.status.Status.TheVariants as statuses
use Rattle.st_replay.specs.Replay.{Replayed, Reported, Ended, replay_of}
use Rattle.st_run.specs.Answers.{answer_of, at_line, bad_input, bytes_answer, ended_answer, fault_answer, forged, input_answer, is_replay, replay_answer, too_large, usage}
use Rattle.st_run.specs.Outcomes.{EndsReplay, IsAnswered, IsAnswerTo}
use Rattle.st_run.specs.Promised.{IsPromised}
use Rattle.std.specs.Prelude.{Result, Ok, Err, IfOk, codes}
use Rattle.std.specs.List.{All}
use Rattle.std.proofs.lemmas.List.Elements.{All-head, All-tail, All-cons}
use Rattle.st_fields.specs.declared.error.WordsError.{WordsError}
use Rattle.st_config.specs.Built.{IsBuilt}
use Rattle.st_config.specs.Taken.{IsTaken}
use Rattle.st_replay.specs.Lines.{events_in}
use Rattle.st_promises.proofs.DeployedLaws.{taken_keeps}

-- what an input is answered with
abbrev AnswersInput : Status → Type 0
AnswersInput statuses.Ok = Unit {0}
AnswersInput statuses.BadInput = Unit {0}
AnswersInput statuses.Forged = Unit {0}
AnswersInput statuses.TooLarge = Unit {0}
AnswersInput _ = ⊥

-- so a replay may end, with its answer
pub record AnswersReplay (status : Status) : Type 0 where
  pub answered : IsAnswered status
  pub no_usage : status ≢ statuses.Usage
  pub ends : EndsReplay status

answers_replay : (status : Status) → AnswersInput status → AnswersReplay status
answers_replay statuses.Ok is = record { answered = tt; no_usage = λ e. cc; ends = tt }
answers_replay statuses.BadInput is = record { answered = tt; no_usage = λ e. cc; ends = tt }
answers_replay statuses.Forged is = record { answered = tt; no_usage = λ e. cc; ends = tt }
answers_replay statuses.TooLarge is = record { answered = tt; no_usage = λ e. cc; ends = tt }
answers_replay _ is = absurd is

pub usage_answered : IsAnswered usage.status
unfolding usage
usage_answered = tt

-- too much
too_large_answered : (what : List ℕ) → AnswersInput (too_large what).status
unfolding too_large
too_large_answered what = tt

pub too_large_replay : (what : List ℕ) → AnswersReplay (too_large what).status
too_large_replay what = answers_replay (too_large what).status (too_large_answered what)

pub too_large_is : (what : List ℕ) → (too_large what).status ≡ statuses.TooLarge
unfolding too_large
too_large_is what = refl

bad_input_answered : (what : List ℕ) → AnswersInput (bad_input what).status
unfolding bad_input
bad_input_answered what = tt

forged_answered : (what : List ℕ) → AnswersInput (forged what).status
unfolding forged
forged_answered what = tt

fault_answered : (fault : InputFault) → AnswersInput (fault_answer fault).status
unfolding fault_answer
fault_answered faults.Utf8 = bad_input_answered (codes "utf-8")
fault_answered faults.NoSeparator = bad_input_answered (codes "no separator")
fault_answered faults.Deployment = bad_input_answered (codes "deployment: not-built")
fault_answered (faults.TooManyLines n) = too_large_answered (at_line n [])
fault_answered (faults.LongLine n) = too_large_answered (at_line n [])
fault_answered (faults.Grammar n) = bad_input_answered (at_line n (codes ": grammar"))
fault_answered (faults.NotBuilt n) = bad_input_answered (at_line n (codes ": not-built"))

ended_answered : (n : ℕ) (fault : Fault) → AnswersInput (ended_answer n fault).status
unfolding ended_answer
ended_answered n BadReference = bad_input_answered (at_line n (codes ": reference"))
ended_answered n (Forged place) = forged_answered (at_line n (codes " place " ++ decimal place))
ended_answered n (TooMany count) = too_large_answered (codes "messages")
ended_answered n (TooMuch bytes) = too_large_answered (codes "messages")

replay_answered : (r : Replayed) → AnswersInput (replay_answer r).status
replay_answered (Reported text) = tt
replay_answered (Ended n fault) = ended_answered n fault

input_answered : (input : Read Input) → AnswersInput (input_answer input).status
input_answered (Ok input) = replay_answered (replay_of input)
input_answered (Err fault) = fault_answered fault

bytes_answered : (bytes : List ℕ) → AnswersInput (bytes_answer bytes).status
unfolding bytes_answer
bytes_answered bytes =
    cond_both (leb (length bytes) MOST_INPUT) (input_answer (input_of bytes)) (too_large (codes "input")) (λ (a : Answer). AnswersInput a.status) (λ short. input_answered (input_of bytes)) (λ long. too_large_answered (codes "input"))

-- each answer to bytes is one that a replay comes to
pub bytes_replay : (bytes : List ℕ) → AnswersReplay (bytes_answer bytes).status
bytes_replay bytes = answers_replay (bytes_answer bytes).status (bytes_answered bytes)

-- other words are answered with how the program is called
pub of_other_words : (words : List (List ℕ)) (bytes : List ℕ) → is_replay words ≡ false → answer_of words bytes ≡ usage
unfolding answer_of
of_other_words words bytes e = cond-false (is_replay words) (bytes_answer bytes) usage e

-- `replay` is answered by the bytes
pub of_replay : (words : List (List ℕ)) (bytes : List ℕ) → is_replay words ≡ true → answer_of words bytes ≡ bytes_answer bytes
unfolding answer_of
of_replay words bytes e = cond-true (is_replay words) (bytes_answer bytes) usage e

-- too many bytes are answered so
pub of_many_bytes : (words : List (List ℕ)) (bytes : List ℕ) → is_replay words ≡ true → MOST_INPUT < length bytes → answer_of words bytes ≡ too_large (codes "input")
unfolding bytes_answer
of_many_bytes words bytes e many =
    of_replay words bytes e
    ∙ cond-false (leb (length bytes) MOST_INPUT) (input_answer (input_of bytes)) (too_large (codes "input"))
    (false_from_ne_true _ (λ few. let fits : length bytes ≤ MOST_INPUT = leb-true (length bytes) MOST_INPUT few in omega arith))

-- what other words are answered with is the answer
pub words_answer : (words : List (List ℕ)) (left : Option (List ℕ)) (answer : Answer) → is_replay words ≡ false → IsAnswerTo words left answer → usage ≡ answer
unfolding IsAnswerTo
words_answer words left answer other (inl (e, is)) = sym is
words_answer words left answer other (inr (bytes, told, is)) = sym (is ∙ of_other_words words bytes other)

-- what `replay` is answered with is the answer
pub replayed_answer : (words : List (List ℕ)) (left : Option (List ℕ)) (answer given : Answer) → is_replay words ≡ true → IsAnswerTo words left answer
    → ((bytes : List ℕ) → left ≡ Some bytes → given ≡ answer_of words bytes) → given ≡ answer
unfolding IsAnswerTo
replayed_answer words left answer given test (inl (other, is)) all = absurd (false≢true (sym other ∙ test))
replayed_answer words left answer given test (inr (bytes, told, is)) all = all bytes told ∙ sym is

-- other words than `replay` determine the answer, whatever the source tells
pub told_by_words : (words : List (List ℕ)) (left : Option (List ℕ)) → is_replay words ≡ false → IsAnswerTo words left usage
unfolding IsAnswerTo
told_by_words words left other = inl (other, refl)

-- what is left in the source determines the answer
pub told_by_source : (words : List (List ℕ)) (left : Option (List ℕ)) (bytes : List ℕ) → left ≡ Some bytes → IsAnswerTo words left (answer_of words bytes)
unfolding IsAnswerTo
told_by_source words left bytes told = inr (bytes, told, refl)

-- ---- what is promised of a report

pub never_ok_usage : (answer : Answer) → answer ≡ usage → answer.status ≢ statuses.Ok
unfolding usage
never_ok_usage answer is ok = let no : statuses.Usage ≡ statuses.Ok = sym (ap (λ (a : Answer). a.status) is) ∙ ok in cc

pub never_ok_too_large : (what : List ℕ) (answer : Answer) → answer ≡ too_large what → answer.status ≢ statuses.Ok
unfolding too_large
never_ok_too_large what answer is ok = let no : statuses.TooLarge ≡ statuses.Ok = sym (ap (λ (a : Answer). a.status) is) ∙ ok in cc

never_ok_bad_input : (what : List ℕ) (answer : Answer) → answer ≡ bad_input what → answer.status ≢ statuses.Ok
unfolding bad_input
never_ok_bad_input what answer is ok = let no : statuses.BadInput ≡ statuses.Ok = sym (ap (λ (a : Answer). a.status) is) ∙ ok in cc

never_ok_fault : (fault : InputFault) (answer : Answer) → answer ≡ fault_answer fault → answer.status ≢ statuses.Ok
unfolding fault_answer
never_ok_fault faults.Utf8 answer is ok = never_ok_bad_input (codes "utf-8") answer is ok
never_ok_fault faults.NoSeparator answer is ok = never_ok_bad_input (codes "no separator") answer is ok
never_ok_fault faults.Deployment answer is ok = never_ok_bad_input (codes "deployment: not-built") answer is ok
never_ok_fault (faults.TooManyLines n) answer is ok = never_ok_too_large (at_line n []) answer is ok
never_ok_fault (faults.LongLine n) answer is ok = never_ok_too_large (at_line n []) answer is ok
never_ok_fault (faults.Grammar n) answer is ok = never_ok_bad_input (at_line n (codes ": grammar")) answer is ok
never_ok_fault (faults.NotBuilt n) answer is ok = never_ok_bad_input (at_line n (codes ": not-built")) answer is ok

-- an input with a fault has no report
pub fault_promises : (r : Result Answer WordsError) (bytes : List ℕ) (fault : InputFault) → IfOk r (λ answer. answer ≡ fault_answer fault)
    → IfOk r (λ answer. answer.status ≡ statuses.Ok → IsPromised bytes)
fault_promises (Ok answer) bytes fault is = λ ok. absurd (never_ok_fault fault answer is ok)
fault_promises (Err error) bytes fault is = tt

-- the events of lines that are taken are taken
built_events : (xs : List InputLine) → All (λ x. IsBuilt x.line) xs → All IsBuilt (events_in xs)
built_events [] built = λ k line below. absurd (omega (arith, below))
built_events (x ∷ xs) built =
    All-cons IsBuilt x.line (events_in xs) (All-head (λ (y : InputLine). IsBuilt y.line) x xs built) (built_events xs (All-tail (λ (y : InputLine). IsBuilt y.line) x xs built))

-- an input that was read has a world that keeps its promises
pub input_promises : (r : Result Answer WordsError) (bytes : List ℕ) (input : Input) → input_of bytes ≡ Ok input → IsTaken input.deployment → All (λ x. IsBuilt x.line) input.lines
    → IfOk r (λ answer. answer.status ≡ statuses.Ok → IsPromised bytes)
input_promises (Ok answer) bytes input spells taken built =
    λ ok. record { input = input; spells = spells; keeps = taken_keeps input.deployment (events_in input.lines) taken (built_events input.lines built) }
input_promises (Err error) bytes input spells taken built = tt
