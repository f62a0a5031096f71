-- What replaying answers.
use Rattle.std.proofs.Common.{◌≡◌, ◌∙◌, ap, refl, subst, sym, ℕ, List}
use Rattle.std.specs.Prelude.{Result, Ok, Err, Option, Some, None, IfOk, IsOkUnless}
use Rattle.st_report.specs.Text.{report}
use Rattle.st_protocol.specs.Keeping.{given}
use Rattle.st_protocol.specs.World.{Fault, BadReference, Forged, TooMany, TooMuch, empty}
use Rattle.st_input.specs.declared.input.Input.{Input}
use Rattle.st_input.specs.declared.input.InputLine.{InputLine}
use Rattle.st_replay.specs.declared.lines.Replay.{Replay}
use Rattle.st_replay.specs.declared.error.ReplayError.{ReplayError}
use Rattle.st_replay.specs.declared.error.ReplayError.TheVariants as errors
use Rattle.st_replay.specs.Ends.{end_in, IsEnd}
use Rattle.st_replay.specs.Lines.{rows_in, world_after, IsReplayed}
use Rattle.st_replay.specs.Replay.{Replayed, Reported, Ended, replay_of, IsReplay}
use Rattle.st_replay.proofs.EndLaws.{no_end, ended_after, going_after}

-- what a replay comes to, by its end
abbrev replayed_by : Input → Option (ℕ × Fault) → Replayed
replayed_by input end = given end (Reported (report (rows_in input.deployment input.lines))) (λ x. Ended x.0 x.1)

by_end : (input : Input) (end : Option (ℕ × Fault)) → end_in input.deployment input.lines ≡ end → replay_of input ≡ replayed_by input end
unfolding replay_of
by_end input end is = ap (replayed_by input) is

by_error : (error : ReplayError) (input : Input) → IsEnd error (end_in input.deployment input.lines) → IsReplay (Err error) (replay_of input)
by_error (errors.BadReference line) input end = by_end input (Some (line, BadReference)) end
by_error (errors.Forged line place) input end = by_end input (Some (line, Forged place)) end
by_error (errors.TooMuch line bytes) input end = by_end input (Some (line, TooMuch bytes)) end
by_error (errors.TooMany line count) input end = by_end input (Some (line, TooMany count)) end
by_error errors.OutOfMemory input end = tt

-- a world that a line ends
pub ended_so : (result : Result (List ℕ) ReplayError) (error : ReplayError) (input : Input) → result ≡ Err error → IsEnd error (end_in input.deployment input.lines)
    → IsReplay result (replay_of input)
ended_so result error input is end = subst (λ (r : Result (List ℕ) ReplayError). IsReplay r (replay_of input)) (sym is) (by_error error input end)

-- a world that goes on, with its report
pub reported : (result : Result (List ℕ) ReplayError) (replay : Replay) (input : Input) → IsReplayed replay input.deployment input.lines
    → IfOk result (λ text. (lines : List InputLine) → IsReplayed replay input.deployment lines → text ≡ report (rows_in input.deployment lines)) → IsOkUnless result errors.OutOfMemory
    → IsReplay result (replay_of input)
reported (Ok text) replay input so is memory = by_end input None (no_end input.deployment empty input.lines so.world.going) ∙ ap Reported (sym (is input.lines so))
reported (Err errors.OutOfMemory) replay input so is memory = tt
reported (Err (errors.BadReference line)) replay input so is memory = absurd (let no : errors.BadReference line ≡ errors.OutOfMemory = memory in cc)
reported (Err (errors.Forged line place)) replay input so is memory = absurd (let no : errors.Forged line place ≡ errors.OutOfMemory = memory in cc)
reported (Err (errors.TooMuch line bytes)) replay input so is memory = absurd (let no : errors.TooMuch line bytes ≡ errors.OutOfMemory = memory in cc)
reported (Err (errors.TooMany line count)) replay input so is memory = absurd (let no : errors.TooMany line count ≡ errors.OutOfMemory = memory in cc)

-- ---- the end of the whole world

world_ends : (input : Input) (line : ℕ) (fault : Fault) (end : Option (ℕ × Fault)) → end_in input.deployment input.lines ≡ end → replayed_by input end ≡ Ended line fault
    → (world_after input.deployment input.lines).ended ≡ Some fault
world_ends input line fault None is e = absurd (cc)
world_ends input line fault (Some found) is e =
    let same : found.1 ≡ fault = cc in
    ended_after input.deployment empty input.lines found.0 found.1 is ∙ ap Some same

world_goes_on : (input : Input) (text : List ℕ) (end : Option (ℕ × Fault)) → end_in input.deployment input.lines ≡ end → replayed_by input end ≡ Reported text
    → (world_after input.deployment input.lines).ended ≡ None
unfolding empty
world_goes_on input text None is e = going_after input.deployment empty input.lines refl is
world_goes_on input text (Some found) is e = absurd (cc)

-- what ends a replay ends its world
pub ends_so : (input : Input) (line : ℕ) (fault : Fault) → replay_of input ≡ Ended line fault → (world_after input.deployment input.lines).ended ≡ Some fault
ends_so input line fault e = world_ends input line fault (end_in input.deployment input.lines) refl (sym (by_end input (end_in input.deployment input.lines) refl) ∙ e)

-- a replay with a report has a world that goes on
pub goes_so : (input : Input) (text : List ℕ) → replay_of input ≡ Reported text → (world_after input.deployment input.lines).ended ≡ None
goes_so input text e = world_goes_on input text (end_in input.deployment input.lines) refl (sym (by_end input (end_in input.deployment input.lines) refl) ∙ e)
