-- Where event lines end a world.
use Rattle.std.proofs.Common.{◌≡◌, ◌∙◌, ap, refl, sym, suc, ℕ, ◌<◌, Option, Some, None, List, [], ◌∷◌, ◌++◌, length, take, drop, get_or}
use Rattle.std.proofs.Math.Seq.{drop-cons}
use Rattle.std.proofs.lemmas.List.{take-append-drop}
use Rattle.st_words.specs.declared.deployment.Deployment.{Deployment}
use Rattle.st_protocol.specs.Words.{Bytes}
use Rattle.st_protocol.specs.Keeping.{given}
use Rattle.st_protocol.specs.World as model
use Rattle.st_protocol.specs.World.{Fault, TooMany, TooMuch, empty}
use Rattle.st_protocol.specs.Schedule.{step, goes_on, steps}
use Rattle.st_flows.proofs.EndLaws.{steps_ended}
use Rattle.st_input.specs.declared.input.InputLine.{InputLine}
use Rattle.st_deployment.specs.Deployed.{world_deployment}
use Rattle.st_world.specs.declared.error.WorldError.{WorldError}
use Rattle.st_world.specs.declared.error.WorldError.TheVariants as worlds
use Rattle.st_world.specs.Standing.{Ends}
use Rattle.st_replay.specs.declared.lines.Replay.{Replay}
use Rattle.st_replay.specs.Ends.{end_from, end_in, ended_at, IsEnd}
use Rattle.st_replay.specs.Lines.{events_in, world_after, IsReplayed}

-- what these lines lead to
abbrev led : Deployment → model.World Bytes → List InputLine → model.World Bytes
led d world lines = steps (world_deployment d) world (events_in lines)

-- what one line leads to
abbrev next : Deployment → model.World Bytes → InputLine → model.World Bytes
next d world x = goes_on (world_deployment d) world x.line

-- by whether a world had ended
by_start : (d : Deployment) (world : model.World Bytes) (lines : List InputLine) (end : Option Fault) → world.ended ≡ end → (led d world lines).ended ≡ None → world.ended ≡ None
by_start d world lines None is going = is
by_start d world lines (Some fault) is going =
    absurd (let no : Some fault ≡ None = sym (steps_ended (world_deployment d) fault world (events_in lines) is) ∙ going in cc)

-- a world that goes on after lines went on before them
going_before : (d : Deployment) (world : model.World Bytes) (lines : List InputLine) → (led d world lines).ended ≡ None → world.ended ≡ None
going_before d world lines going = by_start d world lines world.ended refl going

-- the end at a line, by what the line leads to
abbrev end_by : Deployment → model.World Bytes → InputLine → List InputLine → Option Fault → Option (ℕ × Fault)
end_by d world x more end = given end (end_from d (next d world x) more) (λ fault. Some (x.number, fault))

end_is : (d : Deployment) (world : model.World Bytes) (x : InputLine) (more : List InputLine) (end : Option Fault) → (next d world x).ended ≡ end
    → end_from d world (x ∷ more) ≡ end_by d world x more end
unfolding end_from
end_is d world x more end is = ap (end_by d world x more) is

no_lines : (d : Deployment) (world : model.World Bytes) → end_from d world [] ≡ None
unfolding end_from
no_lines d world = refl

-- no line ends a world that goes on after all of them
pub no_end : (d : Deployment) (world : model.World Bytes) (lines : List InputLine) → (led d world lines).ended ≡ None → end_from d world lines ≡ None
no_end d world [] going = no_lines d world
no_end d world (x ∷ more) going = end_is d world x more None (going_before d (next d world x) more going) ∙ no_end d (next d world x) more going

-- a line that ends a world is its end, whatever comes after it
end_at : (d : Deployment) (world : model.World Bytes) (before : List InputLine) (x : InputLine) (more : List InputLine) (fault : Fault)
    → (led d world before).ended ≡ None → (next d (led d world before) x).ended ≡ Some fault → end_from d world (before ++ x ∷ more) ≡ Some (x.number, fault)
end_at d world [] x more fault going ends = end_is d world x more (Some fault) ends
end_at d world (y ∷ ys) x more fault going ends =
    end_is d world y (ys ++ x ∷ more) None (going_before d (next d world y) ys going) ∙ end_at d (next d world y) ys x more fault going ends

-- a line that ends the world in memory
module _ (old : Replay) (d : Deployment) (before : List InputLine) (x : InputLine) (more : List InputLine) (so : IsReplayed old d before) where
  -- by a fault that is known
  pub ends_by : (fault : Fault) → (step (world_deployment d) (world_after d before) x.line).world.ended ≡ Some fault → end_in d (before ++ x ∷ more) ≡ Some (x.number, fault)
  ends_by fault ends = end_at d empty before x more fault so.world.going ends

-- it says where the lines end the world
pub ends_as : (old : Replay) (d : Deployment) (before : List InputLine) (x : InputLine) (more : List InputLine) (e : WorldError) → IsReplayed old d before
    → Ends x.number e (step (world_deployment d) (world_after d before) x.line).world.ended → IsEnd (ended_at x.number e) (end_in d (before ++ x ∷ more))
ends_as old d before x more (worlds.BadReference line) so ends = ends_by old d before x more so model.BadReference ends.1 ∙ ap (λ n. Some (n, model.BadReference)) (sym ends.0)
ends_as old d before x more (worlds.Forged line place) so ends = ends_by old d before x more so (model.Forged place) ends.1 ∙ ap (λ n. Some (n, model.Forged place)) (sym ends.0)
ends_as old d before x more (worlds.TooMany count) so ends = ends_by old d before x more so (TooMany count) ends.1
ends_as old d before x more (worlds.TooMuch bytes) so ends = ends_by old d before x more so (TooMuch bytes) ends
ends_as old d before x more worlds.OutOfMemory so ends = tt

-- a line among all
pub line_and_rest : (lines : List InputLine) (k : ℕ) (x : InputLine) → k < length lines → x ≡ get_or lines k x → take k lines ++ x ∷ drop (suc k) lines ≡ lines
line_and_rest lines k x below is =
    ap (λ (ys : List InputLine). take k lines ++ ys) (ap (λ (y : InputLine). y ∷ drop (suc k) lines) is ∙ sym (drop-cons lines k x below)) ∙ take-append-drop k lines

-- ---- what ends a world at a line ends it in the end

ends_later : (d : Deployment) (world : model.World Bytes) (x : InputLine) (more : List InputLine) (line : ℕ) (fault : Fault) (end : Option Fault)
    → ((end_from d (next d world x) more ≡ Some (line, fault)) → (led d world (x ∷ more)).ended ≡ Some fault) → (next d world x).ended ≡ end
    → end_by d world x more end ≡ Some (line, fault) → (led d world (x ∷ more)).ended ≡ Some fault
ends_later d world x more line fault None later is e = later e
ends_later d world x more line fault (Some found) later is e =
    let same : found ≡ fault = ap (λ (o : Option (ℕ × Fault)). given o fault (λ p. p.1)) e in
    steps_ended (world_deployment d) fault (next d world x) (events_in more) (is ∙ ap Some same)

-- a world with an end has ended
pub ended_after : (d : Deployment) (world : model.World Bytes) (lines : List InputLine) (line : ℕ) (fault : Fault) → end_from d world lines ≡ Some (line, fault)
    → (led d world lines).ended ≡ Some fault
ended_after d world [] line fault e = absurd (let no : None ≡ Some (line, fault) = sym (no_lines d world) ∙ e in cc)
ended_after d world (x ∷ more) line fault e =
    ends_later d world x more line fault (next d world x).ended (ended_after d (next d world x) more line fault) refl (sym (end_is d world x more (next d world x).ended refl) ∙ e)

goes_later : (d : Deployment) (world : model.World Bytes) (x : InputLine) (more : List InputLine) (end : Option Fault)
    → ((next d world x).ended ≡ None → end_from d (next d world x) more ≡ None → (led d world (x ∷ more)).ended ≡ None) → (next d world x).ended ≡ end
    → end_by d world x more end ≡ None → (led d world (x ∷ more)).ended ≡ None
goes_later d world x more None later is e = later is e
goes_later d world x more (Some found) later is e = absurd (cc)

-- a world without an end goes on
pub going_after : (d : Deployment) (world : model.World Bytes) (lines : List InputLine) → world.ended ≡ None → end_from d world lines ≡ None → (led d world lines).ended ≡ None
going_after d world [] going e = going
going_after d world (x ∷ more) going e =
    goes_later d world x more (next d world x).ended (λ on none. going_after d (next d world x) more on none) refl (sym (end_is d world x more (next d world x).ended refl) ∙ e)
