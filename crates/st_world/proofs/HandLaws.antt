-- A server's messages are handed out, one by one.
use Rattle.std.proofs.Common.{◌≡◌, ◌∙◌, ap, sym, subst, refl, ℕ, ◌+◌, ◌<◌, List, [], ◌∷◌, ◌++◌, length, take, drop, get_or}
use Rattle.std.specs.List.{fold}
use Rattle.std.proofs.lemmas.List.{take-append-drop}
use Rattle.st_server.proofs.LoopLaws.{taken_next, dropped_next}
use Rattle.st_words.specs.declared.deployment.Deployment.{Deployment}
use Rattle.st_message.specs.declared.event.Output.{Output}
use Rattle.st_protocol.specs.Words.{Bytes}
use Rattle.st_protocol.specs.World as model
use Rattle.st_protocol.specs.World.{Fault, hands_one, hands_out}
use Rattle.st_flows.proofs.EndLaws.{hands_out_ended}
use Rattle.st_deployment.specs.Deployed.{world_deployment}
use Rattle.st_world.specs.declared.world.World.{World}
use Rattle.st_world.specs.declared.error.StepError.{StepError}
use Rattle.st_world.specs.Handing.{IsHanded}
use Rattle.st_world.specs.Standing.{IsWorld, IsStanding, EndsBy}
use Rattle.st_world.proofs.EndLaws.{ends_still}

fold_more : {S X : Type 0} (f : S → X → S) (s : S) (xs : List X) (x : X) → fold f s (xs ++ x ∷ []) ≡ f (fold f s xs) x
fold_more f s [] x = refl
fold_more f s (y ∷ ys) x = fold_more f (f s y) ys x

fold_join : {S X : Type 0} (f : S → X → S) (s : S) (xs ys : List X) → fold f s (xs ++ ys) ≡ fold f (fold f s xs) ys
fold_join f s [] ys = refl
fold_join f s (x ∷ xs) ys = fold_join f (f s x) xs ys

-- the world in which some are handed out stands
pub handed_stands : (start now : World) (done : List Output) → IsStanding start → IsHanded start now done → IsStanding now
handed_stands start now done so handed =
    record { deployment = so.deployment; model = hands_out (world_deployment so.deployment) 0 0 so.model done; stands = handed so.deployment so.model so.stands }

pub handed_more : (start old new : World) (outs : List Output) (i : ℕ) (o : Output) → IsHanded start old (take i outs) → i < length outs → o ≡ get_or outs i o
    → ((d : Deployment) (m : model.World Bytes) → IsWorld old d m → IsWorld new d (hands_one (world_deployment d) 0 0 m o)) → IsHanded start new (take (i + 1) outs)
handed_more start old new outs i o so below is step =
    λ d m stands.
    let at : hands_out (world_deployment d) 0 0 m (take (i + 1) outs) ≡ hands_one (world_deployment d) 0 0 (hands_out (world_deployment d) 0 0 m (take i outs)) o =
    ap (hands_out (world_deployment d) 0 0 m) (taken_next outs i o below is) ∙ fold_more (hands_one (world_deployment d) 0 0) m (take i outs) o in
    subst (IsWorld new d) (sym at) (step d (hands_out (world_deployment d) 0 0 m (take i outs)) (so d m stands))

pub handed_over : (e : StepError) (start old : World) (outs : List Output) (i : ℕ) (o : Output) → IsHanded start old (take i outs) → i < length outs → o ≡ get_or outs i o
    → ((d : Deployment) (m : model.World Bytes) → IsWorld old d m → EndsBy e (hands_one (world_deployment d) 0 0 m o).ended)
    → (d : Deployment) (m : model.World Bytes) → IsWorld start d m → EndsBy e (hands_out (world_deployment d) 0 0 m outs).ended
handed_over e start old outs i o so below is step d m stands =
    let here : model.World Bytes = hands_one (world_deployment d) 0 0 (hands_out (world_deployment d) 0 0 m (take i outs)) o in
    let at : hands_out (world_deployment d) 0 0 m outs ≡ hands_out (world_deployment d) 0 0 here (drop (i + 1) outs) =
    ap (hands_out (world_deployment d) 0 0 m) (sym (take-append-drop i outs) ∙ ap (λ ys. take i outs ++ ys) (dropped_next outs i o below is))
    ∙ fold_join (hands_one (world_deployment d) 0 0) m (take i outs) (o ∷ drop (i + 1) outs) in
    ends_still e here.ended (hands_out (world_deployment d) 0 0 m outs).ended
    (λ (f : Fault) ended. ap (λ (w : model.World Bytes). w.ended) at ∙ hands_out_ended (world_deployment d) f 0 0 here (drop (i + 1) outs) ended)
    (step d (hands_out (world_deployment d) 0 0 m (take i outs)) (so d m stands))
