-- The clients so far have their rows.
use Rattle.std.proofs.Common.{◌≡◌, [], ◌∷◌}
use Rattle.st_words.specs.declared.deployment.Deployment.{Deployment}
use Rattle.st_protocol.specs.Words.{Bytes}
use Rattle.st_protocol.specs.Step.{all_below}
use Rattle.st_protocol.specs.Report.{client_row}
use Rattle.st_protocol.specs.World as model
use Rattle.st_world.specs.Standing.{IsWorld}
use Rattle.st_replay.proofs.clients.client_rows.Given as goal

abbrev pub invariant-loop-client : goal.invariant-loop-client
invariant-loop-client l = (d : Deployment) (m : model.World Bytes) → IsWorld l.world d m → l.clients ≡ d.clients → l.rows ≡ all_below (λ c. client_row c (m.customers c) ∷ []) l.client
