-- Every server of a world is up to date, whatever event lines came.
use Rattle.std.proofs.Common.{◌≡◌, ℕ, cond, List, [], ◌∷◌, ◌++◌, refl, sym, subst}
use Rattle.std.specs.Prelude.{None}
use Rattle.st_message.specs.declared.event.Plan.{Plan}
use Rattle.st_message.specs.declared.change.Change.{Change}
use Rattle.st_message.specs.declared.change.Heard.{Heard}
use Rattle.st_schedule.specs.declared.line.Line.{Line}
use Rattle.st_protocol.specs.State.{Seat}
use Rattle.st_protocol.specs.Questions.{questions}
use Rattle.st_protocol.specs.Duty.{Event}
use Rattle.st_protocol.specs.World.{Deployment, Node, World, fresh_node, empty, is_nil, seat_of, reads, pen_at, settled, plan_at}
use Rattle.st_protocol.specs.Schedule.{steps}
use Rattle.st_protocol.specs.Report.{answers_at}
use Rattle.st_protocol.proofs.QuestionLaws.{one_body}
use Rattle.st_frame_laws.proofs.ChoiceLaws.{chosen_any}
use Rattle.st_frame_laws.proofs.NodeFrame.{AreNodesKept, nodes_kept}
use Rattle.st_in_hand.specs.InHand.{IsUpToDate, ExecutesInHand, answers_hearing}
use Rattle.st_in_hand.proofs.HeardLaws.{up_to_date_at_first}
use Rattle.st_in_hand.proofs.EventLaws.{event_executes, event_leaves}

-- a body of no changes says nothing
body_of_nothing : (seat : Seat) (bodies : List (List Change)) (heard : List Heard) (changes : List Change) →
    questions seat (cond (is_nil changes) bodies (bodies ++ changes ∷ [])) heard ≡ questions seat (bodies ++ changes ∷ []) heard
body_of_nothing seat bodies heard [] = sym (one_body seat bodies heard [])
body_of_nothing seat bodies heard (x ∷ xs) = refl

module _ {Wire : Type 0} (d : Deployment Wire) where
  -- a server of this place with such lists is up to date
  abbrev IsServerUpToDate : ℕ → ℕ → Node → Type 0
  IsServerUpToDate site index node = IsUpToDate (questions (seat_of d site index) node.bodies node.heard)

  -- a server after its plan
  up_settled : (world : World Wire) (site index : ℕ) (event : Event Wire) → IsServerUpToDate site index (world.nodes site index) →
      IsServerUpToDate site index (settled d (world.nodes site index) (plan_at d world site index event))
  up_settled world site index event up =
      let node : Node = world.nodes site index in
      let plan : Plan = plan_at d world site index event in
      subst IsUpToDate (sym (body_of_nothing (seat_of d site index) node.bodies (node.heard ++ plan.heard) plan.changes))
      (event_leaves (seat_of d site index) node.bodies node.heard (reads d) (pen_at d site index) event up)

  -- a stop leaves what was recorded and heard, and after a restart nothing was heard
  up_is_kept : AreNodesKept d (λ world. Unit {0}) (λ world wire. Unit {0}) IsServerUpToDate
  up_is_kept =
      record {
        settling = λ world site index event runs e r up. up_settled world site index event up;
        stopping = λ world site index event runs e r up. up;
        filling = λ site index node runs up. up;
        setting = λ site index node call runs up. up;
        restarting = λ site index node kept runs up.
            chosen_any (IsServerUpToDate site index) (cond kept node.apart None) _ _ (up_to_date_at_first (seat_of d site index) node.bodies)
            (λ changes. up_to_date_at_first (seat_of d site index) (node.bodies ++ changes ∷ []));
      }

  up_empty : (site index : ℕ) → IsServerUpToDate site index ((empty {Wire = Wire}).nodes site index)
  unfolding empty fresh_node
  up_empty site index = up_to_date_at_first (seat_of d site index) []

  -- ---- the laws

  -- Every server is up to date after any lines.
  pub servers_up_to_date : (all : List Line) (site index : ℕ) → IsUpToDate (answers_at d (steps d empty all) site index)
  servers_up_to_date all = nodes_kept d IsServerUpToDate up_is_kept empty all up_empty

  -- Its next event executes what is in hand once its message was heard.
  pub next_event_executes : (all : List Line) (site index : ℕ) (event : Event Wire) →
      ExecutesInHand (answers_hearing d (steps d empty all) site index (plan_at d (steps d empty all) site index event)) (plan_at d (steps d empty all) site index event).changes
  next_event_executes all site index event =
      let node : Node = (steps d empty all).nodes site index in
      event_executes (seat_of d site index) node.bodies node.heard (reads d) (pen_at d site index) event (servers_up_to_date all site index)
