-- A faulty server runs no code, so it has recorded nothing.
use Rattle.std.proofs.Common.{◌≡◌, ◌∙◌, sym, ℕ, true, false, List, [], refl}
use Rattle.st_schedule.specs.declared.line.Line.{Line}
use Rattle.st_protocol.specs.World.{Deployment, Node, World, empty, fresh_node}
use Rattle.st_protocol.specs.Schedule.{steps}
use Rattle.st_frame_laws.proofs.NodeFrame.{AreNodesKept, nodes_kept}

module _ {Wire : Type 0} (d : Deployment Wire) where
  -- a faulty server has recorded nothing
  abbrev IsIdle : ℕ → ℕ → Node → Type 0
  IsIdle s i node = d.faulty s i ≡ true → node.bodies ≡ []

  -- one that runs code isn't faulty
  runs_not : {A : Type 0} (s i : ℕ) → d.faulty s i ≡ false → d.faulty s i ≡ true → A
  runs_not s i runs faulty = absurd (let no : false ≡ true = sym runs ∙ faulty in cc)

  idle_is_kept : AreNodesKept d (λ world. Unit {0}) (λ world wire. Unit {0}) IsIdle
  idle_is_kept =
      record {
        settling = λ world site index event runs e r h. runs_not site index runs;
        stopping = λ world site index event runs e r h. runs_not site index runs;
        filling = λ site index node runs h. runs_not site index runs;
        setting = λ site index node call runs h. runs_not site index runs;
        restarting = λ site index node kept runs h. runs_not site index runs;
      }

  -- no faulty server has recorded anything
  abbrev pub AreIdle : World Wire → Type 0
  AreIdle world = (s i : ℕ) → d.faulty s i ≡ true → (world.nodes s i).bodies ≡ []

  empty_idle : AreIdle empty
  unfolding empty fresh_node
  empty_idle s i faulty = refl

  -- So it is in the world of any lines.
  pub faulty_idle : (all : List Line) → AreIdle (steps d empty all)
  faulty_idle all = nodes_kept d IsIdle idle_is_kept empty all empty_idle
