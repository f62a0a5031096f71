-- Bytes are read, and taken.
use Rattle.st_world.proofs.world.World.deliver_bytes.Goals as goal

pub returns : goal.returns
returns c = λ d m stands. c.take.ensures d m c.args.bytes.now stands (c.read_for-read.ensures.exact d stands.set)
