-- One change more.
use Rattle.st_tables.specs.Entries.{entry}
use Rattle.st_server.proofs.ServeLaws.{replies_begin, replies_next}
use Rattle.st_server.proofs.server.note_replies.Goals as goal

pub loop-change-init : goal.loop-change-init
loop-change-init c = λ n. replies_begin (entry c.args.replies.now n) n

pub loop-change-preserved : goal.loop-change-preserved
loop-change-preserved c =
    λ n.
    replies_next n (entry c.args.replies.now n) (entry c.loop-change.replies n) (entry c.note_reply.new.replies n) c.as_slice-change-items.result.now c.loop-change.change-index c.change-item.result c.loop-change-test.true c.change-item.is
    (c.in_ok-note_reply.ensures.ok n) (c.loop-change.invariant n)
