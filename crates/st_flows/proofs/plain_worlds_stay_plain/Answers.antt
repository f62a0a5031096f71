use Rattle.st_flows.proofs.PlainKept.{plain_delivers, plain_flows, plain_submits, plain_step}
use Rattle.st_flows.proofs.plain_worlds_stay_plain.Goals as goal

pub returns-clause-delivered : goal.returns-clause-delivered
returns-clause-delivered g c = λ d world to wire nothing_written plain. plain_delivers d nothing_written world to wire plain

pub returns-clause-flowed : goal.returns-clause-flowed
returns-clause-flowed g c = λ d k x nothing_written plain. plain_flows d nothing_written k x plain

pub returns-clause-submitted : goal.returns-clause-submitted
returns-clause-submitted g c = λ d world client op nothing_written plain. plain_submits d nothing_written world client op plain

pub returns-clause-stepped : goal.returns-clause-stepped
returns-clause-stepped g c = λ d world line nothing_written unset plain. plain_step d nothing_written world line unset plain
