-- Number by number.
use Rattle.st_protocol.specs.Collecting.{item_of}
use Rattle.st_protocol.proofs.RuleLaws.{in_window_has}
use Rattle.st_protocol.proofs.rules.reports_leave_nothing_out.Goals as goal

pub returns-clause-prepared : goal.returns-clause-prepared
returns-clause-prepared c = λ here slots k b below is. in_window_has here slots.prepared item_of k b below is

pub returns-clause-accepted : goal.returns-clause-accepted
returns-clause-accepted c = λ here slots k b below is. in_window_has here slots.accepted item_of k b below is
