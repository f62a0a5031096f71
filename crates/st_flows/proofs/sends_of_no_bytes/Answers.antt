use Rattle.st_flows.proofs.SendLaws.{sent_size_nothing, send_fault_by_number, sends_to_goes_on, sends_to_too_many}
use Rattle.st_flows.proofs.sends_of_no_bytes.Goals as goal

pub returns-clause-size : goal.returns-clause-size
returns-clause-size g c = λ d wires no_bytes. sent_size_nothing d no_bytes wires

pub returns-clause-fault : goal.returns-clause-fault
returns-clause-fault g c = λ d world wire no_bytes. send_fault_by_number d no_bytes world wire

pub returns-clause-few : goal.returns-clause-few
returns-clause-few g c = λ d world wire to no_bytes few e. sends_to_goes_on d no_bytes world wire to few e

pub returns-clause-many : goal.returns-clause-many
returns-clause-many g c = λ d world wire to no_bytes many e. sends_to_too_many d no_bytes world wire to many e
