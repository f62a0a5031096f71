use Rattle.st_honest_laws.proofs.HonestWorlds.{trivial_sends, sent_honest, heard_honest, records_honest}
use Rattle.st_frame_laws.proofs.ChoiceLaws.{each_any}
use Rattle.st_honest_laws.proofs.worlds_are_honest.Goals as goal

pub returns-clause-sent : goal.returns-clause-sent
returns-clause-sent g c d all n wire m formats e is =
    sent_honest d (λ world. Unit {0}) (λ world wire. Unit {0}) (λ line. Unit {0}) (λ m. Unit {0}) formats (trivial_sends d (λ line. Unit {0})) all (each_any all) tt n wire m e is

pub returns-clause-heard : goal.returns-clause-heard
returns-clause-heard g c d all site index formats =
    heard_honest d (λ world. Unit {0}) (λ world wire. Unit {0}) (λ line. Unit {0}) (λ m. Unit {0}) formats (trivial_sends d (λ line. Unit {0})) all (each_any all) tt site index

pub returns-clause-recorded : goal.returns-clause-recorded
returns-clause-recorded g c d all site index formats =
    records_honest d (λ world. Unit {0}) (λ world wire. Unit {0}) (λ line. Unit {0}) (λ m. Unit {0}) formats (trivial_sends d (λ line. Unit {0})) all (each_any all) tt site index
