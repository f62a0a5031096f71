-- Line by line.
use Rattle.st_frame_laws.proofs.WorldFrame.{steps_kept}
use Rattle.st_frame_laws.proofs.lines_keep_what_events_keep.Goals as goal

pub returns : goal.returns
returns g c = λ d holds may_be_delivered may_come world all kept l h. steps_kept d _ _ _ kept world all l h
