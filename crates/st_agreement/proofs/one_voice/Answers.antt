-- The law of the flat world inside the site.
use Rattle.st_agreement.proofs.RunLaws.{reached-invariant}
use Rattle.st_agreement.proofs.VoiceLaws.{one_voice as one-voice}
use Rattle.st_agreement.proofs.one_voice.Goals as goal

pub returns : goal.returns
returns c = λ d w g n l m u v sites reached. one-voice d w g n l m u v sites (reached-invariant d w sites reached)
