-- By the flat world inside the site.
use Rattle.st_refinement_laws.proofs.WorldLaws.{are-sites}
use Rattle.st_refinement_laws.proofs.FlatLaws.{one-voice}
use Rattle.st_refinement_laws.proofs.sites_have_one_voice.Goals as goal

pub returns : goal.returns
returns g c = λ d world x n l m u v few ranges goes one other. one-voice d few ranges (are-sites d few) world x n l m u v goes one other
