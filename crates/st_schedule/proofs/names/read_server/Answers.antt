-- Without a dot there is no server.
use Rattle.std.proofs.Common.{◌∙◌, sym, lit<}
use Rattle.std.proofs.lemmas.Str.Pattern.{split_once_first}
use Rattle.st_schedule.proofs.KindLaws.{no_dot}
use Rattle.st_schedule.proofs.names.read_server.Goals as goal

pub returns-in_err-site : goal.returns-in_err-site
returns-in_err-site c =
    c.from_residual.ensures ∙ sym (no_dot c.args.word.now (rw c.in_err-site.was at (split_once_first 46 c.args.word.now c.split_once.result c.split_once.ensures.cases (lit< tt))))
