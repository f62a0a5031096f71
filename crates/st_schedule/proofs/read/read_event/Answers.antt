-- The words are three.
use Rattle.std.proofs.Common.{◌∙◌, ◌≤◌, ◌<◌, length}
use Rattle.st_schedule.specs.Lines.{words}
use Rattle.st_schedule.proofs.WordLaws.{event_of-three}
use Rattle.st_schedule.proofs.read.read_event.Goals as goal

pub returns-in-len3-clause-value : goal.returns-in-len3-clause-value
returns-in-len3-clause-value c =
    let same = c.as_slice.ensures.value in
    let least : 3 ≤ length c.in_ok-words.words.items = rw same at c.in-len3.len_at_least in
    let most : length c.in_ok-words.words.items < 4 = rw same at c.in-len3.len_below in
    c.in_ok-read_three-in-len3.ensures.value ∙ rw same (event_of-three (words c.args.text.now) c.in_ok-words.words.items _ c.in_ok-words.ensures least most)
