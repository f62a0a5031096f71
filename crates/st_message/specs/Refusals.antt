-- What a part refuses where a call below it fails.
use Rattle.st_fields.specs.declared.error.WordsError.{WordsError}
use Rattle.st_fields.specs.declared.error.WordsError.TheVariants as words
use Rattle.st_message.specs.declared.reason.Reason.TheVariants as reasons
use Rattle.st_message.specs.declared.step.Refused.{Refused}
use Rattle.st_message.specs.declared.step.Refused.TheVariants as refused

abbrev pub from_words : WordsError → Refused
from_words (words.Malformed place) = refused.Ignored (reasons.Malformed place)
from_words words.OutOfMemory = refused.OutOfMemory
