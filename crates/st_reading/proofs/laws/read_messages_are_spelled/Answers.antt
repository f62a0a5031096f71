-- What is read is spelled so.
use Rattle.st_reading.proofs.ReadLaws.{clean_is_spelled}
use Rattle.st_reading.proofs.laws.read_messages_are_spelled.Goals as goal

pub returns : goal.returns
returns c = λ d bytes m fits e. clean_is_spelled d bytes m fits e
