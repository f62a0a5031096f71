-- By the laws of number texts.
use Rattle.std.proofs.Common.{arith}
use Rattle.st_texts.proofs.NumberLaws.{number_in-is, number_in-some}
use Rattle.st_texts.proofs.number.numbers_are_their_digits.Goals as goal

pub returns : goal.returns
returns c = λ least most n text fits. (number_in-is least most n text, λ h. number_in-some least most n text (let high = h.2 in omega arith) h.0 h.1 h.2)
