-- By the law of hexadecimal texts.
use Rattle.st_texts.proofs.HexadecimalLaws.{hex_bytes-hex_text}
use Rattle.st_texts.proofs.hexadecimal.bytes_have_a_text.Goals as goal

pub returns : goal.returns
returns c = hex_bytes-hex_text
