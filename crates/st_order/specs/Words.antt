-- What the words of a number say, and the proof that they give.
use Rattle.std.specs.Prelude.{Option, Some, [], take}
use Rattle.st_words.specs.declared.value.Value.{Value}
use Rattle.st_message.specs.declared.here as code
use Rattle.st_message.specs.declared.message.Proof.{Proof}
use Rattle.st_protocol.specs.State.{Here}
use Rattle.st_protocol.specs.Step.{majority, first_below, all_below}
use Rattle.st_protocol.specs.Ordering.{site_word, words_proof}
use Rattle.st_state.specs.declared.hand.Words.{Words}
use Rattle.st_state.specs.HandView.{word_of}
use Rattle.st_state.specs.HereView.{here_of}

-- where a server stands, for what neither its clients nor its service decide
abbrev pub bare : code.Here.Here → Here
bare here = here_of 0 (λ ran op. []) here

-- the proof that the words of a number give, if they give one: that of the first site whose value enough sites name
abbrev pub proof_in : Here → Option Words → Option Proof
proof_in here words = first_below (words_proof here (word_of words)) here.seat.sites

-- the proof of a value, by the words of the first M sites that name it
abbrev pub proof_naming : Here → Words → Value → Proof
proof_naming here words value =
    record { view = record { 0 = words.view }; value = value; sites = take (majority here) (all_below (site_word value (word_of (Some words))) here.seat.sites) }
