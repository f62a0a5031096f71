-- The check of HSS (RFC 8554, section 6.3), for keys of one or two levels.
use Rattle.std.specs.Prelude.{ℕ, List, take, drop, Bool, false, ◌==◌, ◌&&◌, Option, Some, None, Result, Ok, Err, if◌then◌else◌}
use Rattle.st_lmots.specs.Answers.{number_in_front}
use Rattle.st_lms.specs.declared.error.LmsError.{LmsError}
use Rattle.st_lms.specs.Answers.{lms_answer, signature_length}

-- nothing that is refused is right
abbrev pub is_right : Result Bool LmsError → Bool
is_right (Ok right) = right
is_right (Err e) = false

-- the first signature has n bytes: it has to be the first key's over the second key, and what stands
-- behind that key the second key's over the message
abbrev pub both_check : Option ℕ → List ℕ → List ℕ → List ℕ → Bool
both_check None key message rest = false
both_check (Some n) key message rest =
    is_right (lms_answer key (take 56 (drop n rest)) (take n rest)) && is_right (lms_answer (take 56 (drop n rest)) message (drop 56 (drop n rest)))

-- by the number of levels in the key, and of signed keys in the signature, which is one less
abbrev pub checks_by_levels : Option ℕ → Option ℕ → List ℕ → List ℕ → List ℕ → Bool
checks_by_levels None signed key message rest = false
checks_by_levels (Some levels) None key message rest = false
checks_by_levels (Some levels) (Some signed) key message rest =
    if (levels == 1) && (signed == 0) then is_right (lms_answer key message rest) else if (levels == 2) && (signed == 1) then both_check (signature_length key) key message rest else false

-- whether the signature is the key's over the message
unfoldable pub hss_checks : List ℕ → List ℕ → List ℕ → Bool
hss_checks key message signature =
    checks_by_levels (number_in_front key) (number_in_front signature) (drop 4 key) message (drop 4 signature)
