-- The words in which a reason is printed.
use Rattle.std.specs.Prelude.{ℕ, List, [], ◌∷◌, ◌++◌, codes}
use Rattle.std.specs.Fmt.{decimal}
use Rattle.st_message.specs.declared.reason.Reason.{Reason}
use Rattle.st_message.specs.declared.reason.Reason.TheVariants.{TooLong, Malformed, WrongDeployment, Unknown, BadSeal, NotBuilt, NotMine, OtherView, OutOfWindow, NotRep, Bound, Seen, Waiting, Below, OtherValue, OldTime, SealsSpent, LogFull}

-- a word and a number
abbrev pub with_number : List ℕ → ℕ → List ℕ
with_number word n = word ++ codes " " ++ decimal n

-- a word and two numbers
abbrev pub with_numbers : List ℕ → ℕ → ℕ → List ℕ
with_numbers word m n = word ++ codes " " ++ decimal m ++ codes " " ++ decimal n

unfoldable pub reason_words : Reason → List ℕ
reason_words (TooLong bytes) = with_number (codes "too-long") bytes
reason_words (Malformed place) = with_number (codes "malformed") place
reason_words (WrongDeployment id) = with_number (codes "wrong-deployment") id
reason_words Unknown = codes "unknown"
reason_words (BadSeal place) = with_number (codes "bad-seal") place
reason_words NotBuilt = codes "not-built"
reason_words NotMine = codes "not-mine"
reason_words (OtherView view local) = with_numbers (codes "other-view") view local
reason_words (OutOfWindow number executed) = with_numbers (codes "out-of-window") number executed
reason_words (NotRep index) = with_number (codes "not-rep") index
reason_words (Bound view) = with_number (codes "bound") view
reason_words Seen = codes "seen"
reason_words (Waiting held wanted) = with_numbers (codes "waiting") held wanted
reason_words (Below number base) = with_numbers (codes "below") number base
reason_words OtherValue = codes "other-value"
reason_words (OldTime last) = with_number (codes "old-time") last
reason_words (SealsSpent used) = with_number (codes "seals-spent") used
reason_words (LogFull number) = with_number (codes "log-full") number
