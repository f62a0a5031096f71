-- A test of each element, as an iterator answers it.
use Rattle.std.proofs.Common.{◌≡◌, Bool, ◌&&◌, List, [], ◌∷◌, refl, ap, ◌∙◌}
use Rattle.std.specs.List.{list_all}
use Rattle.st_protocol.specs.Known.{all_of}

-- each passes the test
pub each_is : {A : Type 0} (test : A → Bool) (xs : List A) → list_all test xs ≡ all_of test xs
unfolding all_of
each_is test [] = refl
each_is test (x ∷ xs) = ap (λ (b : Bool). test x && b) (each_is test xs)

-- the same, of an answer
pub answers_each : {A : Type 0} (test : A → Bool) (xs : List A) (answer : Bool) → answer ≡ list_all test xs → answer ≡ all_of test xs
answers_each test xs answer e = e ∙ each_is test xs
