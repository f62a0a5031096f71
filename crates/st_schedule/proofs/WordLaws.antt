-- The first four words of a line tell its event.
use Rattle.std.proofs.Common.{◌≡◌, ◌∙◌, ◌≤◌, ◌<◌, ℕ, List, [], ◌∷◌, length, get_or, map, take, refl, ap, arith, Bor}
use Rattle.st_schedule.specs.Lines.{event_of, event_of_three}

-- more words than an event line has say nothing, however many they are
taken : (ws : List (List ℕ)) → event_of (take 4 ws) ≡ event_of ws
taken [] = refl
taken (a ∷ []) = refl
taken (a ∷ b ∷ []) = refl
taken (a ∷ b ∷ c ∷ []) = refl
taken (a ∷ b ∷ c ∷ d ∷ more) = refl

three : (items : List (Bor (List ℕ))) (d : Bor (List ℕ)) → 3 ≤ length items → length items < 4
    → event_of_three (get_or items 0 d).now (get_or items 1 d).now (get_or items 2 d).now ≡ event_of (map (λ word. word.now) items)
three [] d least most = absurd (omega arith)
three (a ∷ []) d least most = absurd (omega arith)
three (a ∷ b ∷ []) d least most = absurd (omega arith)
three (a ∷ b ∷ c ∷ []) d least most = refl
three (a ∷ b ∷ c ∷ more ∷ others) d least most = absurd (omega arith)

-- three words tell the event of the line that they are taken from
pub event_of-three : (ws : List (List ℕ)) (items : List (Bor (List ℕ))) (d : Bor (List ℕ)) → map (λ word. word.now) items ≡ take 4 ws → 3 ≤ length items → length items < 4
    → event_of_three (get_or items 0 d).now (get_or items 1 d).now (get_or items 2 d).now ≡ event_of ws
event_of-three ws items d e least most = three items d least most ∙ (ap event_of e ∙ taken ws)
