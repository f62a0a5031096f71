-- The first eleven lines of a text tell its deployment.
use Rattle.std.proofs.Common.{◌≡◌, ◌∙◌, ◌≤◌, ◌<◌, ℕ, List, [], ◌∷◌, length, get_or, map, take, refl, ap, arith, Bor}
use Rattle.st_config.specs.Header.{counts_of, deployment_of_lines, hss_of, keyed_of, rest_of}

-- more lines than a header has say nothing, however many they are
taken : (ls : List (List ℕ)) → deployment_of_lines (take 11 ls) ≡ deployment_of_lines ls
taken [] = refl
taken (a ∷ []) = refl
taken (a ∷ b ∷ []) = refl
taken (a ∷ b ∷ c ∷ []) = refl
taken (a ∷ b ∷ c ∷ e ∷ []) = refl
taken (a ∷ b ∷ c ∷ e ∷ f ∷ []) = refl
taken (a ∷ b ∷ c ∷ e ∷ f ∷ g ∷ []) = refl
taken (a ∷ b ∷ c ∷ e ∷ f ∷ g ∷ h ∷ []) = refl
taken (a ∷ b ∷ c ∷ e ∷ f ∷ g ∷ h ∷ i ∷ []) = refl
taken (a ∷ b ∷ c ∷ e ∷ f ∷ g ∷ h ∷ i ∷ j ∷ []) = refl
taken (a ∷ b ∷ c ∷ e ∷ f ∷ g ∷ h ∷ i ∷ j ∷ k ∷ []) = refl
taken (a ∷ b ∷ c ∷ e ∷ f ∷ g ∷ h ∷ i ∷ j ∷ k ∷ m ∷ more) = refl

seven : (items : List (Bor (List ℕ))) (d : Bor (List ℕ)) → 7 ≤ length items → length items < 8
    → rest_of (counts_of (get_or items 0 d).now (get_or items 1 d).now (get_or items 2 d).now (get_or items 3 d).now) (get_or items 4 d).now (keyed_of (get_or items 5 d).now) (get_or items 6 d).now
    ≡ deployment_of_lines (map (λ line. line.now) items)
seven [] d least most = absurd (omega arith)
seven (a ∷ []) d least most = absurd (omega arith)
seven (a ∷ b ∷ []) d least most = absurd (omega arith)
seven (a ∷ b ∷ c ∷ []) d least most = absurd (omega arith)
seven (a ∷ b ∷ c ∷ e ∷ []) d least most = absurd (omega arith)
seven (a ∷ b ∷ c ∷ e ∷ f ∷ []) d least most = absurd (omega arith)
seven (a ∷ b ∷ c ∷ e ∷ f ∷ g ∷ []) d least most = absurd (omega arith)
seven (a ∷ b ∷ c ∷ e ∷ f ∷ g ∷ h ∷ []) d least most = refl
seven (a ∷ b ∷ c ∷ e ∷ f ∷ g ∷ h ∷ i ∷ more) d least most = absurd (omega arith)

-- seven lines tell the deployment of the text that they are the first lines of
pub deployment_of_lines-seven : (ls : List (List ℕ)) (items : List (Bor (List ℕ))) (d : Bor (List ℕ)) → map (λ line. line.now) items ≡ take 11 ls → 7 ≤ length items → length items < 8
    → rest_of (counts_of (get_or items 0 d).now (get_or items 1 d).now (get_or items 2 d).now (get_or items 3 d).now) (get_or items 4 d).now (keyed_of (get_or items 5 d).now) (get_or items 6 d).now
    ≡ deployment_of_lines ls
deployment_of_lines-seven ls items d e least most = seven items d least most ∙ (ap deployment_of_lines e ∙ taken ls)

ten : (items : List (Bor (List ℕ))) (d : Bor (List ℕ)) → 10 ≤ length items → length items < 11
    → rest_of (counts_of (get_or items 0 d).now (get_or items 1 d).now (get_or items 2 d).now (get_or items 3 d).now) (get_or items 4 d).now (hss_of (get_or items 5 d).now (get_or items 6 d).now (get_or items 7 d).now (get_or items 8 d).now) (get_or items 9 d).now
    ≡ deployment_of_lines (map (λ line. line.now) items)
ten [] d least most = absurd (omega arith)
ten (a ∷ []) d least most = absurd (omega arith)
ten (a ∷ b ∷ []) d least most = absurd (omega arith)
ten (a ∷ b ∷ c ∷ []) d least most = absurd (omega arith)
ten (a ∷ b ∷ c ∷ e ∷ []) d least most = absurd (omega arith)
ten (a ∷ b ∷ c ∷ e ∷ f ∷ []) d least most = absurd (omega arith)
ten (a ∷ b ∷ c ∷ e ∷ f ∷ g ∷ []) d least most = absurd (omega arith)
ten (a ∷ b ∷ c ∷ e ∷ f ∷ g ∷ h ∷ []) d least most = absurd (omega arith)
ten (a ∷ b ∷ c ∷ e ∷ f ∷ g ∷ h ∷ i ∷ []) d least most = absurd (omega arith)
ten (a ∷ b ∷ c ∷ e ∷ f ∷ g ∷ h ∷ i ∷ j ∷ []) d least most = absurd (omega arith)
ten (a ∷ b ∷ c ∷ e ∷ f ∷ g ∷ h ∷ i ∷ j ∷ k ∷ []) d least most = refl
ten (a ∷ b ∷ c ∷ e ∷ f ∷ g ∷ h ∷ i ∷ j ∷ k ∷ m ∷ more) d least most = absurd (omega arith)

-- ten lines tell the deployment of the text that they are the first lines of
pub deployment_of_lines-ten : (ls : List (List ℕ)) (items : List (Bor (List ℕ))) (d : Bor (List ℕ)) → map (λ line. line.now) items ≡ take 11 ls → 10 ≤ length items → length items < 11
    → rest_of (counts_of (get_or items 0 d).now (get_or items 1 d).now (get_or items 2 d).now (get_or items 3 d).now) (get_or items 4 d).now (hss_of (get_or items 5 d).now (get_or items 6 d).now (get_or items 7 d).now (get_or items 8 d).now) (get_or items 9 d).now
    ≡ deployment_of_lines ls
deployment_of_lines-ten ls items d e least most = ten items d least most ∙ (ap deployment_of_lines e ∙ taken ls)
