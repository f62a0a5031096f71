-- What is sealed has the key of its leaf as its candidate.
use Rattle.std.proofs.Common.{◌≡◌, ℕ, ◌+◌, ◌-◌, ◌*◌, ◌^◌, ◌<◌, ◌≤◌, List, [], ◌++◌, append-nil, append_assoc, length, take, drop, Some, Ok, eqb, true, refl, sym, ap, ◌∙◌, arith}
use Rattle.std.specs.Int.{w32}
use Rattle.std.proofs.lemmas.Bool.{eq-eqb}
use Rattle.std.proofs.lemmas.List.{length-append, drop_at, take_at}
use Rattle.std.proofs.lemmas.Nat.{and_le_l}
use Rattle.sha2.specs.Sha256.{sha256}
use Rattle.sha2.proofs.Facts256.{length-sha256}
use Rattle.st_fields.specs.Spelling.{number}
use Rattle.st_fields.proofs.Leaves.{u32_field}
use Rattle.st_lmots.specs.declared.kind.OtsKind.{OtsKind}
use Rattle.st_lmots.specs.declared.kind.OtsKind.TheVariants.{W1, W2, W4, W8}
use Rattle.st_lmots.specs.Kinds.{number_of, kind_of, chains_of, top_of, seal_length}
use Rattle.st_lmots.specs.Formulas.{coef, digits_of, digit, place, for_key, chain, secret, gathered, chain_end, ots_key, randomizer, message_digest, element, ots_signature, element_in, element_end, key_candidate}
use Rattle.st_lmots.specs.Answers.{number_in_front, value_read, candidate_answer}
use Rattle.st_lmots.proofs.ChainLaws.{length-secret, length-chain, chain_ends}
use Rattle.st_lmots.proofs.GatherLaws.{gathered_behind, gathered_same, length-gathered, element_at}

-- a type is the number of its set
pub kind_of-number_of : (kind : OtsKind) → kind_of (number_of kind) ≡ Some kind
kind_of-number_of W1 = refl
kind_of-number_of W2 = refl
kind_of-number_of W4 = refl
kind_of-number_of W8 = refl

-- a type fits four bytes
pub number_fits : (kind : OtsKind) → number_of kind < 2 ^ 32
number_fits W1 = omega arith
number_fits W2 = omega arith
number_fits W4 = omega arith
number_fits W8 = omega arith

-- a number of four bytes has four
pub length-number : (n : ℕ) → length (number w32 n) ≡ 4
unfolding number
length-number n = refl

-- a digit is no more than the greatest
pub digit_within : (kind : OtsKind) (digits : List ℕ) (n : ℕ) → digit kind digits n ≤ top_of kind
unfolding coef
digit_within kind digits n = and_le_l (top_of kind) _

-- an element has 32 bytes
pub length-element : (kind : OtsKind) (i : List ℕ) (q : ℕ) (seed digits : List ℕ) (n : ℕ) → length (element kind i q seed digits n) ≡ 32
unfolding element
length-element kind i q seed digits n = length-chain (place i q n) 0 (digit kind digits n) (secret (place i q n) seed) (length-secret (place i q n) seed)

-- C has 32 bytes
pub length-randomizer : (seed i : List ℕ) (q : ℕ) → length (randomizer seed i q) ≡ 32
unfolding randomizer
length-randomizer seed i q = length-sha256 _

-- the signature's front: its type and C
front_of : OtsKind → List ℕ → ℕ → List ℕ → List ℕ
front_of kind i q seed = number w32 (number_of kind) ++ randomizer seed i q

-- what the digits of a message are in
digits_for : OtsKind → List ℕ → ℕ → List ℕ → List ℕ → List ℕ
digits_for kind i q seed message = digits_of kind (message_digest i q (randomizer seed i q) message)

-- the front has 36 bytes
length-front : (kind : OtsKind) (i : List ℕ) (q : ℕ) (seed : List ℕ) → length (front_of kind i q seed) ≡ 36
unfolding front_of
length-front kind i q seed = omega (arith, length-append (number w32 (number_of kind)) (randomizer seed i q), length-number (number_of kind), length-randomizer seed i q)

-- the signature in its parts
signature_is : (kind : OtsKind) (i : List ℕ) (q : ℕ) (seed message : List ℕ) → ots_signature kind i q seed message ≡ gathered (front_of kind i q seed) (element kind i q seed (digits_for kind i q seed message)) (chains_of kind)
unfolding ots_signature front_of digits_for
signature_is kind i q seed message = refl

-- a signature is as long as its type says
pub length-ots_signature : (kind : OtsKind) (i : List ℕ) (q : ℕ) (seed message : List ℕ) → length (ots_signature kind i q seed message) ≡ seal_length kind
length-ots_signature kind i q seed message =
    ap length (signature_is kind i q seed message)
    ∙ (length-gathered (front_of kind i q seed) (element kind i q seed (digits_for kind i q seed message)) (chains_of kind) (length-element kind i q seed (digits_for kind i q seed message))
    ∙ ap (λ (n : ℕ). n + 32 * chains_of kind) (length-front kind i q seed))

-- what stands behind a signature's type
signature_behind : (kind : OtsKind) (i : List ℕ) (q : ℕ) (seed message : List ℕ) → ots_signature kind i q seed message ≡ number w32 (number_of kind) ++ gathered (randomizer seed i q) (element kind i q seed (digits_for kind i q seed message)) (chains_of kind)
unfolding front_of
signature_behind kind i q seed message =
    signature_is kind i q seed message
    ∙ gathered_behind (number w32 (number_of kind)) (randomizer seed i q) (element kind i q seed (digits_for kind i q seed message)) (chains_of kind)

-- the type in front of bytes that begin with it
pub type_again : (n : ℕ) (rest : List ℕ) → n < 2 ^ 32 → number_in_front (number w32 n ++ rest) ≡ Some n
unfolding number_in_front
type_again n rest below = ap value_read (u32_field.again n rest below)

-- the type in front of a signature
pub type_of_signature : (kind : OtsKind) (i : List ℕ) (q : ℕ) (seed message : List ℕ) → number_in_front (ots_signature kind i q seed message) ≡ Some (number_of kind)
type_of_signature kind i q seed message = ap number_in_front (signature_behind kind i q seed message) ∙ type_again (number_of kind) _ (number_fits kind)

-- the same, where more stands behind the signature
pub type_of_signature_before : (kind : OtsKind) (i : List ℕ) (q : ℕ) (seed message rest : List ℕ) → number_in_front (ots_signature kind i q seed message ++ rest) ≡ Some (number_of kind)
type_of_signature_before kind i q seed message rest =
    ap (λ (x : List ℕ). number_in_front (x ++ rest)) (signature_behind kind i q seed message)
    ∙ (ap number_in_front (append_assoc (number w32 (number_of kind)) _ rest) ∙ type_again (number_of kind) _ (number_fits kind))

-- C in a signature: behind the type, and before the elements
c_gathered : (c : List ℕ) (f : ℕ → List ℕ) (n : ℕ) → length c ≡ 32 → take 32 (gathered c f n) ≡ c
c_gathered c f n wide = ap (take 32) (gathered_front c f n) ∙ take_at c (gathered [] f n) 32 wide
  where
    gathered_front : (c : List ℕ) (f : ℕ → List ℕ) (n : ℕ) → gathered c f n ≡ c ++ gathered [] f n
    gathered_front c f n = ap (λ (x : List ℕ). gathered x f n) (sym (append-nil c)) ∙ gathered_behind c [] f n

c_of_signature : (kind : OtsKind) (i : List ℕ) (q : ℕ) (seed message : List ℕ) → take 32 (drop 4 (ots_signature kind i q seed message)) ≡ randomizer seed i q
c_of_signature kind i q seed message =
    ap (λ (x : List ℕ). take 32 (drop 4 x)) (signature_behind kind i q seed message)
    ∙ (ap (take 32) (drop_at (number w32 (number_of kind)) _ 4 (length-number (number_of kind)))
    ∙ c_gathered (randomizer seed i q) _ (chains_of kind) (length-randomizer seed i q))

-- element n of a signature
element_of_signature : (kind : OtsKind) (i : List ℕ) (q : ℕ) (seed message : List ℕ) (n : ℕ) → n < chains_of kind → element_in (ots_signature kind i q seed message) n ≡ element kind i q seed (digits_for kind i q seed message) n
element_of_signature kind i q seed message n below =
    ap (λ (x : List ℕ). take 32 (drop (36 + 32 * n) x)) (signature_is kind i q seed message)
    ∙ (ap (λ (k : ℕ). take 32 (drop (k + 32 * n) (gathered (front_of kind i q seed) (element kind i q seed (digits_for kind i q seed message)) (chains_of kind)))) (sym (length-front kind i q seed))
    ∙ element_at (front_of kind i q seed) (element kind i q seed (digits_for kind i q seed message)) (chains_of kind) n (length-element kind i q seed (digits_for kind i q seed message)) below)

-- gone on with, each ends where the key's chain does
end_of_signature : (kind : OtsKind) (i : List ℕ) (q : ℕ) (seed message : List ℕ) (n : ℕ) → n < chains_of kind → element_end kind i q (digits_for kind i q seed message) (ots_signature kind i q seed message) n ≡ chain_end kind i q seed n
unfolding element_end chain_end element
end_of_signature kind i q seed message n below =
    let digits : List ℕ = digits_for kind i q seed message in
    let a : ℕ = digit kind digits n in
    ap (chain (place i q n) a (top_of kind - a)) (element_of_signature kind i q seed message n below)
    ∙ chain_ends (place i q n) a (top_of kind) (secret (place i q n) seed) (digit_within kind digits n)

-- the candidate is the key
pub candidate_of_signature : (kind : OtsKind) (i : List ℕ) (q : ℕ) (seed message : List ℕ) → key_candidate kind i q message (ots_signature kind i q seed message) ≡ ots_key kind i q seed
unfolding key_candidate ots_key digits_for
candidate_of_signature kind i q seed message =
    let signature : List ℕ = ots_signature kind i q seed message in
    ap (λ (c : List ℕ). sha256 (gathered (place i q for_key) (element_end kind i q (digits_of kind (message_digest i q c message)) signature) (chains_of kind))) (c_of_signature kind i q seed message)
    ∙ ap sha256 (gathered_same (place i q for_key) (element_end kind i q (digits_for kind i q seed message) signature) (chain_end kind i q seed) (chains_of kind) (end_of_signature kind i q seed message))

-- the same, of the whole answer
pub sealed_is_answered : (kind : OtsKind) (i : List ℕ) (q : ℕ) (seed message : List ℕ) → candidate_answer (number_of kind) i q message (ots_signature kind i q seed message) ≡ Ok (ots_key kind i q seed)
unfolding candidate_answer
sealed_is_answered kind i q seed message =
    let signature : List ℕ = ots_signature kind i q seed message in
    let long : eqb (length signature) (seal_length kind) ≡ true = eq-eqb _ _ (length-ots_signature kind i q seed message) in
    let own : eqb (number_of kind) (number_of kind) ≡ true = eq-eqb _ _ refl in
    rw (kind_of-number_of kind, type_of_signature kind i q seed message, own, long) (ap Ok (candidate_of_signature kind i q seed message))
