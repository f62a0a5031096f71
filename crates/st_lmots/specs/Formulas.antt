-- LM-OTS over SHA-256 (RFC 8554, section 4), as functions on lists of bytes.
use Rattle.std.specs.Prelude.{ℕ, zero, suc, ◌+◌, ◌-◌, ◌*◌, ◌/◌, ◌%◌, ◌^◌, List, [], ◌∷◌, ◌++◌, take, drop, bit_and, slice_index}
use Rattle.std.specs.Int.{w16, w32}
use Rattle.sha2.specs.Sha256.{sha256}
use Rattle.st_fields.specs.Spelling.{number}
use Rattle.st_lmots.specs.declared.kind.OtsKind.{OtsKind}
use Rattle.st_lmots.specs.Kinds.{number_of, width_of, chains_of, shift_of, top_of}

-- ---- strings of digits (sections 3.1.3 and 4.4)

-- coef: digit i of w bits
unfoldable pub coef : List ℕ → ℕ → ℕ → ℕ
coef s i w = bit_and (2 ^ w - 1) (slice_index s (i * w / 8) / 2 ^ (8 - (w * (i % (8 / w)) + w)))

-- the sum of f below n
unfoldable pub sum_below : (ℕ → ℕ) → ℕ → ℕ
sum_below f zero = 0
sum_below f (suc n) = sum_below f n + f n

-- Cksm: how far the digits of a digest are from the greatest, together
unfoldable pub checksum : OtsKind → List ℕ → ℕ
checksum kind digest = sum_below (λ i. top_of kind - coef digest i (width_of kind)) (256 / width_of kind) * 2 ^ shift_of kind

-- what the digits that are sealed are in: a digest, and its checksum behind it
unfoldable pub digits_of : OtsKind → List ℕ → List ℕ
digits_of kind digest = digest ++ number w16 (checksum kind digest)

-- digit n of these
abbrev pub digit : OtsKind → List ℕ → ℕ → ℕ
digit kind digits n = coef digits n (width_of kind)

-- ---- chains (section 4.3)

-- what each hash begins with: I, q, and the number of a chain or what the hash is for
unfoldable pub place : List ℕ → ℕ → ℕ → List ℕ
place i q n = i ++ number w32 q ++ number w16 n

-- D_PBLC and D_MESG: the places of a public key and of a message (section 4.1, and 5.1 for the others)
abbrev pub for_key : ℕ
for_key = 0x8080

abbrev pub for_message : ℕ
for_message = 0x8181

-- one step of a chain, at j
unfoldable pub step : List ℕ → ℕ → List ℕ → List ℕ
step at j value = sha256 (at ++ (j ∷ []) ++ value)

-- a chain from `value`, which stands at `from`, on for n steps
unfoldable pub chain : List ℕ → ℕ → ℕ → List ℕ → List ℕ
chain at from zero value = value
chain at from (suc n) value = step at (from + n) (chain at from n value)

-- x[n]: where a chain begins (appendix A)
unfoldable pub secret : List ℕ → List ℕ → List ℕ
secret at seed = step at 0xff seed

-- `front`, and then f 0 to f (n - 1)
unfoldable pub gathered : List ℕ → (ℕ → List ℕ) → ℕ → List ℕ
gathered front f zero = front
gathered front f (suc n) = gathered front f n ++ f n

-- ---- keys, signatures, checks (sections 4.3, 4.5 and 4.6)

-- the end of chain n
unfoldable pub chain_end : OtsKind → List ℕ → ℕ → List ℕ → ℕ → List ℕ
chain_end kind i q seed n = chain (place i q n) 0 (top_of kind) (secret (place i q n) seed)

-- K, of these ends of the chains
abbrev pub key_over : OtsKind → List ℕ → ℕ → (ℕ → List ℕ) → List ℕ
key_over kind i q end = sha256 (gathered (place i q for_key) end (chains_of kind))

-- K: the public key of leaf q of the tree of I and SEED
unfoldable pub ots_key : OtsKind → List ℕ → ℕ → List ℕ → List ℕ
ots_key kind i q seed = key_over kind i q (chain_end kind i q seed)

-- C: the seed and the leaf determine it, so that sealing a message twice gives the same bytes
unfoldable pub randomizer : List ℕ → List ℕ → ℕ → List ℕ
randomizer seed i q = sha256 ((5 ∷ seed) ++ i ++ number w32 q)

-- Q: what the digits are of
unfoldable pub message_digest : List ℕ → ℕ → List ℕ → List ℕ → List ℕ
message_digest i q c message = sha256 (place i q for_message ++ c ++ message)

-- y[n]: chain n as far as the digit says
unfoldable pub element : OtsKind → List ℕ → ℕ → List ℕ → List ℕ → ℕ → List ℕ
element kind i q seed digits n = chain (place i q n) 0 (digit kind digits n) (secret (place i q n) seed)

-- the signature of a message
unfoldable pub ots_signature : OtsKind → List ℕ → ℕ → List ℕ → List ℕ → List ℕ
ots_signature kind i q seed message =
    let c = randomizer seed i q in
    let digits = digits_of kind (message_digest i q c message) in
    gathered (number w32 (number_of kind) ++ c) (element kind i q seed digits) (chains_of kind)

-- y[n] of a signature
abbrev pub element_in : List ℕ → ℕ → List ℕ
element_in signature n = take 32 (drop (36 + 32 * n) signature)

-- chain n gone on with from a signature's element to its end
unfoldable pub element_end : OtsKind → List ℕ → ℕ → List ℕ → List ℕ → ℕ → List ℕ
element_end kind i q digits signature n =
    let a = digit kind digits n in
    chain (place i q n) a (top_of kind - a) (element_in signature n)

-- Kc: the public key that a signature of this length speaks for
unfoldable pub key_candidate : OtsKind → List ℕ → ℕ → List ℕ → List ℕ → List ℕ
key_candidate kind i q message signature =
    let digits = digits_of kind (message_digest i q (take 32 (drop 4 signature)) message) in
    key_over kind i q (element_end kind i q digits signature)
