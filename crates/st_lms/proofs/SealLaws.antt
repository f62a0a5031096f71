-- What is sealed checks.
use Rattle.std.proofs.Common.{Bool, leb, ◌≡◌, ℕ, zero, suc, ◌+◌, ◌-◌, ◌*◌, ◌/◌, ◌%◌, ◌^◌, ◌<◌, ◌≤◌, ◌≢◌, eqb, ltb, true, false, List, ◌++◌, length, take, drop, Some, None, Ok, cond, refl, sym, subst, ap, ap₂, ◌∙◌, arith, append_assoc, inl, inr}
use Rattle.std.specs.Prelude.{nat_eq}
use Rattle.std.specs.Int.{w32, from_be_bytes}
use Rattle.std.specs.Cmp.Lexicographic.{pointwise}
use Rattle.std.proofs.lemmas.Bool.{cases_Bool, eq-eqb, eqb-true, eqb-false, lt-ltb}
use Rattle.std.proofs.lemmas.Bool.Decides.{Decides-eqb}
use Rattle.std.proofs.lemmas.Slice.Eq.{slice_eq-Decides}
use Rattle.std.proofs.lemmas.List.{length-append, take_at, drop_at}
use Rattle.std.proofs.lemmas.Nat.{from_be_bytes-to_be_bytes_4}
use Rattle.std.proofs.Math.Nat.{pow-succ'}
use Rattle.std.proofs.Math.Seq.{drop-append-add}
use Rattle.sha2.proofs.Facts256.{length-sha256}
use Rattle.st_fields.specs.Spelling.{number}
use Rattle.st_lmots.specs.Kinds.{number_of, seal_length}
use Rattle.st_lmots.specs.Formulas.{ots_key, ots_signature, key_candidate}
use Rattle.st_lmots.specs.Answers.{number_in_front}
use Rattle.st_lmots.proofs.SealLaws.{kind_of-number_of, length-number, length-ots_signature, number_fits, type_again, type_of_signature_before, candidate_of_signature}
use Rattle.st_lms.specs.declared.kind.LmsKind.{LmsKind}
use Rattle.st_lms.specs.declared.kind.LmsKind.TheVariants.{H5, H10, H15, H20, H25}
use Rattle.st_lms.specs.declared.secret.LmsSecret.{LmsSecret}
use Rattle.st_lms.specs.Kinds.{lms_number_of, lms_kind_of, height_of, leaves_of, key_length, lms_seal_length}
use Rattle.st_lms.specs.Formulas.{leaf_node, inner_node, tree_node, node_within, lms_key, sibling, path_from, lms_signature, parent_of, climbed, ots_part, path_part, root_candidate}
use Rattle.st_lms.specs.Answers.{kind_in, ots_in, kind_behind, signature_length, bad_type, whole_answer, lms_answer}
use Rattle.st_lms.proofs.TreeLaws.{leaves_few, node_leaf, node_inner}
use Rattle.st_lms.proofs.PathLaws.{level_up}

-- ---- nodes and paths

-- a leaf and a node above others are digests
length-leaf_node : (i : List ℕ) (r : ℕ) (key : List ℕ) → length (leaf_node i r key) ≡ 32
unfolding leaf_node
length-leaf_node i r key = length-sha256 _

length-inner_node : (i : List ℕ) (r : ℕ) (left right : List ℕ) → length (inner_node i r left right) ≡ 32
unfolding inner_node
length-inner_node i r left right = length-sha256 _

-- so is every node
length-node_within : (s : LmsSecret) (n r : ℕ) → length (node_within s n r) ≡ 32
unfolding node_within
length-node_within s zero r = length-leaf_node s.i r _
length-node_within s (suc n) r = either (leb (leaves_of s.kind) r) (leaf_node s.i r _) (inner_node s.i r _ _) (length-leaf_node s.i r _) (length-inner_node s.i r _ _)
  where
    either : (b : Bool) (x y : List ℕ) → length x ≡ 32 → length y ≡ 32 → length (cond b x y) ≡ 32
    either true x y e f = e
    either false x y e f = f

-- a path has 32 bytes a level
length-path_from : (s : LmsSecret) (n r : ℕ) → length (path_from s n r) ≡ 32 * n
unfolding path_from
length-path_from s zero r = refl
length-path_from s (suc n) r =
    omega (arith, length-append (tree_node s (sibling r)) (path_from s n (r / 2)), length-node_within s (height_of s.kind) (sibling r), length-path_from s n (r / 2))

-- the parent of a node of the tree, from the node and its sibling
parent_in_tree : (s : LmsSecret) (r : ℕ) → 2 ≤ r → r < 2 * leaves_of s.kind → parent_of s.i r (tree_node s r) (tree_node s (sibling r)) ≡ tree_node s (r / 2)
unfolding parent_of
parent_in_tree s r low high =
    elim (cases_Bool (eqb (r % 2) 1)) [
      | inl odd ↦ (let is : r % 2 ≡ 1 = eqb-true _ _ odd in
          let first : r - 1 ≡ 2 * (r / 2) = omega arith in
          let second : r ≡ 2 * (r / 2) + 1 = omega arith in
          rw odd (ap₂ (inner_node s.i (r / 2)) (ap (tree_node s) first) (ap (tree_node s) second) ∙ up))
      | inr even ↦ (let is : r % 2 ≢ 1 = eqb-false _ _ even in
          let first : r ≡ 2 * (r / 2) = omega arith in
          let second : r + 1 ≡ 2 * (r / 2) + 1 = omega arith in
          rw even (ap₂ (inner_node s.i (r / 2)) (ap (tree_node s) first) (ap (tree_node s) second) ∙ up))
    ]
  where
    up : inner_node s.i (r / 2) (tree_node s (2 * (r / 2))) (tree_node s (2 * (r / 2) + 1)) ≡ tree_node s (r / 2)
    up = sym (node_inner s (r / 2) (omega arith) (omega arith))

-- along its own path a node leads to the root
climbed_to_root : (s : LmsSecret) (n r : ℕ) → 2 ^ n ≤ r → r < 2 * 2 ^ n → r < 2 * leaves_of s.kind → climbed s.i n r (tree_node s r) (path_from s n r) ≡ tree_node s 1
unfolding climbed path_from
climbed_to_root s zero r low high inside = ap (tree_node s) (let e : r ≡ 1 = omega arith in e)
climbed_to_root s (suc n) r low high inside =
    let twice : 2 ^ suc n ≡ 2 * 2 ^ n = pow-succ' 2 n in
    let level = level_up (suc n) 0 r (omega arith) (subst (λ (m : ℕ). 2 ^ m ≤ r) (let e : suc n ≡ suc n - 0 = omega arith in e) low) in
    let wide = length-node_within s (height_of s.kind) (sibling r) in
    let other = take_at (tree_node s (sibling r)) (path_from s n (r / 2)) 32 wide in
    let above = drop_at (tree_node s (sibling r)) (path_from s n (r / 2)) 32 wide in
    let up = parent_in_tree s r level.0 inside in
    ap₂ (λ (x y : List ℕ). climbed s.i n (r / 2) (parent_of s.i r (tree_node s r) x) y) other above
    ∙ (ap (λ (x : List ℕ). climbed s.i n (r / 2) x (path_from s n (r / 2))) up
    ∙ climbed_to_root s n (r / 2) (omega arith) (omega arith) (omega arith))

-- ---- keys and signatures, part by part

-- a type is the number of its set
lms_kind_of-lms_number_of : (kind : LmsKind) → lms_kind_of (lms_number_of kind) ≡ Some kind
lms_kind_of-lms_number_of H5 = refl
lms_kind_of-lms_number_of H10 = refl
lms_kind_of-lms_number_of H15 = refl
lms_kind_of-lms_number_of H20 = refl
lms_kind_of-lms_number_of H25 = refl

-- a type fits four bytes
lms_number_fits : (kind : LmsKind) → lms_number_of kind < 2 ^ 32
lms_number_fits H5 = omega arith
lms_number_fits H10 = omega arith
lms_number_fits H15 = omega arith
lms_number_fits H20 = omega arith
lms_number_fits H25 = omega arith

-- the part behind the front of a list in two parts, and the front of the part behind
behind_front : (a b : List ℕ) (n m : ℕ) → length a ≡ n → drop (n + m) (a ++ b) ≡ drop m b
behind_front a b n m e = ap (λ (k : ℕ). drop (k + m) (a ++ b)) (sym e) ∙ drop-append-add a b m

-- a number of four bytes, read back
number_again : (n : ℕ) → n < 2 ^ 32 → from_be_bytes w32 (number w32 n) ≡ n
unfolding number
number_again n below = from_be_bytes-to_be_bytes_4 n below

-- a list is equal to itself
same_bytes : (xs : List ℕ) → pointwise nat_eq xs xs ≡ true
same_bytes xs = (slice_eq-Decides Decides-eqb xs xs _ refl).1 refl

-- a key in its parts
key_is : (s : LmsSecret) → lms_key s ≡ number w32 (lms_number_of s.kind) ++ (number w32 (number_of s.ots) ++ (s.i ++ tree_node s 1))
unfolding lms_key
key_is s = simp append_assoc

-- a signature in its parts
signature_is : (s : LmsSecret) (q : ℕ) (message : List ℕ) → lms_signature s q message ≡ number w32 q ++ (ots_signature s.ots s.i q s.seed message ++ (number w32 (lms_number_of s.kind) ++ path_from s (height_of s.kind) (leaves_of s.kind + q)))
unfolding lms_signature
signature_is s q message = simp append_assoc

-- what a key holds
record HoldsKey (s : LmsSecret) (key : List ℕ) : Type 0 where
  whole : length key ≡ key_length
  kind : kind_in key ≡ Some (lms_number_of s.kind)
  ots : ots_in key ≡ Some (number_of s.ots)
  i : take 16 (drop 8 key) ≡ s.i
  root : drop 24 key ≡ tree_node s 1

holds_key : (s : LmsSecret) → length s.i ≡ 16 → HoldsKey s (lms_key s)
holds_key s wide =
    let front : List ℕ = number w32 (lms_number_of s.kind) in
    let second : List ℕ = number w32 (number_of s.ots) in
    let root : List ℕ = tree_node s 1 in
    let four : length front ≡ 4 = length-number (lms_number_of s.kind) in
    let other : length second ≡ 4 = length-number (number_of s.ots) in
    subst (HoldsKey s) (sym (key_is s)) (record {
      whole = omega (arith, length-append front (second ++ (s.i ++ root)), length-append second (s.i ++ root), length-append s.i root, length-node_within s (height_of s.kind) 1, four, other, wide);
      kind = type_again (lms_number_of s.kind) _ (lms_number_fits s.kind);
      ots = ap number_in_front (drop_at front _ 4 four) ∙ type_again (number_of s.ots) _ (number_fits s.ots);
      i = ap (take 16) (behind_front front _ 4 4 four ∙ drop_at second _ 4 other) ∙ take_at s.i root 16 wide;
      root = behind_front front _ 4 20 four ∙ (behind_front second _ 4 16 other ∙ drop_at s.i root 16 wide);
    })

-- what a signature holds
record HoldsSignature (s : LmsSecret) (q : ℕ) (message signature : List ℕ) : Type 0 where
  whole : length signature ≡ lms_seal_length s.kind s.ots
  leaf : from_be_bytes w32 (take 4 signature) ≡ q
  ots : ots_in signature ≡ Some (number_of s.ots)
  kind : kind_behind (Some s.ots) signature ≡ Some (lms_number_of s.kind)
  own : ots_part s.ots signature ≡ ots_signature s.ots s.i q s.seed message
  path : path_part s.ots signature ≡ path_from s (height_of s.kind) (leaves_of s.kind + q)

holds_signature : (s : LmsSecret) (q : ℕ) (message : List ℕ) → q < leaves_of s.kind → HoldsSignature s q message (lms_signature s q message)
holds_signature s q message below =
    let front : List ℕ = number w32 q in
    let own : List ℕ = ots_signature s.ots s.i q s.seed message in
    let mark : List ℕ = number w32 (lms_number_of s.kind) in
    let path : List ℕ = path_from s (height_of s.kind) (leaves_of s.kind + q) in
    let four : length front ≡ 4 = length-number q in
    let many = length-ots_signature s.ots s.i q s.seed message in
    let other = length-number (lms_number_of s.kind) in
    let few = leaves_few s.kind in
    subst (HoldsSignature s q message) (sym (signature_is s q message)) (record {
      whole = omega (arith, length-append front (own ++ (mark ++ path)), length-append own (mark ++ path), length-append mark path, length-path_from s (height_of s.kind) (leaves_of s.kind + q), four, other, many);
      leaf = ap (from_be_bytes w32) (take_at front _ 4 four) ∙ number_again q (omega arith);
      ots = ap number_in_front (drop_at front _ 4 four) ∙ type_of_signature_before s.ots s.i q s.seed message (mark ++ path);
      kind = ap number_in_front (behind_front front _ 4 (seal_length s.ots) four ∙ drop_at own _ (seal_length s.ots) many) ∙ type_again (lms_number_of s.kind) path (lms_number_fits s.kind);
      own = ap (take (seal_length s.ots)) (drop_at front _ 4 four) ∙ take_at own _ (seal_length s.ots) many;
      path = behind s front own mark path four many other;
    })
  where
    behind : (s : LmsSecret) (front own mark path : List ℕ) → length front ≡ 4 → length own ≡ seal_length s.ots → length mark ≡ 4 → drop (8 + seal_length s.ots) (front ++ (own ++ (mark ++ path))) ≡ path
    behind s front own mark path four many other =
        let e : 8 + seal_length s.ots ≡ 4 + (seal_length s.ots + 4) = omega arith in
        ap (λ (n : ℕ). drop n (front ++ (own ++ (mark ++ path)))) e
        ∙ (behind_front front (own ++ (mark ++ path)) 4 (seal_length s.ots + 4) four
        ∙ (behind_front own (mark ++ path) (seal_length s.ots) 4 many ∙ drop_at mark path 4 other))

-- a key has 56 bytes, and says how long its signatures are
pub length-lms_key : (s : LmsSecret) → length s.i ≡ 16 → length (lms_key s) ≡ key_length
length-lms_key s wide = let k = holds_key s wide in k.whole

pub signature_length-lms_key : (s : LmsSecret) → length s.i ≡ 16 → signature_length (lms_key s) ≡ Some (lms_seal_length s.kind s.ots)
unfolding signature_length
signature_length-lms_key s wide =
    let k = holds_key s wide in
    rw (k.kind, k.ots, lms_kind_of-lms_number_of s.kind, kind_of-number_of s.ots) refl

-- and they are as long
pub length-lms_signature : (s : LmsSecret) (q : ℕ) (message : List ℕ) → q < leaves_of s.kind → length (lms_signature s q message) ≡ lms_seal_length s.kind s.ots
length-lms_signature s q message below = let h = holds_signature s q message below in h.whole

-- ---- the check

-- no type is refused
no_bad_type : (s : LmsSecret) (q : ℕ) (message key signature : List ℕ) → HoldsKey s key → HoldsSignature s q message signature → bad_type key signature ≡ None
unfolding bad_type
no_bad_type s q message key signature k h =
    let own : eqb (number_of s.ots) (number_of s.ots) ≡ true = eq-eqb _ _ refl in
    let same : eqb (lms_number_of s.kind) (lms_number_of s.kind) ≡ true = eq-eqb _ _ refl in
    rw (k.kind, k.ots, h.ots, kind_of-number_of s.ots, own, h.kind, lms_kind_of-lms_number_of s.kind, same) refl

-- the root is that of the key
root_of_signature : (s : LmsSecret) (q : ℕ) (message signature : List ℕ) → q < leaves_of s.kind → HoldsSignature s q message signature → root_candidate s.kind s.ots s.i q message signature ≡ tree_node s 1
unfolding root_candidate
root_of_signature s q message signature below h =
    let r : ℕ = leaves_of s.kind + q in
    let key : key_candidate s.ots s.i q message (ots_part s.ots signature) ≡ ots_key s.ots s.i q s.seed = ap (key_candidate s.ots s.i q message) h.own ∙ candidate_of_signature s.ots s.i q s.seed message in
    let index : r - leaves_of s.kind ≡ q = omega arith in
    let leaf : leaf_node s.i r (ots_key s.ots s.i q s.seed) ≡ tree_node s r = sym (node_leaf s r (omega arith) ∙ ap (λ (n : ℕ). leaf_node s.i r (ots_key s.ots s.i n s.seed)) index) in
    ap₂ (λ (x y : List ℕ). climbed s.i (height_of s.kind) r x y) (ap (leaf_node s.i r) key ∙ leaf) h.path
    ∙ climbed_to_root s (height_of s.kind) r (omega arith) (omega arith) (omega arith)

-- the whole answer
sealed_whole : (s : LmsSecret) (q : ℕ) (message key signature : List ℕ) → q < leaves_of s.kind → HoldsKey s key → HoldsSignature s q message signature → whole_answer s.kind s.ots key message signature ≡ Ok true
unfolding whole_answer
sealed_whole s q message key signature below k h =
    let long : eqb (length signature) (lms_seal_length s.kind s.ots) ≡ true = eq-eqb _ _ h.whole in
    let inside : ltb q (leaves_of s.kind) ≡ true = lt-ltb _ _ below in
    rw (h.leaf, long, inside, k.i, k.root, root_of_signature s q message signature below h, same_bytes (tree_node s 1)) refl

-- what a leaf seals checks under the tree's key
pub sealed_checks : (s : LmsSecret) (q : ℕ) (message : List ℕ) → length s.i ≡ 16 → q < leaves_of s.kind → lms_answer (lms_key s) message (lms_signature s q message) ≡ Ok true
unfolding lms_answer
sealed_checks s q message wide below =
    let k = holds_key s wide in
    let h = holds_signature s q message below in
    let whole : eqb (length (lms_key s)) key_length ≡ true = eq-eqb _ _ k.whole in
    rw (no_bad_type s q message (lms_key s) (lms_signature s q message) k h, k.kind, k.ots, lms_kind_of-lms_number_of s.kind, kind_of-number_of s.ots, whole)
    (sealed_whole s q message (lms_key s) (lms_signature s q message) below k h)
