-- LMS over SHA-256 (RFC 8554, section 5), as functions on lists of bytes.
use Rattle.std.specs.Prelude.{ℕ, zero, suc, ◌+◌, ◌-◌, ◌*◌, ◌/◌, ◌%◌, List, [], ◌++◌, take, drop, ◌==◌, nat_le, if◌then◌else◌}
use Rattle.std.specs.Int.{w32}
use Rattle.sha2.specs.Sha256.{sha256}
use Rattle.st_fields.specs.Spelling.{number}
use Rattle.st_lmots.specs.declared.kind.OtsKind.{OtsKind}
use Rattle.st_lmots.specs.Kinds.{number_of, seal_length}
use Rattle.st_lmots.specs.Formulas.{place, ots_key, ots_signature, key_candidate}
use Rattle.st_lms.specs.declared.kind.LmsKind.{LmsKind}
use Rattle.st_lms.specs.declared.secret.LmsSecret.{LmsSecret}
use Rattle.st_lms.specs.Kinds.{lms_number_of, height_of, leaves_of}

-- ---- trees (section 5.3)

-- D_LEAF and D_INTR: the places of a leaf's hash and of an inner node's
abbrev pub for_leaf : ℕ
for_leaf = 0x8282

abbrev pub for_inner : ℕ
for_inner = 0x8383

-- node r, where it is a leaf of this public key
unfoldable pub leaf_node : List ℕ → ℕ → List ℕ → List ℕ
leaf_node i r key = sha256 (place i r for_leaf ++ key)

-- node r, above these two
unfoldable pub inner_node : List ℕ → ℕ → List ℕ → List ℕ → List ℕ
inner_node i r left right = sha256 (place i r for_inner ++ left ++ right)

-- T[r], of a tree that is looked into `depth` levels below r: r is a leaf from 2^h on, and stands above
-- 2r and 2r + 1 otherwise
unfoldable pub node_within : LmsSecret → ℕ → ℕ → List ℕ
node_within s zero r = leaf_node s.i r (ots_key s.ots s.i (r - leaves_of s.kind) s.seed)
node_within s (suc depth) r =
    if nat_le (leaves_of s.kind) r then leaf_node s.i r (ots_key s.ots s.i (r - leaves_of s.kind) s.seed) else inner_node s.i r (node_within s depth (2 * r)) (node_within s depth (2 * r + 1))

-- T[r]: no node has more than h levels below it
abbrev pub tree_node : LmsSecret → ℕ → List ℕ
tree_node s r = node_within s (height_of s.kind) r

-- the public key
unfoldable pub lms_key : LmsSecret → List ℕ
lms_key s = number w32 (lms_number_of s.kind) ++ number w32 (number_of s.ots) ++ s.i ++ tree_node s 1

-- ---- signatures (section 5.4)

-- r xor 1: the other node below r's parent
abbrev pub sibling : ℕ → ℕ
sibling r = if r % 2 == 1 then r - 1 else r + 1

-- the n siblings on the way up from r, the nearest first
unfoldable pub path_from : LmsSecret → ℕ → ℕ → List ℕ
path_from s zero r = []
path_from s (suc n) r = tree_node s (sibling r) ++ path_from s n (r / 2)

-- the signature of a message by leaf q
unfoldable pub lms_signature : LmsSecret → ℕ → List ℕ → List ℕ
lms_signature s q message =
    number w32 q ++ ots_signature s.ots s.i q s.seed message ++ number w32 (lms_number_of s.kind) ++ path_from s (height_of s.kind) (leaves_of s.kind + q)

-- ---- checks (section 5.4.2)

-- the parent of node r, from its value and its sibling's
unfoldable pub parent_of : List ℕ → ℕ → List ℕ → List ℕ → List ℕ
parent_of i r value other = if r % 2 == 1 then inner_node i (r / 2) other value else inner_node i (r / 2) value other

-- n levels up from node r along a path
unfoldable pub climbed : List ℕ → ℕ → ℕ → List ℕ → List ℕ → List ℕ
climbed i zero r value path = value
climbed i (suc n) r value path = climbed i n (r / 2) (parent_of i r value (take 32 path)) (drop 32 path)

-- the leaf's signature in a signature, and the path
abbrev pub ots_part : OtsKind → List ℕ → List ℕ
ots_part ots signature = take (seal_length ots) (drop 4 signature)

abbrev pub path_part : OtsKind → List ℕ → List ℕ
path_part ots signature = drop (8 + seal_length ots) signature

-- the root that a signature of this length speaks for, by leaf q
unfoldable pub root_candidate : LmsKind → OtsKind → List ℕ → ℕ → List ℕ → List ℕ → List ℕ
root_candidate kind ots i q message signature =
    let r = leaves_of kind + q in
    climbed i (height_of kind) r (leaf_node i r (key_candidate ots i q message (ots_part ots signature))) (path_part ots signature)
