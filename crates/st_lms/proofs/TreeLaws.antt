-- The nodes of a tree.
use Rattle.std.proofs.Common.{◌≡◌, ℕ, zero, suc, ◌+◌, ◌-◌, ◌*◌, ◌^◌, ◌<◌, ◌≤◌, ◌≢◌, List, length, set, refl, sym, ap, ap₂, ◌∙◌, arith, inl, inr}
use Rattle.std.proofs.lemmas.Bool.{cases_lt, le-leb, lt-leb}
use Rattle.std.proofs.Math.Nat.{pow-succ', mul-le-mul_left}
use Rattle.std.proofs.lemmas.List.{get_or-set_other}
use Rattle.std.proofs.lemmas.Grind.{get_or-set_at}
use Rattle.st_lmots.specs.Formulas.{ots_key}
use Rattle.st_lms.specs.declared.kind.LmsKind.{LmsKind}
use Rattle.st_lms.specs.declared.kind.LmsKind.TheVariants.{H5, H10, H15, H20, H25}
use Rattle.st_lms.specs.declared.secret.LmsSecret.{LmsSecret}
use Rattle.st_lms.specs.Kinds.{height_of, leaves_of}
use Rattle.st_lms.specs.Formulas.{leaf_node, inner_node, node_within, tree_node}
use Rattle.st_lms.specs.Trees.{IsBuiltFrom}

-- a tree has few leaves
pub leaves_few : (kind : LmsKind) → leaves_of kind ≤ 2 ^ 25
leaves_few H5 = omega arith
leaves_few H10 = omega arith
leaves_few H15 = omega arith
leaves_few H20 = omega arith
leaves_few H25 = omega arith

-- the value of a leaf's node
abbrev pub leaf_at : LmsSecret → ℕ → List ℕ
leaf_at s r = leaf_node s.i r (ots_key s.ots s.i (r - leaves_of s.kind) s.seed)

-- a leaf, however deep the tree is looked into
within_leaf : (s : LmsSecret) (n r : ℕ) → leaves_of s.kind ≤ r → node_within s n r ≡ leaf_at s r
unfolding node_within
within_leaf s zero r leaf = refl
within_leaf s (suc n) r leaf = rw (le-leb (leaves_of s.kind) r leaf) refl

-- a node above others, looked into one level
within_inner : (s : LmsSecret) (n r : ℕ) → r < leaves_of s.kind → node_within s (suc n) r ≡ inner_node s.i r (node_within s n (2 * r)) (node_within s n (2 * r + 1))
unfolding node_within
within_inner s n r above = rw (lt-leb (leaves_of s.kind) r above) refl

-- deeper than the leaves there is nothing
deeper : (s : LmsSecret) (n r : ℕ) → leaves_of s.kind ≤ r * 2 ^ n → node_within s n r ≡ node_within s (suc n) r
deeper s zero r leaf =
    let at : leaves_of s.kind ≤ r = omega arith in
    within_leaf s 0 r at ∙ sym (within_leaf s 1 r at)
deeper s (suc n) r leaf =
    elim (cases_lt r (leaves_of s.kind)) [
      | inl above ↦ (let twice : r * 2 ^ suc n ≡ r * (2 * 2 ^ n) = ap (λ (x : ℕ). r * x) (pow-succ' 2 n) in
          let left = deeper s n (2 * r) (omega arith) in
          let right = deeper s n (2 * r + 1) (omega arith) in
          within_inner s n r above ∙ (ap₂ (inner_node s.i r) left right ∙ sym (within_inner s (suc n) r above)))
      | inr at ↦ within_leaf s (suc n) r at ∙ sym (within_leaf s (suc (suc n)) r at)
    ]

-- a tree has levels
height_is : (kind : LmsKind) → (m : ℕ) × (height_of kind ≡ suc m)
height_is H5 = (4, refl)
height_is H10 = (9, refl)
height_is H15 = (14, refl)
height_is H20 = (19, refl)
height_is H25 = (24, refl)

-- a leaf of the tree
pub node_leaf : (s : LmsSecret) (r : ℕ) → leaves_of s.kind ≤ r → tree_node s r ≡ leaf_at s r
node_leaf s r leaf = within_leaf s (height_of s.kind) r leaf

-- the same, of a tree of m + 1 levels
inner_of : (s : LmsSecret) (h m r : ℕ) → h ≡ suc m → leaves_of s.kind ≡ 2 ^ h → 1 ≤ r → r < leaves_of s.kind → node_within s h r ≡ inner_node s.i r (node_within s h (2 * r)) (node_within s h (2 * r + 1))
inner_of s h m r e wide own above =
    let twice : 2 ^ h ≡ 2 * 2 ^ m = ap (λ (n : ℕ). 2 ^ n) e ∙ pow-succ' 2 m in
    let many : 2 ^ m * 1 ≤ 2 ^ m * r = mul-le-mul_left (2 ^ m) own in
    let left : node_within s m (2 * r) ≡ node_within s h (2 * r) = deeper s m (2 * r) (omega arith) ∙ sym (ap (λ (n : ℕ). node_within s n (2 * r)) e) in
    let right : node_within s m (2 * r + 1) ≡ node_within s h (2 * r + 1) = deeper s m (2 * r + 1) (omega arith) ∙ sym (ap (λ (n : ℕ). node_within s n (2 * r + 1)) e) in
    ap (λ (n : ℕ). node_within s n r) e ∙ (within_inner s m r above ∙ ap₂ (inner_node s.i r) left right)

-- a node above others
pub node_inner : (s : LmsSecret) (r : ℕ) → 1 ≤ r → r < leaves_of s.kind → tree_node s r ≡ inner_node s.i r (tree_node s (2 * r)) (tree_node s (2 * r + 1))
node_inner s r own above =
    let levels = height_is s.kind in
    inner_of s (height_of s.kind) levels.0 r levels.1 refl own above

-- one node more is kept
pub built_more : (s : LmsSecret) (nodes : List (List ℕ)) (r : ℕ) (value : List ℕ) → IsBuiltFrom s (r + 1) nodes → value ≡ tree_node s r → length nodes ≡ 2 * leaves_of s.kind → IsBuiltFrom s r (set nodes r value)
built_more s nodes r value built is all k d from below =
    elim (cases_lt r k) [
      | inl lt ↦ (let other : k ≢ r = omega arith in get_or-set_other nodes r k value d other ∙ built k d (omega arith) below)
      | inr le ↦ (let own : k ≡ r = omega arith in
          get_or-set_at nodes r k value d own (omega arith) ∙ (is ∙ ap (tree_node s) (sym own)))
    ]
