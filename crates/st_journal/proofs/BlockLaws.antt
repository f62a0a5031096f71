-- What is written as blocks is read as their bodies.
use Rattle.std.proofs.Common.{◌≡◌, ◌≢◌, inl, inr, ℕ, zero, suc, ◌+◌, ◌-◌, ◌*◌, ◌<◌, ◌≤◌, true, false, cond, eqb, ltb, List, [], ◌∷◌, ◌++◌, length, take, drop, get_or, Result, Ok, Err, refl, sym, ap, subst, ◌∙◌, arith, append_assoc, length-append}
use Rattle.std.specs.Int.{w32, from_be_bytes}
use Rattle.std.proofs.lemmas.Bool.{cases_lt, ltb-false, le-leb, lt-leb, ne_eqb}
use Rattle.std.proofs.lemmas.List.{take-append-drop, append-nil, length-take, nil_from_length}
use Rattle.st_fields.specs.declared.error.FieldError.{FieldError}
use Rattle.st_fields.specs.declared.error.FieldError.TheVariants as fields
use Rattle.st_fields.specs.Reading.{◌>>=◌, number_at, bytes_at, mark_at, placed, Fails, IsRefused}
use Rattle.std.specs.List.{starts_with}
use Rattle.std.proofs.lemmas.Bool.Decides.{Decides-eqb}
use Rattle.std.proofs.lemmas.Slice.Eq.{starts_is}
use Rattle.st_fields.proofs.Fields.{bind_ok, short_ok, guard_ok, ok_is}
use Rattle.st_fields.proofs.Leaves.{bytes_at_again, mark_field}
use Rattle.st_journal.specs.Blocks.{mark, body_at, with_body, bodies_at, bodies_of, IsBlock, AreBlocks, IsFile}

-- ---- one block

-- a body is read as it is spelled, where a gate follows
pub body_at-again : (size body next : List ℕ) → length size ≡ 4 → from_be_bytes w32 size ≡ length body → 0 < length next → body_at (size ++ (body ++ next)) ≡ Ok (body, next)
unfolding body_at number_at
body_at-again size body next four says some =
    let first : bytes_at 4 (size ++ (body ++ next)) ≡ Ok (size, body ++ next) = bytes_at_again 4 size (body ++ next) four in
    let second : bytes_at (from_be_bytes w32 size) (body ++ next) ≡ Ok (body, next) = bytes_at_again (from_be_bytes w32 size) body next (sym says) in
    rw (first, second, ne_eqb (length next) 0 (λ e. omega arith)) refl

-- what a body was read from
pub record IsBody (bytes body next : List ℕ) : Type 0 where
  pub size : List ℕ
  pub four : length size ≡ 4
  pub says : from_be_bytes w32 size ≡ length body
  pub is : bytes ≡ size ++ (body ++ next)
  pub some : 0 < length next

-- what the first n bytes are
record IsFront (n : ℕ) (bytes front rest : List ℕ) : Type 0 where
  count : length front ≡ n
  parts : bytes ≡ front ++ rest

bytes_at-is : (n : ℕ) (bytes front rest : List ℕ) → bytes_at n bytes ≡ Ok (front, rest) → IsFront n bytes front rest
unfolding bytes_at
bytes_at-is n bytes front rest e =
    let g = short_ok (ltb (length bytes) n) (take n bytes, drop n bytes) (front, rest) (length bytes) e in
    let long : n ≤ length bytes = ltb-false _ _ g.0 in
    subst (λ (p : List ℕ × List ℕ). IsFront n bytes p.0 p.1) g.1 (record { count = omega (arith, length-take n bytes); parts = sym (take-append-drop n bytes) })

-- what four bytes are as a number
record IsNumber (bytes : List ℕ) (n : ℕ) (rest : List ℕ) : Type 0 where
  size : List ℕ
  four : length size ≡ 4
  says : from_be_bytes w32 size ≡ n
  parts : bytes ≡ size ++ rest

number_at-is : (bytes : List ℕ) (n : ℕ) (rest : List ℕ) → number_at w32 bytes ≡ Ok (n, rest) → IsNumber bytes n rest
unfolding number_at
number_at-is bytes n rest e =
    let b = bind_ok (bytes_at 4 bytes) (λ front rest'. Ok (from_be_bytes w32 front, rest')) (n, rest) e in
    let f = bytes_at-is 4 bytes b.0 b.1 b.2 in
    subst (λ (p : ℕ × List ℕ). IsNumber bytes p.0 p.1) (ok_is _ (n, rest) b.3) (record { size = b.0; four = f.count; says = refl; parts = f.parts })

pub body_at-is : (bytes body next : List ℕ) → body_at bytes ≡ Ok (body, next) → IsBody bytes body next
unfolding body_at
body_at-is bytes body next e =
    let b = bind_ok (number_at w32 bytes) (λ n rest. bytes_at n rest >>= λ body next. cond (eqb (length next) 0) (Err 0) (Ok (body, next))) (body, next) e in
    let size = number_at-is bytes b.0 b.1 b.2 in
    let m = bind_ok (bytes_at b.0 b.1) (λ body next. cond (eqb (length next) 0) (Err 0) (Ok (body, next))) (body, next) b.3 in
    let front = bytes_at-is b.0 b.1 m.0 m.1 m.2 in
    let g = short_ok (eqb (length m.1) 0) (m.0, m.1) (body, next) 0 m.3 in
    subst (λ (p : List ℕ × List ℕ). IsBody bytes p.0 p.1) g.1
    (record {
      size = size.size;
      four = size.four;
      says = size.says ∙ sym front.count;
      is = size.parts ∙ ap (λ (l : List ℕ). size.size ++ l) front.parts;
      some = some_left (length m.1) g.0;
    })
  where
    some_left : (n : ℕ) → eqb n 0 ≡ false → 0 < n
    some_left zero e = absurd cc
    some_left (suc n) _ = omega arith

-- a body that was read is followed by fewer bytes
pub body_shorter : (bytes body next : List ℕ) → IsBody bytes body next → length next + 4 ≤ length bytes
body_shorter bytes body next b =
    omega (arith, ap length b.is, length-append b.size (body ++ next), length-append body next, b.four)

-- ---- blocks

-- one block more
pub blocks-push : (bodies : List (List ℕ)) (blocks body block : List ℕ) → AreBlocks bodies blocks → IsBlock body block → AreBlocks (bodies ++ body ∷ []) (blocks ++ block)
blocks-push [] blocks body block are is = (block, [], is, refl, ap (λ (l : List ℕ). l ++ block) are ∙ sym (append-nil block))
blocks-push (b ∷ bodies) blocks body block are is =
    (are.0, are.1 ++ block, are.2, blocks-push bodies are.1 body block are.3 is, ap (λ (l : List ℕ). l ++ block) are.4 ∙ append_assoc are.0 are.1 block)

-- a block has five bytes at least
pub length-blocks : (bodies : List (List ℕ)) (blocks : List ℕ) → AreBlocks bodies blocks → 5 * length bodies ≤ length blocks
length-blocks [] blocks are = omega arith
length-blocks (b ∷ bodies) blocks are =
    let rest = length-blocks bodies are.1 are.3 in
    let whole = ap length are.4 in
    let first = ap length are.2.is in
    omega (arith, rest, whole, first, length-append are.0 are.1, length-append are.2.size b, are.2.four)

-- the bodies before those that are read further on
abbrev before : List (List ℕ) → Result (List (List ℕ)) ℕ → Result (List (List ℕ)) ℕ
before [] read = read
before (b ∷ bodies) read = with_body b (before bodies read)

before-ok : (bodies : List (List ℕ)) → before bodies (Ok []) ≡ Ok bodies
before-ok [] = refl
before-ok (b ∷ bodies) = ap (with_body b) (before-ok bodies)

before-err : (bodies : List (List ℕ)) (left : ℕ) → before bodies (Err left) ≡ Err left
before-err [] left = refl
before-err (b ∷ bodies) left = ap (with_body b) (before-err bodies left)

-- blocks are read, and then what follows them
pub bodies_at-blocks : (bodies : List (List ℕ)) (blocks rest : List ℕ) (n : ℕ) → AreBlocks bodies blocks → 0 < length rest → bodies_at (length bodies + n) (blocks ++ rest) ≡ before bodies (bodies_at n rest)
unfolding bodies_at
bodies_at-blocks [] blocks rest n are some =
    let none : 0 + n ≡ n = omega arith in
    ap (λ (k : ℕ). bodies_at k (blocks ++ rest)) none ∙ ap (λ (l : List ℕ). bodies_at n (l ++ rest)) are
bodies_at-blocks (b ∷ bodies) blocks rest n are some =
    let block = are.2 in
    let next = are.1 ++ rest in
    let long : 0 < length next = omega (arith, length-append are.1 rest) in
    let whole : blocks ++ rest ≡ block.gate ∷ (block.size ++ (b ++ next))
    = ap (λ (l : List ℕ). l ++ rest) are.4
    ∙ append_assoc are.0 are.1 rest
    ∙ ap (λ (l : List ℕ). l ++ next) block.is
    ∙ ap (λ (l : List ℕ). block.gate ∷ l) (append_assoc block.size b next) in
    let count : length (b ∷ bodies) + n ≡ suc (length bodies + n) = omega arith in
    let step : bodies_at (suc (length bodies + n)) (block.gate ∷ (block.size ++ (b ++ next))) ≡ with_body b (bodies_at (length bodies + n) next) = rw (ne_eqb block.gate 0 block.opened, body_at-again block.size b next block.four block.says long) refl in
    ap (λ (k : ℕ). bodies_at k (blocks ++ rest)) count
    ∙ ap (bodies_at (suc (length bodies + n))) whole
    ∙ step
    ∙ ap (with_body b) (bodies_at-blocks bodies are.1 rest n are.3 some)

-- ---- a whole file

-- up to the closed gate
read_closed : (bodies : List (List ℕ)) (blocks junk : List ℕ) (n : ℕ) → AreBlocks bodies blocks → length bodies < n → bodies_at n (blocks ++ 0 ∷ junk) ≡ Ok bodies
unfolding bodies_at
read_closed bodies blocks junk n are fits =
    let split : n ≡ length bodies + suc (n - length bodies - 1) = omega arith in
    let some : 0 < length (0 ∷ junk) = omega arith in
    ap (λ (k : ℕ). bodies_at k (blocks ++ 0 ∷ junk)) split ∙ bodies_at-blocks bodies blocks (0 ∷ junk) (suc (n - length bodies - 1)) are some ∙ before-ok bodies

-- up to an opened gate that no whole body follows
read_broken : (bodies : List (List ℕ)) (blocks : List ℕ) (gate : ℕ) (rest : List ℕ) (left n : ℕ) → AreBlocks bodies blocks → length bodies < n → gate ≢ 0 → body_at rest ≡ Err left
    → bodies_at n (blocks ++ gate ∷ rest) ≡ Err (length (gate ∷ rest))
unfolding bodies_at
read_broken bodies blocks gate rest left n are fits opened broken =
    let k = n - length bodies - 1 in
    let split : n ≡ length bodies + suc k = omega arith in
    let some : 0 < length (gate ∷ rest) = omega arith in
    let here : bodies_at (suc k) (gate ∷ rest) ≡ Err (length (gate ∷ rest)) = rw (ne_eqb gate 0 opened, broken) refl in
    ap (λ (m : ℕ). bodies_at m (blocks ++ gate ∷ rest)) split ∙ bodies_at-blocks bodies blocks (gate ∷ rest) (suc k) are some
    ∙ ap (before bodies) here ∙ before-err bodies (length (gate ∷ rest))

-- a file of at most 9 bytes stands for no body
pub short_reads : (file : List ℕ) → length file ≤ 9 → bodies_of file ≡ Ok []
unfolding bodies_of
short_reads file short = rw (le-leb (length file) 9 short) refl

-- what a longer one with the mark stands for
marked : (file rest : List ℕ) → 9 < length file → file ≡ mark ++ rest → bodies_of file ≡ placed (length file) (bodies_at (length rest) rest)
unfolding bodies_of
marked file rest long is =
    let found : mark_at mark file ≡ Ok (tt, rest) = ap (mark_at mark) is ∙ (mark_field mark).again tt rest tt in
    rw (lt-leb (length file) 9 long, found) refl

-- one without the mark
pub unmarked : (file : List ℕ) (left : ℕ) → 9 < length file → mark_at mark file ≡ Err left → bodies_of file ≡ Err (length file - left)
unfolding bodies_of
unmarked file left long none = rw (lt-leb (length file) 9 long, none) refl

-- a file of blocks stands for their bodies
pub file_reads : (bodies : List (List ℕ)) (end : ℕ) (junk file : List ℕ) → IsFile bodies end junk file → bodies_of file ≡ Ok bodies
file_reads bodies end junk file f =
    let few = length-blocks bodies f.blocks f.are in
    let total = ap length f.is in
    let parts = length-append (mark ++ f.blocks) (0 ∷ junk) in
    let front = length-append mark f.blocks in
    elim (cases_lt 9 (length file)) [
      | inl long ↦
          let rest : List ℕ = f.blocks ++ 0 ∷ junk in
          let size = length-append f.blocks (0 ∷ junk) in
          marked file rest long (f.is ∙ append_assoc mark f.blocks (0 ∷ junk))
          ∙ ap (placed (length file)) (read_closed bodies f.blocks junk (length rest) f.are (omega (arith, few, size)))
      | inr short ↦
          let none : length bodies ≡ 0 = omega (arith, few, total, parts, front) in
          short_reads file short ∙ ap (λ (l : List (List ℕ)). Ok l) (sym (nil_from_length bodies none))
    ]

-- one that breaks off at an opened gate stands for none
pub broken_reads : (bodies : List (List ℕ)) (blocks : List ℕ) (gate : ℕ) (rest : List ℕ) (left : ℕ) (file : List ℕ) → AreBlocks bodies blocks → gate ≢ 0 → body_at rest ≡ Err left
    → 9 < length file → file ≡ mark ++ (blocks ++ gate ∷ rest) → bodies_of file ≡ Err (length file - length (gate ∷ rest))
broken_reads bodies blocks gate rest left file are opened broken long is =
    let few = length-blocks bodies blocks are in
    let size = length-append blocks (gate ∷ rest) in
    marked file (blocks ++ gate ∷ rest) long is
    ∙ ap (placed (length file)) (read_broken bodies blocks gate rest left (length (blocks ++ gate ∷ rest)) are (omega (arith, few, size)) opened broken)

-- ---- reading on

-- how far a file was read
pub record IsReadTo (bodies : List (List ℕ)) (file rest : List ℕ) : Type 0 where
  pub blocks : List ℕ
  pub are : AreBlocks bodies blocks
  pub is : file ≡ (mark ++ blocks) ++ rest
  pub some : 0 < length rest

-- at the first gate
pub read_to_first : (file rest : List ℕ) → 9 < length file → file ≡ mark ++ rest → IsReadTo [] file rest
read_to_first file rest long is = record { blocks = []; are = refl; is = is; some = omega (arith, ap length is, length-append mark rest) }

-- bytes that are at a gate
at_gate : (rest : List ℕ) → 0 < length rest → rest ≡ get_or rest 0 0 ∷ drop 1 rest
at_gate [] some = absurd (omega arith)
at_gate (x ∷ rest) some = refl

-- a block more
record IsNext (rest body next : List ℕ) : Type 0 where
  block : List ℕ
  one : IsBlock body block
  parts : rest ≡ block ++ next
  some : 0 < length next

next_block : (rest body next : List ℕ) → 0 < length rest → get_or rest 0 0 ≢ 0 → body_at (drop 1 rest) ≡ Ok (body, next) → IsNext rest body next
next_block rest body next some opened e =
    let b = body_at-is (drop 1 rest) body next e in
    record {
      block = get_or rest 0 0 ∷ (b.size ++ body);
      one = record { gate = get_or rest 0 0; size = b.size; opened = opened; four = b.four; says = b.says; is = refl };
      parts = at_gate rest some ∙ ap (λ (l : List ℕ). get_or rest 0 0 ∷ l) (b.is ∙ sym (append_assoc b.size body next));
      some = b.some;
    }

pub read_to_next : (bodies bodies' : List (List ℕ)) (file rest body next : List ℕ) → IsReadTo bodies file rest → get_or rest 0 0 ≢ 0 → body_at (drop 1 rest) ≡ Ok (body, next) → bodies' ≡ bodies ++ body ∷ [] → IsReadTo bodies' file next
read_to_next bodies bodies' file rest body next to opened e more =
    let n = next_block rest body next to.some opened e in
    record {
      blocks = to.blocks ++ n.block;
      are = subst (λ (l : List (List ℕ)). AreBlocks l (to.blocks ++ n.block)) (sym more) (blocks-push bodies to.blocks body n.block to.are n.one);
      is = to.is ∙ ap (λ (l : List ℕ). (mark ++ to.blocks) ++ l) n.parts ∙ sym (append_assoc (mark ++ to.blocks) n.block next)
          ∙ ap (λ (l : List ℕ). l ++ next) (append_assoc mark to.blocks n.block);
      some = n.some;
    }

-- fewer bytes are left
pub next_shorter : (rest body next : List ℕ) → 0 < length rest → get_or rest 0 0 ≢ 0 → body_at (drop 1 rest) ≡ Ok (body, next) → length next < length rest
next_shorter rest body next some opened e =
    let n = next_block rest body next some opened e in
    omega (arith, ap length n.parts, length-append n.block next, ap length n.one.is)

-- at the closed gate
pub read_to_end : (bodies : List (List ℕ)) (file rest : List ℕ) (end : ℕ) → IsReadTo bodies file rest → get_or rest 0 0 ≡ 0 → end ≡ length file - length rest → IsFile bodies end (drop 1 rest) file
read_to_end bodies file rest end to closed offset =
    record {
      blocks = to.blocks;
      are = to.are;
      offset = omega (arith, ap length to.is, length-append (mark ++ to.blocks) rest, offset);
      is = to.is ∙ ap (λ (l : List ℕ). (mark ++ to.blocks) ++ l) (at_gate rest to.some ∙ ap (λ (x : ℕ). x ∷ drop 1 rest) closed);
    }

-- at an opened gate that no whole body follows
pub read_to_fault : (bodies : List (List ℕ)) (file rest : List ℕ) (left : ℕ) → IsReadTo bodies file rest → 9 < length file → get_or rest 0 0 ≢ 0 → body_at (drop 1 rest) ≡ Err left → bodies_of file ≡ Err (length file - length rest)
read_to_fault bodies file rest left to long opened broken =
    let gate = at_gate rest to.some in
    let whole : file ≡ mark ++ (to.blocks ++ get_or rest 0 0 ∷ drop 1 rest) = to.is ∙ append_assoc mark to.blocks rest ∙ ap (λ (l : List ℕ). mark ++ (to.blocks ++ l)) gate in
    broken_reads bodies to.blocks (get_or rest 0 0) (drop 1 rest) left file to.are opened broken long whole ∙ ap (λ (l : List ℕ). Err (length file - length l)) (sym gate)

-- a field that was refused
pub refused : {A : Type 0} (e : FieldError) (read : Result A ℕ) → Fails e read → IsRefused e → (left : ℕ) × (read ≡ Err left)
refused (fields.Refused left) read fails is = (left, fails)
refused fields.OutOfMemory read fails is = absurd is

-- a mark that was read
pub mark_is : (file rest : List ℕ) → mark_at mark file ≡ Ok (tt, rest) → file ≡ mark ++ rest
unfolding mark_at
mark_is file rest e =
    let g = guard_ok (starts_with eqb file mark) (tt, drop (length mark) file) (tt, rest) (length file) e in
    let parts : file ≡ mark ++ drop (length mark) file = (starts_is Decides-eqb file mark true (sym g.0)).0 refl in
    parts ∙ ap (λ (p : Unit {0} × List ℕ). mark ++ p.1) g.1
