-- What a crash leaves of a journal's file, in each step of an append and of a start.
use Rattle.std.proofs.Common.{◌≡◌, ◌≢◌, inl, inr, ℕ, ◌+◌, ◌-◌, ◌^◌, ◌<◌, ◌≤◌, min, List, [], ◌∷◌, ◌++◌, length, take, drop, get_or, Ok, refl, sym, ap, ◌∙◌, arith, append_assoc, length-append}
use Rattle.std.specs.Prelude.{replicate}
use Rattle.std.specs.Int.{w32, to_be_bytes}
use Rattle.std.proofs.lemmas.Bool.{cases_eq}
use Rattle.std.proofs.lemmas.List.{take-append-drop, append-nil, take_at, drop_at, take_all, drop_all, drop_more, nil_from_length}
use Rattle.std.proofs.lemmas.Nat.{from_be_bytes-to_be_bytes_4}
use Rattle.std.proofs.Math.Seq.{take-append-add}
use Rattle.st_fields.specs.Spelling.{number}
use Rattle.st_disk.specs.Files.{padded, written, Torn, Resized}
use Rattle.st_disk.specs.MemoryLaws.{length-padded}
use Rattle.st_journal.specs.Blocks.{mark, fresh, staged, bodies_of, IsBlock, IsFile, IsBeforeOrAfter}
use Rattle.st_journal.proofs.BlockLaws.{blocks-push, file_reads, short_reads}

-- ---- writes in the middle and at the end

-- a file up to where it isn't padded
padded_inside : (size : ℕ) (file : List ℕ) → size ≤ length file → padded size file ≡ take size file
padded_inside size file inside =
    let none : size - length file ≡ 0 = omega arith in
    ap (λ (k : ℕ). take size file ++ replicate k 0) none ∙ append-nil (take size file)

-- a write behind the end
pub written_behind : (at : ℕ) (piece file : List ℕ) → at ≡ length file → written at piece file ≡ file ++ piece
written_behind at piece file end =
    ap (λ (l : List ℕ). (l ++ piece) ++ drop (at + length piece) file) (padded_inside at file (omega arith) ∙ take_all at file (omega arith))
    ∙ ap (λ (l : List ℕ). (file ++ piece) ++ l) (drop_all (at + length piece) file (omega arith))
    ∙ append-nil (file ++ piece)

-- a write of one byte over another
pub written_over : (at : ℕ) (front : List ℕ) (old new : ℕ) (back : List ℕ) → at ≡ length front → written at (new ∷ []) (front ++ old ∷ back) ≡ front ++ new ∷ back
written_over at front old new back here =
    let whole = length-append front (old ∷ back) in
    let behind : drop (at + 1) (front ++ old ∷ back) ≡ back
    = ap (drop (at + 1)) (sym (append_assoc front (old ∷ []) back)) ∙ drop_at (front ++ old ∷ []) back (at + 1) (omega (arith, length-append front (old ∷ []))) in
    ap (λ (l : List ℕ). (l ++ new ∷ []) ++ drop (at + 1) (front ++ old ∷ back)) (padded_inside at (front ++ old ∷ back) (omega arith) ∙ take_at front (old ∷ back) at (sym here))
    ∙ ap (λ (l : List ℕ). (front ++ new ∷ []) ++ l) behind
    ∙ append_assoc front (new ∷ []) back

-- ---- an append

module _ (bodies : List (List ℕ)) (body : List ℕ) (end : ℕ) (file : List ℕ) (at_rest : IsFile bodies end [] file) where
  front : List ℕ
  front = mark ++ at_rest.blocks

  pub length-file : length file ≡ end + 1
  length-file = omega (arith, ap length at_rest.is, length-append (mark ++ at_rest.blocks) (0 ∷ []), at_rest.offset)

  -- the file with the body behind the closed gate
  pub staged_file : written (end + 1) (staged body) file ≡ (mark ++ at_rest.blocks) ++ 0 ∷ staged body
  staged_file =
      written_behind (end + 1) (staged body) file (omega (arith, length-file))
      ∙ ap (λ (l : List ℕ). l ++ staged body) at_rest.is
      ∙ append_assoc (mark ++ at_rest.blocks) (0 ∷ []) (staged body)

  -- the closed gate stands in each outcome of the first write
  pub torn_behind : (n : ℕ) (c : List ℕ) → Torn (end + 1) n file c → bodies_of c ≡ Ok bodies
  torn_behind n c torn =
      let long = length-file in
      let all : take (end + 1) file ≡ file = take_all (end + 1) file (omega arith) in
      let least : min (end + 1) (length file) ≡ end + 1 = omega arith in
      let first : take (end + 1) c ≡ file = ap (λ (k : ℕ). take k c) (sym least) ∙ torn.before ∙ all in
      let whole : c ≡ (mark ++ at_rest.blocks) ++ 0 ∷ drop (end + 1) c =
      sym (take-append-drop (end + 1) c) ∙ ap (λ (l : List ℕ). l ++ drop (end + 1) c) (first ∙ at_rest.is) ∙ append_assoc (mark ++ at_rest.blocks) (0 ∷ []) (drop (end + 1) c) in
      file_reads bodies end (drop (end + 1) c) c (record { blocks = at_rest.blocks; are = at_rest.are; offset = at_rest.offset; is = whole })

  pub staged_reads : (c : List ℕ) → c ≡ (mark ++ at_rest.blocks) ++ 0 ∷ staged body → bodies_of c ≡ Ok bodies
  staged_reads c is = file_reads bodies end (staged body) c (record { blocks = at_rest.blocks; are = at_rest.are; offset = at_rest.offset; is = is })

  -- with the gate opened, the file has one body more
  pub opened_file : length body < 2 ^ 32 → (gate : ℕ) (c : List ℕ) → gate ≢ 0 → c ≡ (mark ++ at_rest.blocks) ++ gate ∷ staged body → IsFile (bodies ++ body ∷ []) (end + (5 + length body)) [] c
  unfolding staged number
  opened_file fits gate c opened is =
      let size : List ℕ = to_be_bytes w32 (length body) in
      let block : List ℕ = gate ∷ (size ++ body) in
      let one : IsBlock body block = record { gate = gate; size = size; opened = opened; four = refl; says = from_be_bytes-to_be_bytes_4 (length body) fits; is = refl } in
      let four : length size ≡ 4 = refl in
      record {
        blocks = at_rest.blocks ++ block;
        are = blocks-push bodies at_rest.blocks body block at_rest.are one;
        offset = omega (arith, at_rest.offset, length-append mark at_rest.blocks, length-append mark (at_rest.blocks ++ block), length-append at_rest.blocks block, length-append size body, four);
        is = is
            ∙ sym (append_assoc (mark ++ at_rest.blocks) block (0 ∷ []))
            ∙ ap (λ (l : List ℕ). l ++ 0 ∷ []) (append_assoc mark at_rest.blocks block);
      }

  -- the body stands whole in each outcome of the second write
  pub torn_gate : length body < 2 ^ 32 → (f c : List ℕ) → f ≡ (mark ++ at_rest.blocks) ++ 0 ∷ staged body → Torn end 1 f c → IsBeforeOrAfter bodies body c
  torn_gate fits f c is torn =
      let reaches : end < length f = omega (arith, ap length is, length-append (mark ++ at_rest.blocks) (0 ∷ staged body), at_rest.offset) in
      let least : min end (length f) ≡ end = omega arith in
      let first : take end c ≡ mark ++ at_rest.blocks =
      ap (λ (k : ℕ). take k c) (sym least) ∙ torn.before ∙ ap (take end) is ∙ take_at (mark ++ at_rest.blocks) (0 ∷ staged body) end (sym at_rest.offset) in
      let last : drop (end + 1) c ≡ staged body =
      torn.after ∙ ap (drop (end + 1)) (is ∙ sym (append_assoc (mark ++ at_rest.blocks) (0 ∷ []) (staged body)))
      ∙ drop_at ((mark ++ at_rest.blocks) ++ 0 ∷ []) (staged body) (end + 1) (omega (arith, length-append (mark ++ at_rest.blocks) (0 ∷ []), at_rest.offset)) in
      let gate = get_or c end 0 in
      let rest : drop end c ≡ gate ∷ staged body = drop_more c end 0 (omega (arith, torn.no_shorter)) ∙ ap (λ (l : List ℕ). gate ∷ l) last in
      let whole : c ≡ (mark ++ at_rest.blocks) ++ gate ∷ staged body =
      sym (take-append-drop end c) ∙ ap (λ (l : List ℕ). l ++ drop end c) first ∙ ap (λ (l : List ℕ). (mark ++ at_rest.blocks) ++ l) rest in
      elim (cases_eq gate 0) [
        | inl closed ↦ inl (staged_reads c (whole ∙ ap (λ (x : ℕ). (mark ++ at_rest.blocks) ++ x ∷ staged body) closed))
        | inr opened ↦ inr (file_reads (bodies ++ body ∷ []) (end + (5 + length body)) [] c (opened_file fits gate c opened whole))
      ]

  -- the file after the second write
  pub open_file : (f : List ℕ) → f ≡ (mark ++ at_rest.blocks) ++ 0 ∷ staged body → written end (1 ∷ []) f ≡ (mark ++ at_rest.blocks) ++ 1 ∷ staged body
  open_file f is = ap (written end (1 ∷ [])) is ∙ written_over end (mark ++ at_rest.blocks) 0 1 (staged body) at_rest.offset

-- ---- a start

-- a new journal
pub fresh_file : IsFile [] 8 [] fresh
fresh_file = record { blocks = []; are = refl; offset = refl; is = refl }

pub fresh_written : (file : List ℕ) → file ≡ [] → written 0 fresh file ≡ fresh
fresh_written file empty = written_behind 0 fresh file (ap length (sym empty)) ∙ ap (λ (l : List ℕ). l ++ fresh) empty

pub padded_none : (file : List ℕ) → padded 0 file ≡ []
padded_none file = nil_from_length (padded 0 file) (length-padded 0 file)

-- a short file stays one while it is cut to nothing
pub cut_short : (file c : List ℕ) → length file ≤ 9 → Resized 0 file c → bodies_of c ≡ Ok []
cut_short file c short cut = short_reads c (omega (arith, cut.no_longer))

-- and while the first bytes are written
pub torn_fresh : (file c : List ℕ) → file ≡ [] → Torn 0 9 file c → bodies_of c ≡ Ok []
torn_fresh file c empty torn = short_reads c (omega (arith, torn.no_longer, ap length empty))

module _ (bodies : List (List ℕ)) (end : ℕ) (junk file : List ℕ) (f : IsFile bodies end junk file) where
  head : List ℕ
  head = (mark ++ f.blocks) ++ 0 ∷ []

  length-whole : length file ≡ end + 1 + length junk
  length-whole = omega (arith, ap length f.is, length-append (mark ++ f.blocks) (0 ∷ junk), f.offset)

  -- what is cut off behind the closed gate means nothing
  pub cut_behind : (c : List ℕ) → Resized (end + 1) file c → bodies_of c ≡ Ok bodies
  cut_behind c cut =
      let long = length-whole in
      let few : length c ≤ length file = omega (arith, cut.no_longer) in
      let most : end + 1 ≤ length c = omega (arith, cut.no_shorter) in
      let whole : c ≡ take (length c) file = sym (take_all (length file) c few) ∙ cut.same in
      let k = length c - (end + 1) in
      let split : file ≡ ((mark ++ f.blocks) ++ 0 ∷ []) ++ junk = f.is ∙ sym (append_assoc (mark ++ f.blocks) (0 ∷ []) junk) in
      let size : length c ≡ length ((mark ++ f.blocks) ++ 0 ∷ []) + k = omega (arith, length-append (mark ++ f.blocks) (0 ∷ []), f.offset) in
      let is : c ≡ (mark ++ f.blocks) ++ 0 ∷ take k junk
      = whole ∙ ap (take (length c)) split ∙ ap (λ (n : ℕ). take n (((mark ++ f.blocks) ++ 0 ∷ []) ++ junk)) size
      ∙ take-append-add ((mark ++ f.blocks) ++ 0 ∷ []) junk k ∙ append_assoc (mark ++ f.blocks) (0 ∷ []) (take k junk) in
      file_reads bodies end (take k junk) c (record { blocks = f.blocks; are = f.are; offset = f.offset; is = is })

  -- the file without them
  pub cut_file : (c : List ℕ) → c ≡ padded (end + 1) file → IsFile bodies end [] c
  cut_file c is =
      let long = length-whole in
      let split : file ≡ ((mark ++ f.blocks) ++ 0 ∷ []) ++ junk = f.is ∙ sym (append_assoc (mark ++ f.blocks) (0 ∷ []) junk) in
      record {
        blocks = f.blocks;
        are = f.are;
        offset = f.offset;
        is = is ∙ padded_inside (end + 1) file (omega arith) ∙ ap (take (end + 1)) split
            ∙ take_at ((mark ++ f.blocks) ++ 0 ∷ []) junk (end + 1) (omega (arith, length-append (mark ++ f.blocks) (0 ∷ []), f.offset));
      }

  -- where nothing stands behind the closed gate
  pub nothing_behind : length file ≡ end + 1 → IsFile bodies end [] file
  nothing_behind short =
      let long = length-whole in
      let none : junk ≡ [] = nil_from_length junk (omega arith) in
      record { blocks = f.blocks; are = f.are; offset = f.offset; is = f.is ∙ ap (λ (l : List ℕ). (mark ++ f.blocks) ++ 0 ∷ l) none }
