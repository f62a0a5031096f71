-- What holds of every disk in memory.
use Rattle.std.specs.Prelude.{◌≡◌, ℕ, ◌+◌, ◌-◌, List, [], ◌∷◌, ◌++◌, length, take, drop, replicate, min, max}
use Rattle.std.proofs.Common.{inl, inr, refl, sym, ◌∙◌, ap, arith, append_assoc, length-append, length-drop, length-take}
use Rattle.std.proofs.lemmas.List.{take_at, drop_at, take_min, take_all, append-nil, length-replicate, length-take-le}
use Rattle.std.proofs.lemmas.Bool.{cases_lt}
use Rattle.std.proofs.Math.Nat.{not-suc-le_self}
use Rattle.st_disk.specs.declared.call.Call.{Call}
use Rattle.st_disk.specs.declared.call.Call.TheVariants.{Write, Cut, Sync}
use Rattle.st_disk.specs.Files.{padded, written, Torn, Resized}
use Rattle.st_disk.specs.Calls.{content, durable, IsImage, IsImageSince}

-- a padded file has the size that was asked for
pub length-padded : (size : ℕ) (file : List ℕ) → length (padded size file) ≡ size
length-padded size file =
    omega (arith, length-append (take size file) (replicate (size - length file) 0), length-take size file, length-replicate {A = ℕ} (size - length file) 0)

-- the bytes up to the end of a write
pub length-front : (at : ℕ) (piece file : List ℕ) → length (padded at file ++ piece) ≡ at + length piece
length-front at piece file = omega (arith, length-append (padded at file) piece, length-padded at file)

-- a file is as long as the write reaches, or as it was
pub length-written : (at : ℕ) (piece file : List ℕ) → length (written at piece file) ≡ max (length file) (at + length piece)
length-written at piece file =
    omega (arith, length-append (padded at file ++ piece) (drop (at + length piece) file), length-front at piece file, length-drop (at + length piece) file)

-- a write that is made is one of the outcomes of a torn one
pub torn_written : (at : ℕ) (piece file : List ℕ) → Torn at (length piece) file (written at piece file)
torn_written at piece file =
    let zeros : List ℕ = replicate (at - length file) 0 in
    let rest : List ℕ = drop (at + length piece) file in
    let parts : written at piece file ≡ take at file ++ (zeros ++ piece ++ rest)
    = append_assoc (padded at file) piece rest ∙ append_assoc (take at file) zeros (piece ++ rest) ∙ ap (λ (l : List ℕ). take at file ++ l) (sym (append_assoc zeros piece rest)) in
    let long : length (take at file) ≡ min at (length file) = omega (arith, length-take at file) in
    let whole = length-written at piece file in
    record {
      before = ap (take (min at (length file))) parts ∙ take_at (take at file) (zeros ++ piece ++ rest) (min at (length file)) long;
      after = drop_at (padded at file ++ piece) rest (at + length piece) (length-front at piece file);
      no_shorter = omega arith;
      no_longer = omega arith;
    }

-- so is one that isn't made
pub torn_not : (at n : ℕ) (file : List ℕ) → Torn at n file file
torn_not at n file = record { before = take_min at file; after = refl; no_shorter = omega arith; no_longer = omega arith }

-- a change of the size that is made is one of the outcomes of one that is cut short
pub resized_padded : (size : ℕ) (file : List ℕ) → Resized size file (padded size file)
resized_padded size file =
    let long = length-padded size file in
    record {
      no_shorter = omega arith;
      no_longer = omega arith;
      same = below size file;
    }
  where
    below : (size : ℕ) (file : List ℕ) → take (length file) (padded size file) ≡ take (length (padded size file)) file
    below size file = elim (cases_lt size (length file)) [
      | inl less ↦
          let none : size - length file ≡ 0 = omega arith in
          let whole : padded size file ≡ take size file = ap (λ (k : ℕ). take size file ++ replicate k 0) none ∙ append-nil (take size file) in
          let long : length (take size file) ≡ size = length-take-le size file (omega arith) in
          ap (take (length file)) whole ∙ take_all (length file) (take size file) (omega arith) ∙ ap (λ (k : ℕ). take k file) (sym (length-padded size file))
      | inr more ↦
          let front : take size file ≡ file = take_all size file more in
          ap (λ (l : List ℕ). take (length file) (l ++ replicate (size - length file) 0)) front
          ∙ take_at file (replicate (size - length file) 0) (length file) refl
          ∙ sym front
          ∙ ap (λ (k : ℕ). take k file) (sym (length-padded size file))
    ]

-- so is one that isn't made
pub resized_not : (size : ℕ) (file : List ℕ) → Resized size file file
resized_not size file = record { no_shorter = omega arith; no_longer = omega arith; same = refl }

-- a crash may leave all writes
pub leaves_content : (start : List ℕ) (calls : List Call) → IsImage start calls (content start calls)
leaves_content start [] = refl
leaves_content start (Write at piece ∷ earlier) = (content start earlier, leaves_content start earlier, torn_written at piece (content start earlier))
leaves_content start (Cut size ∷ earlier) = (content start earlier, leaves_content start earlier, resized_padded size (content start earlier))
leaves_content start (Sync ∷ earlier) = refl

-- it may leave none since the last sync
pub leaves_durable : (start : List ℕ) (calls : List Call) → IsImage start calls (durable start calls)
leaves_durable start [] = refl
leaves_durable start (Write at piece ∷ earlier) = (durable start earlier, leaves_durable start earlier, torn_not at (length piece) (durable start earlier))
leaves_durable start (Cut size ∷ earlier) = (durable start earlier, leaves_durable start earlier, resized_not size (durable start earlier))
leaves_durable start (Sync ∷ earlier) = refl

-- an image of now is one since an earlier moment
pub image_since : (start : List ℕ) (t : ℕ) (calls : List Call) (c : List ℕ) → IsImage start calls c → IsImageSince start t calls c
image_since start t [] c image = image
image_since start t (call ∷ earlier) c image = inl image

-- since now there is no other
pub image_now : (start : List ℕ) (calls : List Call) (c : List ℕ) → IsImageSince start (length calls) calls c → IsImage start calls c
image_now start [] c image = image
image_now start (call ∷ earlier) c (inl image) = image
image_now start (call ∷ earlier) c (inr before) = absurd (not-suc-le_self (length earlier) before.0)
