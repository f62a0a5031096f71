-- Records of calls that grow, and what they make of a disk in memory.
use Rattle.std.proofs.Common.{◌≡◌, inl, inr, ◌≤◌, ◌+◌, ◌-◌, ℕ, zero, suc, List, [], ◌∷◌, ◌++◌, length, take, drop, reverse, replicate, refl, sym, ap, subst, ◌∙◌, arith, length-append}
use Rattle.std.proofs.lemmas.List.{reverse-append, take-append-le, take-append-drop, take_all, drop_all, append-nil, take-replicate, drop-replicate}
use Rattle.std.proofs.lemmas.Bool.{cases_lt}
use Rattle.std.proofs.Math.Nat.{le_trans}
use Rattle.std.proofs.Math.Seq.{take-append-add, drop-append-add}
use Rattle.std.proofs.lemmas.List.Elements.{All-append, All-cons, All-nil, All-weaker}
use Rattle.std.specs.Prelude.{All}
use Rattle.st_disk.specs.declared.call.Call.{Call}
use Rattle.st_disk.specs.declared.call.Call.TheVariants.{Sync}
use Rattle.st_disk.specs.declared.memory.MemoryDisk.{MemoryDisk}
use Rattle.st_disk.specs.Files.{padded, written}
use Rattle.st_disk.specs.Calls.{after, content, durable, reach, calls_from, content_at, IsImage, IsImageSince, IsKept}
use Rattle.st_disk.specs.Crashes.{Rests, Elapses}
use Rattle.st_disk.specs.Memory.{seen_of, synced_of, image_of, moment_of, image_since_of, Makes, Stays}

-- ---- the bytes

-- the front of bytes that were filled up with enough zeros
front_of_filled : (at k : ℕ) (file : List ℕ) → at ≤ length file + k → take at (file ++ replicate k 0) ≡ padded at file
front_of_filled at k file fits = elim (cases_lt at (length file)) [
  | inl less ↦
      let none : at - length file ≡ 0 = omega arith in
      take-append-le at file (replicate k 0) (omega arith)
      ∙ sym (append-nil (take at file)) ∙ ap (λ (k : ℕ). take at file ++ replicate k 0) (sym none)
  | inr more ↦
      let split : at ≡ length file + (at - length file) = omega arith in
      ap (λ (n : ℕ). take n (file ++ replicate k 0)) split
      ∙ take-append-add file (replicate k 0) (at - length file)
      ∙ ap (λ (l : List ℕ). file ++ l) (take-replicate (at - length file) k 0 (omega arith))
      ∙ ap (λ (l : List ℕ). l ++ replicate (at - length file) 0) (sym (take_all at file more))
]

-- what stands behind a write into such bytes
back_of_filled : (end : ℕ) (file : List ℕ) → drop end (file ++ replicate (end - length file) 0) ≡ drop end file
back_of_filled end file = elim (cases_lt end (length file)) [
  | inl less ↦
      let none : end - length file ≡ 0 = omega arith in
      ap (λ (k : ℕ). drop end (file ++ replicate k 0)) none ∙ ap (drop end) (append-nil file)
  | inr more ↦
      let split : end ≡ length file + (end - length file) = omega arith in
      let none : end - length file - (end - length file) ≡ 0 = omega arith in
      ap (λ (n : ℕ). drop n (file ++ replicate (end - length file) 0)) split
      ∙ drop-append-add file (replicate (end - length file) 0) (end - length file)
      ∙ drop-replicate (end - length file) (end - length file) 0
      ∙ ap (λ (k : ℕ). replicate k 0) none
      ∙ sym (drop_all end file more)
]

-- a write into bytes that were filled up with zeros first
pub laid : (at : ℕ) (piece file filled new : List ℕ) → filled ≡ file ++ replicate (at + length piece - length file) 0
    → new ≡ (take at filled ++ piece) ++ drop (at + length piece) filled → new ≡ written at piece file
laid at piece file filled new fills pastes =
    let front : take at filled ≡ padded at file = ap (take at) fills ∙ front_of_filled at (at + length piece - length file) file (omega arith) in
    let back : drop (at + length piece) filled ≡ drop (at + length piece) file = ap (drop (at + length piece)) fills ∙ back_of_filled (at + length piece) file in
    pastes ∙ ap (λ (l : List ℕ). (l ++ piece) ++ drop (at + length piece) filled) front ∙ ap (λ (l : List ℕ). (padded at file ++ piece) ++ l) back

-- ---- records that grow

-- one call more
pub content_more : (calls : List Call) (call : Call) → content [] (reverse (calls ++ call ∷ [])) ≡ after call (content [] (reverse calls))
content_more calls call = ap (content []) (reverse-append calls (call ∷ []))

content_on : (start : List ℕ) (later earlier : List Call) → content start (later ++ earlier) ≡ content (content start earlier) later
content_on start [] earlier = refl
content_on start (call ∷ later) earlier = ap (after call) (content_on start later earlier)

-- all calls are those up to one, and then those from it on
pub content_split : (n : ℕ) (calls : List Call) → content [] (reverse calls) ≡ content (content_at n calls) (calls_from n calls)
content_split n calls =
    ap (λ (l : List Call). content [] (reverse l)) (sym (take-append-drop n calls))
    ∙ ap (content []) (reverse-append (take n calls) (drop n calls))
    ∙ content_on [] (reverse (drop n calls)) (reverse (take n calls))

drop_push : (n : ℕ) (calls : List Call) (call : Call) → n ≤ length calls → drop n (calls ++ call ∷ []) ≡ drop n calls ++ call ∷ []
drop_push zero calls call le = refl
drop_push (suc n) [] call le = absurd (omega arith)
drop_push (suc n) (c ∷ calls) call le = drop_push n calls call (omega arith)

-- the calls from one on, with one call more
pub calls_from-push : (n : ℕ) (calls : List Call) (call : Call) → n ≤ length calls → calls_from n (calls ++ call ∷ []) ≡ call ∷ calls_from n calls
calls_from-push n calls call le = ap reverse (drop_push n calls call le) ∙ reverse-append (drop n calls) (call ∷ [])

-- the file at an earlier call stays
pub content_at-push : (n : ℕ) (calls : List Call) (call : Call) → n ≤ length calls → content_at n (calls ++ call ∷ []) ≡ content_at n calls
content_at-push n calls call le = ap (λ (l : List Call). content [] (reverse l)) (take-append-le n calls (call ∷ []) le)

push_longer : (calls : List Call) (call : Call) → length (calls ++ call ∷ []) ≡ length calls + 1
push_longer calls call = length-append calls (call ∷ [])

-- more room serves as well
pub fits_more : (calls : List Call) (room room' : ℕ) → room ≤ room' → All (λ call. reach call ≤ room) calls → All (λ call. reach call ≤ room') calls
fits_more calls room room' more fits = All-weaker (λ call. reach call ≤ room) (λ call. reach call ≤ room') (λ call within. le_trans within more) calls fits

fits_push : (calls : List Call) (call : Call) (room room' : ℕ) → room ≤ room' → reach call ≤ room' → All (λ call. reach call ≤ room) calls → All (λ call. reach call ≤ room') (calls ++ call ∷ [])
fits_push calls call room room' more within fits =
    All-append (λ call. reach call ≤ room') calls (call ∷ []) (fits_more calls room room' more fits) (All-cons (λ call. reach call ≤ room') call [] within (All-nil (λ call. reach call ≤ room')))

-- a record with one write or one change of the size more
pub kept_push : (calls calls' : List Call) (settled synced : ℕ) (bytes bytes' : List ℕ) (room room' : ℕ) (call : Call) → IsKept calls settled synced bytes room
    → ((start : List ℕ) (earlier : List Call) → durable start (call ∷ earlier) ≡ durable start earlier)
    → calls' ≡ calls ++ call ∷ [] → bytes' ≡ after call bytes → room ≤ room' → reach call ≤ room' → IsKept calls' settled synced bytes' room'
kept_push calls calls' settled synced bytes bytes' room room' call kept plain is makes more within =
    let first : settled ≤ length calls = omega (arith, kept.settled_first, kept.inside) in
    subst (λ (l : List Call). IsKept l settled synced bytes' room') (sym is)
    (record {
      settled_first = kept.settled_first;
      inside = omega (arith, kept.inside, push_longer calls call);
      made = makes ∙ ap (after call) kept.made ∙ sym (content_more calls call);
      stands = content_at-push synced calls call kept.inside ∙ kept.stands ∙ sym (plain (content_at settled calls) (calls_from settled calls))
          ∙ ap (λ (s : List ℕ). durable s (call ∷ calls_from settled calls)) (sym (content_at-push settled calls call first))
          ∙ ap (durable (content_at settled (calls ++ call ∷ []))) (sym (calls_from-push settled calls call first));
      fits = fits_push calls call room room' more within kept.fits;
    })

-- a record with one sync more
pub kept_sync : (calls calls' : List Call) (settled synced synced' : ℕ) (bytes bytes' : List ℕ) (room room' : ℕ) → IsKept calls settled synced bytes room
    → calls' ≡ calls ++ Sync ∷ [] → bytes' ≡ bytes → room ≤ room' → synced' ≡ length calls' → IsKept calls' settled synced' bytes' room'
kept_sync calls calls' settled synced synced' bytes bytes' room room' kept is same more all =
    let first : settled ≤ length calls = omega (arith, kept.settled_first, kept.inside) in
    let longer : length calls' ≡ length calls + 1 = ap length is ∙ push_longer calls Sync in
    record {
      settled_first = omega arith;
      inside = omega arith;
      made = same ∙ kept.made ∙ sym (content_more calls Sync) ∙ ap (λ (l : List Call). content [] (reverse l)) (sym is);
      stands = ap (λ (l : List Call). content [] (reverse l)) (take_all synced' calls' (omega arith) ∙ is)
          ∙ content_more calls Sync
          ∙ content_split settled calls
          ∙ ap (λ (s : List ℕ). content s (calls_from settled calls)) (sym (content_at-push settled calls Sync first))
          ∙ ap (durable (content_at settled (calls ++ Sync ∷ []))) (sym (calls_from-push settled calls Sync first))
          ∙ ap (λ (l : List Call). durable (content_at settled l) (calls_from settled l)) (sym is);
      fits = subst (All (λ call. reach call ≤ room')) (sym is) (fits_push calls Sync room room' more (omega arith) kept.fits);
    }

-- ---- disks

-- one call more in the record is one call made
pub makes_push : (old new : MemoryDisk) (call : Call) → new.settled ≡ old.settled → new.calls ≡ old.calls ++ call ∷ [] → Makes call old new
makes_push old new call same is =
    let first : old.settled ≤ length old.calls = omega (arith, old.kept.settled_first, old.kept.inside) in
    record {
      start = ap (λ (n : ℕ). content_at n new.calls) same ∙ ap (content_at old.settled) is ∙ content_at-push old.settled old.calls call first;
      calls = ap (λ (n : ℕ). calls_from n new.calls) same ∙ ap (calls_from old.settled) is ∙ calls_from-push old.settled old.calls call first;
    }

-- the bytes are those that reads give
pub seen_bytes : (d : MemoryDisk) → seen_of d ≡ d.bytes.items
seen_bytes d = sym (content_split d.settled d.calls) ∙ sym d.kept.made

moved : (P : List ℕ → List Call → Type 0) {start start' : List ℕ} {calls calls' : List Call} → start' ≡ start → calls' ≡ calls → P start calls → P start' calls'
moved P {start} {start'} {calls} {calls'} same_start same_calls p =
    subst (λ (l : List Call). P start' l) (sym same_calls) (subst (λ (s : List ℕ). P s calls) (sym same_start) p)

-- where no call was made, all rests
pub rests : (old new : MemoryDisk) → Stays old new → Rests seen_of synced_of image_of old new
rests old new stays = record {
  same = moved (λ s l. content s l ≡ seen_of old) stays.start stays.calls refl;
  same_synced = moved (λ s l. durable s l ≡ synced_of old) stays.start stays.calls refl;
  images = λ c image. moved (λ s l. IsImage s l c) (sym stays.start) (sym stays.calls) image;
  images_back = λ c image. moved (λ s l. IsImage s l c) stays.start stays.calls image;
}

-- and no moment went by
pub elapses_rest : (old new : MemoryDisk) → Stays old new → Elapses moment_of image_since_of image_of old new
elapses_rest old new stays = record {
  later = omega (arith, ap length stays.calls);
  nothing_else = λ t c le image. inl (moved (λ s l. IsImageSince s t l c) (sym stays.start) (sym stays.calls) image);
  keeps = λ t c le image. moved (λ s l. IsImageSince s t l c) stays.start stays.calls image;
}

-- a call is a moment
pub elapses_call : (old new : MemoryDisk) (call : Call) → Makes call old new → Elapses moment_of image_since_of image_of old new
elapses_call old new call makes = record {
  later = omega (arith, ap length makes.calls);
  nothing_else = λ t c le image.
      elim (moved (λ s l. IsImageSince s t l c) (sym makes.start) (sym makes.calls) image) [
        | inl now ↦ inr (moved (λ s l. IsImage s l c) makes.start makes.calls now)
        | inr before ↦ inl before.1
      ];
  keeps = λ t c le image. moved (λ s l. IsImageSince s t l c) makes.start makes.calls (inr (le, image));
}
