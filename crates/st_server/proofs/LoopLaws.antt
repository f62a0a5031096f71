-- One more of a list is carried out.
use Rattle.std.proofs.Common.{◌≡◌, ◌∙◌, ap, sym, subst, ℕ, ◌+◌, ◌<◌, ◌≤◌, Option, List, [], ◌∷◌, ◌++◌, length, take, drop, get_or, IsTrue, refl, arith, zero, suc}
use Rattle.std.proofs.lemmas.List.{take_more, take_all}
use Rattle.st_message.specs.declared.change.Change.{Change}
use Rattle.st_message.specs.declared.change.Heard.{Heard}
use Rattle.st_message.specs.declared.step.Out.{Out}
use Rattle.st_protocol.specs.State.{Here, Sealing}
use Rattle.st_protocol.specs.Growth.{here_after}
use Rattle.st_protocol.specs.Duty.{Course, Pen, carries_change, carries_changes, keeps, keeps_all, emits, emits_all}
use Rattle.st_state.specs.Placed.{here_after_all}
use Rattle.st_live.specs.LiveView.{place_here}
use Rattle.st_server.specs.declared.draft.Draft.{Draft}
use Rattle.st_server.specs.Bounds.{IsSound}
use Rattle.st_server.specs.Ready.{is_ready, are_ready, IsAlike}
use Rattle.st_server.specs.Draw.{Draws, IsDrawn}
use Rattle.st_server.specs.Carried.{IsCarried, AreKept, AreEmitted}
use Rattle.st_server.proofs.CarryLaws.{fold_more, after_all_more, alike_both, alike_after, alike_same, kept_first}

-- ---- the element of a list at a place

pub taken_next : {A : Type 0} (xs : List A) (i : ℕ) (x : A) → i < length xs → x ≡ get_or xs i x → take (i + 1) xs ≡ take i xs ++ x ∷ []
taken_next xs i x below is = take_more xs i x below ∙ ap (λ y. take i xs ++ y ∷ []) (sym is)

pub dropped_next : {A : Type 0} (xs : List A) (i : ℕ) (x : A) → i < length xs → x ≡ get_or xs i x → drop i xs ≡ x ∷ drop (i + 1) xs
dropped_next [] i x below is = absurd (omega (arith, below))
dropped_next (y ∷ ys) zero x below is = ap (λ z. z ∷ ys) (sym is)
dropped_next (y ∷ ys) (suc i) x below is =
    let next : suc i + 1 ≡ suc (i + 1) = omega arith in dropped_next ys i x (omega (arith, below)) is ∙ ap (λ k. x ∷ drop k (y ∷ ys)) (sym next)

-- ---- changes

pub carried_none : (made : ℕ → Option Sealing) (pen : Pen) (draft : Draft) (xs : List Change) → IsDrawn made draft → IsTrue (is_ready (place_here draft.live) xs) → IsCarried made pen draft draft [] xs
carried_none made pen draft xs drawn ready = record { drawn = drawn; draws = λ way draws. draws; ready = ready; alike = alike_same (place_here draft.live) (place_here draft.live) refl; capacity = refl }

pub carried_more : (made : ℕ → Option Sealing) (pen : Pen) (start old new : Draft) (done : List Change) (x : Change) (rest : List Change) → IsCarried made pen start old done (x ∷ rest)
    → IsDrawn made new → ((way : Course) → Draws made old way → Draws made new (carries_change pen way x)) → (IsTrue (is_ready (place_here old.live) (x ∷ rest)) → IsTrue (is_ready (place_here new.live) rest))
    → IsAlike (here_after x (place_here old.live)) (place_here new.live) → new.live.here.capacity ≡ old.live.here.capacity → IsCarried made pen start new (done ++ x ∷ []) rest
carried_more made pen start old new done x rest so drawn draws ready alike capacity =
    record {
      drawn = drawn;
      draws = λ way begun. subst (Draws made new) (sym (fold_more (carries_change pen) way done x)) (draws (carries_changes pen way done) (so.draws way begun));
      ready = ready so.ready;
      alike = subst (λ (h : Here). IsAlike h (place_here new.live)) (sym (after_all_more (place_here start.live) done x))
          (alike_both _ _ _ (alike_after (here_after_all (place_here start.live) done) (place_here old.live) x so.alike) alike);
      capacity = capacity ∙ so.capacity;
    }

-- ---- things heard

pub kept_none : (draft : Draft) (ms : List Heard) → IsSound draft.live → IsTrue (are_ready (place_here draft.live) ms) → AreKept draft draft [] ms
kept_none draft ms sound ready = record { sound = sound; drawn = λ made drawn. drawn; draws = λ made way draws. draws; ready = ready; here = refl }

pub kept_more : (start old new : Draft) (done : List Heard) (m : Heard) (rest : List Heard) → AreKept start old done (m ∷ rest)
    → IsSound new.live → ((made : ℕ → Option Sealing) → IsDrawn made old → IsDrawn made new) → ((made : ℕ → Option Sealing) (way : Course) → Draws made old way → Draws made new (keeps way m))
    → place_here new.live ≡ place_here old.live → AreKept start new (done ++ m ∷ []) rest
kept_more start old new done m rest so sound drawn draws here =
    record {
      sound = sound;
      drawn = λ made begun. drawn made (so.drawn made begun);
      draws = λ made way begun. subst (Draws made new) (sym (fold_more keeps way done m)) (draws made (keeps_all way done) (so.draws made way begun));
      ready = subst (λ (h : Here). IsTrue (are_ready h rest)) (sym here) (kept_first (place_here old.live) m rest so.ready).1;
      here = here ∙ so.here;
    }

-- ---- what goes out

pub emitted_none : (made : ℕ → Option Sealing) (pen : Pen) (draft : Draft) → IsDrawn made draft → AreEmitted made pen draft draft []
emitted_none made pen draft drawn = record { drawn = drawn; draws = λ way draws. draws; live = refl }

pub emitted_more : (made : ℕ → Option Sealing) (pen : Pen) (start old new : Draft) (done : List Out) (o : Out) → AreEmitted made pen start old done
    → IsDrawn made new → ((way : Course) → Draws made old way → Draws made new (emits pen way o)) → new.live ≡ old.live → AreEmitted made pen start new (done ++ o ∷ [])
emitted_more made pen start old new done o so drawn draws live =
    record {
      drawn = drawn;
      draws = λ way begun. subst (Draws made new) (sym (fold_more (emits pen) way done o)) (draws (emits_all pen way done) (so.draws way begun));
      live = live ∙ so.live;
    }

-- all is done where the place is the list's end
pub taken_all : {A : Type 0} (xs : List A) (i : ℕ) → length xs ≤ i → take i xs ≡ xs
taken_all xs i end = take_all i xs end
