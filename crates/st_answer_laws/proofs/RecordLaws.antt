-- What the answers tell of one server's records.
use Rattle.std.proofs.Common.{◌≡◌, ℕ, ◌+◌, ◌≤◌, ◌⊎◌, Bool, true, false, cond, nat_eq, List, [], ◌∷◌, ◌++◌, refl, sym, ◌∙◌, ap, subst, inl, inr, ⊎_elim, arith}
use Rattle.std.specs.Prelude.{◌&&◌, max, Option, Some, None}
use Rattle.std.proofs.lemmas.Bool.{eqb-true}
use Rattle.st_words.specs.declared.statement.Statement.{Statement}
use Rattle.st_words.specs.declared.statement.Statement.TheVariants.{LocalUnion, GlobalUnion}
use Rattle.st_message.specs.declared.change.Change.{Change}
use Rattle.st_message.specs.declared.change.Change.TheVariants.{EnterLocal, EnterGlobal, Made, Prepared, Accepted, Union, Executed}
use Rattle.st_message.specs.declared.change.Heard.{Heard}
use Rattle.st_counts.specs.Counts.{Has}
use Rattle.st_agreement.specs.Records.{made_of, unions_of, view_of, local_of, executed_of}
use Rattle.st_agreement.specs.Rules.{History}
use Rattle.st_agreement.specs.Sites.{Sites}
use Rattle.st_agreement.specs.Statements.{local_union, global_union}
use Rattle.st_agreement.proofs.HistoryLaws.{view-kept, local-kept, made-recorded}
use Rattle.st_protocol.specs.Words.{Quorum}
use Rattle.st_protocol.specs.Keeping.{or_else, open_if, gathered, first_of, most_of, count_of, joined}
use Rattle.st_protocol.specs.State.{OfLocal, OfGlobal, at_place, at_vc, at_union, at_reply, open_place, open_term, open_vc, Seat, Sealing, Held}
use Rattle.st_protocol.specs.Questions.{is_executed, view_entered, local_entered, sealing_in, held_of, held_in, here_of, questions}
use Rattle.st_protocol.proofs.GatherLaws.{joined-push}
use Rattle.st_answer_laws.specs.Plain.{onto, newest}
use Rattle.st_answer_laws.specs.Support.{Tells}
use Rattle.st_answer_laws.proofs.ForcedLaws.{some-is}

-- ---- newest first

-- more elements
pub onto-append : {A : Type 0} (xs ys zs : List A) → onto (xs ++ ys) zs ≡ onto ys (onto xs zs)
onto-append [] ys zs = refl
onto-append (x ∷ xs) ys zs = onto-append xs ys (x ∷ zs)

-- one body more
pub newest-push : (bodies : List (List Change)) (body : List Change) → newest (bodies ++ body ∷ []) ≡ onto body (newest bodies)
newest-push bodies body = ap (λ xs. onto xs []) (joined-push bodies body) ∙ onto-append (joined bodies) body []

-- what the turned list has
pub onto-has : {A : Type 0} (x : A) (xs ys : List A) → Has x (onto xs ys) → Has x xs ⊎ Has x ys
onto-has x [] ys has = inr has
onto-has x (y ∷ xs) ys has = by_place (onto-has x xs (y ∷ ys) has)
  where
    by_place : Has x xs ⊎ Has x (y ∷ ys) → Has x (y ∷ xs) ⊎ Has x ys
    by_place (inl among) = inl (inr among)
    by_place (inr (inl same)) = inl (inl same)
    by_place (inr (inr among)) = inr among

pub has-onto : {A : Type 0} (x : A) (xs ys : List A) → Has x xs ⊎ Has x ys → Has x (onto xs ys)
has-onto x [] ys (inl none) = absurd none
has-onto x [] ys (inr has) = has
has-onto x (y ∷ xs) ys (inl (inl same)) = has-onto x xs (y ∷ ys) (inr (inl same))
has-onto x (y ∷ xs) ys (inl (inr among)) = has-onto x xs (y ∷ ys) (inl among)
has-onto x (y ∷ xs) ys (inr has) = has-onto x xs (y ∷ ys) (inr (inr has))

-- ---- what is gathered

-- what is found first is picked of an element
pub first-found : {X A : Type 0} (pick : X → Option A) (xs : List X) (a : A) → first_of pick xs ≡ Some a → (x : X) × (Has x xs × (pick x ≡ Some a))
unfolding gathered
first-found pick [] a e = absurd (let none : None ≡ Some a = e in cc)
first-found {X} {A} pick (x ∷ xs) a e = by_pick (pick x) refl (first-found pick xs a) e
  where
    by_pick : (o : Option A) → pick x ≡ o → (first_of pick xs ≡ Some a → (y : X) × (Has y xs × (pick y ≡ Some a))) → or_else o (first_of pick xs) ≡ Some a → (y : X) × (Has y (x ∷ xs) × (pick y ≡ Some a))
    by_pick None is later f = ((later f).0, (inr (later f).1.0, (later f).1.1))
    by_pick (Some b) is later f = (x, (inl refl, is ∙ f))

-- where nothing is found, nothing is picked of any
pub first-none : {X A : Type 0} (pick : X → Option A) (xs : List X) → first_of pick xs ≡ None → (x : X) → Has x xs → pick x ≡ None
unfolding gathered
first-none pick [] e y has = absurd has
first-none {X} {A} pick (x ∷ xs) e y has = by_pick (pick x) refl (λ f. first-none pick xs f y) e has
  where
    by_pick : (o : Option A) → pick x ≡ o → (first_of pick xs ≡ None → Has y xs → pick y ≡ None) → or_else o (first_of pick xs) ≡ None → Has y (x ∷ xs) → pick y ≡ None
    by_pick None is later f (inl same) = ap pick same ∙ is
    by_pick None is later f (inr among) = later f among
    by_pick (Some b) is later f among = absurd (let some : Some b ≡ None = f in cc)

-- the greatest is as great as each, and no greater than what each is below
pub most-above : {X : Type 0} (pick : X → ℕ) (xs : List X) (x : X) → Has x xs → pick x ≤ most_of pick xs
unfolding gathered
most-above pick [] x has = absurd has
most-above pick (y ∷ xs) x (inl same) = let is : pick x ≡ pick y = ap pick same in left (pick y) (most_of pick xs) (pick x) is
  where
    left : (a b c : ℕ) → c ≡ a → c ≤ max a b
    left a b c same_ = grind (arith, same_)
most-above pick (y ∷ xs) x (inr among) = right (pick y) (most_of pick xs) (pick x) (most-above pick xs x among)
  where
    right : (a b c : ℕ) → c ≤ b → c ≤ max a b
    right a b c low = grind (arith, low)

pub most-below : {X : Type 0} (pick : X → ℕ) (xs : List X) (b : ℕ) → ((x : X) → Has x xs → pick x ≤ b) → most_of pick xs ≤ b
unfolding gathered
most-below pick [] b all = omega arith
most-below pick (y ∷ xs) b all = both (pick y) (most_of pick xs) (all y (inl refl)) (most-below pick xs b (λ x has. all x (inr has)))
  where
    both : (a c : ℕ) → a ≤ b → c ≤ b → max a c ≤ b
    both a c low less = grind (arith, low, less)

-- ---- views

-- what was entered isn't above the view
entered-below : (d : Sites) (s : ℕ) (rs : List Change) → History d s rs → (c : Change) → Has c rs → view_entered c ≤ view_of rs
entered-below d s [] history c has = absurd has
entered-below d s (x ∷ rs) history c (inl same) = subst (λ y. view_entered y ≤ view_of (x ∷ rs)) (sym same) (here x)
  where
    here : (y : Change) → view_entered y ≤ view_of (y ∷ rs)
    here (EnterGlobal view sites) = omega arith
    here _ = omega arith
entered-below d s (x ∷ rs) history c (inr among) =
    let before : view_entered c ≤ view_of rs = entered-below d s rs history.1 c among in
    let more : view_of rs ≤ view_of (x ∷ rs) = view-kept d s x rs history.0 in
    omega (arith, before, more)

-- and the view was entered, or is 0
view-entered : (rs : List Change) (b : ℕ) → ((c : Change) → Has c rs → view_entered c ≤ b) → view_of rs ≤ b
view-entered [] b all = omega arith
view-entered (c ∷ rs) b all = by_change c (all c (inl refl)) (view-entered rs b (λ x has. all x (inr has)))
  where
    by_change : (x : Change) → view_entered x ≤ b → view_of rs ≤ b → view_of (x ∷ rs) ≤ b
    by_change (EnterGlobal view sites) now later = now
    by_change _ now later = later

-- likewise of local views
entered-below_local : (d : Sites) (s : ℕ) (rs : List Change) → History d s rs → (c : Change) → Has c rs → local_entered c ≤ local_of rs
entered-below_local d s [] history c has = absurd has
entered-below_local d s (x ∷ rs) history c (inl same) = subst (λ y. local_entered y ≤ local_of (x ∷ rs)) (sym same) (here x)
  where
    here : (y : Change) → local_entered y ≤ local_of (y ∷ rs)
    here (EnterLocal local q) = omega arith
    here _ = omega arith
entered-below_local d s (x ∷ rs) history c (inr among) =
    let before : local_entered c ≤ local_of rs = entered-below_local d s rs history.1 c among in
    let more : local_of rs ≤ local_of (x ∷ rs) = local-kept d s x rs history.0 in
    omega (arith, before, more)

local-entered : (rs : List Change) (b : ℕ) → ((c : Change) → Has c rs → local_entered c ≤ b) → local_of rs ≤ b
local-entered [] b all = omega arith
local-entered (c ∷ rs) b all = by_change c (all c (inl refl)) (local-entered rs b (λ x has. all x (inr has)))
  where
    by_change : (x : Change) → local_entered x ≤ b → local_of rs ≤ b → local_of (x ∷ rs) ≤ b
    by_change (EnterLocal local q) now later = now
    by_change _ now later = later

module _ (d : Sites) (s : ℕ) (bodies : List (List Change)) (history : History d s (newest bodies)) where
  -- an element of either
  there : (c : Change) → Has c (joined bodies) → Has c (newest bodies)
  there c has = has-onto c (joined bodies) [] (inl has)

  here : (c : Change) → Has c (newest bodies) → Has c (joined bodies)
  here c has = ⊎_elim (λ among. among) (λ none. absurd none) (onto-has c (joined bodies) [] has)

  -- the greatest view that was entered is the last one
  pub view-is : most_of view_entered (joined bodies) ≡ view_of (newest bodies)
  view-is =
      let low : most_of view_entered (joined bodies) ≤ view_of (newest bodies) =
      most-below view_entered (joined bodies) (view_of (newest bodies)) (λ c has. entered-below d s (newest bodies) history c (there c has)) in
      let high : view_of (newest bodies) ≤ most_of view_entered (joined bodies) =
      view-entered (newest bodies) (most_of view_entered (joined bodies)) (λ c has. most-above view_entered (joined bodies) c (here c has)) in
      omega (arith, low, high)

  pub local-is : most_of local_entered (joined bodies) ≡ local_of (newest bodies)
  local-is =
      let low : most_of local_entered (joined bodies) ≤ local_of (newest bodies) =
      most-below local_entered (joined bodies) (local_of (newest bodies)) (λ c has. entered-below_local d s (newest bodies) history c (there c has)) in
      let high : local_of (newest bodies) ≤ most_of local_entered (joined bodies) =
      local-entered (newest bodies) (most_of local_entered (joined bodies)) (λ c has. most-above local_entered (joined bodies) c (here c has)) in
      omega (arith, low, high)

-- ---- executed numbers

-- how many were executed, in whatever order they stand
executed-onto : (xs rs : List Change) → executed_of (onto xs rs) ≡ count_of is_executed xs + executed_of rs
unfolding gathered
executed-onto [] rs = omega arith
executed-onto (x ∷ xs) rs = executed-onto xs (x ∷ rs) ∙ by_change x
  where
    by_change : (y : Change) → count_of is_executed xs + executed_of (y ∷ rs) ≡ (cond (is_executed y) 1 0 + count_of is_executed xs) + executed_of rs
    by_change (Executed n p) = omega arith
    by_change (EnterLocal l q) = omega arith
    by_change (EnterGlobal g q) = omega arith
    by_change (Made k t) = omega arith
    by_change (Prepared t q) = omega arith
    by_change (Accepted t q) = omega arith
    by_change (Union t q) = omega arith

-- ---- what one record says

-- a record has its statement made
pub made-has : (rs : List Change) (leaf : ℕ) (t : Statement) → Has (Made leaf t) rs → Has t (made_of rs)
made-has [] leaf t has = absurd has
made-has (c ∷ rs) leaf t has = by_change c (made-has rs leaf t) has
  where
    by_change : (x : Change) → (Has (Made leaf t) rs → Has t (made_of rs)) → Has (Made leaf t) (x ∷ rs) → Has t (made_of (x ∷ rs))
    by_change (Made k u) later (inl same) = inl (cc)
    by_change (Made k u) later (inr among) = inr (later among)
    by_change _ later (inl same) = absurd (cc)
    by_change _ later (inr among) = later among

-- a union that is recorded is held
pub union-has : (rs : List Change) (t : Statement) (q : Quorum) → Has (Union t q) rs → Has t (unions_of rs)
union-has [] t q has = absurd has
union-has (c ∷ rs) t q has = by_change c (union-has rs t q) has
  where
    by_change : (x : Change) → (Has (Union t q) rs → Has t (unions_of rs)) → Has (Union t q) (x ∷ rs) → Has t (unions_of (x ∷ rs))
    by_change (Union u p) later (inl same) = inl (cc)
    by_change (Union u p) later (inr among) = inr (later among)
    by_change _ later (inl same) = absurd (cc)
    by_change _ later (inr among) = later among

-- what is picked of a change is a statement that it makes, and passes the test
pub sealing-is : (test : Statement → Bool) (c : Change) (m : Sealing) → sealing_in test c ≡ Some m → (c ≡ Made m.leaf m.statement) × (test m.statement ≡ true)
sealing-is test (Made leaf t) m e = by_test (test t) refl e
  where
    by_test : (b : Bool) → test t ≡ b → cond b (Some (record { leaf = leaf; statement = t })) None ≡ Some m → (Made leaf t ≡ Made m.leaf m.statement) × (test m.statement ≡ true)
    by_test true is f =
        let same : record { leaf = leaf; statement = t } ≡ m = some-is _ m f in
        (ap (λ (x : Sealing). Made x.leaf x.statement) same, subst (λ (x : Sealing). test x.statement ≡ true) same is)
    by_test false is f = absurd (let none : None ≡ Some m = f in cc)
sealing-is test _ m e = absurd (let none : None ≡ Some m = e in cc)

-- what isn't picked doesn't pass
pub sealing-none : (test : Statement → Bool) (leaf : ℕ) (t : Statement) → sealing_in test (Made leaf t) ≡ None → test t ≡ false
sealing-none test leaf t e = by_test (test t) e
  where
    by_test : (b : Bool) → cond {A = Option Sealing} b (Some (record { leaf = leaf; statement = t })) None ≡ None → b ≡ false
    by_test true f = absurd (cc)
    by_test false f = refl

-- two tests, either
both : (a b : Bool) {A : Type 0} (x : A) (y : Option A) → cond (a && b) y None ≡ Some x → (a ≡ true) × ((b ≡ true) × (y ≡ Some x))
both true true x y e = (refl, (refl, e))
both true false x y e = absurd (let none : None ≡ Some x = e in cc)
both false b x y e = absurd (let none : None ≡ Some x = e in cc)

-- a held union is recorded as it is held
pub held-is_local : (l s : ℕ) (c : Change) (u : Held) → held_in (OfLocal l) s c ≡ Some u → (q : Quorum) × (c ≡ Union (local_union s l u.greatest u.base u.items) q)
held-is_local l s (Union (LocalUnion s2 x g b is) q) u e =
    let parts = both (nat_eq l x.0) (nat_eq s2.0 s) u (held_of (LocalUnion s2 x g b is) q) e in
    let e1 : s2.0 ≡ s = eqb-true s2.0 s parts.1.0 in
    let e2 : l ≡ x.0 = eqb-true l x.0 parts.0 in
    let same = some-is (record { greatest = g.0; base = b; items = is; quorum = q }) u parts.1.1 in
    (q, λ i. Union (LocalUnion (record { 0 = e1 i }) (record { 0 = sym e2 i }) (record { 0 = (same i).greatest }) (same i).base (same i).items) q)
held-is_local l s (Union (GlobalUnion s2 y b is) q) u e = absurd (let none : None ≡ Some u = e in cc)
held-is_local l s (Union _ q) u e = absurd (let none : None ≡ Some u = e in cc)
held-is_local l s _ u e = absurd (let none : None ≡ Some u = e in cc)

pub held-is_global : (g s : ℕ) (c : Change) (u : Held) → held_in (OfGlobal g) s c ≡ Some u → (q : Quorum) × (c ≡ Union (global_union s g u.base u.items) q)
held-is_global g s (Union (GlobalUnion s2 y b is) q) u e =
    let parts = both (nat_eq g y.0) (nat_eq s2.0 s) u (held_of (GlobalUnion s2 y b is) q) e in
    let e1 : s2.0 ≡ s = eqb-true s2.0 s parts.1.0 in
    let e2 : g ≡ y.0 = eqb-true g y.0 parts.0 in
    let same = some-is (record { greatest = 0; base = b; items = is; quorum = q }) u parts.1.1 in
    (q, λ i. Union (GlobalUnion (record { 0 = e1 i }) (record { 0 = sym e2 i }) (same i).base (same i).items) q)
held-is_global g s (Union (LocalUnion s2 y x b is) q) u e = absurd (let none : None ≡ Some u = e in cc)
held-is_global g s (Union _ q) u e = absurd (let none : None ≡ Some u = e in cc)
held-is_global g s _ u e = absurd (let none : None ≡ Some u = e in cc)

-- what is open
pub open-is : {A : Type 0} (b : Bool) (x : Option A) (a : A) → open_if b x ≡ Some a → x ≡ Some a
open-is true x a e = e
open-is false x a e = absurd (let none : None ≡ Some a = e in cc)

pub open-none : {A : Type 0} (b : Bool) (x : Option A) → b ≡ true → open_if b x ≡ None → x ≡ None
open-none true x is e = e
open-none false x is e = absurd (let no_ : false ≡ true = is in cc)

-- ---- all of it

module _ (d : Sites) (s : ℕ) (seat : Seat) (bodies : List (List Change)) (heard : List Heard) (history : History d s (newest bodies)) where
  -- What the answers tell of the records.
  pub tells : Tells (questions seat bodies heard) (newest bodies)
  unfolding questions here_of
  tells =
      record {
        view = view-is d s bodies history;
        local = local-is d s bodies history;
        executed = let same : executed_of (newest bodies) ≡ count_of is_executed (joined bodies) + 0 = executed-onto (joined bodies) [] in omega (arith, same);
        made = λ p m e.
            let found = first-found (sealing_in (at_place p)) (joined bodies) m (open-is (open_place (here_of seat (joined bodies)) p) _ m e) in
            let is = sealing-is (at_place p) found.0 m found.1.1 in
            (made-has (newest bodies) m.leaf m.statement (subst (λ (c : Change). Has c (newest bodies)) is.0 (there d s bodies history found.0 found.1.0)), is.1);
        vc = λ t m e.
            let found = first-found (sealing_in (at_vc t)) (joined bodies) m (open-is (open_vc (here_of seat (joined bodies)) t) _ m e) in
            let is = sealing-is (at_vc t) found.0 m found.1.1 in
            (made-has (newest bodies) m.leaf m.statement (subst (λ (c : Change). Has c (newest bodies)) is.0 (there d s bodies history found.0 found.1.0)), is.1);
        union = λ t m e.
            let found = first-found (sealing_in (at_union t)) (joined bodies) m (open-is (open_term (here_of seat (joined bodies)) t) _ m e) in
            let is = sealing-is (at_union t) found.0 m found.1.1 in
            (made-has (newest bodies) m.leaf m.statement (subst (λ (c : Change). Has c (newest bodies)) is.0 (there d s bodies history found.0 found.1.0)), is.1);
        reply = λ n m e.
            let found = first-found (sealing_in (at_reply n)) (joined bodies) m e in
            let is = sealing-is (at_reply n) found.0 m found.1.1 in
            (made-has (newest bodies) m.leaf m.statement (subst (λ (c : Change). Has c (newest bodies)) is.0 (there d s bodies history found.0 found.1.0)), is.1);
        unmade = λ p opened none t has.
            let made = made-recorded (newest bodies) t has in
            sealing-none (at_place p) made.0 t
            (first-none (sealing_in (at_place p)) (joined bodies) (open-none (open_place (here_of seat (joined bodies)) p) _ opened none) (Made made.0 t) (here d s bodies history (Made made.0 t) made.1));
        local_held = λ l k u e.
            let found = first-found (held_in (OfLocal l) k) (joined bodies) u (open-is (open_term (here_of seat (joined bodies)) (OfLocal l)) _ u e) in
            let is = held-is_local l k found.0 u found.1.1 in
            union-has (newest bodies) _ is.0 (subst (λ (c : Change). Has c (newest bodies)) is.1 (there d s bodies history found.0 found.1.0));
        global_held = λ g k u e.
            let found = first-found (held_in (OfGlobal g) k) (joined bodies) u (open-is (open_term (here_of seat (joined bodies)) (OfGlobal g)) _ u e) in
            let is = held-is_global g k found.0 u found.1.1 in
            union-has (newest bodies) _ is.0 (subst (λ (c : Change). Has c (newest bodies)) is.1 (there d s bodies history found.0 found.1.0));
      }
