-- A statement that was made is found again with its leaf, while its place isn't left behind.
use Rattle.std.proofs.Common.{◌≡◌, refl, sym, subst, ◌⊎◌, inl, inr, ℕ, Bool, true, false, IsTrue, cond, nat_eq, nat_lt, nat_le, List, [], ◌∷◌, ◌++◌}
use Rattle.std.specs.Prelude.{◌&&◌, Option, Some, None, is_some}
use Rattle.std.specs.List.{AllByRecursion as Each}
use Rattle.std.proofs.lemmas.Bool.{and_from}
use Rattle.std.proofs.lemmas.Bool.Decides.{Decides-eqb}
use Rattle.st_words.specs.declared.statement.Statement.{Statement}
use Rattle.st_words.specs.declared.statement.Statement.TheVariants.{Prepare, Proposal, Accept, LocalVc, GlobalVc, LocalReport, GlobalReport, LocalUnion, GlobalUnion, Reply, ClientUpdate}
use Rattle.st_message.specs.declared.change.Change.{Change}
use Rattle.st_message.specs.declared.change.Change.TheVariants.{EnterLocal, EnterGlobal, Made, Prepared, Accepted, Union, Executed}
use Rattle.st_message.specs.declared.change.Heard.{Heard}
use Rattle.st_protocol.specs.Keeping.{or_else, open_if}
use Rattle.st_protocol.specs.State.{Place, AtPrepare, AtProposal, AtAccept, OfLocal, OfGlobal, same_place, Here, Answers}
use Rattle.st_protocol.specs.Growth.{here_after, notes, takes, cuts, after, hears, after_all}
use Rattle.st_protocol.specs.Duty.{sealing_of}

-- The statement was made, and its place isn't left behind.
abbrev pub IsSealed : Answers → Statement → Type 0
IsSealed state s = IsTrue (is_some (sealing_of state s))

-- a statement of a place or a view that a server at these views, with this number executed, hasn't
-- left behind; a Reply has no place
abbrev pub is_open_at : ℕ → ℕ → ℕ → Statement → Bool
is_open_at view local executed (Prepare s g l n v) = nat_le view g.0 && nat_le local l.0 && nat_lt executed n.0
is_open_at view local executed (Proposal s g l n v) = nat_le view g.0 && nat_le local l.0 && nat_lt executed n.0
is_open_at view local executed (Accept s g n v) = nat_le view g.0 && nat_lt executed n.0
is_open_at view local executed (LocalVc s l) = nat_lt local l.0
is_open_at view local executed (GlobalVc s g) = nat_lt view g.0
is_open_at view local executed (LocalReport s l i g b is) = nat_le local l.0
is_open_at view local executed (GlobalReport s g i b is) = nat_le view g.0
is_open_at view local executed (LocalUnion s l g b is) = nat_le local l.0
is_open_at view local executed (GlobalUnion s g b is) = nat_le view g.0
is_open_at view local executed (Reply s c t n r) = true
is_open_at view local executed (ClientUpdate u) = false

-- The statement's place isn't left behind.
abbrev pub IsOpen : Here → Statement → Type 0
IsOpen here s = IsTrue (is_open_at here.view here.local here.executed s)

-- ---- options

-- kept while a test holds
opened : {A : Type 0} (b : Bool) (x : Option A) → IsTrue b → IsTrue (is_some x) → IsTrue (is_some (open_if b x))
opened true x e h = h
opened false x e h = absurd (let no : false ≡ true = e in cc)

-- found first, or else
found_first : {A : Type 0} (x y : Option A) → IsTrue (is_some x) → IsTrue (is_some (or_else x y))
found_first None y h = absurd (let no : false ≡ true = h in cc)
found_first (Some a) y h = refl

found_last : {A : Type 0} (x y : Option A) → IsTrue (is_some y) → IsTrue (is_some (or_else x y))
found_last None y h = h
found_last (Some a) y h = refl

-- found by a test
found_by : {A : Type 0} (b : Bool) (a : A) → IsTrue b → IsTrue (is_some (cond b (Some a) None))
found_by true a e = refl
found_by false a e = absurd (let no : false ≡ true = e in cc)

-- ---- one change

-- a number is the same as itself
pub same : (n : ℕ) → IsTrue (nat_eq n n)
same n = (Decides-eqb n n).1 refl

-- a place is the same as itself
place_same : (p : Place) → IsTrue (same_place p p)
place_same (AtPrepare g l n) = and_from (nat_eq g g && nat_eq l l) (nat_eq n n) (and_from (nat_eq g g) (nat_eq l l) (same g) (same l)) (same n)
place_same (AtProposal g l n) = and_from (nat_eq g g && nat_eq l l) (nat_eq n n) (and_from (nat_eq g g) (nat_eq l l) (same g) (same l)) (same n)
place_same (AtAccept g n) = and_from (nat_eq g g) (nat_eq n n) (same g) (same n)

-- the statement of an open place that is made
pub sealed_now : (state : Answers) (leaf : ℕ) (s : Statement) → IsOpen state.here s → IsSealed (after state (Made leaf s)) s
unfolding after cuts notes
sealed_now state leaf (Prepare s g l n v) opens =
    opened _ _ opens (found_last (state.slots.made (AtPrepare g.0 l.0 n.0)) _ (found_by _ _ (place_same (AtPrepare g.0 l.0 n.0))))
sealed_now state leaf (Proposal s g l n v) opens =
    opened _ _ opens (found_last (state.slots.made (AtProposal g.0 l.0 n.0)) _ (found_by _ _ (place_same (AtProposal g.0 l.0 n.0))))
sealed_now state leaf (Accept s g n v) opens = opened _ _ opens (found_last (state.slots.made (AtAccept g.0 n.0)) _ (found_by _ _ (place_same (AtAccept g.0 n.0))))
sealed_now state leaf (Reply s c t n r) opens = found_last (state.making.reply n.0) _ (found_by _ _ (same n.0))
sealed_now state leaf (LocalVc s l) opens = opened _ _ opens (found_last (state.making.vc (OfLocal l.0)) _ (found_by _ _ (same l.0)))
sealed_now state leaf (GlobalVc s g) opens = opened _ _ opens (found_last (state.making.vc (OfGlobal g.0)) _ (found_by _ _ (same g.0)))
sealed_now state leaf (LocalReport s l i g b is) opens = opened _ _ opens (found_last (state.making.report (OfLocal l.0)) _ (found_by _ _ (same l.0)))
sealed_now state leaf (GlobalReport s g i b is) opens = opened _ _ opens (found_last (state.making.report (OfGlobal g.0)) _ (found_by _ _ (same g.0)))
sealed_now state leaf (LocalUnion s l g b is) opens = opened _ _ opens (found_last (state.making.union (OfLocal l.0)) _ (found_by _ _ (same l.0)))
sealed_now state leaf (GlobalUnion s g b is) opens = opened _ _ opens (found_last (state.making.union (OfGlobal g.0)) _ (found_by _ _ (same g.0)))
sealed_now state leaf (ClientUpdate u) opens = absurd (let no : false ≡ true = opens in cc)

-- a statement that was made, where a change leaves its place open
sealed_stays : (state : Answers) (x : Change) (s : Statement) → IsOpen (here_after x state.here) s → IsSealed state s → IsSealed (after state x) s
unfolding after cuts notes
sealed_stays state x (Prepare s g l n v) opens h = opened _ _ opens (found_first (state.slots.made (AtPrepare g.0 l.0 n.0)) _ h)
sealed_stays state x (Proposal s g l n v) opens h = opened _ _ opens (found_first (state.slots.made (AtProposal g.0 l.0 n.0)) _ h)
sealed_stays state x (Accept s g n v) opens h = opened _ _ opens (found_first (state.slots.made (AtAccept g.0 n.0)) _ h)
sealed_stays state x (Reply s c t n r) opens h = found_first (state.making.reply n.0) _ h
sealed_stays state x (LocalVc s l) opens h = opened _ _ opens (found_first (state.making.vc (OfLocal l.0)) _ h)
sealed_stays state x (GlobalVc s g) opens h = opened _ _ opens (found_first (state.making.vc (OfGlobal g.0)) _ h)
sealed_stays state x (LocalReport s l i g b is) opens h = opened _ _ opens (found_first (state.making.report (OfLocal l.0)) _ h)
sealed_stays state x (GlobalReport s g i b is) opens h = opened _ _ opens (found_first (state.making.report (OfGlobal g.0)) _ h)
sealed_stays state x (LocalUnion s l g b is) opens h = opened _ _ opens (found_first (state.making.union (OfLocal l.0)) _ h)
sealed_stays state x (GlobalUnion s g b is) opens h = opened _ _ opens (found_first (state.making.union (OfGlobal g.0)) _ h)
sealed_stays state x (ClientUpdate u) opens h = absurd (let no : false ≡ true = opens in cc)

-- ---- changes that enter no view and execute nothing

-- such a change
abbrev pub IsStill : Change → Type 0
IsStill (Made leaf s) = Unit {0}
IsStill (Prepared s q) = Unit {0}
IsStill (Accepted s q) = Unit {0}
IsStill (Union s q) = Unit {0}
IsStill _ = ⊥

-- it makes this statement
abbrev pub Makes : Statement → Change → Type 0
Makes s (Made leaf t) = t ≡ s
Makes s _ = ⊥

-- one of the changes makes it
abbrev pub MadeIn : Statement → List Change → Type 0
MadeIn s [] = ⊥
MadeIn s (x ∷ xs) = Makes s x ⊎ MadeIn s xs

-- among the first changes, or the last
pub made_first : (s : Statement) (xs ys : List Change) → MadeIn s xs → MadeIn s (xs ++ ys)
made_first s [] ys h = absurd h
made_first s (x ∷ xs) ys (inl now) = inl now
made_first s (x ∷ xs) ys (inr later) = inr (made_first s xs ys later)

pub made_last : (s : Statement) (xs ys : List Change) → MadeIn s ys → MadeIn s (xs ++ ys)
made_last s [] ys h = h
made_last s (x ∷ xs) ys h = inr (made_last s xs ys h)

-- it leaves places open
still_open : (x : Change) (here : Here) (s : Statement) → IsStill x → IsOpen here s → IsOpen (here_after x here) s
still_open (Made leaf t) here s still opens = opens
still_open (Prepared t q) here s still opens = opens
still_open (Accepted t q) here s still opens = opens
still_open (EnterLocal l q) here s still opens = absurd still
still_open (EnterGlobal g sites) here s still opens = absurd still
still_open (Union t q) here s still opens = opens
still_open (Executed n p) here s still opens = absurd still

-- after it, what it made is sealed
makes_sealed : (state : Answers) (x : Change) (s : Statement) → IsOpen state.here s → Makes s x → IsSealed (after state x) s
makes_sealed state (Made leaf t) s opens is =
    subst (λ (u : Statement). IsSealed (after state (Made leaf u)) s) (sym is) (sealed_now state leaf s opens)
makes_sealed state (Prepared t q) s opens is = absurd is
makes_sealed state (Accepted t q) s opens is = absurd is
makes_sealed state (EnterLocal l q) s opens is = absurd is
makes_sealed state (EnterGlobal g sites) s opens is = absurd is
makes_sealed state (Union t q) s opens is = absurd is
makes_sealed state (Executed n p) s opens is = absurd is

-- where a change leaves the server
after_here : (state : Answers) (x : Change) (s : Statement) → IsOpen (here_after x state.here) s → IsOpen (after state x).here s
unfolding after cuts notes
after_here state x s opens = opens

-- After such changes, a statement of an open place is sealed, which was sealed before or is made by one of them.
pub sealed_after : (state : Answers) (xs : List Change) (s : Statement) → Each IsStill xs → IsOpen state.here s → IsSealed state s ⊎ MadeIn s xs → IsSealed (after_all state xs) s
sealed_after state [] s still opens (inl h) = h
sealed_after state [] s still opens (inr h) = absurd h
sealed_after state (x ∷ xs) s still opens h = sealed_after (after state x) xs s still.1 (after_here state x s (still_open x state.here s still.0 opens)) (one h)
  where
    one : IsSealed state s ⊎ MadeIn s (x ∷ xs) → IsSealed (after state x) s ⊎ MadeIn s xs
    one (inl before) = inl (sealed_stays state x s (still_open x state.here s still.0 opens) before)
    one (inr (inl now)) = inl (makes_sealed state x s opens now)
    one (inr (inr later)) = inr later

-- what is heard changes nothing of it
pub sealed_heard : (state : Answers) (m : Heard) (s : Statement) → IsSealed state s → IsSealed (hears state m) s
unfolding hears cuts takes
sealed_heard state m (Prepare s g l n v) h = h
sealed_heard state m (Proposal s g l n v) h = h
sealed_heard state m (Accept s g n v) h = h
sealed_heard state m (Reply s c t n r) h = h
sealed_heard state m (LocalVc s l) h = h
sealed_heard state m (GlobalVc s g) h = h
sealed_heard state m (LocalReport s l i g b is) h = h
sealed_heard state m (GlobalReport s g i b is) h = h
sealed_heard state m (LocalUnion s l g b is) h = h
sealed_heard state m (GlobalUnion s g b is) h = h
sealed_heard state m (ClientUpdate u) h = h
