-- What a server's records keep as a change more is recorded: no key is made twice, nothing made is above, and all is of its
-- site.
use Rattle.std.proofs.Common.{◌≡◌, ◌≤◌, ℕ, List, [], ◌∷◌, ◌++◌, sym, subst, ◌∙◌, arith, inl, inr}
use Rattle.std.specs.Prelude.{◌⊎◌}
use Rattle.st_words.specs.declared.statement.Statement.{Statement}
use Rattle.st_words.specs.declared.statement.Statement.TheVariants.{Prepare, Proposal, Accept, LocalVc, GlobalVc, LocalReport, GlobalReport, LocalUnion, GlobalUnion, Reply, ClientUpdate}
use Rattle.st_message.specs.declared.change.Change.{Change}
use Rattle.st_message.specs.declared.change.Change.TheVariants.{EnterLocal, EnterGlobal, Made, Prepared, Accepted, Union, Executed}
use Rattle.st_protocol.specs.Words.{site_of}
use Rattle.st_protocol.specs.State.{OfLocal, OfGlobal, Seat, Here}
use Rattle.st_protocol.specs.Growth.{here_after}
use Rattle.st_leaf_laws.specs.Records.{Key, ReportOf, ReplyTo, key_of, IsNotAbove}
use Rattle.st_leaf_laws.proofs.LeafFacts.{IsMade, OfMade, EachMade, made_is, made_push, each_made_push}
use Rattle.st_leaf_laws.proofs.LeafKeys.{NoneAt}

-- ---- each key once

-- No two statements are made at one key.
abbrev pub Once : List Change → Type 0
Once xs = (l m : ℕ) (s t : Statement) → IsMade l s xs → IsMade m t xs → key_of s ≡ key_of t → (l ≡ m) × (s ≡ t)

-- nothing is made yet at the key of what a change makes
abbrev pub IsNew : List Change → Change → Type 0
IsNew xs x = OfMade (λ s. NoneAt (key_of s) xs) x

pub once_push : (xs : List Change) (x : Change) → Once xs → IsNew xs x → Once (xs ++ x ∷ [])
once_push xs x o h l m s t a b e = by (made_push l s xs x a) (made_push m t xs x b)
  where
    new : (l m : ℕ) (s t : Statement) → IsMade l s xs → Made m t ≡ x → key_of s ≡ key_of t → ⊥
    new l m s t a f e = let none : NoneAt (key_of t) xs = subst (IsNew xs) (sym f) h in none l s a e

    by : IsMade l s xs ⊎ (Made l s ≡ x) → IsMade m t xs ⊎ (Made m t ≡ x) → (l ≡ m) × (s ≡ t)
    by (inl a) (inl b) = o l m s t a b e
    by (inl a) (inr f) = absurd (new l m s t a f e)
    by (inr f) (inl b) = absurd (new m l t s b f (sym e))
    by (inr f) (inr g) = made_is l m s t (f ∙ sym g)

-- ---- of the server's site

abbrev pub Sited : Seat → List Change → Type 0
Sited seat xs = EachMade (λ s. site_of s ≡ seat.site) xs

abbrev pub OfSeat : Seat → Change → Type 0
OfSeat seat x = OfMade (λ s. site_of s ≡ seat.site) x

-- ---- nothing is above

abbrev pub NoneAbove : Here → List Change → Type 0
NoneAbove here xs = EachMade (IsNotAbove here) xs

abbrev pub StandsBelow : Here → Change → Type 0
StandsBelow here x = OfMade (IsNotAbove here) x

-- a state that is no lower
pub record NoLower (a b : Here) : Type 0 where
  pub local : a.local ≤ b.local
  pub view : a.view ≤ b.view
  pub executed : a.executed ≤ b.executed

pub no_lower : (here : Here) (x : Change) → NoLower here (here_after x here)
no_lower here (EnterLocal y q) = record { local = omega arith; view = omega arith; executed = omega arith }
no_lower here (EnterGlobal y q) = record { local = omega arith; view = omega arith; executed = omega arith }
no_lower here (Made leaf s) = record { local = omega arith; view = omega arith; executed = omega arith }
no_lower here (Prepared s q) = record { local = omega arith; view = omega arith; executed = omega arith }
no_lower here (Accepted s q) = record { local = omega arith; view = omega arith; executed = omega arith }
no_lower here (Union s q) = record { local = omega arith; view = omega arith; executed = omega arith }
no_lower here (Executed n p) = record { local = omega arith; view = omega arith; executed = omega arith }

pub same_level : (here : Here) → NoLower here here
same_level here = record { local = omega arith; view = omega arith; executed = omega arith }

pub rises : (a b c : Here) → NoLower a b → NoLower b c → NoLower a c
rises a b c u v =
    let l = u.local in
    let m = v.local in
    let g = u.view in
    let h = v.view in
    let e = u.executed in
    let f = v.executed in
    record { local = omega (arith, l, m); view = omega (arith, g, h); executed = omega (arith, e, f) }

both : (a b : Here) (view local : ℕ) → NoLower a b → (view ≤ a.view) × (local ≤ a.local) → (view ≤ b.view) × (local ≤ b.local)
both a b view local u h =
    let g = u.view in
    let l = u.local in
    let v = h.0 in
    let w = h.1 in
    (omega (arith, g, v), omega (arith, l, w))

-- What isn't above a state isn't above one that is no lower.
pub below_more : (a b : Here) (s : Statement) → NoLower a b → IsNotAbove a s → IsNotAbove b s
below_more a b (Prepare site view local number value) u h = both a b view.0 local.0 u h
below_more a b (Proposal site view local number value) u h = both a b view.0 local.0 u h
below_more a b (Accept site view number value) u h = let up = u.view in omega (arith, up, h)
below_more a b (LocalVc site local) u h = let up = u.local in omega (arith, up, h)
below_more a b (GlobalVc site view) u h = let up = u.view in omega (arith, up, h)
below_more a b (LocalReport site local index view base items) u h = both a b view.0 local.0 u h
below_more a b (GlobalReport site view index base items) u h = let up = u.view in omega (arith, up, h)
below_more a b (LocalUnion site local greatest base items) u h = let up = u.local in omega (arith, up, h)
below_more a b (GlobalUnion site view base items) u h = let up = u.view in omega (arith, up, h)
below_more a b (Reply site client time number result) u h = let up = u.executed in omega (arith, up, h)
below_more a b (ClientUpdate update) u h = tt

pub none_above_push : (here : Here) (xs : List Change) (x : Change) → NoneAbove here xs → StandsBelow here x → NoneAbove (here_after x here) (xs ++ x ∷ [])
none_above_push here xs x b h leaf s m = below_more here (here_after x here) s (no_lower here x) (each_made_push (IsNotAbove here) xs x b h leaf s m)

-- what a key says of that
abbrev KeyNotAbove : Here → Key → Type 0
KeyNotAbove here (ReportOf (OfLocal x)) = x ≤ here.local
KeyNotAbove here (ReportOf (OfGlobal y)) = y ≤ here.view
KeyNotAbove here (ReplyTo n) = n ≤ here.executed
KeyNotAbove here _ = Unit {0}

key_not_above : (here : Here) (s : Statement) → IsNotAbove here s → KeyNotAbove here (key_of s)
key_not_above here (LocalReport site local index view base items) h = h.1
key_not_above here (GlobalReport site view index base items) h = h
key_not_above here (Reply site client time number result) h = h
key_not_above here _ h = tt

-- So a report of a higher view, and a Reply of a later number, is new.
pub told_local : (here : Here) (t : Statement) (n : ℕ) → key_of t ≡ ReportOf (OfLocal n) → IsNotAbove here t → n ≤ here.local
told_local here t n e h = subst (KeyNotAbove here) e (key_not_above here t h)

pub told_view : (here : Here) (t : Statement) (n : ℕ) → key_of t ≡ ReportOf (OfGlobal n) → IsNotAbove here t → n ≤ here.view
told_view here t n e h = subst (KeyNotAbove here) e (key_not_above here t h)

pub replied_number : (here : Here) (t : Statement) (n : ℕ) → key_of t ≡ ReplyTo n → IsNotAbove here t → n ≤ here.executed
replied_number here t n e h = subst (KeyNotAbove here) e (key_not_above here t h)
