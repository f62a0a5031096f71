-- Statements that are made stand at keys: a slot, a view asked for, a report, a union, a reply. What the answers find at a
-- key is made there, and where they find nothing and the key is open, nothing is.
use Rattle.std.proofs.Common.{◌≡◌, ℕ, Bool, true, false, cond, nat_eq, List, [], ◌∷◌, sym, subst, refl, ◌∙◌, ap, inl, inr}
use Rattle.std.proofs.lemmas.Bool.{eqb-true, eq-eqb, and_parts, and_from}
use Rattle.std.specs.Prelude.{◌&&◌, Option, Some, None}
use Rattle.st_words.specs.declared.statement.Statement.{Statement}
use Rattle.st_words.specs.declared.statement.Statement.TheVariants.{Prepare, Proposal, Accept, LocalVc, GlobalVc, LocalReport, GlobalReport, LocalUnion, GlobalUnion, Reply, ClientUpdate}
use Rattle.st_message.specs.declared.change.Change.{Change}
use Rattle.st_message.specs.declared.change.Change.TheVariants.{Made}
use Rattle.st_message.specs.declared.change.Heard.{Heard}
use Rattle.st_protocol.specs.Keeping.{or_else, gathered, first_of, open_if, joined}
use Rattle.st_protocol.specs.State.{Place, AtPrepare, AtProposal, AtAccept, Term, OfLocal, OfGlobal, Seat, Here, Sealing, same_place, same_term, at_place, at_vc, at_report, at_union, at_reply, open_place, open_vc, open_term}
use Rattle.st_protocol.specs.Questions.{sealing_in, questions}
use Rattle.st_protocol.specs.Duty.{sealing_of}
use Rattle.st_leaf_laws.specs.Records.{Key, SlotOf, RequestFor, ReportOf, UnionOf, ReplyTo, key_of}
use Rattle.st_leaf_laws.proofs.LeafFacts.{IsMade, EachMade, made_is, some_is}

-- two keys are the same
abbrev pub same_key : Key → Key → Bool
same_key (SlotOf p) (SlotOf q) = same_place p q
same_key (RequestFor t) (RequestFor u) = same_term t u
same_key (ReportOf t) (ReportOf u) = same_term t u
same_key (UnionOf t) (UnionOf u) = same_term t u
same_key (ReplyTo n) (ReplyTo m) = nat_eq n m
same_key _ _ = false

-- the same
place_same : (p q : Place) → same_place p q ≡ true → p ≡ q
place_same (AtPrepare g l n) (AtPrepare g2 l2 n2) e =
    let one = and_parts (nat_eq g g2 && nat_eq l l2) (nat_eq n n2) e in
    let two = and_parts (nat_eq g g2) (nat_eq l l2) one.0 in
    subst (λ x. AtPrepare g l n ≡ AtPrepare x l2 n2) (eqb-true g g2 two.0) (subst (λ x. AtPrepare g l n ≡ AtPrepare g x n2) (eqb-true l l2 two.1) (subst (λ x. AtPrepare g l n ≡ AtPrepare g l x) (eqb-true n n2 one.1) refl))
place_same (AtProposal g l n) (AtProposal g2 l2 n2) e =
    let one = and_parts (nat_eq g g2 && nat_eq l l2) (nat_eq n n2) e in
    let two = and_parts (nat_eq g g2) (nat_eq l l2) one.0 in
    subst (λ x. AtProposal g l n ≡ AtProposal x l2 n2) (eqb-true g g2 two.0)
    (subst (λ x. AtProposal g l n ≡ AtProposal g x n2) (eqb-true l l2 two.1) (subst (λ x. AtProposal g l n ≡ AtProposal g l x) (eqb-true n n2 one.1) refl))
place_same (AtAccept g n) (AtAccept g2 n2) e =
    let one = and_parts (nat_eq g g2) (nat_eq n n2) e in
    subst (λ x. AtAccept g n ≡ AtAccept x n2) (eqb-true g g2 one.0) (subst (λ x. AtAccept g n ≡ AtAccept g x) (eqb-true n n2 one.1) refl)
place_same (AtPrepare g l n) (AtProposal g2 l2 n2) e = absurd (let no : false ≡ true = e in cc)
place_same (AtPrepare g l n) (AtAccept g2 n2) e = absurd (let no : false ≡ true = e in cc)
place_same (AtProposal g l n) (AtPrepare g2 l2 n2) e = absurd (let no : false ≡ true = e in cc)
place_same (AtProposal g l n) (AtAccept g2 n2) e = absurd (let no : false ≡ true = e in cc)
place_same (AtAccept g n) (AtPrepare g2 l2 n2) e = absurd (let no : false ≡ true = e in cc)
place_same (AtAccept g n) (AtProposal g2 l2 n2) e = absurd (let no : false ≡ true = e in cc)

term_same : (t u : Term) → same_term t u ≡ true → t ≡ u
term_same (OfLocal x) (OfLocal y) e = ap OfLocal (eqb-true x y e)
term_same (OfGlobal x) (OfGlobal y) e = ap OfGlobal (eqb-true x y e)
term_same (OfLocal x) (OfGlobal y) e = absurd (let no : false ≡ true = e in cc)
term_same (OfGlobal x) (OfLocal y) e = absurd (let no : false ≡ true = e in cc)

-- itself
place_itself : (p : Place) → same_place p p ≡ true
place_itself (AtPrepare g l n) = and_from _ _ (and_from _ _ (eq-eqb g g refl) (eq-eqb l l refl)) (eq-eqb n n refl)
place_itself (AtProposal g l n) = and_from _ _ (and_from _ _ (eq-eqb g g refl) (eq-eqb l l refl)) (eq-eqb n n refl)
place_itself (AtAccept g n) = and_from _ _ (eq-eqb g g refl) (eq-eqb n n refl)

term_itself : (t : Term) → same_term t t ≡ true
term_itself (OfLocal x) = eq-eqb x x refl
term_itself (OfGlobal x) = eq-eqb x x refl

-- ---- the tests say the keys

place_key : (p : Place) (s : Statement) → at_place p s ≡ same_key (SlotOf p) (key_of s)
place_key p (Prepare site view local number value) = refl
place_key p (Proposal site view local number value) = refl
place_key p (Accept site view number value) = refl
place_key p _ = refl

vc_key : (t : Term) (s : Statement) → at_vc t s ≡ same_key (RequestFor t) (key_of s)
vc_key t (LocalVc site local) = refl
vc_key t (GlobalVc site view) = refl
vc_key t _ = refl

report_key : (t : Term) (s : Statement) → at_report t s ≡ same_key (ReportOf t) (key_of s)
report_key t (LocalReport site local index view base items) = refl
report_key t (GlobalReport site view index base items) = refl
report_key t _ = refl

union_key : (t : Term) (s : Statement) → at_union t s ≡ same_key (UnionOf t) (key_of s)
union_key t (LocalUnion site local greatest base items) = refl
union_key t (GlobalUnion site view base items) = refl
union_key t _ = refl

reply_key : (n : ℕ) (s : Statement) → at_reply n s ≡ same_key (ReplyTo n) (key_of s)
reply_key n (Reply site client time number result) = refl
reply_key n _ = refl

-- ---- what the answers find

-- a test that says a key
pub record Tests (is : Statement → Bool) (k : Key) : Type 0 where
  pub yes_then : (s : Statement) → is s ≡ true → key_of s ≡ k
  pub then_yes : (s : Statement) → key_of s ≡ k → is s ≡ true

tests_slot : (p : Place) → Tests (at_place p) (SlotOf p)
tests_slot p =
    record {
      yes_then = λ s e. by (key_of s) (sym (place_key p s) ∙ e);
      then_yes = λ s e. place_key p s ∙ (ap (same_key (SlotOf p)) e ∙ place_itself p);
    }
  where
    by : (k : Key) → same_key (SlotOf p) k ≡ true → k ≡ SlotOf p
    by (SlotOf q) e = ap SlotOf (sym (place_same p q e))
    by _ e = absurd (let no : false ≡ true = e in cc)

tests_vc : (t : Term) → Tests (at_vc t) (RequestFor t)
tests_vc t = record { yes_then = λ s e. by (key_of s) (sym (vc_key t s) ∙ e); then_yes = λ s e. vc_key t s ∙ (ap (same_key (RequestFor t)) e ∙ term_itself t) }
  where
    by : (k : Key) → same_key (RequestFor t) k ≡ true → k ≡ RequestFor t
    by (RequestFor u) e = ap RequestFor (sym (term_same t u e))
    by _ e = absurd (let no : false ≡ true = e in cc)

tests_report : (t : Term) → Tests (at_report t) (ReportOf t)
tests_report t = record { yes_then = λ s e. by (key_of s) (sym (report_key t s) ∙ e); then_yes = λ s e. report_key t s ∙ (ap (same_key (ReportOf t)) e ∙ term_itself t) }
  where
    by : (k : Key) → same_key (ReportOf t) k ≡ true → k ≡ ReportOf t
    by (ReportOf u) e = ap ReportOf (sym (term_same t u e))
    by _ e = absurd (let no : false ≡ true = e in cc)

tests_union : (t : Term) → Tests (at_union t) (UnionOf t)
tests_union t = record { yes_then = λ s e. by (key_of s) (sym (union_key t s) ∙ e); then_yes = λ s e. union_key t s ∙ (ap (same_key (UnionOf t)) e ∙ term_itself t) }
  where
    by : (k : Key) → same_key (UnionOf t) k ≡ true → k ≡ UnionOf t
    by (UnionOf u) e = ap UnionOf (sym (term_same t u e))
    by _ e = absurd (let no : false ≡ true = e in cc)

tests_reply : (n : ℕ) → Tests (at_reply n) (ReplyTo n)
tests_reply n = record { yes_then = λ s e. by (key_of s) (sym (reply_key n s) ∙ e); then_yes = λ s e. reply_key n s ∙ (ap (same_key (ReplyTo n)) e ∙ eq-eqb n n refl) }
  where
    by : (k : Key) → same_key (ReplyTo n) k ≡ true → k ≡ ReplyTo n
    by (ReplyTo m) e = ap ReplyTo (sym (eqb-true n m e))
    by _ e = absurd (let no : false ≡ true = e in cc)

-- nothing is made at the key
abbrev pub NoneAt : Key → List Change → Type 0
NoneAt k xs = EachMade (λ s. key_of s ≡ k → ⊥) xs

-- what is found is made there
found : (is : Statement → Bool) (k : Key) → Tests is k → (xs : List Change) (m : Sealing) → first_of (sealing_in is) xs ≡ Some m → IsMade m.leaf m.statement xs × (key_of m.statement ≡ k)
unfolding gathered
found is k t [] m e = absurd (let no : None ≡ Some m = e in cc)
found is k t (Made l s ∷ xs) m e = by (is s) refl e (found is k t xs m)
  where
    by : (b : Bool) → is s ≡ b → or_else (cond b (Some (record { leaf = l; statement = s })) None) (first_of (sealing_in is) xs) ≡ Some m →
        (first_of (sealing_in is) xs ≡ Some m → IsMade m.leaf m.statement xs × (key_of m.statement ≡ k)) → IsMade m.leaf m.statement (Made l s ∷ xs) × (key_of m.statement ≡ k)
    by true is_yes e more =
        let one : record { leaf = l; statement = s } ≡ m = some_is _ m e in
        (inl (λ i. Made (sym one i).leaf (sym one i).statement), subst (λ (x : Sealing). key_of x.statement ≡ k) one (t.yes_then s is_yes))
    by false is_no e more = let rest = more e in (inr rest.0, rest.1)
found is k t (_ ∷ xs) m e = let rest = found is k t xs m e in (inr rest.0, rest.1)

-- where nothing is found, nothing is made there
missing : (is : Statement → Bool) (k : Key) → Tests is k → (xs : List Change) → first_of (sealing_in is) xs ≡ None → NoneAt k xs
unfolding gathered
missing is k t [] e leaf s m at = m
missing is k t (Made l u ∷ xs) e leaf s m at = by (is u) refl e m (λ e m. missing is k t xs e leaf s m at)
  where
    by : (b : Bool) → is u ≡ b → or_else (cond b (Some (record { leaf = l; statement = u })) None) (first_of (sealing_in is) xs) ≡ None → IsMade leaf s (Made l u ∷ xs) →
        (first_of (sealing_in is) xs ≡ None → IsMade leaf s xs → ⊥) → ⊥
    by true is_yes e m more = absurd (let no : Some (record { leaf = l; statement = u }) ≡ None = e in cc)
    by false is_no e (inl m) more = absurd (let no : true ≡ false = sym (t.then_yes u (ap key_of (sym (made_is leaf l s u m).1) ∙ at)) ∙ is_no in cc)
    by false is_no e (inr m) more = more e m
missing is k t (x ∷ xs) e leaf s (inr m) at = missing is k t xs e leaf s m at
missing is k t (x ∷ xs) e leaf s (inl m) at = absurd (let no : Made leaf s ≡ x = m in cc)

-- ---- of a server's answers

-- the key is open at a state
abbrev pub is_open : Here → Statement → Bool
is_open here (Prepare site view local number value) = open_place here (AtPrepare view.0 local.0 number.0)
is_open here (Proposal site view local number value) = open_place here (AtProposal view.0 local.0 number.0)
is_open here (Accept site view number value) = open_place here (AtAccept view.0 number.0)
is_open here (LocalVc site local) = open_vc here (OfLocal local.0)
is_open here (GlobalVc site view) = open_vc here (OfGlobal view.0)
is_open here (LocalReport site local index view base items) = open_term here (OfLocal local.0)
is_open here (GlobalReport site view index base items) = open_term here (OfGlobal view.0)
is_open here (LocalUnion site local greatest base items) = open_term here (OfLocal local.0)
is_open here (GlobalUnion site view base items) = open_term here (OfGlobal view.0)
is_open here (Reply site client time number result) = true
is_open here (ClientUpdate update) = false

-- what is kept while a key is open
kept_some : {A : Type 0} (b : Bool) (x : Option A) (m : A) → open_if b x ≡ Some m → x ≡ Some m
kept_some true x m e = e
kept_some false x m e = absurd (let no : None ≡ Some m = e in cc)

kept_none : {A : Type 0} (b : Bool) (x : Option A) → b ≡ true → open_if b x ≡ None → x ≡ None
kept_none true x is e = e
kept_none false x is e = absurd (let no : false ≡ true = is in cc)

module _ (seat : Seat) (records : List (List Change)) (heard : List Heard) where
  -- What is found is made at the statement's key.
  pub sealing_found : (s : Statement) (m : Sealing) → sealing_of (questions seat records heard) s ≡ Some m → IsMade m.leaf m.statement (joined records) × (key_of m.statement ≡ key_of s)
  unfolding questions
  sealing_found (Prepare site view local number value) m e = found _ _ (tests_slot (AtPrepare view.0 local.0 number.0)) (joined records) m (kept_some _ _ m e)
  sealing_found (Proposal site view local number value) m e = found _ _ (tests_slot (AtProposal view.0 local.0 number.0)) (joined records) m (kept_some _ _ m e)
  sealing_found (Accept site view number value) m e = found _ _ (tests_slot (AtAccept view.0 number.0)) (joined records) m (kept_some _ _ m e)
  sealing_found (LocalVc site local) m e = found _ _ (tests_vc (OfLocal local.0)) (joined records) m (kept_some _ _ m e)
  sealing_found (GlobalVc site view) m e = found _ _ (tests_vc (OfGlobal view.0)) (joined records) m (kept_some _ _ m e)
  sealing_found (LocalReport site local index view base items) m e = found _ _ (tests_report (OfLocal local.0)) (joined records) m (kept_some _ _ m e)
  sealing_found (GlobalReport site view index base items) m e = found _ _ (tests_report (OfGlobal view.0)) (joined records) m (kept_some _ _ m e)
  sealing_found (LocalUnion site local greatest base items) m e = found _ _ (tests_union (OfLocal local.0)) (joined records) m (kept_some _ _ m e)
  sealing_found (GlobalUnion site view base items) m e = found _ _ (tests_union (OfGlobal view.0)) (joined records) m (kept_some _ _ m e)
  sealing_found (Reply site client time number result) m e = found _ _ (tests_reply number.0) (joined records) m e
  sealing_found (ClientUpdate update) m e = absurd (let no : None ≡ Some m = e in cc)

  -- Where nothing is found at an open key, nothing is made there.
  pub sealing_missing : (s : Statement) → is_open (questions seat records heard).here s ≡ true → sealing_of (questions seat records heard) s ≡ None → NoneAt (key_of s) (joined records)
  unfolding questions
  sealing_missing (Prepare site view local number value) is e = missing _ _ (tests_slot (AtPrepare view.0 local.0 number.0)) (joined records) (kept_none _ _ is e)
  sealing_missing (Proposal site view local number value) is e = missing _ _ (tests_slot (AtProposal view.0 local.0 number.0)) (joined records) (kept_none _ _ is e)
  sealing_missing (Accept site view number value) is e = missing _ _ (tests_slot (AtAccept view.0 number.0)) (joined records) (kept_none _ _ is e)
  sealing_missing (LocalVc site local) is e = missing _ _ (tests_vc (OfLocal local.0)) (joined records) (kept_none _ _ is e)
  sealing_missing (GlobalVc site view) is e = missing _ _ (tests_vc (OfGlobal view.0)) (joined records) (kept_none _ _ is e)
  sealing_missing (LocalReport site local index view base items) is e = missing _ _ (tests_report (OfLocal local.0)) (joined records) (kept_none _ _ is e)
  sealing_missing (GlobalReport site view index base items) is e = missing _ _ (tests_report (OfGlobal view.0)) (joined records) (kept_none _ _ is e)
  sealing_missing (LocalUnion site local greatest base items) is e = missing _ _ (tests_union (OfLocal local.0)) (joined records) (kept_none _ _ is e)
  sealing_missing (GlobalUnion site view base items) is e = missing _ _ (tests_union (OfGlobal view.0)) (joined records) (kept_none _ _ is e)
  sealing_missing (Reply site client time number result) is e = missing _ _ (tests_reply number.0) (joined records) e
  sealing_missing (ClientUpdate update) is e = absurd (let no : false ≡ true = is in cc)

  -- What a group of the answers has is made.
  pub place_found : (p : Place) (m : Sealing) → (questions seat records heard).slots.made p ≡ Some m → IsMade m.leaf m.statement (joined records)
  unfolding questions
  place_found p m e = (found _ _ (tests_slot p) (joined records) m (kept_some _ _ m e)).0

  pub vc_found : (t : Term) (m : Sealing) → (questions seat records heard).making.vc t ≡ Some m → IsMade m.leaf m.statement (joined records)
  unfolding questions
  vc_found t m e = (found _ _ (tests_vc t) (joined records) m (kept_some _ _ m e)).0

  pub union_found : (t : Term) (m : Sealing) → (questions seat records heard).making.union t ≡ Some m → IsMade m.leaf m.statement (joined records)
  unfolding questions
  union_found t m e = (found _ _ (tests_union t) (joined records) m (kept_some _ _ m e)).0

  pub reply_found : (n : ℕ) (m : Sealing) → (questions seat records heard).making.reply n ≡ Some m → IsMade m.leaf m.statement (joined records)
  unfolding questions
  reply_found n m e = (found _ _ (tests_reply n) (joined records) m e).0
