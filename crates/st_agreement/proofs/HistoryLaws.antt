-- Facts of one server's records, each by an induction on them.
use Rattle.std.proofs.Common.{◌≡◌, ℕ, ◌≤◌, ◌⊎◌, List, [], ◌∷◌, sym, ap, subst, inl, inr, arith}
use Rattle.st_words.specs.declared.value.Value.{Value}
use Rattle.st_words.specs.declared.statement.Statement.{Statement}
use Rattle.st_message.specs.declared.change.Change.{Change}
use Rattle.st_message.specs.declared.change.Change.TheVariants.{EnterLocal, EnterGlobal, Made, Prepared, Accepted, Union}
use Rattle.st_seal.specs.declared.quorum.Quorum.{Quorum}
use Rattle.st_counts.specs.Counts.{Has}
use Rattle.st_agreement.specs.Records.{made_of, prepared_of, accepted_of, unions_of, view_of, local_of}
use Rattle.st_agreement.specs.Rules.{Allowed, History, Makes}
use Rattle.st_agreement.specs.Sites.{Sites, leader}
use Rattle.st_agreement.specs.Statements.{prepare, proposal, accept}

-- ---- one record more

-- the view never falls
pub view-kept : (d : Sites) (s : ℕ) (c : Change) (rs : List Change) → Allowed d s c rs → view_of rs ≤ view_of (c ∷ rs)
view-kept d s (EnterGlobal view sites) rs allowed = omega arith
view-kept d s _ rs allowed = omega arith

-- the local view never falls
pub local-kept : (d : Sites) (s : ℕ) (c : Change) (rs : List Change) → Allowed d s c rs → local_of rs ≤ local_of (c ∷ rs)
local-kept d s (EnterLocal local quorum) rs allowed = omega arith
local-kept d s _ rs allowed = omega arith

-- what was made stays so
pub made-kept : (c : Change) (rs : List Change) (t : Statement) → Has t (made_of rs) → Has t (made_of (c ∷ rs))
made-kept (Made leaf u) rs t has = inr has
made-kept _ rs t has = has

-- what was prepared stays so
pub prepared-kept : (c : Change) (rs : List Change) (t : Statement) → Has t (prepared_of rs) → Has t (prepared_of (c ∷ rs))
prepared-kept (Prepared u quorum) rs t has = inr has
prepared-kept _ rs t has = has

-- what was accepted stays so
pub accepted-kept : (c : Change) (rs : List Change) (t : Statement) → Has t (accepted_of rs) → Has t (accepted_of (c ∷ rs))
accepted-kept (Accepted u quorum) rs t has = inr has
accepted-kept _ rs t has = has

-- what is made now was, or may be made
pub made-newest : (d : Sites) (s : ℕ) (c : Change) (old : List Change) (t : Statement) → Allowed d s c old → Has t (made_of (c ∷ old)) → Has t (made_of old) ⊎ Makes d s t old
made-newest d s (Made leaf u) old t allowed (inl same) = inr (subst (λ x. Makes d s x old) (sym same) allowed)
made-newest d s (Made leaf u) old t allowed (inr has) = inl has
made-newest d s _ old t allowed has = inl has

-- ---- what is held is recorded

-- a statement that was made has its record
pub made-recorded : (rs : List Change) (t : Statement) → Has t (made_of rs) → (leaf : ℕ) × Has (Made leaf t) rs
made-recorded [] t has = absurd has
made-recorded (c ∷ rs) t has = by_change c (made-recorded rs t) has
  where
    by_change : (x : Change) → (Has t (made_of rs) → (leaf : ℕ) × Has (Made leaf t) rs) → Has t (made_of (x ∷ rs)) → (leaf : ℕ) × Has (Made leaf t) (x ∷ rs)
    by_change (Made leaf u) later (inl same) = (leaf, inl (ap (λ y. Made leaf y) same))
    by_change (Made leaf u) later (inr has) = ((later has).0, inr (later has).1)
    by_change _ later has = ((later has).0, inr (later has).1)

-- a Prepare of which a quorum was seen has its record
pub prepared-recorded : (rs : List Change) (t : Statement) → Has t (prepared_of rs) → (quorum : Quorum) × Has (Prepared t quorum) rs
prepared-recorded [] t has = absurd has
prepared-recorded (c ∷ rs) t has = by_change c (prepared-recorded rs t) has
  where
    by_change : (x : Change) → (Has t (prepared_of rs) → (quorum : Quorum) × Has (Prepared t quorum) rs) → Has t (prepared_of (x ∷ rs)) → (quorum : Quorum) × Has (Prepared t quorum) (x ∷ rs)
    by_change (Prepared u quorum) later (inl same) = (quorum, inl (ap (λ y. Prepared y quorum) same))
    by_change (Prepared u quorum) later (inr has) = ((later has).0, inr (later has).1)
    by_change _ later has = ((later has).0, inr (later has).1)

-- a Proposal of which a certificate was seen has its record
pub accepted-recorded : (rs : List Change) (t : Statement) → Has t (accepted_of rs) → (quorum : Quorum) × Has (Accepted t quorum) rs
accepted-recorded [] t has = absurd has
accepted-recorded (c ∷ rs) t has = by_change c (accepted-recorded rs t) has
  where
    by_change : (x : Change) → (Has t (accepted_of rs) → (quorum : Quorum) × Has (Accepted t quorum) rs) → Has t (accepted_of (x ∷ rs)) → (quorum : Quorum) × Has (Accepted t quorum) (x ∷ rs)
    by_change (Accepted u quorum) later (inl same) = (quorum, inl (ap (λ y. Accepted y quorum) same))
    by_change (Accepted u quorum) later (inr has) = ((later has).0, inr (later has).1)
    by_change _ later has = ((later has).0, inr (later has).1)

-- a union that is held has its record
pub union-recorded : (rs : List Change) (t : Statement) → Has t (unions_of rs) → (quorum : Quorum) × Has (Union t quorum) rs
union-recorded [] t has = absurd has
union-recorded (c ∷ rs) t has = by_change c (union-recorded rs t) has
  where
    by_change : (x : Change) → (Has t (unions_of rs) → (quorum : Quorum) × Has (Union t quorum) rs) → Has t (unions_of (x ∷ rs)) → (quorum : Quorum) × Has (Union t quorum) (x ∷ rs)
    by_change (Union u quorum) later (inl same) = (quorum, inl (ap (λ y. Union y quorum) same))
    by_change (Union u quorum) later (inr has) = ((later has).0, inr (later has).1)
    by_change _ later has = ((later has).0, inr (later has).1)

-- ---- what was made

-- What held when a statement was made, and each record more keeps, holds now.
pub made-rule : (d : Sites) (s : ℕ) (t : Statement) (P : List Change → Type 0) → ((c : Change) (rs : List Change) → Allowed d s c rs → P rs → P (c ∷ rs)) → ((leaf : ℕ) (rs : List Change) → History d s rs → Makes d s t rs → P (Made leaf t ∷ rs)) → (rs : List Change) → History d s rs → Has t (made_of rs) → P rs
made-rule d s t P keeps start [] history has = absurd has
made-rule d s t P keeps start (c ∷ rs) history has = by_change c history.0 (made-rule d s t P keeps start rs history.1) has
  where
    by_change : (x : Change) → Allowed d s x rs → (Has t (made_of rs) → P rs) → Has t (made_of (x ∷ rs)) → P (x ∷ rs)
    by_change (Made leaf u) allowed later (inl same) =
        subst (λ y. P (Made leaf y ∷ rs)) same (start leaf rs history.1 (subst (λ y. Makes d s y rs) (sym same) allowed))
    by_change (Made leaf u) allowed later (inr has) = keeps (Made leaf u) rs allowed (later has)
    by_change x allowed later has = keeps x rs allowed (later has)

-- Where a Prepare was made: its site leads its view, which is not above the server's own, nor is its
-- local view.
pub record MadePrepare (d : Sites) (s s2 g l : ℕ) (rs : List Change) : Type 0 where
  pub site : s2 ≡ s
  pub leads : s ≡ leader d g
  pub view : g ≤ view_of rs
  pub local : l ≤ local_of rs

-- so it is for each Prepare that was made
pub made-prepare : (d : Sites) (s s2 g l n : ℕ) (v : Value) (rs : List Change) → History d s rs → Has (prepare s2 g l n v) (made_of rs) → MadePrepare d s s2 g l rs
made-prepare d s s2 g l n v =
    made-rule d s (prepare s2 g l n v) (MadePrepare d s s2 g l)
    (λ c rs allowed before. record {
      site = before.site;
      leads = before.leads;
      view = omega (arith, before.view, view-kept d s c rs allowed);
      local = omega (arith, before.local, local-kept d s c rs allowed);
    })
    (λ leaf rs history makes. record {
      site = makes.0;
      leads = makes.1.leads;
      view = omega (arith, makes.1.view);
      local = omega (arith, makes.1.local);
    })

-- Where a Proposal was made: a quorum of its Prepare was seen.
pub record MadeProposal (s s2 g l n : ℕ) (v : Value) (rs : List Change) : Type 0 where
  pub site : s2 ≡ s
  pub view : g ≤ view_of rs
  pub local : l ≤ local_of rs
  pub prepared : Has (prepare s g l n v) (prepared_of rs)

-- so it is for each Proposal that was made
pub made-proposal : (d : Sites) (s s2 g l n : ℕ) (v : Value) (rs : List Change) → History d s rs → Has (proposal s2 g l n v) (made_of rs) → MadeProposal s s2 g l n v rs
made-proposal d s s2 g l n v =
    made-rule d s (proposal s2 g l n v) (MadeProposal s s2 g l n v)
    (λ c rs allowed before. record {
      site = before.site;
      view = omega (arith, before.view, view-kept d s c rs allowed);
      local = omega (arith, before.local, local-kept d s c rs allowed);
      prepared = prepared-kept c rs (prepare s g l n v) before.prepared;
    })
    (λ leaf rs history makes. record {
      site = makes.0;
      view = omega (arith, makes.1.view);
      local = omega (arith, makes.1.local);
      prepared = makes.1.prepared;
    })

-- Where an Accept was made: a certificate of a Proposal of the value was seen.
pub record MadeAccept (d : Sites) (s s2 g n : ℕ) (v : Value) (rs : List Change) : Type 0 where
  pub site : s2 ≡ s
  pub view : g ≤ view_of rs
  pub local : ℕ
  pub accepted : Has (proposal (leader d g) g local n v) (accepted_of rs)

-- so it is for each Accept that was made
pub made-accept : (d : Sites) (s s2 g n : ℕ) (v : Value) (rs : List Change) → History d s rs → Has (accept s2 g n v) (made_of rs) → MadeAccept d s s2 g n v rs
made-accept d s s2 g n v =
    made-rule d s (accept s2 g n v) (MadeAccept d s s2 g n v)
    (λ c rs allowed before. record {
      site = before.site;
      view = omega (arith, before.view, view-kept d s c rs allowed);
      local = before.local;
      accepted = accepted-kept c rs (proposal (leader d g) g before.local n v) before.accepted;
    })
    (λ leaf rs history makes. record {
      site = makes.0;
      view = omega (arith, makes.1.view);
      local = makes.1.local;
      accepted = makes.1.accepted;
    })

-- the newest record against an earlier one of the same slot
once-newest : (d : Sites) (s g l n : ℕ) (u v : Value) (t : Statement) (rs : List Change) → prepare s g l n u ≡ t → Makes d s t rs → Has (prepare s g l n v) (made_of rs) → u ≡ v
once-newest d s g l n u v t rs same makes has =
    let rule : Makes d s (prepare s g l n u) rs = subst (λ y. Makes d s y rs) (sym same) makes in
    absurd (rule.1.first v has)

-- a slot has one Prepare
pub made-once : (d : Sites) (s g l n : ℕ) (u v : Value) (rs : List Change) → History d s rs → Has (prepare s g l n u) (made_of rs) → Has (prepare s g l n v) (made_of rs) → u ≡ v
made-once d s g l n u v [] history first second = absurd first
made-once d s g l n u v (c ∷ rs) history first second = by_change c history.0 (made-once d s g l n u v rs history.1) first second
  where
    by_change : (x : Change) → Allowed d s x rs → (Has (prepare s g l n u) (made_of rs) → Has (prepare s g l n v) (made_of rs) → u ≡ v) → Has (prepare s g l n u) (made_of (x ∷ rs)) → Has (prepare s g l n v) (made_of (x ∷ rs)) → u ≡ v
    by_change (Made leaf t) allowed later (inl a) (inl b) = cc
    by_change (Made leaf t) allowed later (inl a) (inr b) = once-newest d s g l n u v t rs a allowed b
    by_change (Made leaf t) allowed later (inr a) (inl b) = sym (once-newest d s g l n v u t rs b allowed a)
    by_change (Made leaf t) allowed later (inr a) (inr b) = later a b
    by_change x allowed later a b = later a b
