-- What stands, and what of it a step keeps.
use Rattle.std.proofs.Common.{◌≡◌, ℕ, ◌<◌, ◌≤◌, ◌⊎◌, ◌==◌, ◌&&◌, Bool, true, false, cond, IsTrue, List, ◌∷◌, length, refl, sym, subst, inl, inr, arith}
use Rattle.std.proofs.lemmas.Bool.{leb-true, le-leb, and_parts, eqb-true}
use Rattle.st_words.specs.declared.statement.Statement.{Statement}
use Rattle.st_words.specs.declared.value.Update.{Update}
use Rattle.st_words.specs.declared.value.Value.{Value}
use Rattle.st_words.specs.declared.value.Value.TheVariants as values
use Rattle.st_message.specs.declared.change.Change.{Change}
use Rattle.st_counts.specs.Counts.{Has, AllBut, Found, Shared}
use Rattle.st_counts.proofs.CountLaws.{count-mono}
use Rattle.st_counts.proofs.MemberLaws.{any-from, any-found}
use Rattle.st_counts.proofs.QuorumLaws.{shared, all_but-found}
use Rattle.st_agreement.specs.MiniSteps.{Backed, IsCurrent, with_record, with_made, with_update, MiniStep, records, hands, asks}
use Rattle.st_agreement.specs.Records.{made_of, view_of, local_of}
use Rattle.st_agreement.specs.Rules.{Allowed, History, Makes}
use Rattle.st_agreement.specs.Sites.{Sites, AreSites}
use Rattle.st_agreement.specs.Worlds.{World, IsOwn, has_made, stands}
use Rattle.st_agreement.proofs.HistoryLaws.{view-kept, local-kept, made-kept, made-newest}

-- ---- standing

-- what stands, as a fact
pub stands-fact : (d : Sites) (w : World) (s : ℕ) (test : Statement → Bool) → IsTrue (stands d w s test) → AllBut (d.faults s) (d.correct s) (has_made w s test)
unfolding stands
stands-fact d w s test stand = leb-true _ _ stand

-- and back
pub stands-from : (d : Sites) (w : World) (s : ℕ) (test : Statement → Bool) → AllBut (d.faults s) (d.correct s) (has_made w s test) → IsTrue (stands d w s test)
unfolding stands
stands-from d w s test most = le-leb _ _ most

-- a correct server that has handed out a statement that passes
pub record Maker (d : Sites) (w : World) (s : ℕ) (test : Statement → Bool) : Type 0 where
  pub server : ℕ
  pub correct : Has server (d.correct s)
  pub statement : Statement
  pub made : Has statement (w.made s server)
  pub passes : IsTrue (test statement)

-- what stands has a correct maker
pub maker : (d : Sites) (w : World) (s : ℕ) (test : Statement → Bool) → AreSites d → s < d.sites → IsTrue (stands d w s test) → Maker d w s test
maker d w s test sites exists stand =
    let few : d.faults s < length (d.correct s) = omega (arith, sites.most s exists) in
    let server : Found (has_made w s test) (d.correct s) = all_but-found (d.faults s) (d.correct s) (has_made w s test) few (stands-fact d w s test stand) in
    let statement : Found test (w.made s server.element) = any-found test (w.made s server.element) server.passes in
    record {
      server = server.element;
      correct = server.among;
      statement = statement.element;
      made = statement.among;
      passes = statement.passes;
    }

-- two statements that stand at a site have a correct maker in common
pub record Makers (d : Sites) (w : World) (s : ℕ) (p q : Statement → Bool) : Type 0 where
  pub server : ℕ
  pub correct : Has server (d.correct s)
  pub first : Found p (w.made s server)
  pub second : Found q (w.made s server)

-- so it is of any two that stand
pub makers : (d : Sites) (w : World) (s : ℕ) (p q : Statement → Bool) → AreSites d → s < d.sites → IsTrue (stands d w s p) → IsTrue (stands d w s q) → Makers d w s p q
makers d w s p q sites exists first second =
    let both : Shared (has_made w s p) (has_made w s q) (d.correct s) =
    shared (d.faults s) (d.correct s) (has_made w s p) (has_made w s q) (sites.most s exists) (stands-fact d w s p first) (stands-fact d w s q second) in
    record {
      server = both.element;
      correct = both.among;
      first = any-found p (w.made s both.element) both.first;
      second = any-found q (w.made s both.element) both.second;
    }

-- ---- one step more

-- one change more, which was allowed and has behind it what it needs
pub record OneMore (d : Sites) (w : World) (s : ℕ) (c : Change) (old new : List Change) : Type 0 where
  pub allowed : Allowed d s c old
  pub backed : Backed d w s c
  pub next : new ≡ c ∷ old

-- a server's records are the same, or one more
abbrev pub IsLonger : Sites → World → ℕ → List Change → List Change → Type 0
IsLonger d w s old new = (new ≡ old) ⊎ ((c : Change) × OneMore d w s c old new)

-- What a mini-step leaves of each correct server: no record and no statement is lost, and what it newly
-- hands out is recorded and current.
pub record Extends (d : Sites) (old new : World) : Type 0 where
  pub records : (s k : ℕ) → s < d.sites → Has k (d.correct s) → IsLonger d old s (old.records s k) (new.records s k)
  pub made : (s k : ℕ) → s < d.sites → Has k (d.correct s) → (t : Statement) → Has t (old.made s k) → Has t (new.made s k)
  pub updates : (u : Update) → Has u old.updates → Has u new.updates
  pub fresh : (s k : ℕ) → s < d.sites → Has k (d.correct s) → (t : Statement) → Has t (new.made s k) → Has t (old.made s k) ⊎ (IsCurrent t (old.records s k) × Has t (made_of (old.records s k)))

-- the view is not lower
pub view-longer : (d : Sites) (w : World) (s : ℕ) (old new : List Change) → IsLonger d w s old new → view_of old ≤ view_of new
view-longer d w s old new (inl same) = subst (λ (rs : List Change). view_of old ≤ view_of rs) (sym same) (omega arith)
view-longer d w s old new (inr more) = subst (λ (rs : List Change). view_of old ≤ view_of rs) (sym more.1.next) (view-kept d s more.0 old more.1.allowed)

-- nor is the local view
pub local-longer : (d : Sites) (w : World) (s : ℕ) (old new : List Change) → IsLonger d w s old new → local_of old ≤ local_of new
local-longer d w s old new (inl same) = subst (λ (rs : List Change). local_of old ≤ local_of rs) (sym same) (omega arith)
local-longer d w s old new (inr more) = subst (λ (rs : List Change). local_of old ≤ local_of rs) (sym more.1.next) (local-kept d s more.0 old more.1.allowed)

-- what was made stays so
pub made-longer : (d : Sites) (w : World) (s : ℕ) (old new : List Change) → IsLonger d w s old new → (t : Statement) → Has t (made_of old) → Has t (made_of new)
made-longer d w s old new (inl same) t has = subst (λ (rs : List Change). Has t (made_of rs)) (sym same) has
made-longer d w s old new (inr more) t has = subst (λ (rs : List Change). Has t (made_of rs)) (sym more.1.next) (made-kept more.0 old t has)

-- what is made now was, or may be made
pub made-fresh : (d : Sites) (w : World) (s : ℕ) (old new : List Change) → IsLonger d w s old new → (t : Statement) → Has t (made_of new) → Has t (made_of old) ⊎ Makes d s t old
made-fresh d w s old new (inl same) t has = inl (subst (λ (rs : List Change). Has t (made_of rs)) same has)
made-fresh d w s old new (inr more) t has =
    made-newest d s more.0 old t more.1.allowed (subst (λ (rs : List Change). Has t (made_of rs)) more.1.next has)

-- its history goes on
pub history-longer : (d : Sites) (w : World) (s : ℕ) (old new : List Change) → IsLonger d w s old new → History d s old → History d s new
history-longer d w s old new (inl same) history = subst (λ (rs : List Change). History d s rs) (sym same) history
history-longer d w s old new (inr more) history = subst (λ (rs : List Change). History d s rs) (sym more.1.next) (more.1.allowed, history)

-- each record was there, or has behind it what it needs
pub backed-longer : (d : Sites) (w : World) (s : ℕ) (old new : List Change) → IsLonger d w s old new → ((c : Change) → Has c old → Backed d w s c) → (c : Change) → Has c new → Backed d w s c
backed-longer d w s old new (inl same) backed c has = backed c (subst (λ (rs : List Change). Has c rs) same has)
backed-longer d w s old new (inr more) backed c has =
    newest (subst (λ (rs : List Change). Has c rs) more.1.next has)
  where
    newest : (c ≡ more.0) ⊎ Has c old → Backed d w s c
    newest (inl same) = subst (λ (x : Change). Backed d w s x) (sym same) more.1.backed
    newest (inr was) = backed c was

-- what was handed out stays so
pub has_made-kept : (d : Sites) (old new : World) (s : ℕ) (test : Statement → Bool) → Extends d old new → s < d.sites → (k : ℕ) → Has k (d.correct s) → IsTrue (has_made old s test k) → IsTrue (has_made new s test k)
has_made-kept d old new s test step exists k correct has =
    let statement : Found test (old.made s k) = any-found test (old.made s k) has in
    any-from test statement.element (new.made s k) (step.made s k exists correct statement.element statement.among) statement.passes

-- what stands stays so
pub stands-kept : (d : Sites) (old new : World) (s : ℕ) (test : Statement → Bool) → Extends d old new → s < d.sites → IsTrue (stands d old s test) → IsTrue (stands d new s test)
stands-kept d old new s test step exists stand =
    stands-from d new s test
    (omega (arith, stands-fact d old s test stand, count-mono (has_made old s test) (has_made new s test) (d.correct s) (has_made-kept d old new s test step exists)))

-- ---- mini-steps extend

-- one server's records with one more, and all others as they were
with_record-longer : (d : Sites) (w : World) (s k : ℕ) (c : Change) → Allowed d s c (w.records s k) → Backed d w s c → (s2 k2 : ℕ) (b : Bool) → (s2 == s && k2 == k) ≡ b → IsLonger d w s2 (w.records s2 k2) (cond b (c ∷ w.records s2 k2) (w.records s2 k2))
with_record-longer d w s k c allowed backed s2 k2 true here =
    let parts = and_parts (s2 == s) (k2 == k) here in
    let site : s2 ≡ s = eqb-true s2 s parts.0 in
    let server : k2 ≡ k = eqb-true k2 k parts.1 in
    inr (
      c,
      record {
        allowed = subst (λ x. Allowed d x c (w.records x k2)) (sym site) (subst (λ x. Allowed d s c (w.records s x)) (sym server) allowed);
        backed = subst (λ x. Backed d w x c) (sym site) backed;
        next = refl;
      },
    )
with_record-longer d w s k c allowed backed s2 k2 false other = inl refl

-- a record extends
pub with_record-extends : (d : Sites) (w : World) (s k : ℕ) (c : Change) → Allowed d s c (w.records s k) → Backed d w s c → Extends d w (with_record w s k c)
unfolding with_record
with_record-extends d w s k c allowed backed =
    record {
      records = λ s2 k2 exists correct. with_record-longer d w s k c allowed backed s2 k2 (s2 == s && k2 == k) refl;
      made = λ s2 k2 exists correct t has. has;
      updates = λ u has. has;
      fresh = λ s2 k2 exists correct t has. inl has;
    }

-- what was handed out before one statement more stays so
with_made-kept : (ts : List Statement) (t u : Statement) (b : Bool) → Has u ts → Has u (cond b (t ∷ ts) ts)
with_made-kept ts t u true has = inr has
with_made-kept ts t u false has = has

-- what is handed out now was, or is the one
with_made-fresh : (w : World) (s k : ℕ) (t : Statement) → IsCurrent t (w.records s k) → Has t (made_of (w.records s k)) → (s2 k2 : ℕ) (u : Statement) (b : Bool) → (s2 == s && k2 == k) ≡ b → Has u (cond b (t ∷ w.made s2 k2) (w.made s2 k2)) → Has u (w.made s2 k2) ⊎ (IsCurrent u (w.records s2 k2) × Has u (made_of (w.records s2 k2)))
with_made-fresh w s k t current recorded s2 k2 u true here (inl same) =
    let parts = and_parts (s2 == s) (k2 == k) here in
    let site : s2 ≡ s = eqb-true s2 s parts.0 in
    let server : k2 ≡ k = eqb-true k2 k parts.1 in
    let rs : w.records s2 k2 ≡ w.records s k = λ i. w.records (site i) (server i) in
    inr (subst (λ (x : List Change). IsCurrent u x × Has u (made_of x)) (sym rs)
    (subst (λ (x : Statement). IsCurrent x (w.records s k) × Has x (made_of (w.records s k))) (sym same) (current, recorded)))
with_made-fresh w s k t current recorded s2 k2 u true here (inr has) = inl has
with_made-fresh w s k t current recorded s2 k2 u false other has = inl has

-- a statement that is handed out extends
pub with_made-extends : (d : Sites) (w : World) (s k : ℕ) (t : Statement) → IsCurrent t (w.records s k) → Has t (made_of (w.records s k)) → Extends d w (with_made w s k t)
unfolding with_made
with_made-extends d w s k t current recorded =
    record {
      records = λ s2 k2 exists correct. inl refl;
      made = λ s2 k2 exists correct u has. with_made-kept (w.made s2 k2) t u (s2 == s && k2 == k) has;
      updates = λ u has. has;
      fresh = λ s2 k2 exists correct u has. with_made-fresh w s k t current recorded s2 k2 u (s2 == s && k2 == k) refl has;
    }

-- a client's update changes nothing of a server
with_update-extends : (d : Sites) (w : World) (u : Update) → Extends d w (with_update w u)
with_update-extends d w u =
    record {
      records = λ s k exists correct. inl refl;
      made = λ s k exists correct t has. has;
      updates = λ x has. inr has;
      fresh = λ s k exists correct t has. inl has;
    }

-- what was a client's own update stays so
pub own-kept : (d : Sites) (old new : World) (v : Value) → Extends d old new → IsOwn old v → IsOwn new v
own-kept d old new values.Noop step own = own
own-kept d old new (values.Update u) step own = step.updates u own

-- each mini-step extends
pub step-extends : (d : Sites) (old new : World) → MiniStep d old new → Extends d old new
step-extends d old new (records step) =
    subst (λ w. Extends d old w) (sym step.next) (with_record-extends d old step.site step.server step.change step.allowed step.backed)
step-extends d old new (hands step) =
    subst (λ w. Extends d old w) (sym step.next) (with_made-extends d old step.site step.server step.statement step.current step.recorded)
step-extends d old new (asks u next) = subst (λ w. Extends d old w) (sym next) (with_update-extends d old u)
