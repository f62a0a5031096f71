-- Each mini-step keeps the invariant. So along every run both flat worlds advance, and two executed
-- values of a number are one.
use Rattle.std.proofs.Common.{◌≡◌, ℕ, ◌<◌, ◌≤◌, List, subst, ⊎_elim, arith}
use Rattle.st_words.specs.declared.value.Value.{Value}
use Rattle.st_words.specs.declared.statement.Item.{Item}
use Rattle.st_words.specs.declared.statement.Statement.{Statement}
use Rattle.st_words.specs.declared.statement.Statement.TheVariants.{Prepare, Proposal, LocalUnion, GlobalUnion}
use Rattle.st_message.specs.declared.change.Change.{Change}
use Rattle.st_message.specs.declared.change.Change.TheVariants.{Made, Prepared, Accepted, Union, Executed}
use Rattle.st_counts.specs.Counts.{Has}
use Rattle.st_registers.specs.Advances.{Advances}
use Rattle.st_registers.specs.Tests.{Safe}
use Rattle.st_registers.proofs.AdvancesLaws.{safe-kept, chosen-kept}
use Rattle.st_agreement.specs.MiniSteps.{HasMaker, Backed, BackedMade, BackedPrepared, BackedAccepted, BackedUnion, Invariant, MiniStep}
use Rattle.st_agreement.specs.Records.{view_of, local_of}
use Rattle.st_agreement.specs.Rules.{Makes, MakesPrepare}
use Rattle.st_agreement.specs.Sites.{Sites, AreSites, leader}
use Rattle.st_agreement.specs.Statements.{prepare, proposal, accept, is_prepare, is_proposal}
use Rattle.st_agreement.specs.Unions.{IsLocalUnion, IsGlobalUnion}
use Rattle.st_agreement.specs.Worlds.{World, inside, outside}
use Rattle.st_agreement.proofs.GrowLaws.{leader-lt, inside-grows, outside-grows}
use Rattle.st_agreement.proofs.PrepareLaws.{may_stand-inside, may_stand-outside}
use Rattle.st_agreement.proofs.VoiceLaws.{inside-well, outside-well}
use Rattle.st_agreement.proofs.WorldLaws.{Extends, own-kept, view-longer, local-longer, made-longer, made-fresh, history-longer, backed-longer, stands-kept, step-extends}

-- ---- what stands behind a change stays there

-- a union of a site for a local view
local_union-kept : (d : Sites) (old new : World) (s l greatest base : ℕ) (items : List Item) → Extends d old new → s < d.sites → IsLocalUnion d old s l greatest base items → IsLocalUnion d new s l greatest base items
local_union-kept d old new s l greatest base items step exists union =
    record {
      reports = union.reports;
      many = union.many;
      entered = λ k correct reported.
          let before : l ≤ local_of (old.records s k) = union.entered k correct reported in
          omega (arith, local-longer d old s (old.records s k) (new.records s k) (step.records s k exists correct));
      covers = λ k correct reported g m n v made lower above.
          let before : l ≤ local_of (old.records s k) = union.entered k correct reported in
          ⊎_elim
          (λ was. union.covers k correct reported g m n v was lower above)
          (λ (makes : Makes d s (proposal s g m n v) (old.records s k)). let now : m ≡ local_of (old.records s k) = makes.1.local in absurd (omega arith))
          (made-fresh d old s (old.records s k) (new.records s k) (step.records s k exists correct) (proposal s g m n v) made);
      bounded = union.bounded;
      backed = λ i among. stands-kept d old new s (is_prepare s i.view.0 i.local.0 i.number.0 i.value) step exists (union.backed i among);
      one = union.one;
    }

-- a union of a site for a view
global_union-kept : (d : Sites) (old new : World) (s view base : ℕ) (items : List Item) → AreSites d → Extends d old new → s < d.sites → IsGlobalUnion d old s view base items → IsGlobalUnion d new s view base items
global_union-kept d old new s view base items sites step exists union =
    record {
      reports = union.reports;
      many = union.many;
      entered = λ k correct reported.
          let before : view ≤ view_of (old.records s k) = union.entered k correct reported in
          omega (arith, view-longer d old s (old.records s k) (new.records s k) (step.records s k exists correct));
      covers = λ k correct reported g n v made lower above.
          let before : view ≤ view_of (old.records s k) = union.entered k correct reported in
          ⊎_elim
          (λ was. union.covers k correct reported g n v was lower above)
          (λ (makes : Makes d s (accept s g n v) (old.records s k)). let now : g ≡ view_of (old.records s k) = makes.1.view in absurd (omega arith))
          (made-fresh d old s (old.records s k) (new.records s k) (step.records s k exists correct) (accept s g n v) made);
      backed = λ i among.
          stands-kept d old new (leader d i.view.0) (is_proposal (leader d i.view.0) i.view.0 i.local.0 i.number.0 i.value) step (leader-lt d i.view.0 sites) (union.backed i among);
      one = union.one;
    }

-- a maker
maker-kept : (d : Sites) (old new : World) (s : ℕ) (t : Statement) → Extends d old new → HasMaker d old s t → HasMaker d new s t
maker-kept d old new s t step who =
    record {
      exists = who.exists;
      server = who.server;
      correct = who.correct;
      recorded = made-longer d old s (old.records s who.server) (new.records s who.server) (step.records s who.server who.exists who.correct) t who.recorded;
    }

-- what stands behind a statement that was made
made-backed : (d : Sites) (old new : World) (s : ℕ) (t : Statement) → AreSites d → Extends d old new → s < d.sites → BackedMade d old s t → BackedMade d new s t
made-backed d old new s (Prepare s2 g l n v) sites step exists backed = own-kept d old new v step backed
made-backed d old new s (LocalUnion s2 l greatest base items) sites step exists backed = local_union-kept d old new s l.0 greatest.0 base items step exists backed
made-backed d old new s (GlobalUnion s2 g base items) sites step exists backed = global_union-kept d old new s g.0 base items sites step exists backed
made-backed d old new s _ sites step exists backed = backed

-- behind a prepared Prepare
prepared-backed : (d : Sites) (old new : World) (s : ℕ) (t : Statement) → Extends d old new → s < d.sites → BackedPrepared d old s t → BackedPrepared d new s t
prepared-backed d old new s (Prepare s2 g l n v) step exists backed = stands-kept d old new s (is_prepare s g.0 l.0 n.0 v) step exists backed
prepared-backed d old new s _ step exists backed = backed

-- behind an accepted Proposal
accepted-backed : (d : Sites) (old new : World) (t : Statement) → AreSites d → Extends d old new → BackedAccepted d old t → BackedAccepted d new t
accepted-backed d old new (Proposal s2 g l n v) sites step backed =
    stands-kept d old new (leader d g.0) (is_proposal (leader d g.0) g.0 l.0 n.0 v) step (leader-lt d g.0 sites) backed
accepted-backed d old new _ sites step backed = backed

-- behind a union that is held
union-backed : (d : Sites) (old new : World) (t : Statement) → Extends d old new → BackedUnion d old t → BackedUnion d new t
union-backed d old new (LocalUnion s2 l greatest base items) step backed = maker-kept d old new s2.0 (LocalUnion s2 l greatest base items) step backed
union-backed d old new (GlobalUnion s2 g base items) step backed = maker-kept d old new s2.0 (GlobalUnion s2 g base items) step backed
union-backed d old new _ step backed = backed

-- by the kind of the change
pub backed-kept : (d : Sites) (old new : World) (s : ℕ) (c : Change) → AreSites d → Extends d old new → s < d.sites → Backed d old s c → Backed d new s c
backed-kept d old new s (Made leaf t) sites step exists backed = made-backed d old new s t sites step exists backed
backed-kept d old new s (Prepared t quorum) sites step exists backed = prepared-backed d old new s t step exists backed
backed-kept d old new s (Accepted t quorum) sites step exists backed = accepted-backed d old new t sites step backed
backed-kept d old new s (Union t quorum) sites step exists backed = union-backed d old new t step backed
backed-kept d old new s (Executed number proof) sites step exists backed =
    chosen-kept (outside d old number.0) (outside d new number.0) proof.value (outside-grows d old new sites step number.0) backed
backed-kept d old new s _ sites step exists backed = backed

-- ---- the invariant is kept

-- a Prepare that may be made is safe inside
makes-inside : (d : Sites) (w : World) (s k g l n : ℕ) (v : Value) → AreSites d → Invariant d w → Has k (d.correct s) → MakesPrepare d s g l n v (w.records s k) → Safe (inside d w g n) l v
makes-inside d w s k g l n v sites inv correct makes =
    let rule : Has k (d.correct (leader d g)) × MakesPrepare d (leader d g) g l n v (w.records (leader d g) k) =
    subst (λ x. Has k (d.correct x) × MakesPrepare d x g l n v (w.records x k)) makes.leads (correct, makes) in
    may_stand-inside d w k g l n v sites inv rule.0 rule.1.value

pub invariant-kept : (d : Sites) (old new : World) → AreSites d → Invariant d old → Extends d old new → Invariant d new
invariant-kept d old new sites inv step =
    record {
      recorded = λ s k exists correct t made.
          made-longer d old s (old.records s k) (new.records s k) (step.records s k exists correct) t
          (⊎_elim (λ was. inv.recorded s k exists correct t was) (λ now. now.1) (step.fresh s k exists correct t made));
      history = λ s k exists correct.
          history-longer d old s (old.records s k) (new.records s k) (step.records s k exists correct) (inv.history s k exists correct);
      backed = λ s k exists correct c has.
          backed-kept d old new s c sites step exists
          (backed-longer d old s (old.records s k) (new.records s k) (step.records s k exists correct) (inv.backed s k exists correct) c has);
      safe_inside = λ s k exists correct g l n v made.
          safe-kept (inside d old g n) (inside d new g n) l v (inside-grows d old new sites step g n)
          (⊎_elim
          (λ was. inv.safe_inside s k exists correct g l n v was)
          (λ (makes : Makes d s (prepare s g l n v) (old.records s k)). makes-inside d old s k g l n v sites inv correct makes.1)
          (made-fresh d old s (old.records s k) (new.records s k) (step.records s k exists correct) (prepare s g l n v) made));
      safe_outside = λ s k exists correct g l n v made.
          safe-kept (outside d old n) (outside d new n) g v (outside-grows d old new sites step n)
          (⊎_elim
          (λ was. inv.safe_outside s k exists correct g l n v was)
          (λ (makes : Makes d s (prepare s g l n v) (old.records s k)). may_stand-outside d old s k g l n v sites inv exists correct makes.1.value)
          (made-fresh d old s (old.records s k) (new.records s k) (step.records s k exists correct) (prepare s g l n v) made));
    }

-- each mini-step keeps it
pub step-invariant : (d : Sites) (old new : World) → AreSites d → Invariant d old → MiniStep d old new → Invariant d new
step-invariant d old new sites inv step = invariant-kept d old new sites inv (step-extends d old new step)

-- and lets the flat world inside each leader site advance
pub step-inside : (d : Sites) (old new : World) → AreSites d → Invariant d old → MiniStep d old new → (g n : ℕ) → Advances (inside d old g n) (inside d new g n)
step-inside d old new sites inv step g n =
    record {
      grows = inside-grows d old new sites (step-extends d old new step) g n;
      well = inside-well d new sites (step-invariant d old new sites inv step) g n;
    }

-- and that of the sites
pub step-outside : (d : Sites) (old new : World) → AreSites d → Invariant d old → MiniStep d old new → (n : ℕ) → Advances (outside d old n) (outside d new n)
step-outside d old new sites inv step n =
    record {
      grows = outside-grows d old new sites (step-extends d old new step) n;
      well = outside-well d new sites (step-invariant d old new sites inv step) n;
    }
