-- Each statement that was made has a leaf below the next one.
use Rattle.std.proofs.Common.{◌≡◌, ap, sym, ℕ, ◌+◌, ◌<◌, ◌⊎◌, inl, inr, Bool, true, false, cond, Option, Some, None, arith}
use Rattle.st_words.specs.declared.ids.Number.{Number}
use Rattle.st_words.specs.declared.statement.Statement.{Statement}
use Rattle.st_words.specs.declared.statement.Statement.TheVariants.{Prepare, Proposal, Accept, LocalVc, GlobalVc, LocalReport, GlobalReport, LocalUnion, GlobalUnion, Reply, ClientUpdate}
use Rattle.st_message.specs.declared.change.Change.TheVariants.{Made, Prepared, Accepted, Executed}
use Rattle.st_message.specs.declared.change.Heard.{Heard}
use Rattle.st_message.specs.declared.message.Proof.{Proof}
use Rattle.st_protocol.specs.Words.{Quorum}
use Rattle.st_protocol.specs.Keeping.{open_if, or_else}
use Rattle.st_protocol.specs.State.{AtPrepare, AtProposal, AtAccept, OfLocal, OfGlobal, Sealing, Answers, Seat}
use Rattle.st_protocol.specs.Growth.{after, notes, cuts, hears, takes, nothing}
use Rattle.st_live.specs.LiveView.{IsSealed}

-- what is found was there, or has the new leaf
found_made : (b : Bool) (x : Option Sealing) (test : Bool) (new m : Sealing) → open_if b (or_else x (cond test (Some new) None)) ≡ Some m → (x ≡ Some m) ⊎ (m.leaf ≡ new.leaf)
found_made true None true new m e = inr (let same : new ≡ m = cc in ap (λ (s : Sealing). s.leaf) (sym same))
found_made true None false new m e = absurd (let fails : None ≡ Some m = e in cc)
found_made true (Some x) test new m e = inl e
found_made false x test new m e = absurd (let fails : None ≡ Some m = e in cc)

-- what is found after another change was there
found_kept : (b : Bool) (x : Option Sealing) (m : Sealing) → open_if b (or_else x None) ≡ Some m → x ≡ Some m
found_kept true None m e = e
found_kept true (Some x) m e = e
found_kept false x m e = absurd (let fails : None ≡ Some m = e in cc)

found_alone : (x : Option Sealing) (m : Sealing) → or_else x None ≡ Some m → x ≡ Some m
found_alone None m e = e
found_alone (Some x) m e = e

-- a statement is made with the next leaf: what is found of one place is below the leaf after it
case_made : (next leaf : ℕ) (s : Statement) (b : Bool) (x : Option Sealing) (test : Bool) (m : Sealing) → leaf ≡ next → (x ≡ Some m → m.leaf < next)
    → open_if b (or_else x (cond test (Some (record { leaf = leaf; statement = s })) None)) ≡ Some m → m.leaf < next + 1
case_made next leaf s b x test m same old e = by_source (found_made b x test (record { leaf = leaf; statement = s }) m e)
  where
    by_source : (x ≡ Some m) ⊎ (m.leaf ≡ leaf) → m.leaf < next + 1
    by_source (inl there) = let below = old there in omega (arith, below)
    by_source (inr new) = omega (arith, new, same)

pub sealed_made : (q : Answers) (leaf : ℕ) (s : Statement) → leaf ≡ q.here.leaf → IsSealed q → IsSealed (after q (Made leaf s))
unfolding IsSealed after notes cuts
sealed_made q leaf s next sealed (Prepare site view local number value) m e = case_made q.here.leaf leaf s _ (q.slots.made (AtPrepare view.0 local.0 number.0)) _ m next (sealed (Prepare site view local number value) m) e
sealed_made q leaf s next sealed (Proposal site view local number value) m e = case_made q.here.leaf leaf s _ (q.slots.made (AtProposal view.0 local.0 number.0)) _ m next (sealed (Proposal site view local number value) m) e
sealed_made q leaf s next sealed (Accept site view number value) m e = case_made q.here.leaf leaf s _ (q.slots.made (AtAccept view.0 number.0)) _ m next (sealed (Accept site view number value) m) e
sealed_made q leaf s next sealed (LocalVc site local) m e = case_made q.here.leaf leaf s _ (q.making.vc (OfLocal local.0)) _ m next (sealed (LocalVc site local) m) e
sealed_made q leaf s next sealed (GlobalVc site view) m e = case_made q.here.leaf leaf s _ (q.making.vc (OfGlobal view.0)) _ m next (sealed (GlobalVc site view) m) e
sealed_made q leaf s next sealed (LocalReport site local index view base items) m e = case_made q.here.leaf leaf s _ (q.making.report (OfLocal local.0)) _ m next (sealed (LocalReport site local index view base items) m) e
sealed_made q leaf s next sealed (GlobalReport site view index base items) m e = case_made q.here.leaf leaf s _ (q.making.report (OfGlobal view.0)) _ m next (sealed (GlobalReport site view index base items) m) e
sealed_made q leaf s next sealed (LocalUnion site local greatest base items) m e = case_made q.here.leaf leaf s _ (q.making.union (OfLocal local.0)) _ m next (sealed (LocalUnion site local greatest base items) m) e
sealed_made q leaf s next sealed (GlobalUnion site view base items) m e = case_made q.here.leaf leaf s _ (q.making.union (OfGlobal view.0)) _ m next (sealed (GlobalUnion site view base items) m) e
sealed_made q leaf s next sealed (Reply site client time number result) m e = case_made q.here.leaf leaf s true (q.making.reply number.0) _ m next (sealed (Reply site client time number result) m) e
sealed_made q leaf s next sealed (ClientUpdate update) m e = absurd (let fails : None ≡ Some m = e in cc)

pub sealed_prepared : (q : Answers) (s : Statement) (w : Quorum) → IsSealed q → IsSealed (after q (Prepared s w))
unfolding IsSealed after notes cuts
sealed_prepared q s w sealed (Prepare site view local number value) m e = sealed (Prepare site view local number value) m (found_kept _ (q.slots.made (AtPrepare view.0 local.0 number.0)) m e)
sealed_prepared q s w sealed (Proposal site view local number value) m e = sealed (Proposal site view local number value) m (found_kept _ (q.slots.made (AtProposal view.0 local.0 number.0)) m e)
sealed_prepared q s w sealed (Accept site view number value) m e = sealed (Accept site view number value) m (found_kept _ (q.slots.made (AtAccept view.0 number.0)) m e)
sealed_prepared q s w sealed (LocalVc site local) m e = sealed (LocalVc site local) m (found_kept _ (q.making.vc (OfLocal local.0)) m e)
sealed_prepared q s w sealed (GlobalVc site view) m e = sealed (GlobalVc site view) m (found_kept _ (q.making.vc (OfGlobal view.0)) m e)
sealed_prepared q s w sealed (LocalReport site local index view base items) m e = sealed (LocalReport site local index view base items) m (found_kept _ (q.making.report (OfLocal local.0)) m e)
sealed_prepared q s w sealed (GlobalReport site view index base items) m e = sealed (GlobalReport site view index base items) m (found_kept _ (q.making.report (OfGlobal view.0)) m e)
sealed_prepared q s w sealed (LocalUnion site local greatest base items) m e = sealed (LocalUnion site local greatest base items) m (found_kept _ (q.making.union (OfLocal local.0)) m e)
sealed_prepared q s w sealed (GlobalUnion site view base items) m e = sealed (GlobalUnion site view base items) m (found_kept _ (q.making.union (OfGlobal view.0)) m e)
sealed_prepared q s w sealed (Reply site client time number result) m e = sealed (Reply site client time number result) m (found_alone (q.making.reply number.0) m e)
sealed_prepared q s w sealed (ClientUpdate update) m e = absurd (let fails : None ≡ Some m = e in cc)

pub sealed_accepted : (q : Answers) (s : Statement) (w : Quorum) → IsSealed q → IsSealed (after q (Accepted s w))
unfolding IsSealed after notes cuts
sealed_accepted q s w sealed (Prepare site view local number value) m e = sealed (Prepare site view local number value) m (found_kept _ (q.slots.made (AtPrepare view.0 local.0 number.0)) m e)
sealed_accepted q s w sealed (Proposal site view local number value) m e = sealed (Proposal site view local number value) m (found_kept _ (q.slots.made (AtProposal view.0 local.0 number.0)) m e)
sealed_accepted q s w sealed (Accept site view number value) m e = sealed (Accept site view number value) m (found_kept _ (q.slots.made (AtAccept view.0 number.0)) m e)
sealed_accepted q s w sealed (LocalVc site local) m e = sealed (LocalVc site local) m (found_kept _ (q.making.vc (OfLocal local.0)) m e)
sealed_accepted q s w sealed (GlobalVc site view) m e = sealed (GlobalVc site view) m (found_kept _ (q.making.vc (OfGlobal view.0)) m e)
sealed_accepted q s w sealed (LocalReport site local index view base items) m e = sealed (LocalReport site local index view base items) m (found_kept _ (q.making.report (OfLocal local.0)) m e)
sealed_accepted q s w sealed (GlobalReport site view index base items) m e = sealed (GlobalReport site view index base items) m (found_kept _ (q.making.report (OfGlobal view.0)) m e)
sealed_accepted q s w sealed (LocalUnion site local greatest base items) m e = sealed (LocalUnion site local greatest base items) m (found_kept _ (q.making.union (OfLocal local.0)) m e)
sealed_accepted q s w sealed (GlobalUnion site view base items) m e = sealed (GlobalUnion site view base items) m (found_kept _ (q.making.union (OfGlobal view.0)) m e)
sealed_accepted q s w sealed (Reply site client time number result) m e = sealed (Reply site client time number result) m (found_alone (q.making.reply number.0) m e)
sealed_accepted q s w sealed (ClientUpdate update) m e = absurd (let fails : None ≡ Some m = e in cc)

pub sealed_executed : (q : Answers) (n : Number) (p : Proof) → IsSealed q → IsSealed (after q (Executed n p))
unfolding IsSealed after notes cuts
sealed_executed q n p sealed (Prepare site view local number value) m e = sealed (Prepare site view local number value) m (found_kept _ (q.slots.made (AtPrepare view.0 local.0 number.0)) m e)
sealed_executed q n p sealed (Proposal site view local number value) m e = sealed (Proposal site view local number value) m (found_kept _ (q.slots.made (AtProposal view.0 local.0 number.0)) m e)
sealed_executed q n p sealed (Accept site view number value) m e = sealed (Accept site view number value) m (found_kept _ (q.slots.made (AtAccept view.0 number.0)) m e)
sealed_executed q n p sealed (LocalVc site local) m e = sealed (LocalVc site local) m (found_kept _ (q.making.vc (OfLocal local.0)) m e)
sealed_executed q n p sealed (GlobalVc site view) m e = sealed (GlobalVc site view) m (found_kept _ (q.making.vc (OfGlobal view.0)) m e)
sealed_executed q n p sealed (LocalReport site local index view base items) m e = sealed (LocalReport site local index view base items) m (found_kept _ (q.making.report (OfLocal local.0)) m e)
sealed_executed q n p sealed (GlobalReport site view index base items) m e = sealed (GlobalReport site view index base items) m (found_kept _ (q.making.report (OfGlobal view.0)) m e)
sealed_executed q n p sealed (LocalUnion site local greatest base items) m e = sealed (LocalUnion site local greatest base items) m (found_kept _ (q.making.union (OfLocal local.0)) m e)
sealed_executed q n p sealed (GlobalUnion site view base items) m e = sealed (GlobalUnion site view base items) m (found_kept _ (q.making.union (OfGlobal view.0)) m e)
sealed_executed q n p sealed (Reply site client time number result) m e = sealed (Reply site client time number result) m (found_alone (q.making.reply number.0) m e)
sealed_executed q n p sealed (ClientUpdate update) m e = absurd (let fails : None ≡ Some m = e in cc)

-- what is heard makes nothing
pub sealed_heard : (q : Answers) (h : Heard) → IsSealed q → IsSealed (hears q h)
unfolding IsSealed hears takes cuts
sealed_heard q h sealed (Prepare site view local number value) m e = sealed (Prepare site view local number value) m e
sealed_heard q h sealed (Proposal site view local number value) m e = sealed (Proposal site view local number value) m e
sealed_heard q h sealed (Accept site view number value) m e = sealed (Accept site view number value) m e
sealed_heard q h sealed (LocalVc site local) m e = sealed (LocalVc site local) m e
sealed_heard q h sealed (GlobalVc site view) m e = sealed (GlobalVc site view) m e
sealed_heard q h sealed (LocalReport site local index view base items) m e = sealed (LocalReport site local index view base items) m e
sealed_heard q h sealed (GlobalReport site view index base items) m e = sealed (GlobalReport site view index base items) m e
sealed_heard q h sealed (LocalUnion site local greatest base items) m e = sealed (LocalUnion site local greatest base items) m e
sealed_heard q h sealed (GlobalUnion site view base items) m e = sealed (GlobalUnion site view base items) m e
sealed_heard q h sealed (Reply site client time number result) m e = sealed (Reply site client time number result) m e
sealed_heard q h sealed (ClientUpdate update) m e = sealed (ClientUpdate update) m e

-- at first nothing is made
pub sealed_nothing : (seat : Seat) → IsSealed (nothing seat)
unfolding IsSealed nothing
sealed_nothing seat (Prepare site view local number value) m e = absurd (let fails : None ≡ Some m = e in cc)
sealed_nothing seat (Proposal site view local number value) m e = absurd (let fails : None ≡ Some m = e in cc)
sealed_nothing seat (Accept site view number value) m e = absurd (let fails : None ≡ Some m = e in cc)
sealed_nothing seat (LocalVc site local) m e = absurd (let fails : None ≡ Some m = e in cc)
sealed_nothing seat (GlobalVc site view) m e = absurd (let fails : None ≡ Some m = e in cc)
sealed_nothing seat (LocalReport site local index view base items) m e = absurd (let fails : None ≡ Some m = e in cc)
sealed_nothing seat (GlobalReport site view index base items) m e = absurd (let fails : None ≡ Some m = e in cc)
sealed_nothing seat (LocalUnion site local greatest base items) m e = absurd (let fails : None ≡ Some m = e in cc)
sealed_nothing seat (GlobalUnion site view base items) m e = absurd (let fails : None ≡ Some m = e in cc)
sealed_nothing seat (Reply site client time number result) m e = absurd (let fails : None ≡ Some m = e in cc)
sealed_nothing seat (ClientUpdate update) m e = absurd (let fails : None ≡ Some m = e in cc)
