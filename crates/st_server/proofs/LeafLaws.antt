-- What the tables take does not depend on the next leaf.
use Rattle.std.proofs.Common.{◌≡◌, ◌∙◌, sym, ℕ, ◌&&◌, ◌||◌, not, Bool, true, List, [], ◌∷◌, IsTrue, refl}
use Rattle.std.proofs.lemmas.Bool.{and_from}
use Rattle.st_words.specs.declared.statement.Statement.{Statement}
use Rattle.st_words.specs.declared.statement.Statement.TheVariants.{Prepare, Proposal, Accept, LocalVc, GlobalVc, LocalReport, GlobalReport, LocalUnion, GlobalUnion, Reply, ClientUpdate}
use Rattle.st_seal.specs.declared.quorum.Signed.{Signed}
use Rattle.st_message.specs.declared.change.Heard.{Heard}
use Rattle.st_message.specs.declared.message.Message.{Message}
use Rattle.st_message.specs.declared.message.Message.TheVariants as messages
use Rattle.st_message.specs.declared.step.Step.{Step}
use Rattle.st_protocol.specs.Words.{Quorum}
use Rattle.st_protocol.specs.State.{Here}
use Rattle.st_state.specs.Placed.{Fits, is_taken, is_own_kind, is_kept_kind, all_placed, all_executed, all_taken, here_after_all}
use Rattle.st_server.specs.Bounds.{all_low, all_low_heard}
use Rattle.st_server.specs.Ready.{is_ready, are_ready, IsAlike}

own_certificate : (k : Here) (leaf : ℕ) (s : Statement) (q : Quorum) → is_own_kind (record k { leaf = leaf }) (messages.Certificate s q) ≡ is_own_kind k (messages.Certificate s q)
own_certificate k leaf (Prepare z g l n v) q = refl
own_certificate k leaf (Proposal z g l n v) q = refl
own_certificate k leaf (Accept z g n v) q = refl
own_certificate k leaf (LocalVc z l) q = refl
own_certificate k leaf (GlobalVc z g) q = refl
own_certificate k leaf (LocalReport z l i g b is) q = refl
own_certificate k leaf (GlobalReport z g i b is) q = refl
own_certificate k leaf (LocalUnion z l g b is) q = refl
own_certificate k leaf (GlobalUnion z g b is) q = refl
own_certificate k leaf (Reply z c t n r) q = refl
own_certificate k leaf (ClientUpdate u) q = refl

kept_certificate : (k : Here) (leaf : ℕ) (s : Statement) (q : Quorum) → is_kept_kind (record k { leaf = leaf }) (messages.Certificate s q) ≡ is_kept_kind k (messages.Certificate s q)
kept_certificate k leaf (Prepare z g l n v) q = refl
kept_certificate k leaf (Proposal z g l n v) q = refl
kept_certificate k leaf (Accept z g n v) q = refl
kept_certificate k leaf (LocalVc z l) q = refl
kept_certificate k leaf (GlobalVc z g) q = refl
kept_certificate k leaf (LocalReport z l i g b is) q = refl
kept_certificate k leaf (GlobalReport z g i b is) q = refl
kept_certificate k leaf (LocalUnion z l g b is) q = refl
kept_certificate k leaf (GlobalUnion z g b is) q = refl
kept_certificate k leaf (Reply z c t n r) q = refl
kept_certificate k leaf (ClientUpdate u) q = refl

kept_share : (k : Here) (leaf : ℕ) (s : Statement) (signed : Signed) → is_kept_kind (record k { leaf = leaf }) (messages.Share s signed) ≡ is_kept_kind k (messages.Share s signed)
kept_share k leaf (Prepare z g l n v) signed = refl
kept_share k leaf (Proposal z g l n v) signed = refl
kept_share k leaf (Accept z g n v) signed = refl
kept_share k leaf (LocalVc z l) signed = refl
kept_share k leaf (GlobalVc z g) signed = refl
kept_share k leaf (LocalReport z l i g b is) signed = refl
kept_share k leaf (GlobalReport z g i b is) signed = refl
kept_share k leaf (LocalUnion z l g b is) signed = refl
kept_share k leaf (GlobalUnion z g b is) signed = refl
kept_share k leaf (Reply z c t n r) signed = refl
kept_share k leaf (ClientUpdate u) signed = refl

own_kind : (k : Here) (leaf : ℕ) (m : Message) → is_own_kind (record k { leaf = leaf }) m ≡ is_own_kind k m
own_kind k leaf (messages.Certificate s q) = own_certificate k leaf s q
own_kind k leaf (messages.Share s signed) = refl
own_kind k leaf (messages.Update u seal) = refl
own_kind k leaf (messages.Assign g l n v seal signed) = refl
own_kind k leaf (messages.OrderProof n p) = refl
own_kind k leaf (messages.Report r) = refl
own_kind k leaf (messages.Bundle rs) = refl
own_kind k leaf (messages.ViewProof ws) = refl
own_kind k leaf (messages.Ask server n g l) = refl
own_kind k leaf (messages.Reply s signed) = refl

kept_kind : (k : Here) (leaf : ℕ) (m : Message) → is_kept_kind (record k { leaf = leaf }) m ≡ is_kept_kind k m
kept_kind k leaf (messages.Certificate s q) = kept_certificate k leaf s q
kept_kind k leaf (messages.Share s signed) = kept_share k leaf s signed
kept_kind k leaf (messages.Update u seal) = refl
kept_kind k leaf (messages.Assign g l n v seal signed) = refl
kept_kind k leaf (messages.OrderProof n p) = refl
kept_kind k leaf (messages.Report r) = refl
kept_kind k leaf (messages.Bundle rs) = refl
kept_kind k leaf (messages.ViewProof ws) = refl
kept_kind k leaf (messages.Ask server n g l) = refl
kept_kind k leaf (messages.Reply s signed) = refl

taken_leaf : (k : Here) (leaf : ℕ) (m : Heard) → is_taken (record k { leaf = leaf }) m ≡ is_taken k m
taken_leaf k leaf m = λ i. (m.own && own_kind k leaf m.message i) || (not m.own && kept_kind k leaf m.message i)

taken_alike : (h k : Here) → IsAlike h k → (m : Heard) → is_taken h m ≡ is_taken k m
taken_alike h k alike m =
    (λ i. is_taken (record { seat = alike.seat i; view = alike.view i; local = alike.local i; executed = alike.executed i; leaf = h.leaf }) m) ∙ taken_leaf k h.leaf m

pub all_taken_alike : (h k : Here) → IsAlike h k → (ms : List Heard) → all_taken h ms ≡ all_taken k ms
all_taken_alike h k alike [] = refl
all_taken_alike h k alike (m ∷ ms) = λ i. taken_alike h k alike m i && all_taken_alike h k alike ms i

-- what a step changes may be recorded, and what it hears may then be kept
pub step_changes : (h : Here) (step : Step) → Fits h step → IsTrue (all_low step.changes) → IsTrue (is_ready h step.changes)
step_changes h step fits low = and_from (all_placed h step.changes || all_executed h step.changes) (all_low step.changes) (first (all_placed h step.changes) (all_executed h step.changes) fits.placed) low
  where
    first : (a b : Bool) → a ≡ true → (a || b) ≡ true
    first a b e = rw e refl

pub step_heard : (h k : Here) (step : Step) → Fits h step → IsTrue (all_low_heard step.heard) → IsAlike (here_after_all h step.changes) k → IsTrue (are_ready k step.heard)
step_heard h k step fits low alike = and_from (all_taken k step.heard) (all_low_heard step.heard) (sym (all_taken_alike (here_after_all h step.changes) k alike step.heard) ∙ fits.taken) low
