-- What goes out is sealed with the leaf with which it was made.
use Rattle.std.proofs.Common.{◌≡◌, ◌≢◌, ◌∙◌, ap, sym, subst, ℕ, ◌<◌, Option, Some, None, [], ◌∷◌, ◌++◌, IfSome, refl}
use Rattle.st_words.specs.declared.ids.SiteId.{SiteId}
use Rattle.st_words.specs.declared.ids.ClientId.{ClientId}
use Rattle.st_words.specs.declared.ids.View.{View}
use Rattle.st_words.specs.declared.ids.LocalView.{LocalView}
use Rattle.st_words.specs.declared.ids.Number.{Number}
use Rattle.st_words.specs.declared.value.Value.{Value}
use Rattle.st_words.specs.declared.statement.Statement.{Statement}
use Rattle.st_words.specs.declared.statement.Statement.TheVariants.{Prepare, Proposal, Accept, LocalVc, GlobalVc, LocalReport, GlobalReport, LocalUnion, GlobalUnion, Reply, ClientUpdate}
use Rattle.st_seal.specs.declared.quorum.Signed.{Signed}
use Rattle.st_message.specs.declared.event.Output.{Output}
use Rattle.st_message.specs.declared.event.Scope.{Scope}
use Rattle.st_message.specs.declared.step.Form.{Form}
use Rattle.st_message.specs.declared.step.Out.{Out}
use Rattle.st_message.specs.declared.step.Out.TheVariants.{Make}
use Rattle.st_protocol.specs.Words.{Bytes}
use Rattle.st_protocol.specs.Keeping.{given}
use Rattle.st_protocol.specs.State.{Here, Answers, Sealing, OfLocal, OfGlobal}
use Rattle.st_protocol.specs.Duty.{Course, Pen, emits, puts, sealed, sealing_of, message_of}
use Rattle.st_live.specs.declared.live.Live.{Live}
use Rattle.st_live.specs.LiveView.{IsLive}
use Rattle.st_live.proofs.LiveLaws.{here_is}
use Rattle.st_server.specs.declared.draft.Draft.{Draft}
use Rattle.st_server.specs.Draw.{Draws, IsDrawn}
use Rattle.st_server.specs.Replying.{leaf_in}
use Rattle.st_server.proofs.DrawLaws.{draws_put, made_below, no_vc, no_report, no_union}

-- a statement of no slot that isn't a Reply was never made
pub other_leaf : (live : Live) (q : Answers) (s : Statement) → IsLive live q
    → ((site : SiteId) (view : View) (local : LocalView) (n : Number) (v : Value) → s ≢ Prepare site view local n v)
    → ((site : SiteId) (view : View) (local : LocalView) (n : Number) (v : Value) → s ≢ Proposal site view local n v)
    → ((site : SiteId) (view : View) (n : Number) (v : Value) → s ≢ Accept site view n v)
    → ((site : SiteId) (client : ClientId) (time : ℕ) (n : Number) (outcome : Bytes) → s ≢ Reply site client time n outcome)
    → None ≡ leaf_in (sealing_of q s)
other_leaf live q (Prepare site view local n v) stands no_prepare no_proposal no_accept no_reply = absurd (no_prepare site view local n v refl)
other_leaf live q (Proposal site view local n v) stands no_prepare no_proposal no_accept no_reply = absurd (no_proposal site view local n v refl)
other_leaf live q (Accept site view n v) stands no_prepare no_proposal no_accept no_reply = absurd (no_accept site view n v refl)
other_leaf live q (Reply site client time n outcome) stands no_prepare no_proposal no_accept no_reply = absurd (no_reply site client time n outcome refl)
other_leaf live q (LocalVc site local) stands no_prepare no_proposal no_accept no_reply = sym (ap leaf_in (no_vc live q stands (OfLocal local.0)))
other_leaf live q (GlobalVc site view) stands no_prepare no_proposal no_accept no_reply = sym (ap leaf_in (no_vc live q stands (OfGlobal view.0)))
other_leaf live q (LocalReport site local index view base items) stands no_prepare no_proposal no_accept no_reply = sym (ap leaf_in (no_report live q stands (OfLocal local.0)))
other_leaf live q (GlobalReport site view index base items) stands no_prepare no_proposal no_accept no_reply = sym (ap leaf_in (no_report live q stands (OfGlobal view.0)))
other_leaf live q (LocalUnion site local greatest base items) stands no_prepare no_proposal no_accept no_reply = sym (ap leaf_in (no_union live q stands (OfLocal local.0)))
other_leaf live q (GlobalUnion site view base items) stands no_prepare no_proposal no_accept no_reply = sym (ap leaf_in (no_union live q stands (OfGlobal view.0)))
other_leaf live q (ClientUpdate update) stands no_prepare no_proposal no_accept no_reply = refl

-- the leaf with which a statement was made is below the key's capacity
pub leaf_below : (made : ℕ → Option Sealing) (draft : Draft) (way : Course) (s : Statement) (leaf : Option ℕ) (capacity : ℕ) → Draws made draft way
    → leaf ≡ leaf_in (sealing_of way.now s) → capacity ≡ draft.live.here.capacity → IfSome leaf (λ k. k < capacity)
leaf_below made draft way s leaf capacity draws is same =
    subst (λ (c : ℕ). IfSome leaf (λ k. k < c)) (sym same) (subst (λ (x : Option ℕ). IfSome x (λ k. k < draft.live.here.capacity)) (sym is) (by (sealing_of way.now s) refl))
  where
    by : (x : Option Sealing) → sealing_of way.now s ≡ x → IfSome (leaf_in x) (λ k. k < draft.live.here.capacity)
    by None e = tt
    by (Some m) e = made_below made draft way s m draws e

-- the server's own seal
abbrev pub own_signed : Pen → Draft → Option ℕ → Statement → Signed
own_signed pen draft leaf s = record { index = draft.live.here.me.index; seal = given leaf [] (λ k. pen k s) }

-- what goes out of a statement
abbrev pub own_output : Pen → Draft → Statement → Form → Scope → Option ℕ → Output
own_output pen draft s form to leaf = record { message = message_of form s (own_signed pen draft leaf s); to = to; leaf = leaf }

pub sealed_is : (pen : Pen) (made : ℕ → Option Sealing) (draft : Draft) (way : Course) (s : Statement) (form : Form) (to : Scope) (leaf : Option ℕ) → Draws made draft way
    → leaf ≡ leaf_in (sealing_of way.now s) → own_output pen draft s form to leaf ≡ sealed pen way.now (Make s form to)
sealed_is pen made draft way s form to leaf draws is =
    subst (λ (x : Option ℕ). own_output pen draft s form to x ≡ sealed pen way.now (Make s form to)) (sym is) (by (sealing_of way.now s))
  where
    index : draft.live.here.me.index ≡ way.now.here.seat.index
    index = ap (λ (h : Here). h.seat.index) (here_is draft.live way.now draws.now)

    by : (x : Option Sealing) → own_output pen draft s form to (leaf_in x)
        ≡ record { message = message_of form s (record { index = way.now.here.seat.index; seal = given x [] (λ m. pen m.leaf s) }); to = to; leaf = leaf_in x }
    by None = λ i. record { message = message_of form s (record { index = index i; seal = [] }); to = to; leaf = None }
    by (Some m) = λ i. record { message = message_of form s (record { index = index i; seal = pen m.leaf s }); to = to; leaf = Some m.leaf }

pub draws_emit : (made : ℕ → Option Sealing) (old new : Draft) (pen : Pen) (way : Course) (out : Out) (o : Output) → Draws made old way → o ≡ sealed pen way.now out → new.live ≡ old.live
    → new.changes ≡ old.changes → new.heard ≡ old.heard → new.outputs ≡ old.outputs ++ o ∷ [] → Draws made new (emits pen way out)
unfolding emits
draws_emit made old new pen way out o draws is live changes heard outputs =
    draws_put made old new way (sealed pen way.now out) draws live changes heard (outputs ∙ ap (λ (x : Output). old.outputs ++ x ∷ []) is)

pub drawn_emit : (made : ℕ → Option Sealing) (old new : Draft) (pen : Pen) (out : Out)
    → ((way : Course) → Draws made old way → Draws made new (emits pen way out)) → IsDrawn made old → IsDrawn made new
unfolding emits puts
drawn_emit made old new pen out step drawn = record { way = emits pen drawn.way out; draws = step drawn.way drawn.draws; bound = drawn.bound }
