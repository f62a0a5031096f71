-- A correct server in the course of an event: what its answers tell of its records, and what stands behind these.
use Rattle.std.specs.Prelude.{◌≡◌, ℕ, true, false, Some, None, List}
use Rattle.st_words.specs.declared.statement.Statement.{Statement}
use Rattle.st_message.specs.declared.change.Change.{Change}
use Rattle.st_message.specs.declared.change.Change.TheVariants.{EnterLocal, EnterGlobal, Made, Prepared, Accepted, Union}
use Rattle.st_message.specs.declared.event.Output.{Output}
use Rattle.st_message.specs.declared.event.Plan.{Plan}
use Rattle.st_message.specs.declared.step.Form.{Form}
use Rattle.st_message.specs.declared.step.Form.TheVariants as forms
use Rattle.st_message.specs.declared.step.Out.{Out}
use Rattle.st_message.specs.declared.step.Out.TheVariants.{Make, Send}
use Rattle.st_message.specs.declared.step.Step.{Step}
use Rattle.st_counts.specs.Counts.{Has, AllOf}
use Rattle.st_agreement.specs.MiniSteps.{Backed, IsCurrent}
use Rattle.st_agreement.specs.Records.{made_of, unions_of, view_of, local_of, executed_of}
use Rattle.st_agreement.specs.Rules.{History}
use Rattle.st_agreement.specs.Sites.{Sites}
use Rattle.st_agreement.specs.Statements.{local_union, global_union}
use Rattle.st_agreement.specs.Runs.{MayRecord}
use Rattle.st_agreement.specs.Worlds.{World}
use Rattle.st_protocol.specs.Words.{site_of}
use Rattle.st_protocol.specs.World.{handed}
use Rattle.st_answer_laws.specs.Plain.{onto}
use Rattle.st_protocol.specs.State.{Place, Term, OfLocal, OfGlobal, at_place, at_vc, at_union, at_reply, open_place, Sealing, Held, Answers}

-- A local union that is held as recorded.
abbrev pub IsHeldLocal : ℕ → ℕ → Held → List Change → Type 0
IsHeldLocal s l u rs = Has (local_union s l u.greatest u.base u.items) (unions_of rs)

-- A site's union that is held as recorded.
abbrev pub IsHeldGlobal : ℕ → ℕ → Held → List Change → Type 0
IsHeldGlobal s g u rs = Has (global_union s g u.base u.items) (unions_of rs)

-- What the answers tell of the records behind them, whatever else was heard.
pub record Tells (q : Answers) (rs : List Change) : Type 0 where
  pub view : q.here.view ≡ view_of rs
  pub local : q.here.local ≡ local_of rs
  pub executed : q.here.executed ≡ executed_of rs
  -- a statement that was made in a slot is there, and in an open slot none else is
  pub made : (p : Place) (m : Sealing) → q.slots.made p ≡ Some m → Has m.statement (made_of rs) × (at_place p m.statement ≡ true)
  pub unmade : (p : Place) → open_place q.here p ≡ true → q.slots.made p ≡ None → (t : Statement) → Has t (made_of rs) → at_place p t ≡ false
  -- other statements that were made are there
  pub vc : (t : Term) (m : Sealing) → q.making.vc t ≡ Some m → Has m.statement (made_of rs) × (at_vc t m.statement ≡ true)
  pub union : (t : Term) (m : Sealing) → q.making.union t ≡ Some m → Has m.statement (made_of rs) × (at_union t m.statement ≡ true)
  pub reply : (n : ℕ) (m : Sealing) → q.making.reply n ≡ Some m → Has m.statement (made_of rs) × (at_reply n m.statement ≡ true)
  -- unions that are held were recorded
  pub local_held : (l s : ℕ) (u : Held) → q.unions (OfLocal l) s ≡ Some u → IsHeldLocal s l u rs
  pub global_held : (g s : ℕ) (u : Held) → q.unions (OfGlobal g) s ≡ Some u → IsHeldGlobal s g u rs

-- A correct server of site s, in a world: each record was allowed by those before it and has behind it what it needs,
-- and the answers are of these records.
pub record Support (d : Sites) (w : World) (s : ℕ) (q : Answers) (rs : List Change) : Type 0 where
  pub site : q.here.seat.site ≡ s
  pub sites : q.here.seat.sites ≡ d.sites
  pub faults : q.here.seat.f ≡ d.faults s
  pub tells : Tells q rs
  pub history : History d s rs
  pub backed : (c : Change) → Has c rs → Backed d w s c

-- ---- what goes out

-- What goes out with an own seal is over a statement that these records have, and that is current.
abbrev pub MayHand : ℕ → List Change → Output → Type 0
MayHand s rs o = (leaf : ℕ) (t : Statement) → o.leaf ≡ Some leaf → handed s o.message ≡ Some t → Has t (made_of rs) × IsCurrent t rs

-- an assignment is of the own site
abbrev pub OfSite : ℕ → Form → Statement → Type 0
OfSite s (forms.Assign seal) t = site_of t ≡ s
OfSite s _ t = Unit {0}

-- what a part puts out is so
abbrev pub MayPut : ℕ → List Change → Out → Type 0
MayPut s rs (Make t form to) = OfSite s form t × (Has t (made_of rs) × IsCurrent t rs)
MayPut s rs (Send m to) = Unit {0}

-- ---- plans and steps

-- A plan's changes may be recorded after these records, one after the other, and then its outputs be handed out.
pub record MayPlan (d : Sites) (w : World) (s : ℕ) (rs : List Change) (plan : Plan) : Type 0 where
  pub may : MayRecord d w s rs plan.changes
  pub hands : AllOf (MayHand s (onto plan.changes rs)) plan.outputs

-- a change that enters no view and executes nothing, and so has nothing follow
abbrev pub IsSimple : Change → Type 0
IsSimple (Made leaf t) = Unit {0}
IsSimple (Prepared t q) = Unit {0}
IsSimple (Accepted t q) = Unit {0}
IsSimple (Union t q) = Unit {0}
IsSimple _ = ⊥

-- a change that enters no view
abbrev pub IsSteady : Change → Type 0
IsSteady (EnterLocal l q) = ⊥
IsSteady (EnterGlobal g q) = ⊥
IsSteady _ = Unit {0}

-- A step of such changes may be taken after these records.
pub record MayStep (d : Sites) (w : World) (s : ℕ) (rs : List Change) (step : Step) : Type 0 where
  pub simple : AllOf IsSimple step.changes
  pub may : MayRecord d w s rs step.changes
  pub puts : AllOf (MayPut s (onto step.changes rs)) step.out
