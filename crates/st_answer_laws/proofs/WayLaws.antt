-- A step that may be taken is carried out along a course, and the course's changes may be recorded.
use Rattle.std.proofs.Common.{◌≡◌, ℕ, ◌+◌, Bool, true, false, cond, List, [], ◌∷◌, ◌++◌, refl, sym, ◌∙◌, ap, subst, inl, ⊎_elim, append_assoc, append-nil}
use Rattle.std.specs.Prelude.{Some, None}
use Rattle.st_words.specs.declared.statement.Statement.{Statement}
use Rattle.st_words.specs.declared.statement.Statement.TheVariants.{Prepare, Proposal, Accept}
use Rattle.st_seal.specs.declared.quorum.Signed.{Signed}
use Rattle.st_message.specs.declared.change.Change.{Change}
use Rattle.st_message.specs.declared.change.Change.TheVariants.{EnterLocal, EnterGlobal, Made, Prepared, Accepted, Union, Executed}
use Rattle.st_message.specs.declared.change.Heard.{Heard}
use Rattle.st_message.specs.declared.event.Output.{Output}
use Rattle.st_message.specs.declared.event.Scope.{Scope}
use Rattle.st_message.specs.declared.step.Form.{Form}
use Rattle.st_message.specs.declared.step.Form.TheVariants as forms
use Rattle.st_message.specs.declared.step.Out.{Out}
use Rattle.st_message.specs.declared.step.Out.TheVariants.{Make, Send}
use Rattle.st_message.specs.declared.step.Step.{Step}
use Rattle.st_counts.specs.Counts.{Has, AllOf}
use Rattle.st_agreement.specs.MiniSteps.{Backed, BackedMade, IsCurrent}
use Rattle.st_agreement.specs.Records.{made_of, executed_of}
use Rattle.st_agreement.specs.Rules.{Allowed, History, Makes}
use Rattle.st_agreement.specs.Runs.{MayRecord}
use Rattle.st_agreement.specs.Sites.{Sites}
use Rattle.st_agreement.specs.Worlds as plain
use Rattle.st_agreement.proofs.HistoryLaws.{made-kept}
use Rattle.st_words.specs.declared.value.Value.{Value}
use Rattle.st_words.specs.declared.value.Value.TheVariants as values
use Rattle.st_registers.specs.Tests.{IsChosen}
use Rattle.std.specs.Prelude.{◌%◌, ◌&&◌, nat_eq, nat_lt}
use Rattle.st_protocol.specs.Words.{site_of, a_reply, to_client_at}
use Rattle.st_protocol.specs.State.{Seat, Answers}
use Rattle.st_protocol.specs.Questions.{here_of, questions}
use Rattle.st_protocol.specs.Step.{then, when, idle}
use Rattle.st_protocol.specs.Duty.{Pen, Course, begins, records, keeps, puts, emits, makes, replies, sealed, message_of, signed_by, carries_change, carries_changes, keeps_all, emits_all, carries}
use Rattle.st_protocol.specs.World.{Deployment, World, handed}
use Rattle.st_protocol.proofs.FieldLaws.{changes_makes, changes_records, changes_keeps, changes_emits}
use Rattle.st_protocol.proofs.QuestionLaws.{one_body, one_heard}
use Rattle.st_protocol.specs.Growth.{after, hears}
use Rattle.std.proofs.lemmas.List.Sums.{fold_push}
use Rattle.st_answer_laws.specs.Plain.{onto, newest, sites_in, plain_of}
use Rattle.st_answer_laws.specs.Sound.{IsSoundHeard}
use Rattle.st_answer_laws.specs.Support.{MayHand, OfSite, MayPut, IsSimple, IsSteady, MayStep}
use Rattle.st_answer_laws.proofs.RecordLaws.{onto-append}

-- ---- lists

pub all-append : {A : Type 0} (P : A → Type 0) (xs ys : List A) → AllOf P xs → AllOf P ys → AllOf P (xs ++ ys)
all-append P [] ys h k = k
all-append P (x ∷ xs) ys h k = (h.0, all-append P xs ys h.1 k)

pub all-map : {A : Type 0} (P Q : A → Type 0) (xs : List A) → ((x : A) → P x → Q x) → AllOf P xs → AllOf Q xs
all-map P Q [] f h = tt
all-map P Q (x ∷ xs) f h = (f x h.0, all-map P Q xs f h.1)

-- ---- one more change may be recorded

pub may-append : (d : Sites) (w : plain.World) (s : ℕ) (rs xs ys : List Change) → MayRecord d w s rs xs → MayRecord d w s (onto xs rs) ys → MayRecord d w s rs (xs ++ ys)
may-append d w s rs [] ys h k = k
may-append d w s rs (x ∷ xs) ys h k = (h.0, (h.1.0, may-append d w s (x ∷ rs) xs ys h.1.1 k))

-- the history with them
pub may-history : (d : Sites) (w : plain.World) (s : ℕ) (rs xs : List Change) → History d s rs → MayRecord d w s rs xs → History d s (onto xs rs)
may-history d w s rs [] history may = history
may-history d w s rs (x ∷ xs) history may = may-history d w s (x ∷ rs) xs (may.0, history) may.1.1

-- and what stands behind them
pub may-backed : (d : Sites) (w : plain.World) (s : ℕ) (rs xs : List Change) → ((c : Change) → Has c rs → Backed d w s c) → MayRecord d w s rs xs → (c : Change) → Has c (onto xs rs) → Backed d w s c
may-backed d w s rs [] backed may = backed
may-backed d w s rs (x ∷ xs) backed may =
    may-backed d w s (x ∷ rs) xs (λ c has. ⊎_elim (λ (same : c ≡ x). subst (λ y. Backed d w s y) (sym same) may.1.0) (λ among. backed c among) has) may.1.1

-- ---- simple changes

-- a simple change enters no view
simple-steady : (x : Change) → IsSimple x → IsSteady x
simple-steady (EnterLocal l q) simple = simple
simple-steady (EnterGlobal g q) simple = simple
simple-steady _ simple = tt

-- the views stay
current-steady : (t : Statement) (x : Change) (rs : List Change) → IsSteady x → IsCurrent t rs → IsCurrent t (x ∷ rs)
current-steady t (EnterLocal l q) rs steady c = absurd steady
current-steady t (EnterGlobal g q) rs steady c = absurd steady
current-steady t (Made k u) rs steady c = by_statement t c
  where
    by_statement : (x : Statement) → IsCurrent x rs → IsCurrent x (Made k u ∷ rs)
    by_statement (Proposal s g l n v) h = h
    by_statement (Accept s g n v) h = h
    by_statement _ h = tt
current-steady t (Prepared u q) rs steady c = by_statement t c
  where
    by_statement : (x : Statement) → IsCurrent x rs → IsCurrent x (Prepared u q ∷ rs)
    by_statement (Proposal s g l n v) h = h
    by_statement (Accept s g n v) h = h
    by_statement _ h = tt
current-steady t (Accepted u q) rs steady c = by_statement t c
  where
    by_statement : (x : Statement) → IsCurrent x rs → IsCurrent x (Accepted u q ∷ rs)
    by_statement (Proposal s g l n v) h = h
    by_statement (Accept s g n v) h = h
    by_statement _ h = tt
current-steady t (Union u q) rs steady c = by_statement t c
  where
    by_statement : (x : Statement) → IsCurrent x rs → IsCurrent x (Union u q ∷ rs)
    by_statement (Proposal s g l n v) h = h
    by_statement (Accept s g n v) h = h
    by_statement _ h = tt
current-steady t (Executed n p) rs steady c = by_statement t c
  where
    by_statement : (x : Statement) → IsCurrent x rs → IsCurrent x (Executed n p ∷ rs)
    by_statement (Proposal s g l m v) h = h
    by_statement (Accept s g m v) h = h
    by_statement _ h = tt

-- what may be put out still may
put-simple : (s : ℕ) (x : Change) (rs : List Change) (o : Out) → IsSimple x → MayPut s rs o → MayPut s (x ∷ rs) o
put-simple s x rs (Make t form to) simple h = (h.0, (made-kept x rs t h.1.0, current-steady t x rs (simple-steady x simple) h.1.1))
put-simple s x rs (Send m to) simple h = tt

pub puts-simple : (s : ℕ) (xs rs : List Change) (os : List Out) → AllOf IsSimple xs → AllOf (MayPut s rs) os → AllOf (MayPut s (onto xs rs)) os
puts-simple s [] rs os simple h = h
puts-simple s (x ∷ xs) rs os simple h = puts-simple s xs (x ∷ rs) os simple.1 (all-map (MayPut s rs) (MayPut s (x ∷ rs)) os (λ o k. put-simple s x rs o simple.0 k) h)

-- ---- steps put together

pub then-may : (d : Sites) (w : plain.World) (s : ℕ) (rs : List Change) (a b : Step) → MayStep d w s rs a → MayStep d w s (onto a.changes rs) b → MayStep d w s rs (then a b)
then-may d w s rs a b first next =
    record {
      simple = all-append IsSimple a.changes b.changes first.simple next.simple;
      may = may-append d w s rs a.changes b.changes first.may next.may;
      puts = subst (λ z. AllOf (MayPut s z) (a.out ++ b.out)) (sym (onto-append a.changes b.changes rs))
          (all-append (MayPut s (onto b.changes (onto a.changes rs))) a.out b.out (puts-simple s b.changes (onto a.changes rs) a.out next.simple first.puts) next.puts);
    }

pub idle-may : (d : Sites) (w : plain.World) (s : ℕ) (rs : List Change) → MayStep d w s rs idle
idle-may d w s rs = record { simple = tt; may = tt; puts = tt }

pub when-may : (d : Sites) (w : plain.World) (s : ℕ) (rs : List Change) (b : Bool) (a : Step) → (b ≡ true → MayStep d w s rs a) → MayStep d w s rs (when b a)
when-may d w s rs true a h = h refl
when-may d w s rs false a h = idle-may d w s rs

-- ---- what is sealed

-- a statement of the own site goes out in any form
pub of-site : (s : ℕ) (form : Form) (t : Statement) → site_of t ≡ s → OfSite s form t
of-site s (forms.Assign c) t site = site
of-site s forms.Share t site = tt
of-site s (forms.Report qs base) t site = tt
of-site s forms.Reply t site = tt

-- a sealed statement is the one that goes out
handed-is : (s : ℕ) (form : Form) (t u : Statement) (signed : Signed) → OfSite s form t → handed s (message_of form t signed) ≡ Some u → t ≡ u
handed-is s forms.Share t u signed site e = some t u e
  where
    some : (x y : Statement) → Some x ≡ Some y → x ≡ y
    some x y f = cc
handed-is s (forms.Assign c) (Prepare s2 g l n v) u signed site e = (λ i. Prepare (record { 0 = site i }) g l n v) ∙ some _ u e
  where
    some : (x y : Statement) → Some x ≡ Some y → x ≡ y
    some x y f = cc
handed-is s (forms.Assign c) t u signed site e = cc
handed-is s (forms.Report qs base) t u signed site e = cc
handed-is s forms.Reply t u signed site e = cc

-- ---- a course

module _ {Wire : Type 0} (d : Deployment Wire) (world : World Wire) where
  -- numbers from this one on are executed, of values that are chosen
  abbrev pub AreExecutions : ℕ → List Change → Type 0
  AreExecutions m [] = Unit {0}
  AreExecutions m (Executed n p ∷ xs) = (n.0 ≡ m) × (IsChosen (plain.outside (sites_in d) (plain_of d world) n.0) p.value × AreExecutions (m + 1) xs)
  AreExecutions m (_ ∷ xs) = ⊥

module _ {Wire : Type 0} (d : Deployment Wire) (world : World Wire) (s k : ℕ) (seat : Seat) (bodies : List (List Change)) (heard : List Heard) where
  -- the body with one change more
  pub body-last : (h : List Heard) (xs : List Change) (x : Change) → questions seat (bodies ++ (xs ++ x ∷ []) ∷ []) h ≡ after (questions seat (bodies ++ xs ∷ []) h) x
  body-last h xs x =
      one_body seat bodies h (xs ++ x ∷ []) ∙ fold_push after (questions seat bodies h) xs x ∙ ap (λ q. after q x) (sym (one_body seat bodies h xs))

  -- A course on its way: the answers are those of the longer lists, its changes may be recorded, and then what it puts out
  -- be handed out; and what it heard is sound.
  pub record OnCourse (way : Course) : Type 0 where
    pub follows : way.now ≡ questions seat (bodies ++ way.changes ∷ []) (heard ++ way.heard)
    pub may : MayRecord (sites_in d) (plain_of d world) s (newest bodies) way.changes
    pub hands : AllOf (MayHand s (onto way.changes (newest bodies))) way.outputs
    pub sound : AllOf (IsSoundHeard d world) way.heard

  -- it begins
  pub on-begins : OnCourse (begins (questions seat bodies heard))
  unfolding begins
  on-begins =
      record {
        follows = sym (one_body seat bodies heard []) ∙ ap (questions seat (bodies ++ [] ∷ [])) (sym (append-nil heard));
        may = tt;
        hands = tt;
        sound = tt;
      }

  -- what was put out may still be handed out
  hand-steady : (x : Change) (rs : List Change) (o : Output) → IsSteady x → MayHand s rs o → MayHand s (x ∷ rs) o
  hand-steady x rs o steady h leaf t e f = (made-kept x rs t (h leaf t e f).0, current-steady t x rs steady (h leaf t e f).1)

  -- a change that enters no view is recorded
  pub on-records : (way : Course) (x : Change) → IsSteady x → Allowed (sites_in d) s x (onto way.changes (newest bodies)) → Backed (sites_in d) (plain_of d world) s x → OnCourse way → OnCourse (records way x)
  unfolding records
  on-records way x steady allowed backed on =
      let rs : List Change = onto way.changes (newest bodies) in
      record {
        follows = ap (λ q. after q x) on.follows ∙ sym (body-last (heard ++ way.heard) way.changes x);
        may = may-append (sites_in d) (plain_of d world) s (newest bodies) way.changes (x ∷ []) on.may (allowed, (backed, tt));
        hands = subst (λ (z : List Change). AllOf (MayHand s z) way.outputs) (sym (onto-append way.changes (x ∷ []) (newest bodies)))
            (all-map (MayHand s rs) (MayHand s (x ∷ rs)) way.outputs (λ o h. hand-steady x rs o steady h) on.hands);
        sound = on.sound;
      }

  -- something heard is kept
  pub on-keeps : (way : Course) (m : Heard) → IsSoundHeard d world m → OnCourse way → OnCourse (keeps way m)
  unfolding keeps
  on-keeps way m sound on =
      record {
        follows = ap (λ q. hears q m) on.follows ∙ sym (one_heard seat (bodies ++ way.changes ∷ []) (heard ++ way.heard) m)
            ∙ ap (questions seat (bodies ++ way.changes ∷ [])) (append_assoc heard way.heard (m ∷ []));
        may = on.may;
        hands = on.hands;
        sound = all-append (IsSoundHeard d world) way.heard (m ∷ []) on.sound (sound, tt);
      }

  -- what may be put out goes out
  pub on-emits : (pen : Pen) (way : Course) (o : Out) → MayPut s (onto way.changes (newest bodies)) o → OnCourse way → OnCourse (emits pen way o)
  unfolding emits puts
  on-emits pen way (Make t form to) put on =
      record {
        follows = on.follows;
        may = on.may;
        hands = all-append (MayHand s (onto way.changes (newest bodies))) way.outputs (sealed pen way.now (Make t form to) ∷ []) on.hands (
          (λ leaf u e f. subst (λ (x : Statement). Has x (made_of (onto way.changes (newest bodies))) × IsCurrent x (onto way.changes (newest bodies)))
              (handed-is s form t u (signed_by pen way.now t) put.0 f) put.1),
          tt,
        );
        sound = on.sound;
      }
  on-emits pen way (Send m to) put on =
      record {
        follows = on.follows;
        may = on.may;
        hands = all-append (MayHand s (onto way.changes (newest bodies))) way.outputs (sealed pen way.now (Send m to) ∷ []) on.hands
            ((λ leaf u e f. absurd (let none : None ≡ Some leaf = e in cc)), tt);
        sound = on.sound;
      }

  -- ---- a step carried out

  -- a simple change has nothing follow
  simple-carried : (pen : Pen) (way : Course) (x : Change) → IsSimple x → carries_change pen way x ≡ records way x
  unfolding carries_change
  simple-carried pen way (Made n t) simple = refl
  simple-carried pen way (Prepared t q) simple = refl
  simple-carried pen way (Accepted t q) simple = refl
  simple-carried pen way (Union t q) simple = refl
  simple-carried pen way (EnterLocal l q) simple = absurd simple
  simple-carried pen way (EnterGlobal g q) simple = absurd simple
  simple-carried pen way (Executed n p) simple = absurd simple

  -- simple changes, one after the other
  pub on-changes : (pen : Pen) (way : Course) (xs : List Change) → AllOf IsSimple xs → MayRecord (sites_in d) (plain_of d world) s (onto way.changes (newest bodies)) xs → OnCourse way →
      OnCourse (carries_changes pen way xs) × ((carries_changes pen way xs).changes ≡ way.changes ++ xs)
  on-changes pen way [] simple may on = (on, sym (append-nil way.changes))
  on-changes pen way (x ∷ xs) simple may on =
      let one : carries_change pen way x ≡ records way x = simple-carried pen way x simple.0 in
      let more : (records way x).changes ≡ way.changes ++ x ∷ [] = changes_records way x in
      let later = on-changes pen (records way x) xs simple.1
      (subst (λ (z : List Change). MayRecord (sites_in d) (plain_of d world) s z xs) (sym (ap (λ z. onto z (newest bodies)) more ∙ onto-append way.changes (x ∷ []) (newest bodies))) may.1.1)
      (on-records way x (simple-steady x simple.0) may.0 may.1.0 on) in
      subst (λ (v : Course). OnCourse (carries_changes pen v xs) × ((carries_changes pen v xs).changes ≡ way.changes ++ x ∷ xs)) (sym one)
      (later.0, later.1 ∙ ap (λ z. z ++ xs) more ∙ append_assoc way.changes (x ∷ []) xs)

  pub on-heard : (way : Course) (ms : List Heard) → AllOf (IsSoundHeard d world) ms → OnCourse way → OnCourse (keeps_all way ms) × ((keeps_all way ms).changes ≡ way.changes)
  on-heard way [] sound on = (on, refl)
  on-heard way (m ∷ ms) sound on = let later = on-heard (keeps way m) ms sound.1 (on-keeps way m sound.0 on) in (later.0, later.1 ∙ changes_keeps way m)

  on-out : (pen : Pen) (way : Course) (os : List Out) → AllOf (MayPut s (onto way.changes (newest bodies))) os → OnCourse way → OnCourse (emits_all pen way os)
  on-out pen way [] puts on = on
  on-out pen way (o ∷ os) may on = on-out pen (emits pen way o) os (subst (λ (z : List Change). AllOf (MayPut s (onto z (newest bodies))) os) (sym (ap (λ z. z) (changes_emits pen way o))) may.1) (on-emits pen way o may.0 on)

  -- A step that may be taken keeps a course on its way.
  pub on-carries : (pen : Pen) (way : Course) (step : Step) → MayStep (sites_in d) (plain_of d world) s (onto way.changes (newest bodies)) step → AllOf (IsSoundHeard d world) step.heard → OnCourse way → OnCourse (carries pen way step)
  unfolding carries
  on-carries pen way step may sound on =
      let changed = on-changes pen way step.changes may.simple may.may on in
      let kept = on-heard (carries_changes pen way step.changes) step.heard sound changed.0 in
      let all : (keeps_all (carries_changes pen way step.changes) step.heard).changes ≡ way.changes ++ step.changes = kept.1 ∙ changed.1 in
      on-out pen (keeps_all (carries_changes pen way step.changes) step.heard) step.out
      (subst (λ (z : List Change). AllOf (MayPut s z) step.out) (sym (ap (λ z. onto z (newest bodies)) all ∙ onto-append way.changes step.changes (newest bodies))) may.puts)
      kept.0

  -- ---- what follows from a change

  -- a statement is made and goes out
  pub on-makes : (pen : Pen) (way : Course) (t : Statement) (form : Form) (to : Scope) → site_of t ≡ s → IsCurrent t (onto way.changes (newest bodies)) → Makes (sites_in d) s t (onto way.changes (newest bodies)) →
      BackedMade (sites_in d) (plain_of d world) s t → OnCourse way → OnCourse (makes pen way t form to)
  unfolding makes
  on-makes pen way t form to site current may backed on =
      let x : Change = Made way.now.here.leaf t in
      let rs : List Change = onto way.changes (newest bodies) in
      let more : onto (records way x).changes (newest bodies) ≡ x ∷ rs = ap (λ z. onto z (newest bodies)) (changes_records way x) ∙ onto-append way.changes (x ∷ []) (newest bodies) in
      on-emits pen (records way x) (Make t form to)
      (subst (λ (z : List Change). MayPut s z (Make t form to)) (sym more) (of-site s form t site, (inl refl, current-steady t x rs tt current)))
      (on-records way x tt may backed on)

  -- where a server stands, its seat is the same
  pub seat-is : (way : Course) → OnCourse way → way.now.here.seat ≡ seat
  unfolding questions here_of
  seat-is way on = ap (λ (q : Answers). q.here.seat) on.follows

  -- the Reply of an executed number
  on-replies : (pen : Pen) (was : Answers) (v : Value) (way : Course) → was.here.seat.site ≡ s → OnCourse way → OnCourse (replies pen was v way)
  unfolding replies
  on-replies pen was values.Noop way site on = on
  on-replies pen was (values.Update u) way site on =
      either (nat_lt (was.log.run.last u.client.0) u.time && nat_eq (u.client.0 % was.here.seat.sites) was.here.seat.site && nat_lt was.here.leaf was.here.seat.capacity)
      (makes pen way (a_reply was.here.seat.site u.client.0 u.time (was.here.executed + 1) (was.here.seat.serve was.log.run.ran u.op)) forms.Reply (to_client_at u.client.0)) way
      (on-makes pen way (a_reply was.here.seat.site u.client.0 u.time (was.here.executed + 1) (was.here.seat.serve was.log.run.ran u.op)) forms.Reply (to_client_at u.client.0) site tt tt tt on) on
    where
      either : (b : Bool) (v w : Course) → OnCourse v → OnCourse w → OnCourse (cond b v w)
      either true v w h k = h
      either false v w h k = k

  -- a Reply executes nothing
  replies-executed : (pen : Pen) (was : Answers) (v : Value) (way : Course) → executed_of (onto (replies pen was v way).changes (newest bodies)) ≡ executed_of (onto way.changes (newest bodies))
  unfolding replies
  replies-executed pen was values.Noop way = refl
  replies-executed pen was (values.Update u) way =
      either (nat_lt (was.log.run.last u.client.0) u.time && nat_eq (u.client.0 % was.here.seat.sites) was.here.seat.site && nat_lt was.here.leaf was.here.seat.capacity)
      (a_reply was.here.seat.site u.client.0 u.time (was.here.executed + 1) (was.here.seat.serve was.log.run.ran u.op))
    where
      either : (b : Bool) (t : Statement) → executed_of (onto (cond b (makes pen way t forms.Reply (to_client_at u.client.0)) way).changes (newest bodies)) ≡ executed_of (onto way.changes (newest bodies))
      either true t = ap (λ z. executed_of (onto z (newest bodies))) (changes_makes pen way t forms.Reply (to_client_at u.client.0)) ∙ ap executed_of (onto-append way.changes (Made way.now.here.leaf t ∷ []) (newest bodies))
      either false t = refl

  -- numbers are executed, one after the other
  pub on-executions : (pen : Pen) (way : Course) (xs : List Change) → seat.site ≡ s → AreExecutions d world (executed_of (onto way.changes (newest bodies)) + 1) xs → OnCourse way → OnCourse (carries_changes pen way xs)
  unfolding carries_change
  on-executions pen way [] site all on = on
  on-executions pen way (Executed n p ∷ xs) site all on =
      let next : Course = replies pen way.now p.value (records way (Executed n p)) in
      let more : executed_of (onto next.changes (newest bodies)) ≡ executed_of (onto way.changes (newest bodies)) + 1 =
      replies-executed pen way.now p.value (records way (Executed n p))
      ∙ ap (λ z. executed_of (onto z (newest bodies))) (changes_records way (Executed n p))
      ∙ ap executed_of (onto-append way.changes (Executed n p ∷ []) (newest bodies)) in
      on-executions pen next xs site (subst (λ z. AreExecutions d world (z + 1) xs) (sym more) all.1.1)
      (on-replies pen way.now p.value (records way (Executed n p)) (ap (λ (x : Seat). x.site) (seat-is way on) ∙ site) (on-records way (Executed n p) tt all.0 all.1.0 on))
  on-executions pen way (EnterLocal l q ∷ xs) site all on = absurd all
  on-executions pen way (EnterGlobal g q ∷ xs) site all on = absurd all
  on-executions pen way (Made l q ∷ xs) site all on = absurd all
  on-executions pen way (Prepared l q ∷ xs) site all on = absurd all
  on-executions pen way (Accepted l q ∷ xs) site all on = absurd all
  on-executions pen way (Union l q ∷ xs) site all on = absurd all
