-- A local view or a view is entered, and the report on it is made: it covers what was prepared, or accepted. One text for both: `global` is whether a view is entered.
use Rattle.std.proofs.Common.{◌≡◌, ℕ, ◌+◌, ◌<◌, ◌≤◌, ◌⊎◌, Bool, true, false, cond, nat_eq, nat_lt, List, [], ◌∷◌, ◌++◌, refl, sym, ◌∙◌, ap, subst, inl, inr, ⊎_elim, arith}
use Rattle.std.specs.Prelude.{◌&&◌, ◌||◌, Option, Some, None}
use Rattle.std.proofs.lemmas.Bool.{eq-eqb, lt-ltb}
use Rattle.st_words.specs.declared.deployment.TheConstants.{WINDOW}
use Rattle.st_words.specs.declared.ids.LocalView.{LocalView}
use Rattle.st_words.specs.declared.ids.View.{View}
use Rattle.st_words.specs.declared.value.Value.{Value}
use Rattle.st_words.specs.declared.statement.Statement.{Statement}
use Rattle.st_message.specs.declared.message.SiteWord.{SiteWord}
use Rattle.st_message.specs.declared.change.Change.{Change}
use Rattle.st_message.specs.declared.change.Change.TheVariants.{EnterLocal, EnterGlobal, Made, Prepared, Accepted, Executed}
use Rattle.st_message.specs.declared.change.Heard.{Heard}
use Rattle.st_message.specs.declared.event.Output.{Output}
use Rattle.st_message.specs.declared.step.Out.{Out}
use Rattle.st_counts.specs.Counts.{Has, AllOf}
use Rattle.st_agreement.specs.MiniSteps.{Invariant, Backed as BackedBy, BackedMade, IsCurrent}
use Rattle.st_agreement.specs.Records.{executed_of}
use Rattle.st_agreement.specs.Rules.{Allowed, History}
use Rattle.st_agreement.specs.Sites.{Sites, AreSites}
use Rattle.st_agreement.specs.Worlds as plain
use Rattle.st_agreement.proofs.HistoryLaws.{prepared-recorded, accepted-recorded}
use Rattle.st_protocol.specs.Words.{Quorum}
use Rattle.st_protocol.specs.Keeping.{higher, open_if, gathered, highest_of, joined}
use Rattle.st_protocol.specs.State.{Backed, backed_view, backed_local, Seat, Here, Slots, Answers}
use Rattle.st_protocol.specs.Questions.{prepared_in, accepted_in, here_of, questions}
use Rattle.st_protocol.specs.Growth.{after}
use Rattle.st_protocol.specs.Collecting.{make_report, report_statement}
use Rattle.st_protocol.specs.Duty.{Pen, Course, begins, records, keeps_all, emits, base_proof, reports_as, reports, carries_change, carries}
use Rattle.st_protocol.specs.World.{Deployment, World, seat_of}
use Rattle.st_protocol.proofs.FieldLaws.{changes_records}
use Rattle.st_answer_laws.specs.Sound.{IsSoundHeard}
use Rattle.st_ranges.specs.Deployments.{KeepsRanges}
use Rattle.st_answer_laws.specs.Fair.{HasFewFaulty}
use Rattle.st_answer_laws.specs.Plain.{onto, newest, sites_in, plain_of}
use Rattle.st_answer_laws.specs.Support.{Support, MayHand, MayPut}
use Rattle.st_answer_laws.proofs.ForcedLaws.{some-is}
use Rattle.st_answer_laws.proofs.RecordLaws.{onto-append, newest-push, onto-has}
use Rattle.st_answer_laws.proofs.ViewLaws.{held_by, held_as, kept_by, Keeps, report-may}
use Rattle.st_answer_laws.proofs.WayLaws.{may-append, OnCourse, body-last, on-begins, on-records, on-keeps, on-emits, on-heard}
use Rattle.st_refinement_laws.proofs.PlanLaws.{context-on}

-- ---- the highest that is picked

module _ {A : Type 0} (view local : A → ℕ) where
  -- at least as high
  abbrev pub High : A → A → Type 0
  High a b = (view a < view b) ⊎ ((view a ≡ view b) × (local a ≤ local b))

  abbrev pub Over : A → Option A → Type 0
  Over a o = (b : A) × ((o ≡ Some b) × High a b)

  over-trans : (a b c : A) → High a b → High b c → High a c
  over-trans a b c (inl x) (inl y) = inl (omega (arith, x, y))
  over-trans a b c (inl x) (inr y) = inl (omega (arith, x, y.0))
  over-trans a b c (inr x) (inl y) = inl (omega (arith, x.0, y))
  over-trans a b c (inr x) (inr y) = inr (x.0 ∙ y.0, omega (arith, x.1, y.1))

  -- the first is higher or as high, or the second is higher
  compared : (a b : A) (t : Bool) → (nat_lt (view a) (view b) || (nat_eq (view a) (view b) && nat_lt (local a) (local b))) ≡ t → cond t (High a b) (High b a)
  compared a b true e = by_lower (nat_lt (view a) (view b)) refl e
    where
      by_lower : (t : Bool) → nat_lt (view a) (view b) ≡ t → (t || (nat_eq (view a) (view b) && nat_lt (local a) (local b))) ≡ true → High a b
      by_lower true is f = inl (grind (arith, is))
      by_lower false is f = inr (grind (arith, f), grind (arith, f))
  compared a b false e = by_lower (nat_lt (view a) (view b)) refl e
    where
      by_equal : (t : Bool) → nat_lt (view a) (view b) ≡ false → nat_eq (view a) (view b) ≡ t → (t && nat_lt (local a) (local b)) ≡ false → High b a
      by_equal true is same g = inr (grind (arith, same), grind (arith, g))
      by_equal false is other g = inl (grind (arith, other, is))

      by_lower : (t : Bool) → nat_lt (view a) (view b) ≡ t → (t || (nat_eq (view a) (view b) && nat_lt (local a) (local b))) ≡ false → High b a
      by_lower true is f = absurd (let no_ : true ≡ false = f in cc)
      by_lower false is f = by_equal (nat_eq (view a) (view b)) is refl f

  left : (c : A) (x y : Option A) → Over c x → Over c (higher view local x y)
  left c None y h = absurd (let none : None ≡ Some h.0 = h.1.0 in cc)
  left c (Some a) None h = h
  left c (Some a) (Some b) h = by_test _ refl
    where
      first : High c a
      first = subst (λ (z : A). High c z) (sym (some-is a h.0 h.1.0)) h.1.1

      by_test : (t : Bool) → (nat_lt (view a) (view b) || (nat_eq (view a) (view b) && nat_lt (local a) (local b))) ≡ t → Over c (cond t (Some b) (Some a))
      by_test true e = (b, (refl, over-trans c a b first (compared a b true e)))
      by_test false e = (a, (refl, first))

  right : (c : A) (x y : Option A) → Over c y → Over c (higher view local x y)
  right c None y h = h
  right c (Some a) None h = absurd (let none : None ≡ Some h.0 = h.1.0 in cc)
  right c (Some a) (Some b) h = by_test _ refl
    where
      second : High c b
      second = subst (λ (z : A). High c z) (sym (some-is b h.0 h.1.0)) h.1.1

      by_test : (t : Bool) → (nat_lt (view a) (view b) || (nat_eq (view a) (view b) && nat_lt (local a) (local b))) ≡ t → Over c (cond t (Some b) (Some a))
      by_test true e = (b, (refl, second))
      by_test false e = (a, (refl, over-trans c b a second (compared a b false e)))

  -- the highest is as high as each
  highest-over : {X : Type 0} (pick : X → Option A) (xs : List X) (x : X) (a : A) → Has x xs → pick x ≡ Some a → Over a (highest_of view local pick xs)
  unfolding gathered
  highest-over pick [] x a has e = absurd has
  highest-over pick (y ∷ ys) x a (inl same) e = left a (pick y) (highest_of view local pick ys) (a, (ap pick (sym same) ∙ e, inr (refl, omega arith)))
  highest-over pick (y ∷ ys) x a (inr among) e = right a (pick y) (highest_of view local pick ys) (highest-over pick ys x a among e)

-- ---- what the answers keep of what was prepared or accepted

-- the change that holds such a statement, and what is picked of it for a number
abbrev holds : Bool → Statement → Quorum → Change
holds false t q = Prepared t q
holds true t q = Accepted t q

abbrev picks : Bool → ℕ → Change → Option Backed
picks false = prepared_in
picks true = accepted_in

-- it was recorded
recorded : (global : Bool) (rs : List Change) (t : Statement) → Has t (held_by global rs) → (q : Quorum) × Has (holds global t q) rs
recorded false rs t has = prepared-recorded rs t has
recorded true rs t has = accepted-recorded rs t has

-- it is picked
picked : (global : Bool) (s g l n : ℕ) (v : Value) (q : Quorum) → picks global n (holds global (held_as global s g l n v) q) ≡ Some (record { view = g; local = l; value = v; quorum = q })
picked false s g l n v q = let b : Backed = record { view = g; local = l; value = v; quorum = q } in ap (λ t. cond t (Some b) None) (eq-eqb n n refl)
picked true s g l n v q = let b : Backed = record { view = g; local = l; value = v; quorum = q } in ap (λ t. cond t (Some b) None) (eq-eqb n n refl)

-- of an open number the highest is kept
keeps-highest : (global : Bool) (seat : Seat) (bodies : List (List Change)) (heard : List Heard) (n : ℕ) → (questions seat bodies heard).here.executed < n →
    kept_by global (questions seat bodies heard) n ≡ highest_of backed_view backed_local (picks global n) (joined bodies)
unfolding questions here_of
keeps-highest false seat bodies heard n above = ap (λ t. open_if t (highest_of backed_view backed_local (prepared_in n) (joined bodies))) (lt-ltb (here_of seat (joined bodies)).executed n above)
keeps-highest true seat bodies heard n above = ap (λ t. open_if t (highest_of backed_view backed_local (accepted_in n) (joined bodies))) (lt-ltb (here_of seat (joined bodies)).executed n above)

-- So the answers keep of each a value at least as high, where all are in the window.
pub keeps : (global : Bool) (seat : Seat) (bodies : List (List Change)) (heard : List Heard) →
    ((s g l n : ℕ) (v : Value) → Has (held_as global s g l n v) (held_by global (newest bodies)) → n ≤ (questions seat bodies heard).here.executed + WINDOW) → Keeps global (questions seat bodies heard) (newest bodies)
keeps global seat bodies heard window =
    record {
      kept = λ s g l n v has above.
          let by = recorded global (newest bodies) (held_as global s g l n v) has in
          let c : Change = holds global (held_as global s g l n v) by.0 in
          let there : Has c (joined bodies) = ⊎_elim (λ among. among) (λ none. absurd none) (onto-has c (joined bodies) [] by.1) in
          let over = highest-over backed_view backed_local (picks global n) (joined bodies) c (record { view = g; local = l; value = v; quorum = by.0 }) there (picked global s g l n v by.0) in
          (over.0, (keeps-highest global seat bodies heard n above ∙ over.1.0, over.1.1));
      window = window;
    }

-- ---- the window, by the history

-- what was executed grows
executed-kept : (c : Change) (rs : List Change) → executed_of rs ≤ executed_of (c ∷ rs)
executed-kept (Executed n p) rs = omega arith
executed-kept _ rs = omega arith

-- each record was allowed by those before it, when no more was executed than now
allowed-by : (d : Sites) (s : ℕ) (rs : List Change) (c : Change) → History d s rs → Has c rs → (older : List Change) × (Allowed d s c older × (executed_of older ≤ executed_of rs))
allowed-by d s [] c history has = absurd has
allowed-by d s (x ∷ rs) c history (inl same) = (rs, (subst (λ (y : Change). Allowed d s y rs) (sym same) history.0, executed-kept x rs))
allowed-by d s (x ∷ rs) c history (inr among) = let by = allowed-by d s rs c history.1 among in (by.0, (by.1.0, omega (arith, by.1.1, executed-kept x rs)))

-- What was prepared or accepted is of a number in the window, or below it.
pub in-window : (global : Bool) (d : Sites) (s : ℕ) (rs : List Change) → History d s rs → (s2 g l n : ℕ) (v : Value) → Has (held_as global s2 g l n v) (held_by global rs) → n ≤ executed_of rs + WINDOW
in-window false d s rs history s2 g l n v has =
    let by = recorded false rs (held_as false s2 g l n v) has in let at = allowed-by d s rs (holds false (held_as false s2 g l n v) by.0) history by.1 in omega (arith, at.1.0.3, at.1.1)
in-window true d s rs history s2 g l n v has =
    let by = recorded true rs (held_as true s2 g l n v) has in let at = allowed-by d s rs (holds true (held_as true s2 g l n v) by.0) history by.1 in omega (arith, at.1.0.2, at.1.1)

-- ---- a course that enters

-- a report has nothing behind it, and is current always
report-stands : (global : Bool) (d : Sites) (w : plain.World) (s : ℕ) (here : Here) (slots : Slots) (rs : List Change) → BackedMade d w s (report_statement here slots global) × IsCurrent (report_statement here slots global) rs
report-stands false d w s here slots rs = (tt, tt)
report-stands true d w s here slots rs = (tt, tt)

module _ {Wire : Type 0} (d : Deployment Wire) (world : World Wire) (s k : ℕ) (seat : Seat) (bodies : List (List Change)) (heard : List Heard) where
  abbrev On : Course → Type 0
  On way = OnCourse d world s k seat bodies heard way

  -- a change after which nothing that went out would be current comes before all that goes out
  on-enters : (way : Course) (c : Change) → way.outputs ≡ [] → Allowed (sites_in d) s c (onto way.changes (newest bodies)) → BackedBy (sites_in d) (plain_of d world) s c → On way → On (records way c)
  unfolding records
  on-enters way c none allowed backed on =
      record {
        follows = ap (λ a. after a c) on.follows ∙ sym (body-last d world s k seat bodies heard (heard ++ way.heard) way.changes c);
        may = may-append (sites_in d) (plain_of d world) s (newest bodies) way.changes (c ∷ []) on.may (allowed, (backed, tt));
        hands = subst (λ (os : List Output). AllOf (MayHand s (onto (way.changes ++ c ∷ []) (newest bodies))) os) (sym none) tt;
        sound = on.sound;
      }

  -- The report of the view that the server is in: it is made, sent, and noted.
  on-report : (global : Bool) (pen : Pen) (way : Course) → Support (sites_in d) (plain_of d world) s way.now (onto way.changes (newest bodies)) → On way → On (reports pen global way)
  unfolding reports reports_as
  on-report global pen way support on =
      let rs : List Change = onto way.changes (newest bodies) in
      let o : Out = make_report way.now.here way.now.slots (base_proof way.now) global in
      let t : Statement = report_statement way.now.here way.now.slots global in
      let x : Change = Made way.now.here.leaf t in
      let longer : List (List Change) = bodies ++ way.changes ∷ [] in
      let same : newest longer ≡ rs = newest-push bodies way.changes in
      let window : (s2 g l n : ℕ) (v : Value) → Has (held_as global s2 g l n v) (held_by global rs) → n ≤ way.now.here.executed + WINDOW =
      λ s2 g l n v has. omega (arith, in-window global (sites_in d) s rs support.history s2 g l n v has, support.tells.executed) in
      let at_q : Keeps global (questions seat longer (heard ++ way.heard)) (newest longer) =
      keeps global seat longer (heard ++ way.heard)
      (λ s2 g l n v has. subst (λ (a : Answers). n ≤ a.here.executed + WINDOW) on.follows (window s2 g l n v (subst (λ (z : List Change). Has (held_as global s2 g l n v) (held_by global z)) same has))) in
      let kept : Keeps global way.now rs = subst (λ (z : List Change). Keeps global way.now z) same (subst (λ (a : Answers). Keeps global a (newest longer)) (sym on.follows) at_q) in
      let stands = report-stands global (sites_in d) (plain_of d world) s way.now.here way.now.slots (x ∷ rs) in
      let made : On (records way x) =
      on-records d world s k seat bodies heard way x tt (report-may global (sites_in d) (plain_of d world) s way.now rs support kept) stands.0 on in
      let more : onto (records way x).changes (newest bodies) ≡ x ∷ rs = ap (λ z. onto z (newest bodies)) (changes_records way x) ∙ onto-append way.changes (x ∷ []) (newest bodies) in
      on-keeps d world s k seat bodies heard (emits pen (records way x) o) _ (λ own. absurd (let no_ : true ≡ false = own in cc))
      (on-emits d world s k seat bodies heard pen (records way x) o (subst (λ (z : List Change). MayPut s z o) (sym more) (tt, (inl refl, stands.1))) made)

-- ---- a step that enters

module _ {Wire : Type 0} (d : Deployment Wire) (world : World Wire) (few : HasFewFaulty d) (ranges : KeepsRanges d) (sites : AreSites (sites_in d)) (s k : ℕ) (exists : s < d.sites) (correct : Has k ((sites_in d).correct s))
    (inv : Invariant (sites_in d) (plain_of d world)) (sound_heard : AllOf (IsSoundHeard d world) (world.nodes s k).heard) where
  -- the answers before the event
  abbrev pub before : Answers
  before = questions (seat_of d s k) (world.nodes s k).bodies (world.nodes s k).heard

  abbrev Way : Course → Type 0
  Way way = OnCourse d world s k (seat_of d s k) (world.nodes s k).bodies (world.nodes s k).heard way

  -- what the answers before the event tell
  told : Support (sites_in d) (plain_of d world) s before (newest (world.nodes s k).bodies)
  unfolding begins
  told = (context-on d world few ranges sites s k exists correct inv sound_heard (begins before) (on-begins d world s k (seat_of d s k) (world.nodes s k).bodies (world.nodes s k).heard)).support

  -- a step that enters, and keeps what is sound
  enters : (global : Bool) (pen : Pen) (c : Change) (kept : List Heard) → AllOf (IsSoundHeard d world) kept → Allowed (sites_in d) s c (newest (world.nodes s k).bodies) → BackedBy (sites_in d) (plain_of d world) s c →
      carries_change pen (begins before) c ≡ reports pen global (records (begins before) c) → Way (carries pen (begins before) (record { changes = c ∷ []; heard = kept; out = [] }))
  unfolding carries begins
  enters global pen c kept sound allowed backed follows =
      let seat : Seat = seat_of d s k in
      let bodies : List (List Change) = (world.nodes s k).bodies in
      let heard : List Heard = (world.nodes s k).heard in
      let entered : Way (records (begins before) c) = on-enters d world s k seat bodies heard (begins before) c refl allowed backed (on-begins d world s k seat bodies heard) in
      let support = (context-on d world few ranges sites s k exists correct inv sound_heard (records (begins before) c) entered).support in
      subst (λ (way : Course). Way (keeps_all way kept)) (sym follows)
      (on-heard d world s k seat bodies heard (reports pen global (records (begins before) c)) kept sound (on-report d world s k seat bodies heard global pen (records (begins before) c) support entered)).0

  -- A step that enters a local view above the present one.
  pub enters-local : (pen : Pen) (x : LocalView) (q : Quorum) (kept : List Heard) → AllOf (IsSoundHeard d world) kept → before.here.local < x.0 →
      Way (carries pen (begins before) (record { changes = EnterLocal x q ∷ []; heard = kept; out = [] }))
  unfolding carries_change
  enters-local pen x q kept sound above = enters false pen (EnterLocal x q) kept sound (omega (arith, above, told.tells.local)) tt refl

  -- A step that enters a view above the present one.
  pub enters-view : (pen : Pen) (x : View) (q : List SiteWord) (kept : List Heard) → AllOf (IsSoundHeard d world) kept → before.here.view < x.0 →
      Way (carries pen (begins before) (record { changes = EnterGlobal x q ∷ []; heard = kept; out = [] }))
  unfolding carries_change
  enters-view pen x q kept sound above = enters true pen (EnterGlobal x q) kept sound (omega (arith, above, told.tells.view)) tt refl
