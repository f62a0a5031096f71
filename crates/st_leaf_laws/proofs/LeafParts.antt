-- What each part of a server makes is new, with the next leaves, and what it sends with a leaf was made.
use Rattle.std.proofs.Common.{◌≡◌, ℕ, ◌+◌, Bool, true, false, zero, suc, nat_eq, nat_lt, nat_le, List, [], ◌∷◌, ◌++◌, sym, subst, refl, ◌∙◌, ap, arith, inl, inr, append_assoc, append-nil}
use Rattle.std.proofs.lemmas.Bool.{leb-false, le-leb, lt-ltb, and_from}
use Rattle.std.specs.Prelude.{◌||◌, Option, Some, None, is_some}
use Rattle.std.specs.List.{AllByRecursion as Each}
use Rattle.st_words.specs.declared.deployment.TheConstants.{WINDOW}
use Rattle.st_words.specs.declared.value.Update.{Update}
use Rattle.st_words.specs.declared.value.Value.{Value}
use Rattle.st_words.specs.declared.statement.Item.{Item}
use Rattle.st_words.specs.declared.statement.Statement.{Statement}
use Rattle.st_words.specs.declared.statement.Statement.TheVariants.{Prepare, Proposal, Accept, LocalVc, GlobalVc, LocalReport, GlobalReport, LocalUnion, GlobalUnion, Reply, ClientUpdate}
use Rattle.st_seal.specs.declared.quorum.Signed.{Signed}
use Rattle.st_message.specs.declared.message.SiteWord.{SiteWord}
use Rattle.st_message.specs.declared.message.ReportBody.{ReportBody}
use Rattle.st_message.specs.declared.message.Message.{Message}
use Rattle.st_message.specs.declared.message.Message.TheVariants as messages
use Rattle.st_message.specs.declared.event.Scope.{Scope}
use Rattle.st_message.specs.declared.event.Scope.TheVariants as scopes
use Rattle.st_message.specs.declared.change.Change.{Change}
use Rattle.st_message.specs.declared.change.Change.TheVariants.{EnterLocal, EnterGlobal, Made, Prepared, Accepted, Union, Executed}
use Rattle.st_message.specs.declared.change.Heard.{Heard}
use Rattle.st_message.specs.declared.step.Form.{Form}
use Rattle.st_message.specs.declared.step.Form.TheVariants as forms
use Rattle.st_message.specs.declared.step.Out.{Out}
use Rattle.st_message.specs.declared.step.Out.TheVariants.{Make, Send}
use Rattle.st_message.specs.declared.step.Step.{Step}
use Rattle.st_protocol.specs.Words.{Bytes, Quorum, a_proposal, an_accept, a_local_vc, a_global_vc, site_of}
use Rattle.st_protocol.specs.Keeping.{given, joined}
use Rattle.st_protocol.specs.State.{OfLocal, OfGlobal, Seat, Here, Sealing, Share, Votes, Asked, Hand, Answers, report_of}
use Rattle.st_protocol.specs.Step.{complete, Answer, Refused, Steps, idle, then, making, recording, keeping, putting, when, all_below, count_below, one_if, out_of_window, to_rep, to_site, completes, completed, majority, not_site, other_view, bound, seen, spent}
use Rattle.st_protocol.specs.Questions.{here_of, is_made, questions}
use Rattle.st_protocol.specs.Growth.{here_after, notes, cuts, after}
use Rattle.st_protocol.specs.Assigning.{update_reasons, update_step, on_update}
use Rattle.st_protocol.specs.Views.{votes_for, has_voted, with_asked, asks_for, word_for, on_local_timeout, on_global_timeout, on_local_share, on_local_proof, on_global_vc, on_view_proof}
use Rattle.st_protocol.specs.Ordering.{proposal_reasons, proposal_step, on_proposal, in_hand, executions, keeps_and_executes}
use Rattle.st_protocol.specs.Collecting.{not_present, union_as, union_items, most, base_in, view_in, union, check_bundle}
use Rattle.st_protocol.specs.Duty.{Pen, union_made, sealing_of, Course, begins, records, keeps, puts, emits, carries_change, carries_changes, keeps_all}
use Rattle.st_frame_laws.proofs.ChoiceLaws.{either, chosen_any, not_false}
use Rattle.st_frame_laws.proofs.CourseFrame.{ChangesFit, HeardFits, OutFits, StepFits, AnswerFits, each_change}
use Rattle.st_frame_laws.proofs.PartFrame.{AnswerHas, decides_fits}
use Rattle.st_frame_laws.proofs.NodeFrame.{here_then}
use Rattle.st_leaf_laws.specs.Records.{key_of, IsNotAbove}
use Rattle.st_leaf_laws.proofs.LeafFacts.{IsNext, IsMade, made_before, made_tail, made_end, each_made_push}
use Rattle.st_leaf_laws.proofs.LeafKeys.{NoneAt, is_open, sealing_missing, reply_found}
use Rattle.st_leaf_laws.proofs.LeafRecords.{IsNew, OfSeat, StandsBelow, NoLower, no_lower, same_level, rises, below_more}
use Rattle.st_leaf_laws.proofs.LeafCourse.{Higher, so_far, LeafWay, Cl, Ml, MadeIn, Ol}

-- ---- changes that nothing follows of

abbrev pub IsPlain : Change → Type 0
IsPlain (EnterLocal x q) = ⊥
IsPlain (EnterGlobal y words) = ⊥
IsPlain (Executed n p) = ⊥
IsPlain _ = Unit {0}

carries_plain : (pen : Pen) (w : Course) (x : Change) → IsPlain x → carries_change pen w x ≡ records w x
unfolding carries_change
carries_plain pen w (EnterLocal x q) h = absurd h
carries_plain pen w (EnterGlobal y words) h = absurd h
carries_plain pen w (Executed n p) h = absurd h
carries_plain pen w (Made leaf s) h = refl
carries_plain pen w (Prepared s q) h = refl
carries_plain pen w (Accepted s q) h = refl
carries_plain pen w (Union s q) h = refl

-- one more change, where the server stands at `here`: plain, with the next leaf, new, not above
pub record FreshOne (seat : Seat) (here : Here) (k : ℕ) (xs : List Change) (x : Change) : Type 0 where
  pub plain : IsPlain x
  pub next : IsNext k x
  pub new : IsNew xs x
  pub below : StandsBelow here x
  pub site : OfSeat seat x

abbrev pub Fresh : Seat → Here → ℕ → List Change → List Change → Type 0
Fresh seat here k xs [] = Unit {0}
Fresh seat here k xs (x ∷ more) = FreshOne seat here k xs x × Fresh seat here (k + one_if (is_made x)) (xs ++ x ∷ []) more

-- where a plain change leaves the server
leaf_then : (w : Course) (x : Change) → IsPlain x → (records w x).now.here.leaf ≡ w.now.here.leaf + one_if (is_made x)
unfolding records after notes cuts
leaf_then w (EnterLocal x q) h = absurd h
leaf_then w (EnterGlobal y words) h = absurd h
leaf_then w (Executed n p) h = absurd h
leaf_then w (Made leaf s) h = refl
leaf_then w (Prepared s q) h = omega arith
leaf_then w (Accepted s q) h = omega arith
leaf_then w (Union s q) h = omega arith

-- what isn't above a state isn't above one that is no lower
stands : (a b : Here) (x : Change) → NoLower a b → StandsBelow a x → StandsBelow b x
stands a b (Made leaf s) u h = below_more a b s u h
stands a b _ u h = tt

-- a change that makes nothing and of which nothing follows
abbrev pub IsQuiet : Change → Type 0
IsQuiet (Prepared s q) = Unit {0}
IsQuiet (Accepted s q) = Unit {0}
IsQuiet (Union s q) = Unit {0}
IsQuiet _ = ⊥

-- a message that is handed on
abbrev pub IsSent : Out → Type 0
IsSent (Make s form to) = ⊥
IsSent (Send m to) = Unit {0}

-- a number that is executed
abbrev pub IsRun : Change → Type 0
IsRun (Executed n p) = Unit {0}
IsRun _ = ⊥

quiet_one : (seat : Seat) (here : Here) (k : ℕ) (xs : List Change) (x : Change) → IsQuiet x → FreshOne seat here k xs x
quiet_one seat here k xs (Prepared s q) h = record { plain = tt; next = tt; new = tt; below = tt; site = tt }
quiet_one seat here k xs (Accepted s q) h = record { plain = tt; next = tt; new = tt; below = tt; site = tt }
quiet_one seat here k xs (Union s q) h = record { plain = tt; next = tt; new = tt; below = tt; site = tt }
quiet_one seat here k xs (EnterLocal x q) h = absurd h
quiet_one seat here k xs (EnterGlobal y words) h = absurd h
quiet_one seat here k xs (Made leaf s) h = absurd h
quiet_one seat here k xs (Executed n p) h = absurd h

module _ (seat : Seat) (bodies : List (List Change)) (heard : List Heard) where
  now_longer : (w : Course) (x : Change) → so_far seat bodies heard (records w x) ≡ so_far seat bodies heard w ++ x ∷ []
  unfolding records
  now_longer w x = sym (append_assoc (joined bodies) w.changes (x ∷ []))

  module _ (pen : Pen) where
    abbrev pub FitsNow : Course → Step → Type 0
    FitsNow w step = StepFits pen (LeafWay seat bodies heard) (Cl seat bodies heard) (Ml seat bodies heard) (Ol seat bodies heard) w step

    -- where the server stands after a plain change
    no_lower_now : (here : Here) (w : Course) (x : Change) → NoLower here w.now.here → NoLower here (records w x).now.here
    unfolding records
    no_lower_now here w x u = subst (NoLower here) (sym (here_then w.now x)) (rises here w.now.here (here_after x w.now.here) u (no_lower w.now.here x))

    -- the rest of the changes, after the first
    rest_is_fresh : (here : Here) (w : Course) (x : Change) (xs : List Change) → IsPlain x → Fresh seat here (w.now.here.leaf + one_if (is_made x)) (so_far seat bodies heard w ++ x ∷ []) xs →
        Fresh seat here (records w x).now.here.leaf (so_far seat bodies heard (records w x)) xs
    rest_is_fresh here w x xs plain h =
        subst (λ k. Fresh seat here k (so_far seat bodies heard (records w x)) xs) (sym (leaf_then w x plain))
        (subst (λ (ys : List Change). Fresh seat here (w.now.here.leaf + one_if (is_made x)) ys xs) (sym (now_longer w x)) h)

    fresh_changes : (here : Here) (w : Course) (xs : List Change) → NoLower here w.now.here → Fresh seat here w.now.here.leaf (so_far seat bodies heard w) xs →
        ChangesFit pen (LeafWay seat bodies heard) (Cl seat bodies heard) (Ml seat bodies heard) (Ol seat bodies heard) w xs
    fresh_changes here w [] u h = tt
    fresh_changes here w (x ∷ xs) u h = (
      record { next = h.0.next; new = h.0.new; below = stands here w.now.here x u h.0.below; site = h.0.site; higher = higher x h.0.plain },
      λ q.
          subst (λ (v : Course). ChangesFit pen (LeafWay seat bodies heard) (Cl seat bodies heard) (Ml seat bodies heard) (Ol seat bodies heard) v xs) (sym (carries_plain pen w x h.0.plain))
          (fresh_changes here (records w x) xs (no_lower_now here w x u) (rest_is_fresh here w x xs h.0.plain h.1)),
    )
      where
        higher : (x : Change) → IsPlain x → Higher seat bodies heard w.now.here x
        higher (EnterLocal x q) p = absurd p
        higher (EnterGlobal y words) p = absurd p
        higher (Executed n p) q = absurd q
        higher (Made leaf s) p = tt
        higher (Prepared s q) p = tt
        higher (Accepted s q) p = tt
        higher (Union s q) p = tt

    fresh_so_far : (here : Here) (w : Course) (xs : List Change) → Fresh seat here w.now.here.leaf (so_far seat bodies heard w) xs → so_far seat bodies heard (carries_changes pen w xs) ≡ so_far seat bodies heard w ++ xs
    fresh_so_far here w [] h = sym (append-nil (so_far seat bodies heard w))
    fresh_so_far here w (x ∷ xs) h =
        ap (λ (v : Course). so_far seat bodies heard (carries_changes pen v xs)) (carries_plain pen w x h.0.plain)
        ∙ (fresh_so_far here (records w x) xs (rest_is_fresh here w x xs h.0.plain h.1)
        ∙ (ap (λ (ys : List Change). ys ++ xs) (now_longer w x) ∙ append_assoc (so_far seat bodies heard w) (x ∷ []) xs))

    heard_so_far : (w : Course) (ms : List Heard) → so_far seat bodies heard (keeps_all w ms) ≡ so_far seat bodies heard w
    unfolding keeps
    heard_so_far w [] = refl
    heard_so_far w (m ∷ ms) = heard_so_far (keeps w m) ms

    out_so_far : (w : Course) (o : Out) → so_far seat bodies heard (emits pen w o) ≡ so_far seat bodies heard w
    unfolding emits puts
    out_so_far w o = refl

    outs_fit : (w : Course) (xs : List Change) (os : List Out) → so_far seat bodies heard w ≡ xs → Each (MadeIn seat bodies heard xs) os →
        OutFits pen (LeafWay seat bodies heard) (Cl seat bodies heard) (Ml seat bodies heard) (Ol seat bodies heard) w os
    outs_fit w xs [] e h = tt
    outs_fit w xs (o ∷ os) e h = (subst (λ (ys : List Change). MadeIn seat bodies heard ys o) (sym e) h.0, λ q. outs_fit (emits pen w o) xs os (out_so_far w o ∙ e) h.1)

    any_heard : (w : Course) (ms : List Heard) → HeardFits pen (LeafWay seat bodies heard) (Cl seat bodies heard) (Ml seat bodies heard) (Ol seat bodies heard) w ms
    any_heard w [] = tt
    any_heard w (m ∷ ms) = (tt, λ q. any_heard (keeps w m) ms)

    -- A step of fresh changes, of which all that goes out with a leaf was made.
    pub fresh_fits : (w : Course) (step : Step) → Fresh seat w.now.here w.now.here.leaf (so_far seat bodies heard w) step.changes →
        Each (MadeIn seat bodies heard (so_far seat bodies heard w ++ step.changes)) step.out → FitsNow w step
    fresh_fits w step h o = (
      fresh_changes w.now.here w step.changes (same_level w.now.here) h,
      (
        λ q. any_heard _ step.heard,
        λ q. outs_fit _ (so_far seat bodies heard w ++ step.changes) step.out (heard_so_far (carries_changes pen w step.changes) step.heard ∙ fresh_so_far w.now.here w step.changes h) o,
      ),
    )

    -- ---- at the start of an event

    abbrev state : Answers
    state = questions seat bodies heard

    abbrev pub FitsFirst : Answer → Type 0
    FitsFirst a = AnswerFits pen (LeafWay seat bodies heard) (Cl seat bodies heard) (Ml seat bodies heard) (Ol seat bodies heard) (questions seat bodies heard) a

    abbrev first : List Change
    first = joined bodies ++ []

    pub first_fits : (step : Step) → Fresh seat (questions seat bodies heard).here (questions seat bodies heard).here.leaf (joined bodies ++ []) step.changes → Each (MadeIn seat bodies heard ((joined bodies ++ []) ++ step.changes)) step.out →
        FitsFirst (Steps step)
    unfolding begins
    first_fits step h o = fresh_fits (begins (questions seat bodies heard)) step h o

    -- nothing is made where the answers find nothing at an open key
    pub none_first : (s : Statement) → is_open (questions seat bodies heard).here s ≡ true → sealing_of (questions seat bodies heard) s ≡ None → NoneAt (key_of s) (joined bodies ++ [])
    none_first s is e = subst (NoneAt (key_of s)) (sym (append-nil (joined bodies))) (sealing_missing seat bodies heard s is e)

    -- one statement is made and goes out
    making_fits : (s : Statement) (form : Form) (to : Scope) → is_open (questions seat bodies heard).here s ≡ true → sealing_of (questions seat bodies heard) s ≡ None → IsNotAbove (questions seat bodies heard).here s →
        site_of s ≡ seat.site → FitsFirst (Steps (making (questions seat bodies heard).here.leaf s form to))
    making_fits s form to is e below site =
        first_fits (making (questions seat bodies heard).here.leaf s form to) (record { plain = tt; next = refl; new = none_first s is e; below = below; site = site }, tt)
        (((questions seat bodies heard).here.leaf, made_end (questions seat bodies heard).here.leaf s (joined bodies ++ [])), tt)

    -- a test that finds nothing
    pub nothing_seen : {A : Type 0} (x : Option A) → is_some x ≡ false → x ≡ None
    nothing_seen None e = refl
    nothing_seen (Some a) e = absurd (let no : true ≡ false = e in cc)

    -- the site of the answers
    pub first_site : (questions seat bodies heard).here.seat.site ≡ seat.site
    unfolding questions here_of
    first_site = refl

    -- ---- the timeouts

    pub local_timeout_fits : FitsFirst (on_local_timeout (questions seat bodies heard).here ((questions seat bodies heard).making.vc (OfLocal ((questions seat bodies heard).here.local + 1))))
    local_timeout_fits =
        let here : Here = (questions seat bodies heard).here in
        decides_fits FitsFirst (λ reason. tt) (bound (here.local + 1) ∷ seen (is_some ((questions seat bodies heard).making.vc (OfLocal (here.local + 1)))) ∷ spent here 1 ∷ [])
        (making here.leaf (a_local_vc here.seat.site (here.local + 1)) forms.Share (to_site here))
        (λ none.
        making_fits (a_local_vc here.seat.site (here.local + 1)) forms.Share (to_site here) (lt-ltb here.local (here.local + 1) (omega arith)) (nothing_seen _ none.1.0) (omega arith) first_site)

    pub global_timeout_fits : FitsFirst (on_global_timeout (questions seat bodies heard).here ((questions seat bodies heard).making.vc (OfGlobal ((questions seat bodies heard).here.view + 1))))
    global_timeout_fits =
        let here : Here = (questions seat bodies heard).here in
        decides_fits FitsFirst (λ reason. tt) (bound (here.view + 1) ∷ seen (is_some ((questions seat bodies heard).making.vc (OfGlobal (here.view + 1)))) ∷ spent here 1 ∷ [])
        (making here.leaf (a_global_vc here.seat.site (here.view + 1)) forms.Share (to_rep here))
        (λ none.
        making_fits (a_global_vc here.seat.site (here.view + 1)) forms.Share (to_rep here) (lt-ltb here.view (here.view + 1) (omega arith)) (nothing_seen _ none.1.0) (omega arith) first_site)

    -- ---- views that are entered

    pub local_proof_fits : (site local : ℕ) (q : Quorum) → FitsFirst (on_local_proof (questions seat bodies heard).here site local q)
    unfolding begins
    local_proof_fits site local q =
        let here : Here = (questions seat bodies heard).here in
        decides_fits FitsFirst (λ reason. tt) (not_site here site ∷ other_view here (nat_le local here.local) ∷ bound local ∷ spent here 1 ∷ []) (recording (EnterLocal (record { 0 = local }) q))
        (λ none. ((record { next = tt; new = tt; below = tt; site = tt; higher = leb-false local here.local none.1.0 }, λ h. tt), (λ h. tt, λ h. tt)))

    pub view_proof_fits : (view : ℕ) (words : List SiteWord) → FitsFirst (on_view_proof (questions seat bodies heard).here view words)
    unfolding begins
    view_proof_fits view words =
        let here : Here = (questions seat bodies heard).here in
        decides_fits FitsFirst (λ reason. tt) (other_view here (nat_le view here.view) ∷ bound view ∷ spent here 1 ∷ []) (recording (EnterGlobal (record { 0 = view }) words))
        (λ none. ((record { next = tt; new = tt; below = tt; site = tt; higher = leb-false view here.view none.0 }, λ h. tt), (λ h. tt, λ h. tt)))

    -- a share or a certificate that may let a view be entered
    enters_if : (b : Bool) (m : Message) (x : Change) → Cl seat bodies heard (begins (questions seat bodies heard)) x → FitsFirst (Steps (then (keeping m) (when b (recording x))))
    enters_if true m x c = ((c, λ h. tt), (λ h. (tt, λ g. tt), λ h. tt))
    enters_if false m x c = (tt, (λ h. (tt, λ g. tt), λ h. tt))

    local_higher : (local : ℕ) (q : Quorum) → nat_le local (questions seat bodies heard).here.local ≡ false → Cl seat bodies heard (begins (questions seat bodies heard)) (EnterLocal (record { 0 = local }) q)
    unfolding begins
    local_higher local q e = record { next = tt; new = tt; below = tt; site = tt; higher = leb-false local (questions seat bodies heard).here.local e }

    view_higher : (view : ℕ) (words : List SiteWord) → nat_le view (questions seat bodies heard).here.view ≡ false → Cl seat bodies heard (begins (questions seat bodies heard)) (EnterGlobal (record { 0 = view }) words)
    unfolding begins
    view_higher view words e = record { next = tt; new = tt; below = tt; site = tt; higher = leb-false view (questions seat bodies heard).here.view e }

    pub local_share_fits : (site local : ℕ) (signed : Signed) → FitsFirst (on_local_share (questions seat bodies heard).here (questions seat bodies heard).votes site local signed)
    local_share_fits site local signed =
        let here : Here = (questions seat bodies heard).here in
        let votes : Votes = (questions seat bodies heard).votes in
        let s : Statement = a_local_vc site local in
        let shares : (ℕ → Option Share) = votes_for s local votes.local in
        let done : Bool = completes here shares s signed in
        decides_fits FitsFirst (λ reason. tt)
        (not_site here site
        ∷ other_view here (nat_le local here.local)
        ∷ bound local
        ∷ seen (has_voted local (votes.local signed.index) || complete here shares)
        ∷ spent here (one_if done)
        ∷ [])
        (then (keeping (messages.Share s signed)) (when done (recording (EnterLocal (record { 0 = local }) (completed here shares s signed)))))
        (λ none. enters_if done (messages.Share s signed) (EnterLocal (record { 0 = local }) (completed here shares s signed)) (local_higher local (completed here shares s signed) none.1.0))

    pub global_vc_fits : (site view : ℕ) (q : Quorum) → FitsFirst (on_global_vc (questions seat bodies heard).here (questions seat bodies heard).votes site view q)
    global_vc_fits site view q =
        let here : Here = (questions seat bodies heard).here in
        let votes : Votes = (questions seat bodies heard).votes in
        let asked : (ℕ → Option Asked) = with_asked votes.asked site view q in
        let done : Bool = nat_le (majority here) (count_below (λ s. asks_for view (asked s)) here.seat.sites) in
        let words : List SiteWord = all_below (word_for view asked) here.seat.sites in
        decides_fits FitsFirst (λ reason. tt)
        (other_view here (nat_le view here.view)
        ∷ bound view
        ∷ seen (given (votes.asked site) false (λ a. nat_le view a.view))
        ∷ spent here (one_if done)
        ∷ [])
        (then (keeping (messages.Certificate (a_global_vc site view) q)) (when done (recording (EnterGlobal (record { 0 = view }) words))))
        (λ none. enters_if done (messages.Certificate (a_global_vc site view) q) (EnterGlobal (record { 0 = view }) words) (view_higher view words none.0))

    -- ---- steps that make nothing

    quiet_changes : (here : Here) (k : ℕ) (xs changes : List Change) → Each IsQuiet changes → Fresh seat here k xs changes
    quiet_changes here k xs [] h = tt
    quiet_changes here k xs (x ∷ more) h = (quiet_one seat here k xs x h.0, quiet_changes here (k + one_if (is_made x)) (xs ++ x ∷ []) more h.1)

    quiet_outs : (xs : List Change) (os : List Out) → Each IsSent os → Each (MadeIn seat bodies heard xs) os
    quiet_outs xs [] h = tt
    quiet_outs xs (Send m to ∷ os) h = (tt, quiet_outs xs os h.1)
    quiet_outs xs (Make s form to ∷ os) h = absurd h.0

    pub quiet : (a : Answer) → AnswerHas IsQuiet (λ m. Unit {0}) IsSent a → FitsFirst a
    quiet (Refused reason) h = tt
    quiet (Steps step) h = first_fits step (quiet_changes (questions seat bodies heard).here (questions seat bodies heard).here.leaf (joined bodies ++ []) step.changes h.changes) (quiet_outs ((joined bodies ++ []) ++ step.changes) step.out h.out)

    -- numbers that are executed
    run_changes : (here : Here) (hand : Hand) (k n : ℕ) → Each IsRun (executions here hand k n)
    unfolding executions
    run_changes here hand zero n = tt
    run_changes here hand (suc k) n =
        chosen_any (Each IsRun) (in_hand here hand n) [] (λ p. Executed (record { 0 = n }) p ∷ executions here hand k (n + 1)) tt (λ p. (tt, run_changes here hand k (n + 1)))

    run_any : (w : Course) (x : Change) → IsRun x → Cl seat bodies heard w x
    run_any w (Executed n p) h = record { next = tt; new = tt; below = tt; site = tt; higher = tt }
    run_any w (EnterLocal x q) h = absurd h
    run_any w (EnterGlobal y words) h = absurd h
    run_any w (Made leaf s) h = absurd h
    run_any w (Prepared s q) h = absurd h
    run_any w (Accepted s q) h = absurd h
    run_any w (Union s q) h = absurd h

    pub executes_fits : (m : Message) → FitsFirst (Steps (keeps_and_executes (questions seat bodies heard).here (questions seat bodies heard).hand m))
    executes_fits m = (
      each_change pen (LeafWay seat bodies heard) (Cl seat bodies heard) (Ml seat bodies heard) (Ol seat bodies heard) IsRun run_any (begins (questions seat bodies heard)) _ (run_changes _ _ WINDOW _),
      (λ h. (tt, λ g. tt), λ h. tt),
    )

    -- ---- Proposals

    -- a number of the window is open
    pub in_window : (here : Here) (n : ℕ) → out_of_window here n ≡ false → nat_lt here.executed n ≡ true
    in_window here n e = by (nat_le n here.executed) refl e
      where
        by : (b : Bool) → nat_le n here.executed ≡ b → (b || nat_lt (here.executed + WINDOW) n) ≡ false → nat_lt here.executed n ≡ true
        by true is e = absurd (let no : true ≡ false = e in cc)
        by false is e = lt-ltb here.executed n (leb-false n here.executed is)

    pub proposal_fits : (site view local n : ℕ) (value : Value) (q : Quorum) → FitsFirst (on_proposal (questions seat bodies heard).here (questions seat bodies heard).slots site view local n value q)
    proposal_fits site view local n value q =
        let here : Here = (questions seat bodies heard).here in
        let s : Statement = an_accept here.seat.site view n value in
        let x : Change = Accepted (a_proposal site view local n value) q in
        decides_fits FitsFirst (λ reason. tt) (proposal_reasons here (questions seat bodies heard).slots view n) (proposal_step here site view local n value q)
        (λ none.
        let is : view ≡ here.view = not_false view here.view none.0 in
        let new : NoneAt (key_of s) (joined bodies ++ []) =
        none_first s (and_from (nat_le here.view view) (nat_lt here.executed n) (le-leb here.view view (omega (arith, is))) (in_window here n none.1.0)) (nothing_seen _ none.1.1.0) in
        first_fits (proposal_step here site view local n value q) (
          record { plain = tt; next = tt; new = tt; below = tt; site = tt },
          (record { plain = tt; next = omega arith; new = each_made_push (λ t. key_of t ≡ key_of s → ⊥) (joined bodies ++ []) x new tt; below = omega (arith, is); site = first_site }, tt),
        )
        ((here.leaf, made_tail here.leaf s (joined bodies ++ []) (x ∷ Made here.leaf s ∷ []) (inr (inl refl))), tt))

    -- ---- updates

    pub made_first : (leaf : ℕ) (s : Statement) → IsMade leaf s (joined bodies) → IsMade leaf s ((joined bodies ++ []) ++ [])
    made_first leaf s m = made_before leaf s (joined bodies ++ []) [] (made_before leaf s (joined bodies) [] m)

    pub update_fits : (last number : ℕ) (u : Update) (seal : Bytes) → FitsFirst (on_update (questions seat bodies heard).here (questions seat bodies heard).pending last ((questions seat bodies heard).making.reply number) u seal)
    update_fits last number u seal =
        let reply : Option Sealing = (questions seat bodies heard).making.reply number in
        decides_fits FitsFirst (λ reason. tt) (update_reasons (questions seat bodies heard).here (questions seat bodies heard).pending last reply u) (update_step last reply u seal)
        (λ none.
        either (λ (st : Step). FitsFirst (Steps st)) (nat_eq u.time last) (given reply idle (λ m. putting (Make m.statement forms.Reply (scopes.Client u.client)))) (keeping (messages.Update u seal))
        (again reply refl) (first_fits (keeping (messages.Update u seal)) tt tt))
      where
        again : (x : Option Sealing) → (questions seat bodies heard).making.reply number ≡ x → FitsFirst (Steps (given x idle (λ m. putting (Make m.statement forms.Reply (scopes.Client u.client)))))
        again None e = first_fits idle tt tt
        again (Some m) e = first_fits (putting (Make m.statement forms.Reply (scopes.Client u.client))) tt ((m.leaf, made_first m.leaf m.statement (reply_found seat bodies heard number m e)), tt)

    -- ---- bundles

    pub bundle_fits : (r : ReportBody) (rs : List ReportBody) → FitsFirst (check_bundle (questions seat bodies heard).here (union_made (questions seat bodies heard) (report_of r.statement)) (r ∷ rs))
    unfolding union
    bundle_fits r rs =
        let here : Here = (questions seat bodies heard).here in
        let made : Option Sealing = union_made (questions seat bodies heard) (report_of r.statement) in
        decides_fits FitsFirst (λ reason. tt)
        (not_site here (site_of r.statement) ∷ other_view here (not_present here (report_of r.statement)) ∷ seen (is_some made) ∷ spent here 1 ∷ [])
        (making here.leaf (union (r ∷ rs)) forms.Share (to_rep here))
        (λ none. by r.statement (most view_in (r ∷ rs)) (most base_in (r ∷ rs)) (union_items (r ∷ rs)) (not_false (site_of r.statement) here.seat.site none.0) none.1.0 (nothing_seen _ none.1.1.0))
      where
        by : (s : Statement) (greatest least : ℕ) (more : List Item) → site_of s ≡ (questions seat bodies heard).here.seat.site → not_present (questions seat bodies heard).here (report_of s) ≡ false →
            union_made (questions seat bodies heard) (report_of s) ≡ None →
            FitsFirst (Steps (making (questions seat bodies heard).here.leaf (union_as s greatest least more) forms.Share (to_rep (questions seat bodies heard).here)))
        by (LocalReport site local index view base items) greatest least more is e n =
            let present = not_false local.0 (questions seat bodies heard).here.local e in
            making_fits (LocalUnion site local (record { 0 = greatest }) least more) forms.Share (to_rep (questions seat bodies heard).here)
            (le-leb (questions seat bodies heard).here.local local.0 (omega (arith, present))) n (omega (arith, present)) (is ∙ first_site)
        by (GlobalReport site view index base items) greatest least more is e n =
            let present = not_false view.0 (questions seat bodies heard).here.view e in
            making_fits (GlobalUnion site view least more) forms.Share (to_rep (questions seat bodies heard).here)
            (le-leb (questions seat bodies heard).here.view view.0 (omega (arith, present))) n (omega (arith, present)) (is ∙ first_site)
        by (Prepare site view local number value) greatest least more is e n = absurd (let no : true ≡ false = e in cc)
        by (Proposal site view local number value) greatest least more is e n = absurd (let no : true ≡ false = e in cc)
        by (Accept site view number value) greatest least more is e n = absurd (let no : true ≡ false = e in cc)
        by (LocalVc site local) greatest least more is e n = absurd (let no : true ≡ false = e in cc)
        by (GlobalVc site view) greatest least more is e n = absurd (let no : true ≡ false = e in cc)
        by (LocalUnion site local top base items) greatest least more is e n = absurd (let no : true ≡ false = e in cc)
        by (GlobalUnion site view base items) greatest least more is e n = absurd (let no : true ≡ false = e in cc)
        by (Reply site client time number result) greatest least more is e n = absurd (let no : true ≡ false = e in cc)
        by (ClientUpdate update) greatest least more is e n = absurd (let no : true ≡ false = e in cc)
