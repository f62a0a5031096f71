-- In every world one party's leaf is of one statement.
use Rattle.std.proofs.Common.{◌≡◌, ℕ, ◌+◌, ◌-◌, Bool, nat_eq, nat_lt, nat_le, List, [], ◌∷◌, ◌++◌, sym, subst, refl, ◌∙◌, ap, append-nil}
use Rattle.std.specs.Prelude.{◌&&◌, ◌||◌, min, not, Option, Some, None, is_some}
use Rattle.std.specs.Option.{IfSome}
use Rattle.std.specs.List.{AllByRecursion as Each}
use Rattle.st_words.specs.declared.deployment.TheConstants.{WINDOW}
use Rattle.st_words.specs.declared.ids.ServerId.{ServerId}
use Rattle.st_words.specs.declared.statement.Statement.{Statement}
use Rattle.st_seal.specs.declared.quorum.Signed.{Signed}
use Rattle.st_message.specs.declared.message.Proof.{Proof}
use Rattle.st_message.specs.declared.message.ReportBody.{ReportBody}
use Rattle.st_message.specs.declared.message.Message.TheVariants as messages
use Rattle.st_message.specs.declared.event.Plan.{Plan}
use Rattle.st_message.specs.declared.event.Scope.{Scope}
use Rattle.st_message.specs.declared.event.Scope.TheVariants as scopes
use Rattle.st_message.specs.declared.change.Change.{Change}
use Rattle.st_message.specs.declared.change.Change.TheVariants.{Union}
use Rattle.st_message.specs.declared.change.Heard.{Heard}
use Rattle.st_message.specs.declared.reason.Reason.{Reason}
use Rattle.st_message.specs.declared.step.Out.{Out}
use Rattle.st_message.specs.declared.step.Out.TheVariants.{Send}
use Rattle.st_message.specs.declared.step.Step.{Step}
use Rattle.st_protocol.specs.Words.{a_proposal, an_accept, a_global_vc, site_of, index_of}
use Rattle.st_protocol.specs.Keeping.{given, joined}
use Rattle.st_protocol.specs.State.{AtPrepare, AtProposal, AtAccept, Seat, Here, Sealing, Share, Slots, Votes, Held, Hand, KeptViews, Answers, report_of, union_of}
use Rattle.st_protocol.specs.Step.{to_list, servers, quorum, complete, Answer, Steps, then, recording, keeping, putting, when, all_below, to_site, certifies, not_site, other_view, not_rep, bound, seen, full, beyond}
use Rattle.st_protocol.specs.Questions.{questions}
use Rattle.st_protocol.specs.Forced.{forced_of}
use Rattle.st_protocol.specs.Assigning.{proposal_share_reasons, proposal_share_step, on_proposal_share}
use Rattle.st_protocol.specs.Views.{on_global_share, votes_for, has_voted}
use Rattle.st_protocol.specs.Ordering.{accept_share_reasons, accept_share_step, on_accept_share, accept_reasons, accept_step, keeps_and_executes}
use Rattle.st_protocol.specs.Collecting.{with_report, reports_kept, add_report, union_to, on_union_share, union_site, on_union, not_present}
use Rattle.st_protocol.specs.Duty.{Event, Reading, reports_at, tick_out, of_event, course, did, ignored, plan_of, duty, Pen, Course, begins}
use Rattle.st_protocol.specs.Reconciling.{owed_proofs, owed_view, owed_local, answer}
use Rattle.st_protocol.proofs.GatherLaws.{joined-push}
use Rattle.st_protocol.proofs.QuestionLaws.{one_body}
use Rattle.st_leaf_laws.proofs.LeafDuty.{prepare_fits, assign_fits}
use Rattle.st_leaf_laws.proofs.LeafFill.{fill_fits}
use Rattle.st_leaf_laws.proofs.LeafWorlds.{OutputMade, LeavesCount}
use Rattle.st_leaf_laws.proofs.LeafFacts.{InOrder, IsMade}
use Rattle.st_frame_laws.proofs.ChoiceLaws.{either, chosen_any, append_all, all_below_all, if_any}
use Rattle.st_frame_laws.proofs.CourseFrame.{kept_plan}
use Rattle.st_frame_laws.proofs.PartFrame.{StepHas, AnswerHas, EachPart, event_part, EachAgain, tick_has, decides_fits, then_has, recording_has, keeping_has, putting_has, when_step, certifies_has, reads_any}
use Rattle.st_frame_laws.proofs.NodeFrame.{same_here}
use Rattle.st_leaf_laws.proofs.LeafKeys.{place_found, vc_found, union_found}
use Rattle.st_leaf_laws.proofs.LeafParts.{FitsFirst, first_fits, made_first, IsQuiet, IsSent, quiet, local_timeout_fits, global_timeout_fits, local_proof_fits, view_proof_fits, local_share_fits, global_vc_fits, executes_fits, proposal_fits, update_fits, bundle_fits}
use Rattle.st_leaf_laws.proofs.LeafCourse.{LeafWay, Cl, Ml, MadeIn, Ol, leaf_is_kept}
use Rattle.st_leaf_laws.proofs.LeafRecords.{Once, Sited, NoneAbove}

-- what is there, by what it is
some_by : {A : Type 0} (G : A → Type 0) (x : Option A) → ((a : A) → x ≡ Some a → G a) → IfSome x G
some_by G None h = tt
some_by G (Some a) h = h a refl

module _ (seat : Seat) (bodies : List (List Change)) (heard : List Heard) (pen : Pen) where
  -- an answer that makes nothing
  abbrev Quiet : Answer → Type 0
  Quiet a = AnswerHas IsQuiet (λ m. Unit {0}) IsSent a

  certified : (here : Here) (shares : ℕ → Option Share) (s : Statement) (signed : Signed) (to : Scope) → StepHas IsQuiet (λ m. Unit {0}) IsSent (certifies here shares s signed to)
  certified here shares s signed to = certifies_has IsQuiet (λ m. Unit {0}) IsSent here shares s signed to tt tt tt

  -- what a server lacks
  owed : (here : Here) (proofs : ℕ → Option Proof) (kept : KeptViews) (to : ServerId) (executed view local : ℕ) → Quiet (answer here proofs kept to executed view local)
  owed here proofs kept to executed view local =
      decides_fits Quiet (λ reason. tt) (seen (nat_le here.executed executed && nat_le here.view view && not (nat_eq to.site here.seat.site && nat_lt local here.local)) ∷ [])
      (record { changes = []; heard = []; out = owed_proofs here proofs to executed ++ owed_view here kept to view ++ owed_local here kept to local })
      (λ none.
      record {
        changes = tt;
        heard = tt;
        out =
            append_all IsSent (owed_proofs here proofs to executed ++ owed_view here kept to view) (owed_local here kept to local)
            (append_all IsSent (owed_proofs here proofs to executed) (owed_view here kept to view)
            (all_below_all IsSent (λ k. given (proofs (executed + 1 + k)) [] (λ p. Send (messages.OrderProof (record { 0 = executed + 1 + k }) p) (scopes.One to) ∷ []))
            (min here.executed (executed + WINDOW) - executed)
            (λ k.
            chosen_any (Each IsSent) (proofs (executed + 1 + k)) [] (λ p. Send (messages.OrderProof (record { 0 = executed + 1 + k }) p) (scopes.One to) ∷ []) tt (λ p. (tt, tt))))
            (either (Each IsSent) (nat_lt view here.view) _ [] (chosen_any (Each IsSent) kept.view [] _ tt (λ words. (tt, tt))) tt))
            (either (Each IsSent) (nat_eq to.site here.seat.site && nat_lt local here.local) _ [] (chosen_any (Each IsSent) kept.local [] _ tt (λ q. (tt, tt))) tt);
      })

  parts_fit : EachPart (questions seat bodies heard) (FitsFirst seat bodies heard pen) (λ m. Unit {0})
  parts_fit =
      let here : Here = (questions seat bodies heard).here in
      let slots : Slots = (questions seat bodies heard).slots in
      let votes : Votes = (questions seat bodies heard).votes in
      let hand : Hand = (questions seat bodies heard).hand in
      record {
        refused = λ reason. tt;
        update = λ u seal h. update_fits seat bodies heard pen _ _ u seal;
        assign = λ view local n value client_seal signed h. assign_fits seat bodies heard pen (forced_of here (questions seat bodies heard).unions) view local n value client_seal signed;
        prepare = λ site view local n value signed h. prepare_fits seat bodies heard pen site view local n value signed;
        proposal_share = λ site view local n value signed h.
            quiet seat bodies heard pen (on_proposal_share here slots site view local n value signed)
            (decides_fits Quiet (λ reason. tt) (proposal_share_reasons here slots site view local n signed) (proposal_share_step here slots site view local n value signed)
            (λ none. certified here (slots.shares (AtProposal view local n)) (a_proposal site view local n value) signed scopes.All));
        accept_share = λ site view n value signed h.
            quiet seat bodies heard pen (on_accept_share here slots site view n value signed)
            (decides_fits Quiet (λ reason. tt) (accept_share_reasons here slots site view n signed) (accept_share_step here slots site view n value signed)
            (λ none. certified here (slots.shares (AtAccept view n)) (an_accept site view n value) signed scopes.All));
        local_share = λ site local signed h. local_share_fits seat bodies heard pen site local signed;
        global_share = λ site view signed h.
            let s : Statement = a_global_vc site view in
            let shares : (ℕ → Option Share) = votes_for s view votes.global in
            quiet seat bodies heard pen (on_global_share here votes site view signed)
            (decides_fits Quiet (λ reason. tt)
            (not_site here site
            ∷ other_view here (nat_le view here.view)
            ∷ not_rep here
            ∷ bound view
            ∷ seen (has_voted view (votes.global signed.index) || complete here shares)
            ∷ [])
            (certifies here shares s signed scopes.All) (λ none. certified here shares s signed scopes.All));
        union_share = λ t s signed h.
            let shares : (ℕ → Option Share) = votes.unions t in
            quiet seat bodies heard pen (on_union_share here shares s signed)
            (decides_fits Quiet (λ reason. tt)
            (not_site here (site_of s) ∷ other_view here (not_present here (union_of s)) ∷ not_rep here ∷ seen (is_some (shares signed.index) || complete here shares) ∷ [])
            (certifies here shares s signed (union_to here s)) (λ none. certified here shares s signed (union_to here s)));
        proposal = λ site view local n value q h. proposal_fits seat bodies heard pen site view local n value q;
        accept = λ site view n value q h.
            decides_fits (FitsFirst seat bodies heard pen) (λ reason. tt) (accept_reasons here hand site view n) (accept_step here hand site view n value q)
            (λ none. executes_fits seat bodies heard pen (messages.Certificate (an_accept site view n value) q));
        global_vc = λ site view q h. global_vc_fits seat bodies heard pen site view q;
        union = λ t site s q h.
            let held : Option Held = (questions seat bodies heard).unions t site in
            quiet seat bodies heard pen (on_union here held s q)
            (decides_fits Quiet (λ reason. tt) (not_site here (union_site here s) ∷ other_view here (not_present here (union_of s)) ∷ seen (is_some held) ∷ []) (recording (Union s q))
            (λ none. recording_has IsQuiet (λ m. Unit {0}) IsSent (Union s q) tt));
        local_proof = λ site local q h. local_proof_fits seat bodies heard pen site local q;
        view_proof = λ view words h. view_proof_fits seat bodies heard pen view words;
        order_proof = λ n p h.
            decides_fits (FitsFirst seat bodies heard pen) (λ reason. tt) (beyond here n ∷ seen (is_some (hand.proof n)) ∷ full n ∷ [])
            (keeps_and_executes here hand (messages.OrderProof (record { 0 = n }) p)) (λ none. executes_fits seat bodies heard pen (messages.OrderProof (record { 0 = n }) p));
        report = λ r h.
            let kept : (ℕ → Option ReportBody) = reports_at (questions seat bodies heard) (report_of r.statement) in
            let bundle : Out = Send (messages.Bundle (all_below (λ i. to_list (with_report kept r i)) (servers here))) (to_site here) in
            let enough : Bool = nat_le (quorum here) (reports_kept here (with_report kept r)) in
            quiet seat bodies heard pen (add_report here kept r)
            (decides_fits Quiet (λ reason. tt)
            (not_site here (site_of r.statement)
            ∷ other_view here (not_present here (report_of r.statement))
            ∷ not_rep here
            ∷ seen (is_some (kept (index_of r.statement)) || nat_le (quorum here) (reports_kept here kept))
            ∷ [])
            (then (keeping (messages.Report r)) (when enough (putting bundle)))
            (λ none.
            then_has IsQuiet (λ m. Unit {0}) IsSent (keeping (messages.Report r)) (when enough (putting bundle)) (keeping_has IsQuiet (λ m. Unit {0}) IsSent (messages.Report r) tt)
            (when_step IsQuiet (λ m. Unit {0}) IsSent enough (putting bundle) (putting_has IsQuiet (λ m. Unit {0}) IsSent bundle tt))));
        bundle = λ r rs h. bundle_fits seat bodies heard pen r rs;
        asks = λ server executed view local. quiet seat bodies heard pen (answer here (questions seat bodies heard).log.proof (questions seat bodies heard).words server executed view local) (owed here (questions seat bodies heard).log.proof (questions seat bodies heard).words server executed view local);
      }

  -- ---- the tick

  abbrev MadeFirst : Sealing → Type 0
  MadeFirst m = IsMade m.leaf m.statement (joined bodies)

  abbrev OutFirst : Out → Type 0
  OutFirst o = MadeIn seat bodies heard ((joined bodies ++ []) ++ []) o

  again : EachAgain (questions seat bodies heard) MadeFirst (λ r. Unit {0}) (λ c. Unit {0}) OutFirst
  again =
      record {
        share = λ m to h. (m.leaf, made_first seat bodies heard pen m.leaf m.statement h);
        assign = λ m h. (m.leaf, made_first seat bodies heard pen m.leaf m.statement h);
        report = λ r h. tt;
        certificate = λ c to h. tt;
        asks = λ site index. tt;
      }

  tick_fits : FitsFirst seat bodies heard pen (Steps (record { changes = []; heard = []; out = tick_out (questions seat bodies heard) }))
  tick_fits =
      first_fits seat bodies heard pen (record { changes = []; heard = []; out = tick_out (questions seat bodies heard) }) tt
      (tick_has (questions seat bodies heard) MadeFirst (λ r. Unit {0}) (λ c. Unit {0}) OutFirst again (λ g l n. some_by MadeFirst _ (place_found seat bodies heard (AtPrepare g l n)))
      (λ g l n. some_by MadeFirst _ (place_found seat bodies heard (AtProposal g l n))) (λ g n. some_by MadeFirst _ (place_found seat bodies heard (AtAccept g n)))
      (λ t. some_by MadeFirst _ (vc_found seat bodies heard t)) (λ t. some_by MadeFirst _ (union_found seat bodies heard t)) (λ t. if_any _) (if_any _) (λ t. if_any _) (λ g n. if_any _)
      (λ g n. if_any _))

  -- an event
  event_fits : {Wire : Type 0} (read : Wire → Reading) (event : Event Wire) → FitsFirst seat bodies heard pen (of_event read (questions seat bodies heard) event)
  event_fits read event =
      event_part (questions seat bodies heard) (FitsFirst seat bodies heard pen) (λ m. Unit {0}) parts_fit read event (local_timeout_fits seat bodies heard pen) (global_timeout_fits seat bodies heard pen) tick_fits
      (reads_any read event)

-- ---- records

-- Leaves count up, each key is made once, reports and Replies stand below, and all is of the server's site.
pub record Counts (seat : Seat) (bodies : List (List Change)) : Type 0 where
  pub order : InOrder 0 (joined bodies)
  pub once : Once (joined bodies)
  pub below : NoneAbove (questions seat bodies []).here (joined bodies)
  pub sited : Sited seat (joined bodies)

module _ (seat : Seat) (bodies : List (List Change)) (heard : List Heard) (pen : Pen) (c : Counts seat bodies) where
  begins_leaf : LeafWay seat bodies heard (begins (questions seat bodies heard))
  unfolding begins
  begins_leaf =
      let e : joined bodies ≡ joined bodies ++ [] = sym (append-nil (joined bodies)) in
      record {
        follows = sym (one_body seat bodies (heard ++ []) [] ∙ ap (questions seat bodies) (append-nil heard));
        order = subst (InOrder 0) e c.order;
        once = subst Once e c.once;
        below = subst (NoneAbove (questions seat bodies heard).here) e (subst (λ (here : Here). NoneAbove here (joined bodies)) (same_here seat bodies [] heard) c.below);
        sited = subst (Sited seat) e c.sited;
        outputs = tt;
      }

  -- what is claimed of a plan
  pub record PlanCounts (plan : Plan) : Type 0 where
    pub counts : Counts seat (bodies ++ plan.changes ∷ [])
    pub outputs : Each (OutputMade seat.site (joined (bodies ++ plan.changes ∷ []))) plan.outputs

  ignored_counts : (reason : Reason) → PlanCounts (ignored reason)
  ignored_counts reason =
      let e : joined bodies ≡ joined (bodies ++ [] ∷ []) = sym (joined-push bodies [] ∙ append-nil (joined bodies)) in
      record {
        counts =
            record {
              order = subst (InOrder 0) e c.order;
              once = subst Once e c.once;
              below = subst (NoneAbove (questions seat (bodies ++ [] ∷ []) []).here) e (subst (λ (q : Answers). NoneAbove q.here (joined bodies)) (sym (one_body seat bodies [] [])) c.below);
              sited = subst (Sited seat) e c.sited;
            };
        outputs = tt;
      }

  did_counts : (step : Step) → LeafWay seat bodies heard (course pen (questions seat bodies heard) step) → PlanCounts (did (course pen (questions seat bodies heard) step))
  did_counts step h =
      let way : Course = course pen (questions seat bodies heard) step in
      let e : joined bodies ++ way.changes ≡ joined (bodies ++ way.changes ∷ []) = sym (joined-push bodies way.changes) in
      record {
        counts =
            record {
              order = subst (InOrder 0) e h.order;
              once = subst Once e h.once;
              below =
                  subst (λ (here : Here). NoneAbove here (joined (bodies ++ way.changes ∷ []))) (ap (λ (q : Answers). q.here) h.follows ∙ same_here seat (bodies ++ way.changes ∷ []) (heard ++ way.heard) [])
                  (subst (NoneAbove way.now.here) e h.below);
              sited = subst (Sited seat) e h.sited;
            };
        outputs = subst (λ (xs : List Change). Each (OutputMade seat.site xs) way.outputs) e h.outputs;
      }

  plan_counts : {Wire : Type 0} (read : Wire → Reading) (event : Event Wire) → PlanCounts (duty read pen seat bodies heard event)
  unfolding plan_of
  plan_counts read event =
      kept_plan pen (LeafWay seat bodies heard) (Cl seat bodies heard) (Ml seat bodies heard) (Ol seat bodies heard) (leaf_is_kept seat bodies heard pen) (fill_fits seat bodies heard pen) PlanCounts
      (questions seat bodies heard) ignored_counts did_counts (of_event read (questions seat bodies heard) event) begins_leaf (event_fits seat bodies heard pen read event)

-- before anything is recorded
first_counts : (seat : Seat) → Counts seat []
unfolding joined
first_counts seat = record { order = tt; once = λ l m s t a b e. absurd a; below = λ l s a. absurd a; sited = λ l s a. absurd a }

-- Every duty keeps it.
pub leaves_count : {Wire : Type 0} → LeavesCount Wire Counts
leaves_count =
    record {
      order = λ seat bodies c. c.order;
      first = first_counts;
      event = λ read pen seat bodies heard event c. let plan = plan_counts seat bodies heard pen c read event in (plan.counts, plan.outputs);
    }
