-- What a tick sends keeps ranges: statements that were made, reports and certificates that were sent, and what is asked for.
use Rattle.std.proofs.Common.{◌≡◌, refl, sym, subst, ℕ, ◌+◌, ◌^◌, ◌<◌, ◌≤◌, Bool, true, false, IsTrue, cond, nat_eq, List, [], ◌∷◌, ◌++◌, arith}
use Rattle.std.specs.Prelude.{◌&&◌, ◌%◌, length, Option, Some, None, is_some}
use Rattle.std.specs.Option.{IfSome}
use Rattle.std.specs.List.{AllByRecursion as Each}
use Rattle.std.proofs.lemmas.Bool.{and_parts, eqb-true}
use Rattle.st_words.specs.declared.deployment.TheConstants.{WINDOW}
use Rattle.st_words.specs.declared.value.Value.{Value}
use Rattle.st_words.specs.declared.value.Value.TheVariants as values
use Rattle.st_words.specs.declared.value.Update.{Update}
use Rattle.st_words.specs.declared.statement.Statement.{Statement}
use Rattle.st_words.specs.declared.statement.Statement.TheVariants.{Prepare, Proposal, Accept, LocalVc, GlobalVc, LocalReport, GlobalReport, LocalUnion, GlobalUnion, Reply, ClientUpdate}
use Rattle.st_message.specs.declared.message.Message.TheVariants as messages
use Rattle.st_message.specs.declared.event.Scope.{Scope}
use Rattle.st_message.specs.declared.step.Form.TheVariants as forms
use Rattle.st_message.specs.declared.step.Out.{Out}
use Rattle.st_message.specs.declared.step.Out.TheVariants.{Make, Send}
use Rattle.st_wire.specs.Kind.{share_kinds}
use Rattle.st_wire.specs.Ranges.{KeepsCore, most_seal, most_client_seal}
use Rattle.st_protocol.specs.Words.{same_update, to_server_at}
use Rattle.st_protocol.specs.Keeping.{given}
use Rattle.st_protocol.specs.State.{Place, AtPrepare, AtProposal, AtAccept, Term, OfLocal, OfGlobal, same_place, same_term, at_place, at_vc, at_union, Here, Sealing, Pended, Completed, Answers}
use Rattle.st_protocol.specs.Step.{to_list, servers, rep, to_rep, to_site}
use Rattle.st_protocol.specs.Reconciling.{ask}
use Rattle.st_protocol.specs.Duty.{share_of, report_again, pending_seal, prepare_again, number_again, certificate_to, certificate_again, certificates_again, ask_to, tick_out}
use Rattle.st_ranges.specs.Ranges.{StatementInRange}
use Rattle.st_ranges.proofs.ChoiceLaws.{either, chosen, append_all, to_list_all, all_below_all}
use Rattle.st_ranges.proofs.StateLaws.{Top, SealingInRange, CompletedInRange, SentReportInRange, PendedInRange, StateInRange}
use Rattle.st_ranges.proofs.MadeLaws.{IsSealed}
use Rattle.st_ranges.proofs.ReportLaws.{OutInRange}
use Rattle.st_ranges.proofs.CourseLaws.{OutSealed}

-- ---- the same place

-- a slot
place_is : (p q : Place) → same_place p q ≡ true → p ≡ q
place_is (AtPrepare g l n) (AtPrepare h k m) e =
    let both = and_parts (nat_eq g h && nat_eq l k) (nat_eq n m) e in
    let views = and_parts (nat_eq g h) (nat_eq l k) both.0 in
    λ i. AtPrepare (eqb-true g h views.0 i) (eqb-true l k views.1 i) (eqb-true n m both.1 i)
place_is (AtProposal g l n) (AtProposal h k m) e =
    let both = and_parts (nat_eq g h && nat_eq l k) (nat_eq n m) e in
    let views = and_parts (nat_eq g h) (nat_eq l k) both.0 in
    λ i. AtProposal (eqb-true g h views.0 i) (eqb-true l k views.1 i) (eqb-true n m both.1 i)
place_is (AtAccept g n) (AtAccept h m) e =
    let both = and_parts (nat_eq g h) (nat_eq n m) e in
    λ i. AtAccept (eqb-true g h both.0 i) (eqb-true n m both.1 i)
place_is _ _ e = absurd (let no : false ≡ true = e in cc)

-- a term
term_is : (t u : Term) → same_term t u ≡ true → t ≡ u
term_is (OfLocal l) (OfLocal k) e = λ i. OfLocal (eqb-true l k e i)
term_is (OfGlobal g) (OfGlobal h) e = λ i. OfGlobal (eqb-true g h e i)
term_is _ _ e = absurd (let no : false ≡ true = e in cc)

-- what is there
there : {A : Type 0} (x : Option A) (a : A) → x ≡ Some a → IsTrue (is_some x)
there x a e = subst (λ y. IsTrue (is_some y)) (sym e) refl

module _ (top : Top) (state : Answers) (inside : StateInRange top state) where
  -- what goes out, sealed
  abbrev pub OutAgain : Out → Type 0
  OutAgain o = OutInRange o × OutSealed state o

  -- ---- a statement that was made may stand in a share, and is sealed with its own leaf

  abbrev MayShare : Statement → Type 0
  MayShare s = KeepsCore share_kinds s × IsSealed state s

  -- of a slot
  place_shared : (p : Place) (m : Sealing) → state.slots.made p ≡ Some m → (s : Statement) → StatementInRange s → at_place p s ≡ true → MayShare s
  place_shared p m made (Prepare site view local number value) h e =
      ((refl, h.0), subst (λ q. IsTrue (is_some (state.slots.made q))) (place_is p (AtPrepare view.0 local.0 number.0) e) (there (state.slots.made p) m made))
  place_shared p m made (Proposal site view local number value) h e =
      ((refl, h.0), subst (λ q. IsTrue (is_some (state.slots.made q))) (place_is p (AtProposal view.0 local.0 number.0) e) (there (state.slots.made p) m made))
  place_shared p m made (Accept site view number value) h e =
      ((refl, h.0), subst (λ q. IsTrue (is_some (state.slots.made q))) (place_is p (AtAccept view.0 number.0) e) (there (state.slots.made p) m made))
  place_shared p m made _ h e = absurd (let no : false ≡ true = e in cc)

  -- that asks for a view
  vc_shared : (t : Term) (m : Sealing) → state.making.vc t ≡ Some m → (s : Statement) → StatementInRange s → at_vc t s ≡ true → MayShare s
  vc_shared t m made (LocalVc site local) h e =
      ((refl, h.0), subst (λ u. IsTrue (is_some (state.making.vc u))) (term_is t (OfLocal local.0) e) (there (state.making.vc t) m made))
  vc_shared t m made (GlobalVc site view) h e =
      ((refl, h.0), subst (λ u. IsTrue (is_some (state.making.vc u))) (term_is t (OfGlobal view.0) e) (there (state.making.vc t) m made))
  vc_shared t m made _ h e = absurd (let no : false ≡ true = e in cc)

  -- a union
  union_shared : (t : Term) (m : Sealing) → state.making.union t ≡ Some m → (s : Statement) → StatementInRange s → at_union t s ≡ true → MayShare s
  union_shared t m made (LocalUnion site local greatest base items) h e =
      ((refl, h.0), subst (λ u. IsTrue (is_some (state.making.union u))) (term_is t (OfLocal local.0) e) (there (state.making.union t) m made))
  union_shared t m made (GlobalUnion site view base items) h e =
      ((refl, h.0), subst (λ u. IsTrue (is_some (state.making.union u))) (term_is t (OfGlobal view.0) e) (there (state.making.union t) m made))
  union_shared t m made _ h e = absurd (let no : false ≡ true = e in cc)

  -- its share goes out again
  share_again : (s : Statement) (to : Scope) → StatementInRange s → MayShare s → OutAgain (Make s forms.Share to)
  share_again s to h may = ((h, λ signed g. ((may.0, g.0), (h.1, g.1))), may.1)

  -- where there is one
  share_of_again : (test : Statement → Bool) (made : Option Sealing) (to : Scope) → IfSome made (SealingInRange test) →
      ((m : Sealing) → made ≡ Some m → (s : Statement) → StatementInRange s → test s ≡ true → MayShare s) → Each OutAgain (share_of made to)
  share_of_again test None to h may = tt
  share_of_again test (Some m) to h may = (share_again m.statement to h.0 (may m refl m.statement h.0 h.1), tt)

  -- ---- Prepares

  -- the seal of the update, where it waits
  pending_seal_short : (v : Value) (x : Option Pended) → IfSome x PendedInRange → (u : Update) → v ≡ values.Update u →
      length (given x [] (λ k. cond (same_update k.update u) k.seal [])) ≤ most_client_seal v
  pending_seal_short v x h u e = subst (λ (w : Value). length (given x [] (λ k. cond (same_update k.update u) k.seal [])) ≤ most_client_seal w) (sym e) (by x h)
    where
      by_same : (k : Pended) (b : Bool) → PendedInRange k → length {A = ℕ} (cond b k.seal []) ≤ most_seal
      by_same k true g = g.2.1
      by_same k false g = omega arith

      by : (y : Option Pended) → IfSome y PendedInRange → length {A = ℕ} (given y [] (λ k. cond (same_update k.update u) k.seal [])) ≤ most_seal
      by None g = omega arith
      by (Some k) g = by_same k (same_update k.update u) g

  -- a representative's Prepare goes out as an assignment
  assigned_again : (s : Statement) (to : Scope) → StatementInRange s → MayShare s → OutAgain (Make s (forms.Assign (pending_seal state.pending s)) to)
  assigned_again (Prepare site view local number values.Noop) to h may =
      ((h, λ signed g. ((h.0.0, h.0.1, omega arith, g.0), (h.1.1, h.1.2, h.1.3, h.1.4, g.1))), may.1)
  assigned_again (Prepare site view local number (values.Update u)) to h may = (
    (
      h,
      λ signed g.
          ((h.0.0, h.0.1, pending_seal_short (values.Update u) (state.pending u.client.0) (inside.pending u.client.0) u refl, g.0), (h.1.1, h.1.2, h.1.3, h.1.4, g.1)),
    ),
    may.1,
  )
  assigned_again (Proposal site view local number value) to h may = share_again (Proposal site view local number value) to h may
  assigned_again (Accept site view number value) to h may = share_again (Accept site view number value) to h may
  assigned_again (LocalVc site local) to h may = share_again (LocalVc site local) to h may
  assigned_again (GlobalVc site view) to h may = share_again (GlobalVc site view) to h may
  assigned_again (LocalReport site local index view base items) to h may = share_again (LocalReport site local index view base items) to h may
  assigned_again (GlobalReport site view index base items) to h may = share_again (GlobalReport site view index base items) to h may
  assigned_again (LocalUnion site local greatest base items) to h may = share_again (LocalUnion site local greatest base items) to h may
  assigned_again (GlobalUnion site view base items) to h may = share_again (GlobalUnion site view base items) to h may
  assigned_again (Reply site client time number result) to h may = share_again (Reply site client time number result) to h may
  assigned_again (ClientUpdate update) to h may = share_again (ClientUpdate update) to h may

  -- a Prepare
  prepare_in_range : (m : Sealing) → StatementInRange m.statement → MayShare m.statement → OutAgain (prepare_again state m)
  prepare_in_range m h may =
      either OutAgain (nat_eq state.here.seat.index (rep state.here)) _ _ (assigned_again m.statement (to_site state.here) h may) (share_again m.statement (to_site state.here) h may)

  -- the Prepare of a slot, where there is one
  prepare_of_again : (p : Place) (made : Option Sealing) → state.slots.made p ≡ made → IfSome made (SealingInRange (at_place p)) →
      IfSome (given made None (λ m. Some (prepare_again state m))) OutAgain
  prepare_of_again p None e h = tt
  prepare_of_again p (Some m) e h = prepare_in_range m h.0 (place_shared p m e m.statement h.0 h.1)

  -- what was made for a number
  number_in_range : (n : ℕ) → Each OutAgain (number_again state n)
  number_in_range n =
      let prepare : Place = AtPrepare state.here.view state.here.local n in
      let proposal : Place = AtProposal state.here.view state.here.local n in
      let accept : Place = AtAccept state.here.view n in
      let again : Option Out = given (state.slots.made prepare) None (λ m. Some (prepare_again state m)) in
      append_all OutAgain (to_list again ++ share_of (state.slots.made proposal) (to_rep state.here)) (share_of (state.slots.made accept) (to_rep state.here))
      (append_all OutAgain (to_list again) (share_of (state.slots.made proposal) (to_rep state.here))
      (to_list_all OutAgain again (prepare_of_again prepare (state.slots.made prepare) refl (inside.made prepare)))
      (share_of_again (at_place proposal) (state.slots.made proposal) (to_rep state.here) (inside.made proposal) (place_shared proposal)))
      (share_of_again (at_place accept) (state.slots.made accept) (to_rep state.here) (inside.made accept) (place_shared accept))

  -- ---- messages that were sent

  -- the report of a view
  report_in_range : (t : Term) → Each OutAgain (report_again state t)
  report_in_range t =
      either (Each OutAgain) (is_some (state.making.union t)) [] _ tt
      (chosen SentReportInRange (Each OutAgain) (state.own.report t) [] (λ r. Send (messages.Report r) (to_rep state.here) ∷ []) (inside.own.report t) tt (λ r g. ((g, tt), tt)))

  -- a certificate
  certificate_in_range : (x : Option Completed) → IfSome x CompletedInRange → Each OutAgain (certificate_again state.here x)
  certificate_in_range x h =
      chosen CompletedInRange (Each OutAgain) x [] (λ c. Send (messages.Certificate c.statement c.quorum) (certificate_to state.here c.statement) ∷ []) h tt (λ c g. ((g, tt), tt))

  -- the certificates of a number
  certificates_in_range : (n : ℕ) → Each OutAgain (certificates_again state n)
  certificates_in_range n =
      append_all OutAgain (certificate_again state.here (state.own.proposal state.here.view n)) (certificate_again state.here (state.own.accept state.here.view n))
      (certificate_in_range (state.own.proposal state.here.view n) (inside.own.proposal state.here.view n))
      (certificate_in_range (state.own.accept state.here.view n) (inside.own.accept state.here.view n))

  -- ---- what is asked for

  module _ (few : state.here.executed < 2 ^ 32) where
    -- of one server
    ask_in_range : (site index : ℕ) → Each OutAgain (ask_to state.here site index)
    ask_in_range site index =
        either (Each OutAgain) (nat_eq site state.here.seat.site && nat_eq index state.here.seat.index) [] (Send (ask state.here) (to_server_at site index) ∷ []) tt
        (((tt, (inside.here.seat.site, inside.here.seat.index, few, inside.here.view, inside.here.local)), tt), tt)

    -- All that a tick sends.
    pub tick_in_range : Each OutAgain (tick_out state)
    unfolding tick_out
    tick_in_range =
        let here : Here = state.here in
        let next : (xs ys : List Out) → Each OutAgain xs → Each OutAgain ys → Each OutAgain (xs ++ ys) = append_all OutAgain in
        let union : (t : Term) → Each OutAgain (share_of (state.making.union t) (to_rep here)) =
        λ t. share_of_again (at_union t) (state.making.union t) (to_rep here) (inside.making.union t) (union_shared t)
        in
        next _ _
        (next _ _
        (next _ _
        (next _ _
        (next _ _
        (next _ _
        (next _ _
        (next _ _
        (next _ _
        (next _ _
        (next _ _
        (next _ _
        (share_of_again (at_vc (OfLocal (here.local + 1))) (state.making.vc (OfLocal (here.local + 1))) (to_site here) (inside.making.vc (OfLocal (here.local + 1)))
        (vc_shared (OfLocal (here.local + 1))))
        (share_of_again (at_vc (OfGlobal (here.view + 1))) (state.making.vc (OfGlobal (here.view + 1))) (to_rep here) (inside.making.vc (OfGlobal (here.view + 1)))
        (vc_shared (OfGlobal (here.view + 1)))))
        (report_in_range (OfLocal here.local)))
        (report_in_range (OfGlobal here.view)))
        (union (OfLocal here.local)))
        (union (OfGlobal here.view)))
        (all_below_all OutAgain (λ k. number_again state (here.executed + 1 + k)) WINDOW (λ k. number_in_range (here.executed + 1 + k))))
        (certificate_in_range state.own.vc inside.own.vc))
        (certificate_in_range (state.own.union (OfLocal here.local)) (inside.own.union (OfLocal here.local))))
        (certificate_in_range (state.own.union (OfGlobal here.view)) (inside.own.union (OfGlobal here.view))))
        (all_below_all OutAgain (λ k. certificates_again state (here.executed + 1 + k)) WINDOW (λ k. certificates_in_range (here.executed + 1 + k))))
        (ask_in_range here.seat.site ((here.seat.index + 1) % servers here)))
        (ask_in_range ((here.seat.site + 1) % here.seat.sites) here.seat.index)
