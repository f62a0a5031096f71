-- The parts of a server for views and for what others lack: views are entered by proof, and proofs are handed on.
use Rattle.std.proofs.Common.{◌≡◌, ℕ, ◌+◌, ◌-◌, Bool, true, false, nat_eq, List, [], ◌∷◌, ◌++◌, sym, subst, refl}
use Rattle.std.proofs.lemmas.Bool.{eqb-true, or_parts}
use Rattle.std.specs.Prelude.{◌&&◌, ◌||◌, min, not, nat_le, nat_lt, Option, None, is_some}
use Rattle.std.specs.Option.{IfSome}
use Rattle.std.specs.List.{AllByRecursion as Each}
use Rattle.st_words.specs.declared.deployment.TheConstants.{WINDOW}
use Rattle.st_words.specs.declared.ids.ServerId.{ServerId}
use Rattle.st_words.specs.declared.ids.Who.{Who}
use Rattle.st_words.specs.declared.statement.Statement.{Statement}
use Rattle.st_seal.specs.declared.quorum.Signed.{Signed}
use Rattle.st_message.specs.declared.message.SiteWord.{SiteWord}
use Rattle.st_message.specs.declared.message.Proof.{Proof}
use Rattle.st_message.specs.declared.message.ViewWords.TheVariants as view_words
use Rattle.st_message.specs.declared.message.Message.{Message}
use Rattle.st_message.specs.declared.message.Message.TheVariants as messages
use Rattle.st_message.specs.declared.event.Scope.TheVariants as scopes
use Rattle.st_message.specs.declared.change.Change.{Change}
use Rattle.st_message.specs.declared.change.Change.TheVariants.{EnterLocal, EnterGlobal}
use Rattle.st_message.specs.declared.change.Heard.{Heard}
use Rattle.st_message.specs.declared.step.Form.TheVariants as forms
use Rattle.st_message.specs.declared.step.Out.{Out}
use Rattle.st_message.specs.declared.step.Out.TheVariants.{Send}
use Rattle.st_message.specs.declared.step.Step.{Step}
use Rattle.st_protocol.specs.Words.{Bytes, Quorum, server_at, a_prepare, a_local_vc, a_global_vc, site_of}
use Rattle.st_protocol.specs.Keeping.{given}
use Rattle.st_protocol.specs.State.{Here, Sealing, Share, Slots, Vote, Votes, Pended, KeptViews}
use Rattle.st_protocol.specs.Step.{Answer, then, making, recording, keeping, when, to_rep, to_site, not_site, other_view, not_rep, bound, seen, spent, complete, completes, completed, certifies, one_if}
use Rattle.st_protocol.specs.Forced.{Forced}
use Rattle.st_protocol.specs.Assigning.{fill_value, fill}
use Rattle.st_protocol.specs.Views.{votes_for, has_voted, on_local_timeout, on_global_timeout, on_local_share, on_local_proof, on_global_share, on_view_proof}
use Rattle.st_protocol.specs.Reconciling.{owed_proofs, owed_view, owed_local, answer}
use Rattle.st_protocol.specs.Certificates.{is_local_proof}
use Rattle.st_frame_laws.proofs.ChoiceLaws.{either, chosen, when_has, not_false, append_all, all_below_all, if_any}
use Rattle.st_frame_laws.proofs.PartFrame.{StepHas, AnswerHas, idle_has, then_has, making_has, recording_has, keeping_has, decides_fits}
use Rattle.st_frame_laws.proofs.FillFrame.{fill_kept}
use Rattle.st_certificate_laws.proofs.QuorumLaws.{completed_is_certificate}
use Rattle.st_certificate_laws.proofs.CertificateFacts.{Certifies, IsOrder, IsAsked, ChangeHas, HeardHas, OutHas, TakenHas, other, SharesHave}
use Rattle.st_certificate_laws.proofs.SlotParts.{makes_has, when_true, certified}

module _ (holds : Who → Statement → Bytes → Bool) (here : Here) where
  -- at this server: of a change,
  abbrev ChangeFits : Change → Type 0
  ChangeFits x = ChangeHas holds here.seat x

  -- of what is kept as heard,
  abbrev HeardFits : Heard → Type 0
  HeardFits m = HeardHas holds here.seat m

  -- of what goes out,
  abbrev OutFits : Out → Type 0
  OutFits o = OutHas holds here.seat o

  -- of a message that is taken,
  abbrev TakenFits : Message → Type 0
  TakenFits m = TakenHas holds here.seat m

  -- and of an answer
  abbrev Fits : Answer → Type 0
  Fits a = AnswerHas ChangeFits HeardFits OutFits a

  -- ---- views

  -- the timeout of a local view
  pub local_timeout_has : (made : Option Sealing) → Fits (on_local_timeout here made)
  local_timeout_has made =
      decides_fits Fits (λ reason. tt) (bound (here.local + 1) ∷ seen (is_some made) ∷ spent here 1 ∷ [])
      (making here.leaf (a_local_vc here.seat.site (here.local + 1)) forms.Share (to_site here))
      (λ none. makes_has holds here here.leaf (a_local_vc here.seat.site (here.local + 1)) (to_site here))

  -- the timeout of a view
  pub global_timeout_has : (made : Option Sealing) → Fits (on_global_timeout here made)
  global_timeout_has made =
      decides_fits Fits (λ reason. tt) (bound (here.view + 1) ∷ seen (is_some made) ∷ spent here 1 ∷ [])
      (making here.leaf (a_global_vc here.seat.site (here.view + 1)) forms.Share (to_rep here))
      (λ none. makes_has holds here here.leaf (a_global_vc here.seat.site (here.view + 1)) (to_rep here))

  -- votes for one view, as shares
  votes_have : (of_view : ℕ → Statement) (site view : ℕ) (votes : ℕ → Option Vote) → site_of (of_view view) ≡ site →
      ((i : ℕ) → IfSome (votes i) (λ v. holds (server_at site i) (of_view v.view) v.seal ≡ true)) → SharesHave holds here (votes_for (of_view view) view votes)
  votes_have of_view site view votes is h i =
      chosen (λ v. holds (server_at site i) (of_view v.view) v.seal ≡ true) (λ (x : Option Share). IfSome x (λ y. holds (server_at (site_of y.statement) i) y.statement y.seal ≡ true))
      (votes i) None _ (h i) tt
      (λ v g.
      when_has (λ (y : Share). holds (server_at (site_of y.statement) i) y.statement y.seal ≡ true) (nat_eq v.view view) (record { statement = of_view view; seal = v.seal })
      (λ yes.
      subst (λ at. holds (server_at at i) (of_view view) v.seal ≡ true) (sym is)
      (subst (λ n. holds (server_at site i) (of_view n) v.seal ≡ true) (eqb-true v.view view yes) g)))

  -- a share that asks for a local view
  pub local_share_has : (votes : Votes) (site local : ℕ) (signed : Signed) →
      ((i : ℕ) → IfSome (votes.local i) (λ v. holds (server_at here.seat.site i) (a_local_vc here.seat.site v.view) v.seal ≡ true)) → TakenFits (messages.Share (a_local_vc site local) signed) →
      Fits (on_local_share here votes site local signed)
  unfolding is_local_proof
  local_share_has votes site local signed kept h =
      let s : Statement = a_local_vc site local in
      let shares : (ℕ → Option Share) = votes_for s local votes.local in
      let done : Bool = completes here shares s signed in
      let entering : Step = recording (EnterLocal (record { 0 = local }) (completed here shares s signed)) in
      decides_fits Fits (λ reason. tt)
      (not_site here site
      ∷ other_view here (nat_le local here.local)
      ∷ bound local
      ∷ seen (has_voted local (votes.local signed.index) || complete here shares)
      ∷ spent here (one_if done)
      ∷ [])
      (then (keeping (messages.Share s signed)) (when done entering))
      (λ none.
      let is : site ≡ here.seat.site = not_false site here.seat.site none.0 in
      let all : SharesHave holds here shares =
      votes_have (λ v. a_local_vc site v) site local votes.local refl
      (λ i. subst (λ at. IfSome (votes.local i) (λ v. holds (server_at at i) (a_local_vc at v.view) v.seal ≡ true)) (sym is) (kept i)) in
      let few : complete here shares ≡ false = (or_parts (has_voted local (votes.local signed.index)) (complete here shares) none.1.1.1.0).1 in
      then_has ChangeFits HeardFits OutFits (keeping (messages.Share s signed)) (when done entering) (keeping_has ChangeFits HeardFits OutFits (messages.Share s signed) (other holds here (messages.Share s signed) h.0 is tt))
      (when_true holds here done entering
      (λ yes.
      recording_has ChangeFits HeardFits OutFits (EnterLocal (record { 0 = local }) (completed here shares s signed))
      (subst (λ at. Certifies holds here.seat (a_local_vc at local) (completed here shares s signed)) is (completed_is_certificate holds here shares s signed all h.0 few yes), λ at. tt))))

  -- the proof of a local view
  pub local_proof_has : (site local : ℕ) (q : Quorum) → TakenFits (messages.ViewProof (view_words.Local (a_local_vc site local) q)) → Fits (on_local_proof here site local q)
  unfolding is_local_proof
  local_proof_has site local q h =
      decides_fits Fits (λ reason. tt) (not_site here site ∷ other_view here (nat_le local here.local) ∷ bound local ∷ spent here 1 ∷ [])
      (recording (EnterLocal (record { 0 = local }) q))
      (λ none.
      recording_has ChangeFits HeardFits OutFits (EnterLocal (record { 0 = local }) q)
      (subst (λ at. Certifies holds here.seat (a_local_vc at local) q) (not_false site here.seat.site none.0) h.0, λ at. tt))

  -- a share that asks for a view
  pub global_share_has : (votes : Votes) (site view : ℕ) (signed : Signed) →
      ((i : ℕ) → IfSome (votes.global i) (λ v. holds (server_at here.seat.site i) (a_global_vc here.seat.site v.view) v.seal ≡ true)) → TakenFits (messages.Share (a_global_vc site view) signed) →
      Fits (on_global_share here votes site view signed)
  global_share_has votes site view signed kept h =
      let s : Statement = a_global_vc site view in
      let shares : (ℕ → Option Share) = votes_for s view votes.global in
      decides_fits Fits (λ reason. tt)
      (not_site here site
      ∷ other_view here (nat_le view here.view)
      ∷ not_rep here
      ∷ bound view
      ∷ seen (has_voted view (votes.global signed.index) || complete here shares)
      ∷ [])
      (certifies here shares s signed scopes.All)
      (λ none.
      let is : site ≡ here.seat.site = not_false site here.seat.site none.0 in
      certified holds here shares s signed scopes.All
      (votes_have (λ v. a_global_vc site v) site view votes.global refl
      (λ i. subst (λ at. IfSome (votes.global i) (λ v. holds (server_at at i) (a_global_vc at v.view) v.seal ≡ true)) (sym is) (kept i)))
      h is (or_parts (has_voted view (votes.global signed.index)) (complete here shares) none.1.1.1.1.0).1)

  -- the proof of a view
  pub view_proof_has : (view : ℕ) (words : List SiteWord) → TakenFits (messages.ViewProof (view_words.Global (record { 0 = view }) words)) → Fits (on_view_proof here view words)
  view_proof_has view words h =
      decides_fits Fits (λ reason. tt) (other_view here (nat_le view here.view) ∷ bound view ∷ spent here 1 ∷ []) (recording (EnterGlobal (record { 0 = view }) words))
      (λ none. recording_has ChangeFits HeardFits OutFits (EnterGlobal (record { 0 = view }) words) (h.0, λ at. tt))

  -- ---- what a server lacks

  -- what another server lacks
  pub ask_has : (proofs : ℕ → Option Proof) (kept : KeptViews) (to : ServerId) (executed view local : ℕ) → ((n : ℕ) → IfSome (proofs n) (IsOrder holds here.seat n)) →
      IfSome kept.local (Certifies holds here.seat (a_local_vc here.seat.site here.local)) → IfSome kept.view (IsAsked holds here.seat here.view) → Fits (answer here proofs kept to executed view local)
  ask_has proofs kept to executed view local p l v =
      decides_fits Fits (λ reason. tt) (seen (nat_le here.executed executed && nat_le here.view view && not (nat_eq to.site here.seat.site && nat_lt local here.local)) ∷ [])
      (record { changes = []; heard = []; out = owed_proofs here proofs to executed ++ owed_view here kept to view ++ owed_local here kept to local })
      (λ none.
      record {
        changes = tt;
        heard = tt;
        out =
            append_all OutFits (owed_proofs here proofs to executed ++ owed_view here kept to view) (owed_local here kept to local)
            (append_all OutFits (owed_proofs here proofs to executed) (owed_view here kept to view)
            (all_below_all OutFits (λ k. given (proofs (executed + 1 + k)) [] (λ p. Send (messages.OrderProof (record { 0 = executed + 1 + k }) p) (scopes.One to) ∷ []))
            (min here.executed (executed + WINDOW) - executed)
            (λ k.
            chosen (IsOrder holds here.seat (executed + 1 + k)) (Each OutFits) (proofs (executed + 1 + k)) [] (λ p. Send (messages.OrderProof (record { 0 = executed + 1 + k }) p) (scopes.One to) ∷ [])
            (p (executed + 1 + k)) tt (λ p h. (h, tt))))
            (either (Each OutFits) (nat_lt view here.view) _ [] (chosen (IsAsked holds here.seat here.view) (Each OutFits) kept.view [] _ v tt (λ words h. (h, tt))) tt))
            (either (Each OutFits) (nat_eq to.site here.seat.site && nat_lt local here.local) _ []
            (chosen (Certifies holds here.seat (a_local_vc here.seat.site here.local)) (Each OutFits) kept.local [] _ l tt (λ q h. (h, tt))) tt);
      })

  -- ---- the fill

  -- What the representative makes.
  pub fill_has : (slots : Slots) (pending : ℕ → Option Pended) (forced : Forced) → StepHas ChangeFits HeardFits OutFits (fill here slots pending forced)
  fill_has slots pending forced =
      fill_kept (StepHas ChangeFits HeardFits OutFits) (λ x. Unit {0}) here pending forced slots (idle_has ChangeFits HeardFits OutFits)
      (λ may.
      record {
        value = λ slots n. if_any (fill_value here slots pending forced n);
        assigning = λ step leaf n x h any.
            let s : Statement = a_prepare here.seat.site here.view here.local n x.0 in
            then_has ChangeFits HeardFits OutFits step (making leaf s (forms.Assign x.1) (to_site here)) h (making_has ChangeFits HeardFits OutFits leaf s (forms.Assign x.1) (to_site here) (refl, λ at. tt) tt);
      })
