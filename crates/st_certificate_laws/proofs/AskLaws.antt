-- Fewer than a majority of sites ask for any one view: of what a server keeps.
use Rattle.std.proofs.Common.{◌≡◌, ℕ, ◌+◌, ◌<◌, ◌≤◌, Bool, true, false, cond, zero, suc, nat_eq, nat_lt, nat_le, List, [], sym, subst, refl, inl, inr, ◌⊎◌, arith}
use Rattle.std.proofs.lemmas.Bool.{eqb-true, leb-true, leb-false, lt-ltb, cases_eq}
use Rattle.std.specs.Prelude.{◌/◌, max, Option, Some, None}
use Rattle.st_words.specs.declared.statement.Statement.TheVariants.{GlobalVc}
use Rattle.st_message.specs.declared.message.SiteWord.{SiteWord}
use Rattle.st_message.specs.declared.message.Message.{Message}
use Rattle.st_message.specs.declared.message.Message.TheVariants as messages
use Rattle.st_message.specs.declared.change.Change.{Change}
use Rattle.st_message.specs.declared.change.Change.TheVariants.{EnterGlobal}
use Rattle.st_message.specs.declared.change.Heard.{Heard}
use Rattle.st_protocol.specs.Words.{Quorum, a_global_vc}
use Rattle.st_protocol.specs.Keeping.{given, greatest, from, gathered}
use Rattle.st_protocol.specs.State.{Seat, Asked, Answers, asked_view}
use Rattle.st_protocol.specs.Questions.{asked_in, questions}
use Rattle.st_protocol.specs.Growth.{here_after, notes, takes, cuts, after, hears}
use Rattle.st_protocol.specs.Step.{count_below}
use Rattle.st_protocol.specs.Views.{with_asked, asks_for}
use Rattle.st_protocol.specs.Duty.{Pen, Course, records, keeps, puts, emits, reports_as, reports, carries_change}
use Rattle.st_certificate_laws.proofs.CountLaws.{one_most, fewer_below, one_more_below}

-- a message that asks for no view
abbrev pub AsksNot : Message → Type 0
AsksNot (messages.Certificate (GlobalVc site view) q) = ⊥
AsksNot m = Unit {0}

module _ (sites : ℕ) where
  -- how many sites ask for a view
  abbrev pub asking : ℕ → (ℕ → Option Asked) → ℕ
  asking v asked = count_below (λ s. asks_for v (asked s)) sites

  -- fewer than a majority ask for any one view
  abbrev pub FewAsk : (ℕ → Option Asked) → Type 0
  FewAsk asked = (v : ℕ) → asking v asked < sites / 2 + 1

  -- so where no more ask
  fewer_ask : (asked more : ℕ → Option Asked) (v : ℕ) → ((s : ℕ) → asks_for v (asked s) ≡ true → asks_for v (more s) ≡ true) → asking v more < sites / 2 + 1 → asking v asked < sites / 2 + 1
  fewer_ask asked more v h few =
      let less : asking v asked ≤ asking v more = fewer_below (λ s. asks_for v (asked s)) (λ s. asks_for v (more s)) h sites in omega (arith, few, less)

  -- nobody asks
  none_count : (k : ℕ) → count_below (λ s. false) k ≡ 0
  unfolding count_below
  none_count zero = refl
  none_count (suc k) = let before = none_count k in omega (arith, before)

  -- where nothing is kept, no majority asks
  none_ask : FewAsk (λ s. None)
  none_ask v = let none = none_count sites in omega (arith, none)

  -- what is dropped asks no more
  from_asks : (v n : ℕ) (x : Option Asked) → asks_for v (from asked_view n x) ≡ true → asks_for v x ≡ true
  from_asks v n None e = e
  from_asks v n (Some a) e = by (nat_le n a.view) e
    where
      by : (b : Bool) → asks_for v (cond b (Some a) None) ≡ true → nat_eq a.view v ≡ true
      by true h = h
      by false h = absurd (let no : false ≡ true = h in cc)

  -- so where the older ones are dropped
  few_from : (asked : ℕ → Option Asked) (n : ℕ) → FewAsk asked → FewAsk (λ s. from asked_view n (asked s))
  few_from asked n few v = fewer_ask (λ s. from asked_view n (asked s)) asked v (λ s. from_asks v n (asked s)) (few v)

  -- After one change more,
  pub few_after : (state : Answers) (x : Change) → FewAsk state.votes.asked → FewAsk (after state x).votes.asked
  unfolding after notes cuts
  few_after state x few = few_from state.votes.asked ((here_after x state.here).view + 1) few

  -- and of a server that heard nothing.
  pub few_nothing : (seat : Seat) (bodies : List (List Change)) → FewAsk (questions seat bodies []).votes.asked
  unfolding questions gathered
  few_nothing seat bodies = few_from (λ s. None) ((questions seat bodies []).here.view + 1) none_ask

  -- ---- something heard

  -- what a certificate that asks for a view may leave
  abbrev pub MayAsk : Answers → Message → Type 0
  MayAsk state (messages.Certificate (GlobalVc site view) q) =
      FewAsk (λ s. from asked_view (state.here.view + 1) (greatest asked_view (state.votes.asked s) (asked_in s (messages.Certificate (GlobalVc site view) q))))
  MayAsk state m = Unit {0}

  -- a message that is no such certificate may come
  pub asks_not : (state : Answers) (m : Message) → AsksNot m → MayAsk state m
  asks_not state (messages.Certificate (GlobalVc site view) q) h = absurd h
  asks_not state _ h = tt

  -- with nothing new
  same_asks : (v : ℕ) (x : Option Asked) → asks_for v (greatest asked_view x None) ≡ true → asks_for v x ≡ true
  same_asks v None e = e
  same_asks v (Some a) e = e

  -- so once a view is entered, which drops what is not above it
  kept_ask : (asked : ℕ → Option Asked) (n : ℕ) → FewAsk asked → FewAsk (λ s. from asked_view n (greatest asked_view (asked s) None))
  kept_ask asked n few v =
      fewer_ask (λ s. from asked_view n (greatest asked_view (asked s) None)) asked v (λ s e. same_asks v (asked s) (from_asks v n (greatest asked_view (asked s) None) e)) (few v)

  -- After one thing heard more.
  pub few_hears : (state : Answers) (m : Heard) → FewAsk state.votes.asked → (m.own ≡ false → MayAsk state m.message) → FewAsk (hears state m).votes.asked
  unfolding hears takes cuts
  few_hears state m few may = by m.own refl
    where
      n : ℕ
      n = state.here.view + 1

      other : (x : Message) → MayAsk state x → FewAsk (λ s. from asked_view n (greatest asked_view (state.votes.asked s) (asked_in s x)))
      other (messages.Certificate (GlobalVc site view) q) h = h
      other _ h = kept_ask state.votes.asked n few

      by : (b : Bool) → m.own ≡ b → FewAsk (λ s. from asked_view n (greatest asked_view (state.votes.asked s) (cond b None (asked_in s m.message))))
      by true e = kept_ask state.votes.asked n few
      by false e = other m.message (may e)

  -- ---- a site's certificate that asks for a view

  module _ (asked : ℕ → Option Asked) (site view : ℕ) (q : Quorum) where
    -- what is kept of the certificate
    abbrev new : Asked
    new = record { view = view; quorum = q }

    -- kept where its site asked for no such view: with too few for this view, all are few
    pub few_with : FewAsk asked → given (asked site) false (λ a. nat_le view a.view) ≡ false → asking view (with_asked asked site view q) < sites / 2 + 1 → (n : ℕ) →
        FewAsk (λ s. from asked_view n (greatest asked_view (asked s) (asked_in s (messages.Certificate (a_global_vc site view) q))))
    few_with few higher now n v =
        fewer_ask (λ s. from asked_view n (greatest asked_view (asked s) (asked_in s (messages.Certificate (a_global_vc site view) q)))) (with_asked asked site view q) v
        (λ s e. replaced s (from_asks v n (greatest asked_view (asked s) (asked_in s (messages.Certificate (a_global_vc site view) q))) e)) (any (cases_eq v view))
      where
        takes_new : (x : Option Asked) → given x false (λ a. nat_le view a.view) ≡ false → asks_for v (greatest asked_view x (Some new)) ≡ true → asks_for v (Some new) ≡ true
        takes_new None g e = e
        takes_new (Some a) g e =
            let less = leb-false view a.view g in subst (λ b. asks_for v (cond b (Some new) (Some a)) ≡ true) (lt-ltb a.view view less) e

        by_site : (s : ℕ) (b : Bool) → nat_eq site s ≡ b → asks_for v (greatest asked_view (asked s) (cond b (Some new) None)) ≡ true → asks_for v (cond b (Some new) (asked s)) ≡ true
        by_site s true is e = takes_new (asked s) (subst (λ t. given (asked t) false (λ a. nat_le view a.view) ≡ false) (eqb-true site s is) higher) e
        by_site s false is e = same_asks v (asked s) e

        replaced : (s : ℕ) → asks_for v (greatest asked_view (asked s) (asked_in s (messages.Certificate (a_global_vc site view) q))) ≡ true → asks_for v (with_asked asked site view q s) ≡ true
        replaced s e = by_site s (nat_eq site s) refl e

        old : (v ≡ view → ⊥) → (s : ℕ) (b : Bool) → asks_for v (cond b (Some new) (asked s)) ≡ true → asks_for v (asked s) ≡ true
        old other s true e = absurd (other (sym (eqb-true view v e)))
        old other s false e = e

        any : (v ≡ view) ⊎ (v ≡ view → ⊥) → asking v (with_asked asked site view q) < sites / 2 + 1
        any (inl is) = subst (λ y. asking y (with_asked asked site view q) < sites / 2 + 1) (sym is) now
        any (inr other) = fewer_ask (with_asked asked site view q) asked v (λ s. old other s (nat_eq site s)) (few v)

    -- dropped where the view was entered
    pub few_without : FewAsk asked → (n : ℕ) → view < n → FewAsk (λ s. from asked_view n (greatest asked_view (asked s) (asked_in s (messages.Certificate (a_global_vc site view) q))))
    few_without few n above v =
        fewer_ask (λ s. from asked_view n (greatest asked_view (asked s) (asked_in s (messages.Certificate (a_global_vc site view) q)))) asked v (λ s. by_site s (nat_eq site s)) (few v)
      where
        dropped : asks_for v (from asked_view n (Some new)) ≡ true → ⊥
        dropped e = by (nat_le n view) refl e
          where
            by : (b : Bool) → nat_le n view ≡ b → asks_for v (cond b (Some new) None) ≡ true → ⊥
            by true low h = let least = leb-true n view low in omega (arith, least, above)
            by false low h = let no : false ≡ true = h in absurd (let bad : false ≡ true = no in cc)

        either_one : (x : Option Asked) → asks_for v (from asked_view n (greatest asked_view x (Some new))) ≡ true → asks_for v x ≡ true
        either_one None e = absurd (dropped e)
        either_one (Some a) e = by (nat_lt a.view new.view) e
          where
            by : (b : Bool) → asks_for v (from asked_view n (cond b (Some new) (Some a))) ≡ true → asks_for v (Some a) ≡ true
            by true h = absurd (dropped h)
            by false h = from_asks v n (Some a) h

        by_site : (s : ℕ) (b : Bool) → asks_for v (from asked_view n (greatest asked_view (asked s) (cond b (Some new) None))) ≡ true → asks_for v (asked s) ≡ true
        by_site s true e = either_one (asked s) e
        by_site s false e = same_asks v (asked s) (from_asks v n (greatest asked_view (asked s) None) e)

    -- exactly a majority where it is reached
    pub exactly_ask : FewAsk asked → sites / 2 + 1 ≤ asking view (with_asked asked site view q) → asking view (with_asked asked site view q) ≡ sites / 2 + 1
    exactly_ask few enough =
        let before : asking view asked < sites / 2 + 1 = few view in
        let more : asking view (with_asked asked site view q) ≤ asking view asked + cond (nat_lt site sites) 1 0 =
        one_more_below (λ s. asks_for view (with_asked asked site view q s)) (λ s. asks_for view (asked s)) site other sites in
        let most = one_most (nat_lt site sites) in
        omega (arith, before, more, most, enough)
      where
        other : (s : ℕ) → nat_eq site s ≡ false → asks_for view (with_asked asked site view q s) ≡ true → asks_for view (asked s) ≡ true
        other s apart is = subst (λ b. asks_for view (cond b (Some (record { view = view; quorum = q })) (asked s)) ≡ true) apart is

-- where entering a view leaves the server
pub view_after : (pen : Pen) (w : Course) (y : ℕ) (words : List SiteWord) → (carries_change pen w (EnterGlobal (record { 0 = y }) words)).now.here.view ≡ max w.now.here.view y
unfolding carries_change reports reports_as keeps emits puts records after hears takes notes cuts
view_after pen w y words = refl
