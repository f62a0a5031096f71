-- The fill, what is in hand, what a server lacks and the tick hand on seals that the server recorded, heard or is given.
use Rattle.std.proofs.Common.{◌≡◌, ℕ, ◌+◌, ◌-◌, Bool, true, false, cond, zero, suc, nat_eq, nat_lt, nat_le, List, [], ◌∷◌, ◌++◌, arith, subst, refl}
use Rattle.std.proofs.lemmas.Bool.{eqb-true, leb-true, and_parts}
use Rattle.std.specs.Prelude.{◌&&◌, ◌%◌, min, not, Option, Some, None, take, max, ◌≤◌}
use Rattle.std.specs.Option.{IfSome}
use Rattle.std.specs.List.{AllByRecursion as Each}
use Rattle.st_words.specs.declared.deployment.TheConstants.{WINDOW}
use Rattle.st_words.specs.declared.ids.ServerId.{ServerId}
use Rattle.st_words.specs.declared.value.Update.{Update}
use Rattle.st_words.specs.declared.value.Value.{Value}
use Rattle.st_words.specs.declared.value.Value.TheVariants as values
use Rattle.st_words.specs.declared.statement.Statement.{Statement}
use Rattle.st_words.specs.declared.statement.Statement.TheVariants.{Prepare, Accept}
use Rattle.st_message.specs.declared.message.SiteWord.{SiteWord}
use Rattle.st_message.specs.declared.message.Proof.{Proof}
use Rattle.st_message.specs.declared.message.Message.{Message}
use Rattle.st_message.specs.declared.message.Message.TheVariants as messages
use Rattle.st_message.specs.declared.event.Scope.TheVariants as scopes
use Rattle.st_message.specs.declared.change.Heard.{Heard}
use Rattle.st_message.specs.declared.step.Form.TheVariants as forms
use Rattle.st_message.specs.declared.step.Out.TheVariants.{Send}
use Rattle.st_message.specs.declared.step.Step.{Step}
use Rattle.st_protocol.specs.Words.{Bytes, a_prepare, an_accept, a_local_vc, a_global_vc, a_site_word, same_value, same_update}
use Rattle.st_protocol.specs.Keeping.{given, from, open_if}
use Rattle.st_protocol.specs.State.{Here, Slots, Pended, Word, Hand, KeptViews, word_view, word_height, open_number}
use Rattle.st_protocol.specs.Step.{first_below, then, making, all_below, count_below, majority, rep, leader, to_site, seen}
use Rattle.st_protocol.specs.Forced.{Forced, waits, forced_above}
use Rattle.st_protocol.specs.Assigning.{is_assigned, next_pending, fill_value, fill, is_empty}
use Rattle.st_protocol.specs.Ordering.{names, site_word, words_proof, in_hand}
use Rattle.st_protocol.specs.Reconciling.{owed_proofs, owed_view, owed_local, answer}
use Rattle.st_protocol.specs.Known.{Sealed}
use Rattle.st_protocol.specs.Growth.{hand_takes, hand_cuts}
use Rattle.st_protocol.specs.Questions.{word_in, height_in, taken_height, if_other}
use Rattle.st_protocol.specs.Duty.{pending_seal}
use Rattle.st_protocol.proofs.SameLaws.{same_value-Decides, same_update-Decides}
use Rattle.st_frame_laws.proofs.ChoiceLaws.{either, chosen, either_has, when_has, first_has, from_has, greatest_has, first_below_has, append_all, all_below_all}
use Rattle.st_frame_laws.proofs.PartFrame.{StepHas, AnswerHas, idle_has, then_has, making_has, decides_fits}
use Rattle.st_frame_laws.proofs.FillFrame.{fill_kept}
use Rattle.st_honest_laws.proofs.SealParts.{C, M, O, FormHas}
use Rattle.st_honest_laws.proofs.SealFacts.{QuorumHas, WordsHave, ProofHas, ClientHas, ValueHas}

-- ---- words of a number stand at its highest view

-- no word is above the highest view
abbrev pub NoneAbove : Hand → Type 0
NoneAbove hand = (n s : ℕ) → IfSome (hand.word n s) (λ w. w.view + 1 ≤ hand.highest n)

-- what one message says
height_has : (number site : ℕ) (m : Message) → IfSome (word_in number site m) (λ w. w.view + 1 ≤ height_in number m)
height_has number site (messages.Certificate (Accept s g n v) q) = by (nat_eq n.0 number) (nat_eq s.0 site)
  where
    by : (a b : Bool) → IfSome (cond (a && b) (Some (record { view = g.0; value = v; quorum = q })) None) (λ (w : Word). w.view + 1 ≤ cond a (g.0 + 1) 0)
    by true true = omega arith
    by true false = tt
    by false b = tt
height_has number site _ = tt

-- what one thing heard says
taken_has : (number site : ℕ) (m : Heard) → IfSome (if_other m (word_in number site)) (λ w. w.view + 1 ≤ taken_height number m)
taken_has number site m = by m.own (height_has number site m.message)
  where
    by : (own : Bool) → IfSome (word_in number site m.message) (λ w. w.view + 1 ≤ height_in number m.message) →
        IfSome (cond own None (word_in number site m.message)) (λ w. w.view + 1 ≤ cond own 0 (height_in number m.message))
    by true h = tt
    by false h = h

-- a higher bound
higher_bound : (x : Option Word) (a b : ℕ) → a ≤ b → IfSome x (λ w. w.view + 1 ≤ a) → IfSome x (λ w. w.view + 1 ≤ b)
higher_bound None a b e h = tt
higher_bound (Some w) a b e h = omega (arith, e, h)

-- after something heard, and less what is left behind
pub none_above_takes : (m : Heard) (hand : Hand) → NoneAbove hand → NoneAbove (hand_takes m hand)
none_above_takes m hand h n s =
    let top : ℕ = max (hand.highest n) (taken_height n m) in
    greatest_has (λ (w : Word). w.view + 1 ≤ top) word_view (hand.word n s) (if_other m (word_in n s)) (higher_bound (hand.word n s) (hand.highest n) top (omega arith) (h n s))
    (higher_bound (if_other m (word_in n s)) (taken_height n m) top (omega arith) (taken_has n s m))

pub none_above_cuts : (here : Here) (hand : Hand) → NoneAbove hand → NoneAbove (hand_cuts here hand)
none_above_cuts here hand h n s = by (open_number here n) (from_has (λ (w : Word). w.view + 1 ≤ hand.highest n) word_height (hand.highest n) (hand.word n s) (h n s))
  where
    by : (b : Bool) → IfSome (from word_height (hand.highest n) (hand.word n s)) (λ w. w.view + 1 ≤ hand.highest n) →
        IfSome (open_if b (from word_height (hand.highest n) (hand.word n s))) (λ w. w.view + 1 ≤ cond b (hand.highest n) 0)
    by true g = g
    by false g = tt

-- once the hand is cut, each word is at the highest view
pub at_highest : (here : Here) (hand : Hand) → NoneAbove hand → (n s : ℕ) → IfSome ((hand_cuts here hand).word n s) (λ w. w.view + 1 ≡ (hand_cuts here hand).highest n)
at_highest here hand h n s = by (open_number here n) (hand.word n s) (h n s)
  where
    kept : (x : Option Word) → IfSome x (λ w. w.view + 1 ≤ hand.highest n) → IfSome (from word_height (hand.highest n) x) (λ w. w.view + 1 ≡ hand.highest n)
    kept None g = tt
    kept (Some w) g =
        when_has (λ (w : Word). w.view + 1 ≡ hand.highest n) (nat_le (hand.highest n) (w.view + 1)) w (λ yes. let least = leb-true (hand.highest n) (w.view + 1) yes in omega (arith, least, g))

    by : (b : Bool) (x : Option Word) → IfSome x (λ w. w.view + 1 ≤ hand.highest n) →
        IfSome (open_if b (from word_height (hand.highest n) x)) (λ w. w.view + 1 ≡ cond b (hand.highest n) 0)
    by true x g = kept x g
    by false x g = tt

-- of a front of a list
take_all : {A : Type 0} (G : A → Type 0) (n : ℕ) (xs : List A) → Each G xs → Each G (take n xs)
take_all G zero xs h = tt
take_all G (suc n) [] h = tt
take_all G (suc n) (x ∷ xs) h = (h.0, take_all G n xs h.1)

module _ (H : Sealed → Type 0) (here : Here) where
  -- ---- what is in hand

  -- all words of a number at one view
  module _ (n top : ℕ) (words : ℕ → Option Word) (h : (s : ℕ) → IfSome (words s) (λ w. QuorumHas H (an_accept s w.view n w.value) w.quorum))
      (level : (s : ℕ) → IfSome (words s) (λ w. w.view + 1 ≡ top)) where
    site_word_has : (view : ℕ) (value : Value) → view + 1 ≡ top → (s : ℕ) → Each (λ (w : SiteWord). QuorumHas H (an_accept w.site.0 view n value) w.quorum) (site_word value words s)
    site_word_has view value is s = by (words s) (h s) (level s)
      where
        by : (x : Option Word) → IfSome x (λ w. QuorumHas H (an_accept s w.view n w.value) w.quorum) → IfSome x (λ w. w.view + 1 ≡ top) →
            Each (λ (w : SiteWord). QuorumHas H (an_accept w.site.0 view n value) w.quorum) (given x [] (λ w. cond (same_value w.value value) (a_site_word s w.quorum ∷ []) []))
        by None g l = tt
        by (Some w) g l = same (same_value w.value value) refl
          where
            same : (b : Bool) → same_value w.value value ≡ b → Each (λ (w : SiteWord). QuorumHas H (an_accept w.site.0 view n value) w.quorum) (cond b (a_site_word s w.quorum ∷ []) [])
            same true e = (
              subst (λ (v : Value). QuorumHas H (an_accept s view n v) w.quorum) ((same_value-Decides w.value value).0 e)
                  (subst (λ g. QuorumHas H (an_accept s g n w.value) w.quorum) (omega (arith, l, is)) g),
              tt,
            )
            same false e = tt

    words_proof_has : (s : ℕ) → IfSome (words_proof here words s) (ProofHas H n)
    words_proof_has s = by (words s) (level s)
      where
        by : (x : Option Word) → IfSome x (λ w. w.view + 1 ≡ top) →
            IfSome (given x None (λ w.
            cond (nat_le (majority here) (count_below (λ t. names w.value (words t)) here.seat.sites))
            (Some (record { view = record { 0 = w.view }; value = w.value; sites = take (majority here) (all_below (site_word w.value words) here.seat.sites) })) None)) (ProofHas H n)
        by None l = tt
        by (Some w) l =
            either_has (ProofHas H n) (nat_le (majority here) (count_below (λ t. names w.value (words t)) here.seat.sites)) _ None
            (take_all (λ (x : SiteWord). QuorumHas H (an_accept x.site.0 w.view n w.value) x.quorum) (majority here) (all_below (site_word w.value words) here.seat.sites)
            (all_below_all (λ (x : SiteWord). QuorumHas H (an_accept x.site.0 w.view n w.value) x.quorum) (site_word w.value words) here.seat.sites (site_word_has w.view w.value l))) tt

  -- the facts of a hand
  pub record InHand (hand : Hand) : Type 0 where
    pub has : (n s : ℕ) → IfSome (hand.word n s) (λ w. QuorumHas H (an_accept s w.view n w.value) w.quorum)
    pub proof : (n : ℕ) → IfSome (hand.proof n) (ProofHas H n)
    pub level : (n s : ℕ) → IfSome (hand.word n s) (λ w. w.view + 1 ≡ hand.highest n)

  -- The proof of a number that is in hand.
  pub in_hand_has : (hand : Hand) (n : ℕ) → InHand hand → IfSome (in_hand here hand n) (ProofHas H n)
  unfolding in_hand
  in_hand_has hand n h =
      first_has (ProofHas H n) (hand.proof n) (first_below (words_proof here (hand.word n)) here.seat.sites) (h.proof n)
      (first_below_has (ProofHas H n) (words_proof here (hand.word n)) here.seat.sites (words_proof_has n (hand.highest n) (hand.word n) (h.has n) (h.level n)))

  -- ---- what a server lacks

  pub ask_has : (proofs : ℕ → Option Proof) (kept : KeptViews) (to : ServerId) (executed view local : ℕ) → ((n : ℕ) → IfSome (proofs n) (ProofHas H n)) →
      IfSome kept.local (QuorumHas H (a_local_vc here.seat.site here.local)) → IfSome kept.view (WordsHave H (λ s. a_global_vc s here.view)) →
      AnswerHas (C H here) (M H here) (O H here) (answer here proofs kept to executed view local)
  ask_has proofs kept to executed view local p l v =
      decides_fits (AnswerHas (C H here) (M H here) (O H here)) (λ reason. tt)
      (seen (nat_le here.executed executed && nat_le here.view view && not (nat_eq to.site here.seat.site && nat_lt local here.local)) ∷ [])
      (record { changes = []; heard = []; out = owed_proofs here proofs to executed ++ owed_view here kept to view ++ owed_local here kept to local })
      (λ none.
      record {
        changes = tt;
        heard = tt;
        out =
            append_all (O H here) (owed_proofs here proofs to executed ++ owed_view here kept to view) (owed_local here kept to local)
            (append_all (O H here) (owed_proofs here proofs to executed) (owed_view here kept to view)
            (all_below_all (O H here) (λ k. given (proofs (executed + 1 + k)) [] (λ p. Send (messages.OrderProof (record { 0 = executed + 1 + k }) p) (scopes.One to) ∷ []))
            (min here.executed (executed + WINDOW) - executed)
            (λ k.
            chosen (ProofHas H (executed + 1 + k)) (Each (O H here)) (proofs (executed + 1 + k)) [] (λ p. Send (messages.OrderProof (record { 0 = executed + 1 + k }) p) (scopes.One to) ∷ [])
            (p (executed + 1 + k)) tt (λ p h. (h, tt))))
            (either (Each (O H here)) (nat_lt view here.view) _ []
            (chosen (WordsHave H (λ s. a_global_vc s here.view)) (Each (O H here)) kept.view [] _ v tt (λ words h. (h, tt))) tt))
            (either (Each (O H here)) (nat_eq to.site here.seat.site && nat_lt local here.local) _ []
            (chosen (QuorumHas H (a_local_vc here.seat.site here.local)) (Each (O H here)) kept.local [] _ l tt (λ q h. (h, tt))) tt);
      })

  -- ---- the fill

  -- a value, and the client's seal with it
  abbrev PairHas : Value × Bytes → Type 0
  PairHas x = ValueHas H x.0 x.1

  -- no seal
  no_seal : (v : Value) → ValueHas H v []
  no_seal values.Noop = tt
  no_seal (values.Update u) = λ e. absurd (let no : true ≡ false = e in cc)

  next_pending_has : (slots : Slots) (pending : ℕ → Option Pended) → ((c : ℕ) → IfSome (pending c) (λ k. ClientHas H k.update k.seal)) →
      IfSome (next_pending here slots pending) (λ k. ClientHas H k.update k.seal)
  next_pending_has slots pending waiting =
      first_below_has (λ k. ClientHas H k.update k.seal) (λ c. given (pending c) None (λ k. cond (is_assigned here slots k.update) None (Some k))) here.seat.clients
      (λ c.
      chosen (λ k. ClientHas H k.update k.seal) (λ (k : Option Pended). IfSome k (λ k. ClientHas H k.update k.seal)) (pending c) None (λ k. cond (is_assigned here slots k.update) None (Some k))
      (waiting c) tt (λ k h. either_has (λ k. ClientHas H k.update k.seal) (is_assigned here slots k.update) None (Some k) tt h))

  module _ (pending : ℕ → Option Pended) (forced : Forced) (waiting : (c : ℕ) → IfSome (pending c) (λ k. ClientHas H k.update k.seal)) (leads : here.seat.site ≡ here.view % here.seat.sites) where
    fill_value_has : (slots : Slots) (n : ℕ) → IfSome (fill_value here slots pending forced n) PairHas
    fill_value_has slots n = by (forced.value n)
      where
        free : IfSome (cond (forced_above here forced n) (Some (values.Noop, [])) (given (next_pending here slots pending) None (λ k. Some (values.Update k.update, k.seal)))) PairHas
        free =
            either_has PairHas (forced_above here forced n) (Some (values.Noop, [])) (given (next_pending here slots pending) None (λ k. Some (values.Update k.update, k.seal))) tt
            (chosen (λ k. ClientHas H k.update k.seal) (λ (x : Option (Value × Bytes)). IfSome x PairHas) (next_pending here slots pending) None
            (λ k. Some (values.Update k.update, k.seal)) (next_pending_has slots pending waiting) tt (λ k h e. h))

        by : (v : Option Value) →
            IfSome (given v (cond (forced_above here forced n) (Some (values.Noop, [])) (given (next_pending here slots pending) None (λ k. Some (values.Update k.update, k.seal)))) (λ v. Some (v, []))) PairHas
        by None = free
        by (Some v) = no_seal v

    -- one assignment more
    assigning_has : (step : Step) (leaf n : ℕ) (x : Value × Bytes) → StepHas (C H here) (M H here) (O H here) step → PairHas x →
        StepHas (C H here) (M H here) (O H here) (then step (making leaf (a_prepare here.seat.site here.view here.local n x.0) (forms.Assign x.1) (to_site here)))
    assigning_has step leaf n x h g =
        let s : Statement = a_prepare here.seat.site here.view here.local n x.0 in
        then_has (C H here) (M H here) (O H here) step (making leaf s (forms.Assign x.1) (to_site here)) h
        (making_has (C H here) (M H here) (O H here) leaf s (forms.Assign x.1) (to_site here) (tt, λ at. record { site = refl; leads = leads; reports = tt })
        (record { site = refl; leads = leads; reports = tt }, g))

  -- What the representative makes.
  pub fill_has : (slots : Slots) (pending : ℕ → Option Pended) (forced : Forced) → ((c : ℕ) → IfSome (pending c) (λ k. ClientHas H k.update k.seal)) →
      StepHas (C H here) (M H here) (O H here) (fill here slots pending forced)
  fill_has slots pending forced waiting =
      fill_kept (StepHas (C H here) (M H here) (O H here)) PairHas here pending forced slots (idle_has (C H here) (M H here) (O H here))
      (λ may.
      let led = and_parts (nat_eq here.seat.index (rep here)) (nat_eq here.seat.site (leader here)) (and_parts _ (not (waits forced)) may).0 in
      let leads = eqb-true here.seat.site (leader here) led.1 in record { value = fill_value_has pending forced waiting leads; assigning = assigning_has pending forced waiting leads })

  -- ---- the tick

  -- the client's seal in an assignment that goes out again
  pub pending_seal_has : (pending : ℕ → Option Pended) (s : Statement) → ((c : ℕ) → IfSome (pending c) (λ k. ClientHas H k.update k.seal)) → FormHas H here.seat s (forms.Assign (pending_seal pending s))
  pending_seal_has pending (Prepare site view local number values.Noop) h = tt
  pending_seal_has pending (Prepare site view local number (values.Update u)) h = by (pending u.client.0) (h u.client.0)
    where
      by : (x : Option Pended) → IfSome x (λ k. ClientHas H k.update k.seal) → is_empty (given x [] (λ k. cond (same_update k.update u) k.seal [])) ≡ false →
          ClientHas H u (given x [] (λ k. cond (same_update k.update u) k.seal []))
      by None g e = absurd (let no : true ≡ false = e in cc)
      by (Some k) g e = same (same_update k.update u) refl e
        where
          same : (b : Bool) → same_update k.update u ≡ b → is_empty (cond b k.seal []) ≡ false → ClientHas H u (cond b k.seal [])
          same true is e = subst (λ (v : Update). ClientHas H v k.seal) ((same_update-Decides k.update u).0 is) g
          same false is e = absurd (let no : true ≡ false = e in cc)
  pending_seal_has pending _ h = tt
