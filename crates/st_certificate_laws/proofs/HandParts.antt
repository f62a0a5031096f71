-- What is in hand gives order proofs, and a server's own report has a certificate for each item.
use Rattle.std.proofs.Common.{◌≡◌, ℕ, ◌+◌, ◌≤◌, Bool, true, false, cond, zero, suc, nat_eq, List, [], ◌∷◌, ◌++◌, arith, sym, subst, refl, length, ◌∙◌}
use Rattle.std.proofs.lemmas.Bool.{eqb-true, leb-true, and_from, and_parts}
use Rattle.std.specs.Prelude.{◌%◌, nat_le, Option, Some, None, take}
use Rattle.std.specs.Option.{IfSome}
use Rattle.st_words.specs.declared.deployment.TheConstants.{WINDOW}
use Rattle.st_words.specs.declared.ids.Who.{Who}
use Rattle.st_words.specs.declared.value.Value.{Value}
use Rattle.st_words.specs.declared.statement.Statement.{Statement}
use Rattle.st_words.specs.declared.statement.Item.{Item}
use Rattle.st_message.specs.declared.message.Proof.{Proof}
use Rattle.st_protocol.specs.Words.{Bytes, Quorum, a_prepare, a_proposal, an_accept, a_global_vc, site_of, a_site_word, same_value}
use Rattle.st_protocol.specs.Keeping.{given}
use Rattle.st_protocol.specs.State.{Here, Slots, Asked, Hand, Word, Backed}
use Rattle.st_protocol.specs.Step.{all_below, count_below, majority, first_below}
use Rattle.st_protocol.specs.Views.{asks_for, word_for}
use Rattle.st_protocol.specs.Ordering.{in_hand, names, site_word, words_proof}
use Rattle.st_protocol.specs.Collecting.{item_of, make_report}
use Rattle.st_protocol.specs.Certificates.{is_certificate, are_sites, is_order_proof, is_view_proof}
use Rattle.st_protocol.proofs.SameLaws.{same_value-Decides}
use Rattle.st_ranges.proofs.RisingLaws.{as_many}
use Rattle.st_frame_laws.proofs.ChoiceLaws.{when_has, first_has, first_below_has}
use Rattle.st_certificate_laws.specs.Certified.{prepare_of, proposal_of, items_are_certified, base_is_certified}
use Rattle.st_certificate_laws.proofs.QuorumLaws.{IsWordOf, words_stand, sites_from, sites_front}
use Rattle.st_certificate_laws.proofs.AskLaws.{asking}
use Rattle.st_certificate_laws.proofs.CertificateFacts.{Certifies, IsOrder, IsAsked, OutHas}

-- items and their Quorums, put together
more_items : (holds : Who → Statement → Bytes → Bool) (f sites : ℕ) (of_item : Item → Statement) (xs ys : List Item) (qs rs : List Quorum) → items_are_certified holds f sites of_item xs qs ≡ true →
    items_are_certified holds f sites of_item ys rs ≡ true → items_are_certified holds f sites of_item (xs ++ ys) (qs ++ rs) ≡ true
unfolding items_are_certified
more_items holds f sites of_item [] ys [] rs a b = b
more_items holds f sites of_item [] ys (q ∷ qs) rs a b = absurd (let no : false ≡ true = a in cc)
more_items holds f sites of_item (x ∷ xs) ys [] rs a b = absurd (let no : false ≡ true = a in cc)
more_items holds f sites of_item (x ∷ xs) ys (q ∷ qs) rs a b =
    let parts = and_parts (is_certificate holds f sites (site_of (of_item x)) (of_item x) q) (items_are_certified holds f sites of_item xs qs) a in
    and_from (is_certificate holds f sites (site_of (of_item x)) (of_item x) q) (items_are_certified holds f sites of_item (xs ++ ys) (qs ++ rs)) parts.0 (more_items holds f sites of_item xs ys qs rs parts.1 b)

module _ (holds : Who → Statement → Bytes → Bool) (here : Here) where
  -- ---- a server's own report

  -- the items of the window and their Quorums
  window_has : (of_item : Item → Statement) (kept : ℕ → Option Backed) → ((n : ℕ) → IfSome (kept n) (λ b. Certifies holds here.seat (of_item (item_of n b)) b.quorum)) → (k : ℕ) →
      items_are_certified holds here.seat.f here.seat.sites of_item (all_below (λ i. given (kept (here.executed + 1 + i)) [] (λ b. item_of (here.executed + 1 + i) b ∷ [])) k)
      (all_below (λ i. given (kept (here.executed + 1 + i)) [] (λ b. b.quorum ∷ [])) k) ≡ true
  unfolding all_below items_are_certified
  window_has of_item kept h zero = refl
  window_has of_item kept h (suc k) =
      more_items holds here.seat.f here.seat.sites of_item (all_below (λ i. given (kept (here.executed + 1 + i)) [] (λ b. item_of (here.executed + 1 + i) b ∷ [])) k) _
      (all_below (λ i. given (kept (here.executed + 1 + i)) [] (λ b. b.quorum ∷ [])) k) _ (window_has of_item kept h k)
      (one (kept (here.executed + 1 + k)) (h (here.executed + 1 + k)))
    where
      one : (x : Option Backed) → IfSome x (λ b. Certifies holds here.seat (of_item (item_of (here.executed + 1 + k) b)) b.quorum) →
          items_are_certified holds here.seat.f here.seat.sites of_item (given x [] (λ b. item_of (here.executed + 1 + k) b ∷ [])) (given x [] (λ b. b.quorum ∷ [])) ≡ true
      one None g = refl
      one (Some b) g = and_from (is_certificate holds here.seat.f here.seat.sites (site_of (of_item (item_of (here.executed + 1 + k) b))) (of_item (item_of (here.executed + 1 + k) b)) b.quorum) true g refl

  -- the proof of a report's base
  base_has : (n : ℕ) (base : Option Proof) → IfSome base (IsOrder holds here.seat n) → base_is_certified holds here.seat.f here.seat.sites n base ≡ true
  base_has n None h = refl
  base_has n (Some p) h = h

  -- The report that a server makes.
  pub makes_report_has : (slots : Slots) (base : Option Proof) (global : Bool) →
      ((n : ℕ) → IfSome (slots.prepared n) (λ b. Certifies holds here.seat (a_prepare here.seat.site b.view b.local n b.value) b.quorum)) →
      ((n : ℕ) → IfSome (slots.accepted n) (λ b. Certifies holds here.seat (a_proposal (b.view % here.seat.sites) b.view b.local n b.value) b.quorum)) →
      IfSome base (IsOrder holds here.seat here.executed) → OutHas holds here.seat (make_report here slots base global)
  makes_report_has slots base false p a b =
      and_from (items_are_certified holds here.seat.f here.seat.sites (prepare_of here.seat.site) _ _) (base_is_certified holds here.seat.f here.seat.sites here.executed base)
      (window_has (prepare_of here.seat.site) slots.prepared p WINDOW) (base_has here.executed base b)
  makes_report_has slots base true p a b =
      and_from (items_are_certified holds here.seat.f here.seat.sites (proposal_of holds here.seat.f here.seat.sites) _ _) (base_is_certified holds here.seat.f here.seat.sites here.executed base)
      (window_has (proposal_of holds here.seat.f here.seat.sites) slots.accepted a WINDOW) (base_has here.executed base b)

  -- ---- what is in hand

  -- all words of a number at one view
  module _ (n top : ℕ) (words : ℕ → Option Word) (h : (s : ℕ) → IfSome (words s) (λ w. Certifies holds here.seat (an_accept s w.view n w.value) w.quorum))
      (level : (s : ℕ) → IfSome (words s) (λ w. w.view + 1 ≡ top)) where
    -- the word of a site for a value
    site_word_has : (view : ℕ) (value : Value) → view + 1 ≡ top → (s : ℕ) → IsWordOf holds here.seat.f here.seat.sites (λ t. an_accept t view n value) s (site_word value words s)
    site_word_has view value is s = by (words s) (h s) (level s)
      where
        by : (x : Option Word) → IfSome x (λ w. Certifies holds here.seat (an_accept s w.view n w.value) w.quorum) → IfSome x (λ w. w.view + 1 ≡ top) →
            IsWordOf holds here.seat.f here.seat.sites (λ t. an_accept t view n value) s (given x [] (λ w. cond (same_value w.value value) (a_site_word s w.quorum ∷ []) []))
        by None g l = tt
        by (Some w) g l = same (same_value w.value value) refl
          where
            same : (b : Bool) → same_value w.value value ≡ b → IsWordOf holds here.seat.f here.seat.sites (λ t. an_accept t view n value) s (cond b (a_site_word s w.quorum ∷ []) [])
            same true e = (
              w.quorum,
              (
                refl,
                subst (λ (v : Value). Certifies holds here.seat (an_accept s view n v) w.quorum) ((same_value-Decides w.value value).0 e)
                    (subst (λ g. Certifies holds here.seat (an_accept s g n w.value) w.quorum) (omega (arith, l, is)) g),
              ),
            )
            same false e = tt

    -- as many words as sites that name the value
    words_counted : (value : Value) → length (all_below (site_word value words) here.seat.sites) ≡ count_below (λ t. names value (words t)) here.seat.sites
    words_counted value = as_many (site_word value words) (λ t. names value (words t)) (λ s. by s (words s)) here.seat.sites
      where
        by_same : (s : ℕ) (w : Word) (b : Bool) → length (cond b (a_site_word s w.quorum ∷ []) []) ≡ cond b 1 0
        by_same s w true = refl
        by_same s w false = refl

        by : (s : ℕ) (x : Option Word) → length (given x [] (λ w. cond (same_value w.value value) (a_site_word s w.quorum ∷ []) [])) ≡ cond (names value x) 1 0
        by s None = refl
        by s (Some w) = by_same s w (same_value w.value value)

    -- the proof of a number, by a site's value and the words for it
    words_proof_has : (s : ℕ) → IfSome (words_proof here words s) (IsOrder holds here.seat n)
    unfolding is_order_proof
    words_proof_has s = by (words s) (level s)
      where
        by : (x : Option Word) → IfSome x (λ w. w.view + 1 ≡ top) →
            IfSome (given x None (λ w.
            cond (nat_le (majority here) (count_below (λ t. names w.value (words t)) here.seat.sites))
            (Some (record { view = record { 0 = w.view }; value = w.value; sites = take (majority here) (all_below (site_word w.value words) here.seat.sites) })) None)) (IsOrder holds here.seat n)
        by None l = tt
        by (Some w) l =
            when_has (IsOrder holds here.seat n) (nat_le (majority here) (count_below (λ t. names w.value (words t)) here.seat.sites))
            (record { view = record { 0 = w.view }; value = w.value; sites = take (majority here) (all_below (site_word w.value words) here.seat.sites) })
            (λ yes.
            let of_site : (ℕ → Statement) = λ t. an_accept t w.view n w.value in
            let many = leb-true (majority here) (count_below (λ t. names w.value (words t)) here.seat.sites) yes in
            and_from (same_value w.value w.value) (are_sites holds here.seat.f here.seat.sites of_site (take (majority here) (all_below (site_word w.value words) here.seat.sites)))
            ((same_value-Decides w.value w.value).1 refl)
            (sites_front holds here.seat.f here.seat.sites of_site (all_below (site_word w.value words) here.seat.sites) (subst (λ k. majority here ≤ k) (sym (words_counted w.value)) many)
            (words_stand holds here.seat.f here.seat.sites of_site (site_word w.value words) (site_word_has w.view w.value l) here.seat.sites (omega arith))))

  -- the facts of a hand
  pub record InHand (hand : Hand) : Type 0 where
    pub has : (n s : ℕ) → IfSome (hand.word n s) (λ w. Certifies holds here.seat (an_accept s w.view n w.value) w.quorum)
    pub proof : (n : ℕ) → IfSome (hand.proof n) (IsOrder holds here.seat n)
    pub level : (n s : ℕ) → IfSome (hand.word n s) (λ w. w.view + 1 ≡ hand.highest n)

  -- The proof of a number that is in hand.
  pub in_hand_has : (hand : Hand) (n : ℕ) → InHand hand → IfSome (in_hand here hand n) (IsOrder holds here.seat n)
  unfolding in_hand
  in_hand_has hand n h =
      first_has (IsOrder holds here.seat n) (hand.proof n) (first_below (words_proof here (hand.word n)) here.seat.sites) (h.proof n)
      (first_below_has (IsOrder holds here.seat n) (words_proof here (hand.word n)) here.seat.sites (words_proof_has n (hand.highest n) (hand.word n) (h.has n) (h.level n)))

  -- ---- the words by which a view is entered

  -- a site's word
  asked_word : (view : ℕ) (s : ℕ) (x : Option Asked) → IfSome x (λ a. Certifies holds here.seat (a_global_vc s a.view) a.quorum) →
      IsWordOf holds here.seat.f here.seat.sites (λ t. a_global_vc t view) s (given x [] (λ a. cond (nat_eq a.view view) (a_site_word s a.quorum ∷ []) []))
  asked_word view s None g = tt
  asked_word view s (Some a) g = by (nat_eq a.view view) refl
    where
      by : (b : Bool) → nat_eq a.view view ≡ b → IsWordOf holds here.seat.f here.seat.sites (λ t. a_global_vc t view) s (cond b (a_site_word s a.quorum ∷ []) [])
      by true e = (a.quorum, (refl, subst (λ n. Certifies holds here.seat (a_global_vc s n) a.quorum) (eqb-true a.view view e) g))
      by false e = tt

  -- as many as ask
  asked_counted : (view : ℕ) (asked : ℕ → Option Asked) → length (all_below (word_for view asked) here.seat.sites) ≡ asking here.seat.sites view asked
  asked_counted view asked = as_many (word_for view asked) (λ s. asks_for view (asked s)) (λ s. by s (asked s)) here.seat.sites
    where
      by_same : (s : ℕ) (a : Asked) (b : Bool) → length (cond b (a_site_word s a.quorum ∷ []) []) ≡ cond b 1 0
      by_same s a true = refl
      by_same s a false = refl

      by : (s : ℕ) (x : Option Asked) → length (given x [] (λ a. cond (nat_eq a.view view) (a_site_word s a.quorum ∷ []) [])) ≡ cond (asks_for view x) 1 0
      by s None = refl
      by s (Some a) = by_same s a (nat_eq a.view view)

  -- Where exactly a majority asks, their words are a proof.
  pub asked_has : (view : ℕ) (asked : ℕ → Option Asked) → ((s : ℕ) → IfSome (asked s) (λ a. Certifies holds here.seat (a_global_vc s a.view) a.quorum)) → asking here.seat.sites view asked ≡ majority here →
      IsAsked holds here.seat view (all_below (word_for view asked) here.seat.sites)
  unfolding is_view_proof
  asked_has view asked all exact =
      sites_from holds here.seat.f here.seat.sites (λ t. a_global_vc t view) (all_below (word_for view asked) here.seat.sites) (asked_counted view asked ∙ exact)
      (words_stand holds here.seat.f here.seat.sites (λ t. a_global_vc t view) (word_for view asked) (λ s. asked_word view s (asked s) (all s)) here.seat.sites (omega arith))
