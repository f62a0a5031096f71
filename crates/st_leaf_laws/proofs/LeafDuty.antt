-- A server's duty makes its statements with leaves that count up, each key once, and hands out what it made: so one leaf is of
-- one statement in every world.
use Rattle.std.proofs.Common.{◌≡◌, ◌≤◌, ℕ, ◌+◌, Bool, true, false, nat_eq, nat_lt, nat_le, List, [], ◌∷◌, ◌++◌, refl, arith, inl, inr}
use Rattle.std.proofs.lemmas.Bool.{eqb-true, le-leb, and_parts, and_from}
use Rattle.std.specs.Prelude.{◌&&◌, not, Option, Some, None, is_none}
use Rattle.st_words.specs.declared.value.Value.{Value}
use Rattle.st_words.specs.declared.statement.Statement.{Statement}
use Rattle.st_seal.specs.declared.quorum.Signed.{Signed}
use Rattle.st_message.specs.declared.message.Message.{Message}
use Rattle.st_message.specs.declared.message.Message.TheVariants as messages
use Rattle.st_message.specs.declared.event.Scope.{Scope}
use Rattle.st_message.specs.declared.change.Change.{Change}
use Rattle.st_message.specs.declared.change.Change.TheVariants.{Made, Prepared}
use Rattle.st_message.specs.declared.change.Heard.{Heard}
use Rattle.st_message.specs.declared.step.Form.TheVariants as forms
use Rattle.st_message.specs.declared.step.Step.{Step}
use Rattle.st_protocol.specs.Words.{Bytes, Quorum, a_prepare, a_proposal, site_of}
use Rattle.st_protocol.specs.Keeping.{joined}
use Rattle.st_protocol.specs.State.{AtPrepare, AtProposal, Seat, Here, Slots, Answers}
use Rattle.st_protocol.specs.Step.{Steps, then, making, recording, keeping, when, one_if, out_of_window, to_rep, to_site, completed}
use Rattle.st_protocol.specs.Questions.{questions}
use Rattle.st_protocol.specs.Forced.{Forced}
use Rattle.st_protocol.specs.Assigning.{completes_prepare, assigns, keeps_assigned, assign_reasons, assign_step, on_assign, prepare_reasons, prepare_step, on_prepare}
use Rattle.st_protocol.specs.Duty.{Pen}
use Rattle.st_frame_laws.proofs.PartFrame.{decides_fits}
use Rattle.st_leaf_laws.specs.Records.{SlotOf, key_of, IsNotAbove}
use Rattle.st_leaf_laws.proofs.LeafFacts.{made_tail, each_made_push}
use Rattle.st_leaf_laws.proofs.LeafKeys.{NoneAt}
use Rattle.st_leaf_laws.proofs.LeafParts.{FreshOne, FitsFirst, first_fits, none_first, first_site, in_window}

-- a test of nothing
none_of : {A : Type 0} (x : Option A) → is_none x ≡ true → x ≡ None
none_of None e = refl
none_of (Some a) e = absurd (let no : false ≡ true = e in cc)

module _ (seat : Seat) (bodies : List (List Change)) (heard : List Heard) (pen : Pen) where
  abbrev first : List Change
  first = joined bodies ++ []

  abbrev now : Answers
  now = questions seat bodies heard

  -- ---- an assignment, a share of a Prepare, and the Proposal that may follow

  module _ (p s y : Statement) (q : Quorum) (m : Message) (t1 t2 : Scope) (apart : key_of p ≡ key_of s → ⊥) (below_p : IsNotAbove (questions seat bodies heard).here p) (below_s : IsNotAbove (questions seat bodies heard).here s)
      (site_p : site_of p ≡ seat.site) (site_s : site_of s ≡ seat.site) where
    abbrev assigning : Bool → Bool → Bool → Bool → ℕ → Step
    assigning a b c d leaf =
        then (when a (making (questions seat bodies heard).here.leaf p forms.Share t1))
        (when b (then (keeping m) (when c (then (recording (Prepared y q)) (when d (making leaf s forms.Share t2))))))

    -- nothing of the second key is made by the first
    after_p : (xs : List Change) → NoneAt (key_of s) xs → NoneAt (key_of s) (xs ++ Made (questions seat bodies heard).here.leaf p ∷ [])
    after_p xs h = each_made_push (λ t. key_of t ≡ key_of s → ⊥) xs (Made (questions seat bodies heard).here.leaf p) h apart

    after_y : (xs : List Change) → NoneAt (key_of s) xs → NoneAt (key_of s) (xs ++ Prepared y q ∷ [])
    after_y xs h = each_made_push (λ t. key_of t ≡ key_of s → ⊥) xs (Prepared y q) h tt

    assigning_fits : (a b c d : Bool) (leaf : ℕ) → leaf ≡ (questions seat bodies heard).here.leaf + one_if a → (a ≡ true → NoneAt (key_of p) (joined bodies ++ [])) →
        (d ≡ true → NoneAt (key_of s) (joined bodies ++ [])) → FitsFirst seat bodies heard pen (Steps (assigning a b c d leaf))
    assigning_fits false false c d leaf e f g = first_fits seat bodies heard pen (assigning false false c d leaf) tt tt
    assigning_fits false true false d leaf e f g = first_fits seat bodies heard pen (assigning false true false d leaf) tt tt
    assigning_fits false true true false leaf e f g = first_fits seat bodies heard pen (assigning false true true false leaf) (prepared, tt) tt
      where
        prepared : FreshOne seat (questions seat bodies heard).here (questions seat bodies heard).here.leaf (joined bodies ++ []) (Prepared y q)
        prepared = record { plain = tt; next = tt; new = tt; below = tt; site = tt }
    assigning_fits false true true true leaf e f g =
        first_fits seat bodies heard pen (assigning false true true true leaf) (
          record { plain = tt; next = tt; new = tt; below = tt; site = tt },
          (record { plain = tt; next = omega (arith, e); new = after_y (joined bodies ++ []) (g refl); below = below_s; site = site_s }, tt),
        )
        ((leaf, made_tail leaf s (joined bodies ++ []) (Prepared y q ∷ Made leaf s ∷ []) (inr (inl refl))), tt)
    assigning_fits true false c d leaf e f g =
        let l : ℕ = (questions seat bodies heard).here.leaf in
        first_fits seat bodies heard pen (assigning true false c d leaf) (record { plain = tt; next = refl; new = f refl; below = below_p; site = site_p }, tt)
        ((l, made_tail l p (joined bodies ++ []) (Made l p ∷ []) (inl refl)), tt)
    assigning_fits true true false d leaf e f g =
        let l : ℕ = (questions seat bodies heard).here.leaf in
        first_fits seat bodies heard pen (assigning true true false d leaf) (record { plain = tt; next = refl; new = f refl; below = below_p; site = site_p }, tt)
        ((l, made_tail l p (joined bodies ++ []) (Made l p ∷ []) (inl refl)), tt)
    assigning_fits true true true false leaf e f g =
        let l : ℕ = (questions seat bodies heard).here.leaf in
        first_fits seat bodies heard pen (assigning true true true false leaf)
        (record { plain = tt; next = refl; new = f refl; below = below_p; site = site_p }, (record { plain = tt; next = tt; new = tt; below = tt; site = tt }, tt))
        ((l, made_tail l p (joined bodies ++ []) (Made l p ∷ Prepared y q ∷ []) (inl refl)), tt)
    assigning_fits true true true true leaf e f g =
        let l : ℕ = (questions seat bodies heard).here.leaf in
        first_fits seat bodies heard pen (assigning true true true true leaf) (
          record { plain = tt; next = refl; new = f refl; below = below_p; site = site_p },
          (
            record { plain = tt; next = tt; new = tt; below = tt; site = tt },
            (
              record {
                plain = tt;
                next = omega (arith, e);
                new = after_y ((joined bodies ++ []) ++ Made l p ∷ []) (after_p (joined bodies ++ []) (g refl));
                below = below_s;
                site = site_s;
              },
              tt,
            ),
          ),
        ) (
          (l, made_tail l p (joined bodies ++ []) (Made l p ∷ Prepared y q ∷ Made leaf s ∷ []) (inl refl)),
          ((leaf, made_tail leaf s (joined bodies ++ []) (Made l p ∷ Prepared y q ∷ Made leaf s ∷ []) (inr (inr (inl refl)))), tt),
        )

  -- the keys of a Prepare and a Proposal
  not_same : (view local n : ℕ) → SlotOf (AtPrepare view local n) ≡ SlotOf (AtProposal view local n) → ⊥
  not_same view local n e = absurd cc

  -- a place of the present views and the window is open
  open_here : (view local n : ℕ) → (nat_eq view (questions seat bodies heard).here.view && nat_eq local (questions seat bodies heard).here.local) ≡ true →
      out_of_window (questions seat bodies heard).here n ≡ false →
      (nat_le (questions seat bodies heard).here.view view && nat_le (questions seat bodies heard).here.local local && nat_lt (questions seat bodies heard).here.executed n) ≡ true
  open_here view local n is e =
      let here : Here = (questions seat bodies heard).here in
      let parts = and_parts (nat_eq view here.view) (nat_eq local here.local) is in
      let v = eqb-true view here.view parts.0 in
      let l = eqb-true local here.local parts.1 in
      and_from _ _ (and_from _ _ (le-leb here.view view (omega (arith, v))) (le-leb here.local local (omega (arith, l)))) (in_window seat bodies heard pen here n e)

  -- and a slot of the present views isn't above
  level_here : (view local : ℕ) → (nat_eq view (questions seat bodies heard).here.view && nat_eq local (questions seat bodies heard).here.local) ≡ true →
      (view ≤ (questions seat bodies heard).here.view) × (local ≤ (questions seat bodies heard).here.local)
  level_here view local is =
      let here : Here = (questions seat bodies heard).here in
      let parts = and_parts (nat_eq view here.view) (nat_eq local here.local) is in
      let v = eqb-true view here.view parts.0 in
      let l = eqb-true local here.local parts.1 in
      (omega (arith, v), omega (arith, l))

  not_not : (b : Bool) → not b ≡ false → b ≡ true
  not_not true e = refl
  not_not false e = absurd (let no : true ≡ false = e in cc)

  pub prepare_fits : (site view local n : ℕ) (value : Value) (signed : Signed) → FitsFirst seat bodies heard pen (on_prepare (questions seat bodies heard).here (questions seat bodies heard).slots site view local n value signed)
  prepare_fits site view local n value signed =
      let here : Here = (questions seat bodies heard).here in
      let slots : Slots = (questions seat bodies heard).slots in
      let s : Statement = a_proposal here.seat.site view local n value in
      decides_fits (FitsFirst seat bodies heard pen) (λ reason. tt) (prepare_reasons here slots site view local n value signed) (prepare_step here slots site view local n value signed)
      (λ none.
      assigning_fits (a_prepare here.seat.site view local n value) s (a_prepare here.seat.site view local n value)
      (completed here (slots.shares (AtPrepare view local n)) (a_prepare site view local n value) signed) (messages.Share (a_prepare site view local n value) signed) (to_site here) (to_rep here)
      (not_same view local n) (level_here view local (not_not _ none.1.0)) (level_here view local (not_not _ none.1.0)) (first_site seat bodies heard pen) (first_site seat bodies heard pen) false true (completes_prepare here slots site view local n value signed)
      (is_none (slots.made (AtProposal view local n))) here.leaf (omega arith) (λ e. absurd (let no : false ≡ true = e in cc))
      (λ e. none_first seat bodies heard pen s (open_here view local n (not_not _ none.1.0) none.1.1.0) (none_of _ e)))

  pub assign_fits : (forced : Forced) (view local n : ℕ) (value : Value) (client_seal : Bytes) (signed : Signed) →
      FitsFirst seat bodies heard pen (on_assign (questions seat bodies heard).here (questions seat bodies heard).slots forced view local n value client_seal signed)
  assign_fits forced view local n value client_seal signed =
      let here : Here = (questions seat bodies heard).here in
      let slots : Slots = (questions seat bodies heard).slots in
      let p : Statement = a_prepare here.seat.site view local n value in
      let s : Statement = a_proposal here.seat.site view local n value in
      decides_fits (FitsFirst seat bodies heard pen) (λ reason. tt) (assign_reasons here slots forced view local n value client_seal signed) (assign_step here slots view local n value signed)
      (λ none.
      let free = open_here view local n (not_not _ none.1.0) none.1.1.0 in
      let level = level_here view local (not_not _ none.1.0) in
      assigning_fits p s p (completed here (slots.shares (AtPrepare view local n)) p signed) (messages.Share p signed) (to_site here) (to_rep here) (not_same view local n) level level
      (first_site seat bodies heard pen) (first_site seat bodies heard pen) (assigns slots view local n) (keeps_assigned here slots view local n) (completes_prepare here slots here.seat.site view local n value signed)
      (is_none (slots.made (AtProposal view local n))) (here.leaf + one_if (assigns slots view local n)) refl
      (λ e. none_first seat bodies heard pen p free (none_of _ e)) (λ e. none_first seat bodies heard pen s free (none_of _ e)))
