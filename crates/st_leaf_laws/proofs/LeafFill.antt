-- The fill makes its Prepares with the next leaves, each at a number of its own.
use Rattle.std.proofs.Common.{◌≡◌, ◌≤◌, ℕ, ◌+◌, ◌-◌, Bool, true, false, cond, zero, suc, nat_eq, nat_le, List, [], ◌∷◌, ◌++◌, sym, subst, refl, arith, append_assoc, append-nil}
use Rattle.std.proofs.lemmas.Bool.{le-leb, lt-ltb, and_from}
use Rattle.std.specs.Prelude.{◌&&◌, min, not, Option, Some, None, is_some}
use Rattle.std.specs.Option.{IfSome}
use Rattle.std.specs.List.{AllByRecursion as Each}
use Rattle.st_words.specs.declared.deployment.TheConstants.{WINDOW, LAST_NUMBER}
use Rattle.st_words.specs.declared.value.Value.{Value}
use Rattle.st_words.specs.declared.value.Value.TheVariants as values
use Rattle.st_words.specs.declared.statement.Statement.{Statement}
use Rattle.st_message.specs.declared.change.Change.{Change}
use Rattle.st_message.specs.declared.change.Change.TheVariants.{Made}
use Rattle.st_message.specs.declared.change.Heard.{Heard}
use Rattle.st_message.specs.declared.step.Form.TheVariants as forms
use Rattle.st_message.specs.declared.step.Out.{Out}
use Rattle.st_message.specs.declared.step.Out.TheVariants.{Make, Send}
use Rattle.st_message.specs.declared.step.Step.{Step}
use Rattle.st_protocol.specs.Words.{Bytes, a_prepare}
use Rattle.st_protocol.specs.Keeping.{given}
use Rattle.st_protocol.specs.State.{same_place, Pended, AtPrepare, Term, Seat, Here, Sealing, Held, Answers}
use Rattle.st_protocol.specs.Step.{rep, leader, idle, when, one_if, to_site}
use Rattle.st_protocol.specs.Questions.{is_made}
use Rattle.st_protocol.specs.Forced.{Forced, forced_of, waits}
use Rattle.st_protocol.specs.Assigning.{fill_value, Filling, fill_makes, fill_number, fills, fill}
use Rattle.st_protocol.specs.Duty.{Pen, sealing_of, Course}
use Rattle.st_protocol.proofs.GatherLaws.{joined-push}
use Rattle.st_frame_laws.proofs.ChoiceLaws.{chosen, append_all}
use Rattle.st_frame_laws.proofs.CourseFrame.{fill_at}
use Rattle.st_leaf_laws.specs.Records.{Key, SlotOf, key_of}
use Rattle.st_leaf_laws.proofs.LeafFacts.{made_before, made_tail, made_end, each_made_push}
use Rattle.st_leaf_laws.proofs.LeafKeys.{NoneAt, is_open, sealing_missing}
use Rattle.st_leaf_laws.proofs.LeafParts.{FreshOne, Fresh, FitsNow, fresh_fits}
use Rattle.st_leaf_laws.proofs.LeafCourse.{so_far, LeafWay, MadeIn, site_here}

-- how many of the changes make a statement
abbrev pub made_in : List Change → ℕ
made_in [] = 0
made_in (x ∷ xs) = one_if (is_made x) + made_in xs

-- one more at the end
fresh_push : (seat : Seat) (here : Here) (k : ℕ) (xs ys : List Change) (x : Change) → Fresh seat here k xs ys → FreshOne seat here (k + made_in ys) (xs ++ ys) x → Fresh seat here k xs (ys ++ x ∷ [])
fresh_push seat here k xs [] x h o = (subst (λ n. FreshOne seat here n xs x) (omega arith) (subst (λ (zs : List Change). FreshOne seat here (k + 0) zs x) (append-nil xs) o), tt)
fresh_push seat here k xs (y ∷ ys) x h o = (
  h.0,
  fresh_push seat here (k + one_if (is_made y)) (xs ++ y ∷ []) ys x h.1
      (subst (λ n. FreshOne seat here n ((xs ++ y ∷ []) ++ ys) x) (omega arith) (subst (λ (zs : List Change). FreshOne seat here (k + (one_if (is_made y) + made_in ys)) zs x) (sym (append_assoc xs (y ∷ []) ys)) o)),
)

made_in_push : (ys : List Change) (leaf : ℕ) (s : Statement) → made_in (ys ++ Made leaf s ∷ []) ≡ made_in ys + 1
made_in_push [] leaf s = refl
made_in_push (y ∷ ys) leaf s = let more = made_in_push ys leaf s in omega (arith, more)

module _ (seat : Seat) (bodies : List (List Change)) (heard : List Heard) where
  outs_more : (xs ys : List Change) (os : List Out) → Each (MadeIn seat bodies heard xs) os → Each (MadeIn seat bodies heard (xs ++ ys)) os
  outs_more xs ys [] h = tt
  outs_more xs ys (Send m to ∷ os) h = (tt, outs_more xs ys os h.1)
  outs_more xs ys (Make s form to ∷ os) h = ((h.0.0, made_before h.0.0 s xs ys h.0.1), outs_more xs ys os h.1)

  -- nothing is made where the answers on the way find nothing at an open key
  none_now : (w : Course) → LeafWay seat bodies heard w → (s : Statement) → is_open w.now.here s ≡ true → sealing_of w.now s ≡ None → NoneAt (key_of s) (so_far seat bodies heard w)
  none_now w h s is e =
      subst (NoneAt (key_of s)) (joined-push bodies w.changes)
      (sealing_missing seat (bodies ++ w.changes ∷ []) (heard ++ w.heard) s (subst (λ (q : Answers). is_open q.here s ≡ true) h.follows is) (subst (λ (q : Answers). sealing_of q s ≡ None) h.follows e))

  module _ (w : Course) (h : LeafWay seat bodies heard w) (leads : w.now.here.seat.site ≡ seat.site) where
    -- the slot of a number
    abbrev slot : ℕ → Key
    slot n = SlotOf (AtPrepare w.now.here.view w.now.here.local n)

    -- the fill before the number n
    pub record FillHas (n : ℕ) (filling : Filling) : Type 0 where
      pub fresh : Fresh seat w.now.here w.now.here.leaf (so_far seat bodies heard w) filling.step.changes
      pub leaf : filling.leaf ≡ w.now.here.leaf + made_in filling.step.changes
      pub out : Each (MadeIn seat bodies heard (so_far seat bodies heard w ++ filling.step.changes)) filling.step.out
      pub free : (j : ℕ) → n ≤ j → filling.slots.made (AtPrepare w.now.here.view w.now.here.local j) ≡ None → NoneAt (slot j) (so_far seat bodies heard w ++ filling.step.changes)

    -- a number later
    later : (n : ℕ) (filling : Filling) → FillHas n filling → FillHas (n + 1) filling
    later n filling g = record { fresh = g.fresh; leaf = g.leaf; out = g.out; free = λ j le e. g.free j (omega (arith, le)) e }

    makes_has : (n : ℕ) (filling : Filling) (x : Value × Bytes) → FillHas n filling → filling.slots.made (AtPrepare w.now.here.view w.now.here.local n) ≡ None → FillHas (n + 1) (fill_makes w.now.here filling n x)
    makes_has n filling x g none =
        let p : Statement = a_prepare w.now.here.seat.site w.now.here.view w.now.here.local n x.0 in
        let y : Change = Made filling.leaf p in
        let xs : List Change = so_far seat bodies heard w in
        record {
          fresh = fresh_push seat w.now.here w.now.here.leaf xs filling.step.changes y g.fresh (record { plain = tt; next = g.leaf; new = g.free n (omega arith) none; below = (omega arith, omega arith); site = leads });
          leaf = (let same = g.leaf in let more = made_in_push filling.step.changes filling.leaf p in omega (arith, same, more));
          out =
              append_all (MadeIn seat bodies heard (xs ++ (filling.step.changes ++ y ∷ []))) filling.step.out (Make p (forms.Assign x.1) (to_site w.now.here) ∷ [])
              (subst (λ (zs : List Change). Each (MadeIn seat bodies heard zs) filling.step.out) (append_assoc xs filling.step.changes (y ∷ [])) (outs_more (xs ++ filling.step.changes) (y ∷ []) filling.step.out g.out))
              ((filling.leaf, made_tail filling.leaf p xs (filling.step.changes ++ y ∷ []) (made_end filling.leaf p filling.step.changes)), tt);
          free = λ j le e.
              subst (NoneAt (slot j)) (append_assoc xs filling.step.changes (y ∷ []))
              (each_made_push (λ t. key_of t ≡ slot j → ⊥) (xs ++ filling.step.changes) y
              (g.free j (omega (arith, le)) (other j (same_place (AtPrepare w.now.here.view w.now.here.local n) (AtPrepare w.now.here.view w.now.here.local j)) e))
              (λ at. let is = slot_number at in omega (arith, is, le)));
        }
      where
        other : (j : ℕ) (b : Bool) → cond b (Some (record { leaf = filling.leaf; statement = a_prepare w.now.here.seat.site w.now.here.view w.now.here.local n x.0 })) (filling.slots.made (AtPrepare w.now.here.view w.now.here.local j)) ≡ None →
            filling.slots.made (AtPrepare w.now.here.view w.now.here.local j) ≡ None
        other j true e = absurd (let no : Some (record { leaf = filling.leaf; statement = a_prepare w.now.here.seat.site w.now.here.view w.now.here.local n x.0 }) ≡ None = e in cc)
        other j false e = e

        slot_number : {j : ℕ} → slot n ≡ slot j → n ≡ j
        slot_number e = cc

    module _ (pending : ℕ → Option Pended) (forced : Forced) where
      number_has : (n : ℕ) (filling : Filling) → FillHas n filling → IfSome (fill_number w.now.here pending forced filling n) (FillHas (n + 1))
      unfolding fill_number
      number_has n filling g = by (filling.slots.made (AtPrepare w.now.here.view w.now.here.local n)) refl (nat_le w.now.here.seat.capacity filling.leaf) (fill_value w.now.here filling.slots pending forced n)
        where
          by : (m : Option Sealing) → filling.slots.made (AtPrepare w.now.here.view w.now.here.local n) ≡ m → (b : Bool) (v : Option (Value × Bytes)) →
              IfSome (cond (is_some m) (Some filling) (cond b None (given v None (λ x. Some (fill_makes w.now.here filling n x))))) (FillHas (n + 1))
          by (Some m) e b v = later n filling g
          by None e true v = tt
          by None e false None = tt
          by None e false (Some x) = makes_has n filling x g e

      -- the fill in the end
      pub record Filled (step : Step) : Type 0 where
        pub fresh : Fresh seat w.now.here w.now.here.leaf (so_far seat bodies heard w) step.changes
        pub out : Each (MadeIn seat bodies heard (so_far seat bodies heard w ++ step.changes)) step.out

      fills_have : (k n : ℕ) (filling : Filling) → FillHas n filling → Filled (fills w.now.here pending forced k n filling).step
      unfolding fills
      fills_have zero n filling g = record { fresh = g.fresh; out = g.out }
      fills_have (suc k) n filling g =
          chosen (FillHas (n + 1)) (λ (f : Filling). Filled f.step) (fill_number w.now.here pending forced filling n) filling (fills w.now.here pending forced k (n + 1)) (number_has n filling g)
          (record { fresh = g.fresh; out = g.out }) (λ more g. fills_have k (n + 1) more g)

  -- the base of the unions isn't below
  base_up : (here : Here) (unions : Term → ℕ → Option Held) → here.executed ≤ (forced_of here unions).base
  unfolding forced_of
  base_up here unions = omega arith

  -- Every fill fits.
  pub fill_fits : (pen : Pen) (w : Course) → LeafWay seat bodies heard w → FitsNow seat bodies heard pen w (fill_at w.now)
  unfolding fill
  fill_fits pen w h =
      let here : Here = w.now.here in
      let forced : Forced = forced_of here w.now.unions in
      by (nat_eq here.seat.index (rep here) && nat_eq here.seat.site (leader here) && not (waits forced))
    where
      site : w.now.here.seat.site ≡ seat.site
      site = site_here seat bodies heard w h

      begun : FillHas w h site ((forced_of w.now.here w.now.unions).base + 1) (record { step = idle; leaf = w.now.here.leaf; slots = w.now.slots })
      begun =
          record {
            fresh = tt;
            leaf = omega arith;
            out = tt;
            free = λ j le e.
                let up = base_up w.now.here w.now.unions in
                subst (NoneAt (slot w h site j)) (sym (append-nil (so_far seat bodies heard w)))
                (none_now w h (a_prepare 0 w.now.here.view w.now.here.local j values.Noop)
                (and_from _ _ (and_from _ _ (le-leb w.now.here.view w.now.here.view (omega arith)) (le-leb w.now.here.local w.now.here.local (omega arith))) (lt-ltb w.now.here.executed j (omega (arith, le, up)))) e);
          }

      steps : Step
      steps =
          (fills w.now.here w.now.pending (forced_of w.now.here w.now.unions) (min (w.now.here.executed + WINDOW) LAST_NUMBER - (forced_of w.now.here w.now.unions).base) ((forced_of w.now.here w.now.unions).base + 1)
          (record { step = idle; leaf = w.now.here.leaf; slots = w.now.slots })).step

      by : (b : Bool) → FitsNow seat bodies heard pen w (when b steps)
      by true =
          let all = fills_have w h site w.now.pending (forced_of w.now.here w.now.unions) (min (w.now.here.executed + WINDOW) LAST_NUMBER - (forced_of w.now.here w.now.unions).base)
          ((forced_of w.now.here w.now.unions).base + 1) (record { step = idle; leaf = w.now.here.leaf; slots = w.now.slots }) begun in
          fresh_fits seat bodies heard pen w steps all.fresh all.out
      by false = fresh_fits seat bodies heard pen w idle tt tt
