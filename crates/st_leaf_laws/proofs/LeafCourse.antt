-- On the way through an event leaves count up, no two statements are made at one key, and what goes out with a leaf was made
-- with it.
use Rattle.std.proofs.Common.{◌≡◌, ◌<◌, ℕ, ◌+◌, Bool, true, false, List, [], ◌∷◌, ◌++◌, sym, subst, refl, ◌∙◌, ap, arith, inl, inr, append_assoc}
use Rattle.std.specs.Prelude.{max, Option, Some, None, ◌⊎◌}
use Rattle.std.specs.Option.{IfSome}
use Rattle.std.specs.List.{AllByRecursion as Each}
use Rattle.std.proofs.lemmas.List.Sums.{fold_push}
use Rattle.st_words.specs.declared.value.Update.{Update}
use Rattle.st_words.specs.declared.value.Value.TheVariants as values
use Rattle.st_words.specs.declared.statement.Statement.{Statement}
use Rattle.st_words.specs.declared.statement.Statement.TheVariants.{Prepare}
use Rattle.st_seal.specs.declared.quorum.Signed.{Signed}
use Rattle.st_message.specs.declared.message.Proof.{Proof}
use Rattle.st_message.specs.declared.message.SiteWord.{SiteWord}
use Rattle.st_message.specs.declared.event.Scope.{Scope}
use Rattle.st_message.specs.declared.event.Output.{Output}
use Rattle.st_message.specs.declared.change.Change.{Change}
use Rattle.st_message.specs.declared.change.Change.TheVariants.{EnterLocal, EnterGlobal, Made, Prepared, Accepted, Union, Executed}
use Rattle.st_message.specs.declared.change.Heard.{Heard}
use Rattle.st_message.specs.declared.step.Form.{Form}
use Rattle.st_message.specs.declared.step.Form.TheVariants as forms
use Rattle.st_message.specs.declared.step.Out.{Out}
use Rattle.st_message.specs.declared.step.Out.TheVariants.{Make, Send}
use Rattle.st_protocol.specs.Words.{Quorum, a_prepare, to_client_at, site_of}
use Rattle.st_protocol.specs.Keeping.{given, joined}
use Rattle.st_protocol.specs.State.{Seat, Here, Sealing, Answers}
use Rattle.st_protocol.specs.Questions.{here_of, is_made, values_by, questions}
use Rattle.st_protocol.specs.Growth.{here_after, notes, cuts, after, hears}
use Rattle.st_protocol.specs.World.{handed}
use Rattle.st_protocol.specs.Duty.{Pen, message_of, sealing_of, sealed, Course, records, keeps, puts, emits, makes, reports_as, reports}
use Rattle.st_protocol.proofs.GatherLaws.{joined-push}
use Rattle.st_protocol.proofs.QuestionLaws.{one_body, one_heard}
use Rattle.st_frame_laws.proofs.ChoiceLaws.{append_all, each_weaker}
use Rattle.st_frame_laws.proofs.CourseFrame.{IsKeptWhere, entered, answers_client, reply_to}
use Rattle.st_frame_laws.proofs.NodeFrame.{here_then, here_hears, seat_of_questions}
use Rattle.st_leaf_laws.specs.Records.{key_of, IsNotAbove}
use Rattle.st_leaf_laws.proofs.LeafFacts.{IsNext, InOrder, IsMade, made_count, made_before, made_push, made_end, each_made_push, order_push}
use Rattle.st_leaf_laws.proofs.LeafKeys.{NoneAt, sealing_found}
use Rattle.st_leaf_laws.proofs.LeafRecords.{Once, IsNew, once_push, Sited, OfSeat, NoneAbove, StandsBelow, none_above_push, told_local, told_view, replied_number}
use Rattle.st_leaf_laws.proofs.LeafWorlds.{OutputMade}

-- none and more
zero_more : (n : ℕ) → n ≡ 0 + n
zero_more n = omega arith

leaf_of : (seat : Seat) (records : List (List Change)) (heard : List Heard) → (questions seat records heard).here.leaf ≡ made_count (joined records)
unfolding questions here_of
leaf_of seat records heard = refl

-- where changes leave a state
local_then : (state : Answers) (y : ℕ) (q : Quorum) → (after state (EnterLocal (record { 0 = y }) q)).here.local ≡ max state.here.local y
unfolding after notes cuts
local_then state y q = refl

view_then : (state : Answers) (y : ℕ) (words : List SiteWord) → (after state (EnterGlobal (record { 0 = y }) words)).here.view ≡ max state.here.view y
unfolding after notes cuts
view_then state y words = refl

executed_then : (state : Answers) (n : ℕ) (p : Proof) → (after state (Executed (record { 0 = n }) p)).here.executed ≡ state.here.executed + 1
unfolding after notes cuts
executed_then state n p = refl

-- what a change that makes nothing leaves
made_old : (xs : List Change) (x : Change) → is_made x ≡ false → (leaf : ℕ) (s : Statement) → IsMade leaf s (xs ++ x ∷ []) → IsMade leaf s xs
made_old xs x none leaf s m = by (made_push leaf s xs x m)
  where
    by : IsMade leaf s xs ⊎ (Made leaf s ≡ x) → IsMade leaf s xs
    by (inl m) = m
    by (inr e) = absurd (let no : true ≡ false = ap is_made e ∙ none in cc)

module _ (seat : Seat) (bodies : List (List Change)) (heard : List Heard) where
  -- all that is recorded by now
  abbrev pub so_far : Course → List Change
  so_far w = joined bodies ++ w.changes

  pub record LeafWay (w : Course) : Type 0 where
    pub follows : w.now ≡ questions seat (bodies ++ w.changes ∷ []) (heard ++ w.heard)
    pub order : InOrder 0 (so_far w)
    pub once : Once (so_far w)
    pub below : NoneAbove w.now.here (so_far w)
    pub sited : Sited seat (so_far w)
    pub outputs : Each (OutputMade seat.site (so_far w)) w.outputs

  -- the next leaf is free, a key is new, and a view that is entered is higher
  abbrev pub Higher : Here → Change → Type 0
  Higher here (EnterLocal x q) = here.local < x.0
  Higher here (EnterGlobal y words) = here.view < y.0
  Higher here _ = Unit {0}

  pub record Cl (w : Course) (x : Change) : Type 0 where
    pub next : IsNext w.now.here.leaf x
    pub new : IsNew (so_far w) x
    pub below : StandsBelow w.now.here x
    pub site : OfSeat seat x
    pub higher : Higher w.now.here x

  abbrev pub Ml : Course → Heard → Type 0
  Ml w m = Unit {0}

  -- what goes out was made, and is of this site
  abbrev pub MadeIn : List Change → Out → Type 0
  MadeIn xs (Make s form to) = (leaf : ℕ) × IsMade leaf s xs
  MadeIn xs (Send m to) = Unit {0}

  abbrev pub Ol : Course → Out → Type 0
  Ol w o = MadeIn (so_far w) o

  -- the leaf that comes next
  next_leaf : (w : Course) → LeafWay w → w.now.here.leaf ≡ 0 + made_count (so_far w)
  next_leaf w h =
      ap (λ (q : Answers). q.here.leaf) h.follows ∙ (leaf_of seat (bodies ++ w.changes ∷ []) (heard ++ w.heard) ∙ (ap made_count (joined-push bodies w.changes) ∙ zero_more (made_count (so_far w))))

  outputs_more : (xs : List Change) (x : Change) (outputs : List Output) → Each (OutputMade seat.site xs) outputs → Each (OutputMade seat.site (xs ++ x ∷ [])) outputs
  outputs_more xs x outputs h = each_weaker (OutputMade seat.site xs) (OutputMade seat.site (xs ++ x ∷ [])) (λ o. one o.leaf (handed seat.site o.message)) outputs h
    where
      one : (leaf : Option ℕ) (s : Option Statement) → IfSome leaf (λ l. IfSome s (λ t. IsMade l t xs)) → IfSome leaf (λ l. IfSome s (λ t. IsMade l t (xs ++ x ∷ [])))
      one None s g = tt
      one (Some l) None g = tt
      one (Some l) (Some t) g = made_before l t xs (x ∷ []) g

  records_leaf : (w : Course) (x : Change) → LeafWay w → Cl w x → LeafWay (records w x)
  unfolding records
  records_leaf w x h c =
      let longer : so_far w ++ x ∷ [] ≡ joined bodies ++ (w.changes ++ x ∷ []) = append_assoc (joined bodies) w.changes (x ∷ []) in
      record {
        follows =
            ap (λ (q : Answers). after q x) h.follows
            ∙ sym (one_body seat bodies (heard ++ w.heard) (w.changes ++ x ∷ []) ∙ (fold_push after (questions seat bodies (heard ++ w.heard)) w.changes x
            ∙ ap (λ (q : Answers). after q x) (sym (one_body seat bodies (heard ++ w.heard) w.changes))));
        order = subst (InOrder 0) longer (order_push 0 (so_far w) x h.order (subst (λ n. IsNext n x) (next_leaf w h) c.next));
        once = subst Once longer (once_push (so_far w) x h.once c.new);
        below = subst (λ (here : Here). NoneAbove here (joined bodies ++ (w.changes ++ x ∷ []))) (sym (here_then w.now x)) (subst (NoneAbove (here_after x w.now.here)) longer (none_above_push w.now.here (so_far w) x h.below c.below));
        sited = subst (Sited seat) longer (each_made_push (λ s. site_of s ≡ seat.site) (so_far w) x h.sited c.site);
        outputs = subst (λ (xs : List Change). Each (OutputMade seat.site xs) w.outputs) longer (outputs_more (so_far w) x w.outputs h.outputs);
      }

  keeps_leaf : (w : Course) (m : Heard) → LeafWay w → Ml w m → LeafWay (keeps w m)
  unfolding keeps
  keeps_leaf w m h c =
      record {
        follows =
            ap (λ (q : Answers). hears q m) h.follows
            ∙ (sym (one_heard seat (bodies ++ w.changes ∷ []) (heard ++ w.heard) m) ∙ ap (questions seat (bodies ++ w.changes ∷ [])) (append_assoc heard w.heard (m ∷ [])));
        order = h.order;
        once = h.once;
        below = subst (λ (here : Here). NoneAbove here (so_far w)) (sym (here_hears w.now m)) h.below;
        sited = h.sited;
        outputs = h.outputs;
      }

  -- the statement in a message over a statement that was made
  sealed_made : (xs : List Change) (form : Form) (s : Statement) (signed : Signed) (leaf : ℕ) → site_of s ≡ seat.site → IsMade leaf s xs → IfSome (handed seat.site (message_of form s signed)) (λ t. IsMade leaf t xs)
  sealed_made xs forms.Share s signed leaf is m = m
  sealed_made xs (forms.Assign client_seal) (Prepare site view local number value) signed leaf is m = subst (λ i. IsMade leaf (a_prepare i view.0 local.0 number.0 value) xs) is m
  sealed_made xs (forms.Assign client_seal) _ signed leaf is m = m
  sealed_made xs (forms.Report quorums base) s signed leaf is m = m
  sealed_made xs forms.Reply s signed leaf is m = m

  emits_leaf : (pen : Pen) (w : Course) (o : Out) → LeafWay w → Ol w o → LeafWay (emits pen w o)
  unfolding emits puts
  emits_leaf pen w o h c =
      record {
        follows = h.follows;
        order = h.order;
        once = h.once;
        below = h.below;
        sited = h.sited;
        outputs = append_all (OutputMade seat.site (so_far w)) w.outputs (sealed pen w.now o ∷ []) h.outputs (one o c, tt);
      }
    where
      found_here : (s : Statement) (m : Sealing) → sealing_of w.now s ≡ Some m → IsMade m.leaf m.statement (so_far w) × (key_of m.statement ≡ key_of s)
      found_here s m e =
          let there = sealing_found seat (bodies ++ w.changes ∷ []) (heard ++ w.heard) s m (subst (λ (q : Answers). sealing_of q s ≡ Some m) h.follows e) in
          (subst (IsMade m.leaf m.statement) (joined-push bodies w.changes) there.0, there.1)

      one : (o : Out) → MadeIn (so_far w) o → OutputMade seat.site (so_far w) (sealed pen w.now o)
      one (Send m to) c = tt
      one (Make s form to) c = by (sealing_of w.now s) refl
        where
          by : (x : Option Sealing) → sealing_of w.now s ≡ x →
              IfSome (given x None (λ m. Some m.leaf))
              (λ leaf. IfSome (handed seat.site (message_of form s (record { index = w.now.here.seat.index; seal = given x [] (λ m. pen m.leaf s) }))) (λ t. IsMade leaf t (so_far w)))
          by None e = tt
          by (Some m) e =
              let f = found_here s m e in
              sealed_made (so_far w) form s (record { index = w.now.here.seat.index; seal = pen m.leaf s }) m.leaf (h.sited c.0 s c.1)
              (subst (λ (t : Statement). IsMade m.leaf t (so_far w)) (h.once m.leaf c.0 m.statement s f.0 c.1 f.1).1 f.0)

  -- what was made just now
  made_last_of : (w : Course) (leaf : ℕ) (s : Statement) → IsMade leaf s (so_far (records w (Made leaf s)))
  unfolding records
  made_last_of w leaf s = subst (IsMade leaf s) (append_assoc (joined bodies) w.changes (Made leaf s ∷ [])) (made_end leaf s (joined bodies ++ w.changes))

  -- without the last change
  shorter : (w : Course) (x : Change) (leaf : ℕ) (s : Statement) → IsMade leaf s (joined bodies ++ (w.changes ++ x ∷ [])) → IsMade leaf s (so_far w ++ x ∷ [])
  shorter w x leaf s m = subst (IsMade leaf s) (sym (append_assoc (joined bodies) w.changes (x ∷ []))) m

  -- a statement is made and goes out
  makes_leaf : (pen : Pen) (w : Course) (s : Statement) (form : Form) (to : Scope) → LeafWay w → NoneAt (key_of s) (so_far w) → IsNotAbove w.now.here s → site_of s ≡ seat.site →
      LeafWay (emits pen (records w (Made w.now.here.leaf s)) (Make s form to))
  makes_leaf pen w s form to h new below site =
      emits_leaf pen (records w (Made w.now.here.leaf s)) (Make s form to) (records_leaf w (Made w.now.here.leaf s) h (record { next = refl; new = new; below = below; site = site; higher = tt }))
      (w.now.here.leaf, made_last_of w (w.now.here.leaf) s)

  -- the site of the answers
  pub site_here : (w : Course) → LeafWay w → w.now.here.seat.site ≡ seat.site
  site_here w h = ap (λ (q : Answers). q.here.seat.site) h.follows ∙ ap (λ (p : Seat). p.site) (seat_of_questions seat (bodies ++ w.changes ∷ []) (heard ++ w.heard))

  -- the report of a view that was entered
  reports_leaf : (pen : Pen) (w : Course) (x : Change) (global : Bool) → entered x ≡ Some global → LeafWay w → Cl w x → LeafWay (records w x) → LeafWay (reports pen global (records w x))
  unfolding reports reports_as records
  reports_leaf pen w (EnterLocal y q) false e h c r =
      let way : Course = records w (EnterLocal y q) in
      keeps_leaf _ _
      (makes_leaf pen way _ _ _ r
      (λ leaf t m at.
      let low = told_local w.now.here t way.now.here.local at (h.below leaf t (made_old (so_far w) (EnterLocal y q) refl leaf t (shorter w (EnterLocal y q) leaf t m))) in
      let top = local_then w.now y.0 q in let up = c.higher in absurd (omega (arith, low, top, up)))
      (omega arith, omega arith) (site_here way r))
      tt
  reports_leaf pen w (EnterGlobal y words) true e h c r =
      let way : Course = records w (EnterGlobal y words) in
      keeps_leaf _ _
      (makes_leaf pen way _ _ _ r
      (λ leaf t m at.
      let low = told_view w.now.here t way.now.here.view at (h.below leaf t (made_old (so_far w) (EnterGlobal y words) refl leaf t (shorter w (EnterGlobal y words) leaf t m))) in
      let top = view_then w.now y.0 words in let up = c.higher in absurd (omega (arith, low, top, up)))
      (omega arith) (site_here way r))
      tt
  reports_leaf pen w (EnterLocal y q) true e h c r = absurd (let no : Some false ≡ Some true = e in cc)
  reports_leaf pen w (EnterGlobal y words) false e h c r = absurd (let no : Some true ≡ Some false = e in cc)
  reports_leaf pen w (Made l s) global e h c r = absurd (let no : None ≡ Some global = e in cc)
  reports_leaf pen w (Prepared s q) global e h c r = absurd (let no : None ≡ Some global = e in cc)
  reports_leaf pen w (Accepted s q) global e h c r = absurd (let no : None ≡ Some global = e in cc)
  reports_leaf pen w (Union s q) global e h c r = absurd (let no : None ≡ Some global = e in cc)
  reports_leaf pen w (Executed n p) global e h c r = absurd (let no : None ≡ Some global = e in cc)

  -- the Reply of a number that was executed
  replies_leaf : (pen : Pen) (w : Course) (x : Change) (u : Update) → values_by x ≡ values.Update u ∷ [] → answers_client w.now u ≡ true → LeafWay w → Cl w x → LeafWay (records w x) →
      LeafWay (makes pen (records w x) (reply_to w.now u) forms.Reply (to_client_at u.client.0))
  unfolding makes records
  replies_leaf pen w (Executed n p) u e goes h c r =
      let way : Course = records w (Executed n p) in
      makes_leaf pen way (reply_to w.now u) forms.Reply (to_client_at u.client.0) r
      (λ leaf t m at.
      let low = replied_number w.now.here t (w.now.here.executed + 1) at (h.below leaf t (made_old (so_far w) (Executed n p) refl leaf t (shorter w (Executed n p) leaf t m))) in
      absurd (omega (arith, low)))
      (let more = executed_then w.now n.0 p in omega (arith, more)) (site_here w h)
  replies_leaf pen w (EnterLocal y q) u e goes h c r = absurd (let no : [] ≡ values.Update u ∷ [] = e in cc)
  replies_leaf pen w (EnterGlobal y q) u e goes h c r = absurd (let no : [] ≡ values.Update u ∷ [] = e in cc)
  replies_leaf pen w (Made l s) u e goes h c r = absurd (let no : [] ≡ values.Update u ∷ [] = e in cc)
  replies_leaf pen w (Prepared s q) u e goes h c r = absurd (let no : [] ≡ values.Update u ∷ [] = e in cc)
  replies_leaf pen w (Accepted s q) u e goes h c r = absurd (let no : [] ≡ values.Update u ∷ [] = e in cc)
  replies_leaf pen w (Union s q) u e goes h c r = absurd (let no : [] ≡ values.Update u ∷ [] = e in cc)

  pub leaf_is_kept : (pen : Pen) → IsKeptWhere pen LeafWay Cl Ml Ol
  leaf_is_kept pen =
      record { recording = records_leaf; keeping = keeps_leaf; emitting = emits_leaf pen; reporting = reports_leaf pen; replying = replies_leaf pen }
