-- The report that a server makes when it enters a view is in range: its items are those of the window, in no later view.
use Rattle.std.proofs.Common.{◌≡◌, refl, sym, subst, ℕ, ◌+◌, ◌-◌, ◌^◌, ◌<◌, ◌≤◌, Bool, true, false, IsTrue, cond, zero, suc, nat_eq, List, [], ◌∷◌, ◌++◌, append-nil, arith}
use Rattle.std.specs.Prelude.{Option, Some, None, is_some, length}
use Rattle.std.specs.Option.{IfSome}
use Rattle.std.specs.List.{AllByRecursion as Each}
use Rattle.std.proofs.lemmas.Bool.{eqb-true, eqb-false}
use Rattle.std.proofs.lemmas.List.{length-append}
use Rattle.std.proofs.lemmas.List.Elements.{All-from_recursion}
use Rattle.st_fields.specs.Spelling.{KeepsEach}
use Rattle.st_words.specs.declared.statement.Item.{Item}
use Rattle.st_words.specs.declared.limits.ItemLimits.{ItemLimits}
use Rattle.st_words.specs.Ranges.{most_base, KeepsValue, KeepsLimit, KeepsItem, after_item, limits_above, FitsItem}
use Rattle.st_seal.specs.declared.quorum.Signed.{Signed}
use Rattle.st_message.specs.declared.message.Proof.{Proof}
use Rattle.st_message.specs.declared.step.Form.TheVariants as forms
use Rattle.st_message.specs.declared.step.Out.{Out}
use Rattle.st_message.specs.declared.step.Out.TheVariants.{Make, Send}
use Rattle.st_wire.specs.Ranges.{first, KeepsSigned, FitsSigned, KeepsQuorum, FitsQuorum, KeepsBase, FitsBase}
use Rattle.st_protocol.specs.Words.{Quorum}
use Rattle.st_protocol.specs.Keeping.{given}
use Rattle.st_protocol.specs.State.{Backed, Answers}
use Rattle.st_protocol.specs.Step.{all_below, to_rep}
use Rattle.st_protocol.specs.Collecting.{item_of, in_window, report_statement, report_quorums}
use Rattle.st_protocol.specs.Duty.{message_of, base_proof}
use Rattle.st_ranges.specs.Ranges.{StatementInRange, QuorumInRange, MessageInRange}
use Rattle.st_ranges.proofs.ChoiceLaws.{chosen, append_all, all_below_all}
use Rattle.st_ranges.proofs.RisingLaws.{each_weaker}
use Rattle.st_ranges.proofs.StateLaws.{Top, PreparedAt, AcceptedAt, LoggedInRange, StateInRange}

-- a server's seal
abbrev pub SignedInRange : Signed → Type 0
SignedInRange x = KeepsSigned first x × FitsSigned x

-- a message, or a statement whose message is in range by whatever seal
abbrev pub OutInRange : Out → Type 0
OutInRange (Make s form to) = StatementInRange s × ((signed : Signed) → SignedInRange signed → MessageInRange (message_of form s signed))
OutInRange (Send m to) = MessageInRange m

-- ---- items of a window

-- what a list's limits ask of an item, but for those before it
abbrev pub WithinLimits : ItemLimits → Item → Type 0
WithinLimits limits i = (i.number.0 ≤ limits.most) × (i.view.0 ≤ limits.most_view) × KeepsLimit limits.most_local i.local.0 × KeepsValue i.value

-- one more item, of a greater number
items_last : (limits : ItemLimits) (is : List Item) (i : Item) (n : ℕ) → limits.after < n → i.number.0 ≡ n → WithinLimits limits i → Each (λ (x : Item). x.number.0 < n) is →
    KeepsEach KeepsItem after_item limits is → KeepsEach KeepsItem after_item limits (is ++ i ∷ [])
items_last limits [] i n low at within below h = ((omega (arith, low, at), within.0, within.1, within.2, within.3), tt)
items_last limits (x ∷ xs) i n low at within below h = (h.0, items_last (after_item limits x) xs i n below.0 at within below.1 h.1)

-- nothing, or one item of this number
abbrev pub AtMostItem : ItemLimits → ℕ → List Item → Type 0
AtMostItem limits n [] = Unit {0}
AtMostItem limits n (i ∷ []) = (i.number.0 ≡ n) × WithinLimits limits i × FitsItem i
AtMostItem limits n (i ∷ j ∷ more) = ⊥

-- Items of the numbers above a base.
pub record WindowItems (limits : ItemLimits) (base k : ℕ) (is : List Item) : Type 0 where
  pub keeps : KeepsEach KeepsItem after_item limits is
  pub below : Each (λ (i : Item). i.number.0 < base + 1 + k) is
  pub fits : Each FitsItem is
  pub short : length is ≤ k

-- one number more
window_more : (limits : ItemLimits) (base k : ℕ) (is more : List Item) → limits.after ≤ base → AtMostItem limits (base + 1 + k) more → WindowItems limits base k is →
    WindowItems limits base (suc k) (is ++ more)
window_more limits base k is [] low at h =
    subst (WindowItems limits base (suc k)) (sym (append-nil is))
    (record {
      keeps = h.keeps;
      below = each_weaker (λ (i : Item). i.number.0 < base + 1 + k) (λ i. i.number.0 < base + 1 + suc k) (λ i less. omega (arith, less)) is h.below;
      fits = h.fits;
      short = omega (arith, h.short);
    })
window_more limits base k is (i ∷ []) low at h =
    let size : length (is ++ i ∷ []) ≡ length is + 1 = length-append is (i ∷ []) in
    record {
      keeps = items_last limits is i (base + 1 + k) (omega (arith, low)) at.0 at.1 h.below h.keeps;
      below =
          append_all (λ (j : Item). j.number.0 < base + 1 + suc k) is (i ∷ [])
          (each_weaker (λ (j : Item). j.number.0 < base + 1 + k) (λ j. j.number.0 < base + 1 + suc k) (λ j less. omega (arith, less)) is h.below) (omega (arith, at.0), tt);
      fits = append_all FitsItem is (i ∷ []) h.fits (at.2, tt);
      short = omega (arith, size, h.short);
    }
window_more limits base k is (i ∷ j ∷ more) low at h = absurd at

-- all numbers of the window
pub window_below : (limits : ItemLimits) (base : ℕ) (f : ℕ → List Item) (k : ℕ) → limits.after ≤ base → ((i : ℕ) → i < k → AtMostItem limits (base + 1 + i) (f i)) →
    WindowItems limits base k (all_below f k)
unfolding all_below
window_below limits base f zero low at = record { keeps = tt; below = tt; fits = tt; short = omega arith }
window_below limits base f (suc k) low at =
    window_more limits base k (all_below f k) (f k) low (at k (omega arith)) (window_below limits base f k low (λ i less. at i (omega (arith, less))))

-- as many are gathered of one as of another
same_length : {A B : Type 0} (f : ℕ → List A) (g : ℕ → List B) → ((i : ℕ) → length (f i) ≡ length (g i)) → (k : ℕ) → length (all_below f k) ≡ length (all_below g k)
unfolding all_below
same_length f g one zero = refl
same_length f g one (suc k) =
    let a : length (all_below f k ++ f k) ≡ length (all_below f k) + length (f k) = length-append (all_below f k) (f k) in
    let b : length (all_below g k ++ g k) ≡ length (all_below g k) + length (g k) = length-append (all_below g k) (g k) in
    let before : length (all_below f k) ≡ length (all_below g k) = same_length f g one k in
    let last : length (f k) ≡ length (g k) = one k in
    omega (arith, a, b, before, last)

module _ (top : Top) (state : Answers) (inside : StateInRange top state) (few : state.here.executed ≤ most_base) where
  -- ---- the items of a report

  -- what was prepared
  prepared_items : (most_view most_local : ℕ) → top.view ≤ most_view → top.local ≤ most_local →
      WindowItems (limits_above state.here.executed most_view (Some most_local)) state.here.executed 16 (in_window state.here state.slots.prepared item_of)
  prepared_items most_view most_local view local =
      window_below (limits_above state.here.executed most_view (Some most_local)) state.here.executed
      (λ k. given (state.slots.prepared (state.here.executed + 1 + k)) [] (λ b. item_of (state.here.executed + 1 + k) b ∷ [])) 16 (omega arith)
      (λ i less. by i less (state.slots.prepared (state.here.executed + 1 + i)) (inside.prepared (state.here.executed + 1 + i)))
    where
      by : (i : ℕ) → i < 16 → (x : Option Backed) → IfSome x (PreparedAt top) →
          AtMostItem (limits_above state.here.executed most_view (Some most_local)) (state.here.executed + 1 + i) (given x [] (λ b. item_of (state.here.executed + 1 + i) b ∷ []))
      by i less None h = tt
      by i less (Some b) h =
          let g : b.view ≤ top.view = h.1 in
          let l : b.local ≤ top.local = h.2 in
          (refl, (omega (arith, less), omega (arith, g, view), omega (arith, l, local), h.0.2.0), (omega (arith, less, few), h.0.0, h.0.1, h.0.2.1))

  -- what was accepted
  accepted_items : (most_view : ℕ) → top.view ≤ most_view →
      WindowItems (limits_above state.here.executed most_view None) state.here.executed 16 (in_window state.here state.slots.accepted item_of)
  accepted_items most_view view =
      window_below (limits_above state.here.executed most_view None) state.here.executed
      (λ k. given (state.slots.accepted (state.here.executed + 1 + k)) [] (λ b. item_of (state.here.executed + 1 + k) b ∷ [])) 16 (omega arith)
      (λ i less. by i less (state.slots.accepted (state.here.executed + 1 + i)) (inside.accepted (state.here.executed + 1 + i)))
    where
      by : (i : ℕ) → i < 16 → (x : Option Backed) → IfSome x (AcceptedAt top) →
          AtMostItem (limits_above state.here.executed most_view None) (state.here.executed + 1 + i) (given x [] (λ b. item_of (state.here.executed + 1 + i) b ∷ []))
      by i less None h = tt
      by i less (Some b) h =
          let g : b.view ≤ top.view = h.1 in
          (refl, (omega (arith, less), omega (arith, g, view), tt, h.0.2.0), (omega (arith, less, few), h.0.0, h.0.1, h.0.2.1))

  -- ---- its quorums

  -- one for each item
  as_many_quorums : (kept : ℕ → Option Backed) → length (in_window state.here kept (λ n b. b.quorum)) ≡ length (in_window state.here kept item_of)
  as_many_quorums kept =
      same_length (λ k. given (kept (state.here.executed + 1 + k)) [] (λ b. b.quorum ∷ [])) (λ k. given (kept (state.here.executed + 1 + k)) [] (λ b. item_of (state.here.executed + 1 + k) b ∷ []))
      (λ k. one (state.here.executed + 1 + k) (kept (state.here.executed + 1 + k))) 16
    where
      one : (n : ℕ) (x : Option Backed) → length {A = Quorum} (given x [] (λ b. b.quorum ∷ [])) ≡ length {A = Item} (given x [] (λ b. item_of n b ∷ []))
      one n None = refl
      one n (Some b) = refl

  -- each in range
  quorums_in_range : (G : Backed → Type 0) → ((b : Backed) → G b → QuorumInRange b.quorum) → (kept : ℕ → Option Backed) → ((n : ℕ) → IfSome (kept n) G) →
      Each QuorumInRange (in_window state.here kept (λ n b. b.quorum))
  quorums_in_range G part kept all =
      all_below_all QuorumInRange (λ k. given (kept (state.here.executed + 1 + k)) [] (λ b. b.quorum ∷ [])) 16
      (λ k. chosen G (Each QuorumInRange) (kept (state.here.executed + 1 + k)) [] (λ b. b.quorum ∷ []) (all (state.here.executed + 1 + k)) tt (λ b h. (part b h, tt)))

  -- ---- the proof of its base

  base_in_range : KeepsBase state.here.executed (base_proof state) × FitsBase (base_proof state)
  base_in_range = by (nat_eq state.here.executed 0) refl
    where
      by_proof : 1 ≤ state.here.executed → (x : Option Proof) → IfSome x (LoggedInRange state.here state.here.executed) → IsTrue (is_some x) → KeepsBase state.here.executed x × FitsBase x
      by_proof least None h e = absurd (let no : false ≡ true = e in cc)
      by_proof least (Some p) h e = ((least, h.0.0), h.0.1)

      positive : (n : ℕ) → (n ≡ 0 → ⊥) → 1 ≤ n
      positive n unlike = grind (arith, unlike)

      by : (b : Bool) → nat_eq state.here.executed 0 ≡ b → KeepsBase state.here.executed (cond b None (state.log.proof state.here.executed)) × FitsBase (cond b None (state.log.proof state.here.executed))
      by true e = (eqb-true state.here.executed 0 e, tt)
      by false e =
          let least : 1 ≤ state.here.executed = positive state.here.executed (eqb-false state.here.executed 0 e) in
          by_proof least (state.log.proof state.here.executed) (inside.logged state.here.executed) (inside.proved state.here.executed least (omega arith))

  -- ---- the report

  -- of the local view
  pub local_report_in_range : top.view ≤ state.here.view → top.local < state.here.local →
      OutInRange (Make (report_statement state.here state.slots false) (forms.Report (report_quorums state.here state.slots false) (base_proof state)) (to_rep state.here))
  local_report_in_range view entered =
      let items : List Item = in_window state.here state.slots.prepared item_of in
      let quorums : List Quorum = in_window state.here state.slots.prepared (λ n b. b.quorum) in
      let w : WindowItems (limits_above state.here.executed state.here.view (Some (state.here.local - 1))) state.here.executed 16 items =
      prepared_items state.here.view (state.here.local - 1) view (omega (arith, entered))
      in
      let q : Each QuorumInRange quorums = quorums_in_range (PreparedAt top) (λ b h. h.0.3) state.slots.prepared inside.prepared in
      let at_site : state.here.seat.site < 2 ^ 8 = inside.here.seat.site in
      let at_local : state.here.local < 2 ^ 32 = inside.here.local in
      let s : StatementInRange (report_statement state.here state.slots false) = (
        (omega (arith, entered), few, (w.short, w.keeps)),
        (at_site, at_local, inside.here.seat.index, inside.here.view, omega (arith, few), All-from_recursion FitsItem items w.fits),
      )
      in (
        s,
        λ signed g. (
          (
            (refl, (omega arith, omega (arith, at_site)), omega (arith, entered), omega (arith, at_local), omega arith),
            (s.0, g.0.1, as_many_quorums state.slots.prepared, All-from_recursion KeepsQuorum quorums (each_weaker QuorumInRange KeepsQuorum (λ x h. h.0) quorums q), base_in_range.0),
          ),
          (s.1, All-from_recursion FitsQuorum quorums (each_weaker QuorumInRange FitsQuorum (λ x h. h.1) quorums q), base_in_range.1),
        ),
      )

  -- of the view
  pub global_report_in_range : top.view < state.here.view →
      OutInRange (Make (report_statement state.here state.slots true) (forms.Report (report_quorums state.here state.slots true) (base_proof state)) (to_rep state.here))
  global_report_in_range entered =
      let items : List Item = in_window state.here state.slots.accepted item_of in
      let quorums : List Quorum = in_window state.here state.slots.accepted (λ n b. b.quorum) in
      let w : WindowItems (limits_above state.here.executed (state.here.view - 1) None) state.here.executed 16 items = accepted_items (state.here.view - 1) (omega (arith, entered)) in
      let q : Each QuorumInRange quorums = quorums_in_range (AcceptedAt top) (λ b h. h.0.3) state.slots.accepted inside.accepted in
      let at_site : state.here.seat.site < 2 ^ 8 = inside.here.seat.site in
      let at_view : state.here.view < 2 ^ 32 = inside.here.view in
      let s : StatementInRange (report_statement state.here state.slots true) =
      ((omega (arith, entered), few, (w.short, w.keeps)), (at_site, at_view, inside.here.seat.index, omega (arith, few), All-from_recursion FitsItem items w.fits))
      in (
        s,
        λ signed g. (
          (
            (refl, (omega arith, omega (arith, at_site)), omega (arith, entered), omega (arith, at_view), omega arith),
            (s.0, g.0.1, as_many_quorums state.slots.accepted, All-from_recursion KeepsQuorum quorums (each_weaker QuorumInRange KeepsQuorum (λ x h. h.0) quorums q), base_in_range.0),
          ),
          (s.1, All-from_recursion FitsQuorum quorums (each_weaker QuorumInRange FitsQuorum (λ x h. h.1) quorums q), base_in_range.1),
        ),
      )
