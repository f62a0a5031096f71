-- Laws on reasons that are looked for in groups, and on what is looked for at one number or client.
use Rattle.std.proofs.Common.{◌≡◌, ◌∙◌, ap, sym, subst, ℕ, ◌≤◌, Bool, true, false, cond, nat_eq, Option, Some, None, List, [], ◌∷◌, ◌++◌, length, refl, arith}
use Rattle.std.specs.Prelude.{◌+◌}
use Rattle.st_words.specs.declared.deployment.TheConstants.{WINDOW}
use Rattle.st_words.specs.declared.value.Value.{Value}
use Rattle.st_words.specs.declared.value.Update.{Update}
use Rattle.st_seal.specs.declared.quorum.Signed.{Signed}
use Rattle.st_message.specs.declared.reason.Reason.{Reason}
use Rattle.st_protocol.specs.Words.{Bytes}
use Rattle.st_protocol.specs.Keeping.{or_else}
use Rattle.st_protocol.specs.State.{Term, Here, Held, Slots, Pended}
use Rattle.st_protocol.specs.Step.{one_if, some_below, first_below}
use Rattle.st_protocol.specs.Part.{first_reason}
use Rattle.st_protocol.specs.Forced.{Forced, forced_of, base_of, forced_above}
use Rattle.st_protocol.specs.Assigning.{assigns, proposes, completes_assigned, assign_reasons, is_empty, is_assigned, next_pending}
use Rattle.st_state.specs.declared.forced.Forced as code
use Rattle.st_state.specs.ForcedView.{forced_by}
use Rattle.st_assign.specs.Reasons.{place_reasons, value_reasons, room_reasons}
use Rattle.st_assign.specs.Above.{is_forced_over, is_assigned_at, unassigned}

-- the first reason of two groups
first_reason_append : (xs ys : List (Bool × Reason)) → first_reason (xs ++ ys) ≡ or_else (first_reason xs) (first_reason ys)
first_reason_append [] ys = refl
first_reason_append (t ∷ ts) ys = by_test t.0 (first_reason_append ts ys)
  where
    by_test : (b : Bool) → first_reason (ts ++ ys) ≡ or_else (first_reason ts) (first_reason ys)
        → cond b (Some t.1) (first_reason (ts ++ ys)) ≡ or_else (cond b (Some t.1) (first_reason ts)) (first_reason ys)
    by_test true e = refl
    by_test false e = e

-- how many leaves an assignment uses
abbrev pub wanted_leaves : Here → Slots → ℕ → ℕ → ℕ → Value → Signed → ℕ
wanted_leaves h slots view local n value signed =
    one_if (assigns slots view local n) + one_if (proposes slots view local n (completes_assigned h slots view local n value signed))

-- the reasons against an assignment are those of the three groups
pub assign_reason : (h : Here) (slots : Slots) (forced : Forced) (view local n : ℕ) (value : Value) (seal : Bytes) (signed : Signed)
    → first_reason (assign_reasons h slots forced view local n value seal signed)
    ≡ or_else (first_reason (place_reasons h slots view local n signed))
    (or_else (first_reason (value_reasons h forced n value seal (assigns slots view local n)))
    (first_reason (room_reasons h (wanted_leaves h slots view local n value signed) n)))
assign_reason h slots forced view local n value seal signed =
    let place = place_reasons h slots view local n signed in
    let stand = value_reasons h forced n value seal (assigns slots view local n) in
    let room = room_reasons h (wanted_leaves h slots view local n value signed) n in
    first_reason_append place (stand ++ room) ∙ ap (or_else (first_reason place)) (first_reason_append stand room)

-- so the first of the groups that are looked for one after another
pub assign_reason_by : (h : Here) (slots : Slots) (forced : Forced) (view local n : ℕ) (value : Value) (seal : Bytes) (signed : Signed) (new : Bool) (wanted : ℕ) (stand room : Option Reason)
    → None ≡ first_reason (place_reasons h slots view local n signed) → new ≡ assigns slots view local n → wanted ≡ wanted_leaves h slots view local n value signed
    → stand ≡ first_reason (value_reasons h forced n value seal new) → room ≡ first_reason (room_reasons h wanted n)
    → or_else stand room ≡ first_reason (assign_reasons h slots forced view local n value seal signed)
assign_reason_by h slots forced view local n value seal signed new wanted stand room place is_new is_wanted is_stand is_room =
    let stand_is = is_stand ∙ ap (λ (b : Bool). first_reason (value_reasons h forced n value seal b)) is_new in
    let room_is = is_room ∙ ap (λ (k : ℕ). first_reason (room_reasons h k n)) is_wanted in
    let last : Option Reason = first_reason (room_reasons h (wanted_leaves h slots view local n value signed) n) in
    let more : Option Reason = first_reason (value_reasons h forced n value seal (assigns slots view local n)) in
    ap (or_else stand) room_is
    ∙ (ap (λ (r : Option Reason). or_else r last) stand_is
    ∙ (ap (λ (r : Option Reason). or_else r (or_else more last)) place
    ∙ sym (assign_reason h slots forced view local n value seal signed)))

-- bytes are none where there are none of them
pub is_empty_by : (xs : Bytes) → nat_eq (length xs) 0 ≡ is_empty xs
is_empty_by [] = refl
is_empty_by (x ∷ xs) = grind arith

pub forced_above_by : (h : Here) (forced : Forced) (n : ℕ) → forced_above h forced n ≡ some_below (is_forced_over h forced n) WINDOW
unfolding is_forced_over
forced_above_by h forced n = refl

pub is_assigned_by : (h : Here) (slots : Slots) (u : Update) → is_assigned h slots u ≡ some_below (is_assigned_at h slots u) WINDOW
unfolding is_assigned_at
is_assigned_by h slots u = refl

pub next_pending_by : (h : Here) (slots : Slots) (pending : ℕ → Option Pended) → next_pending h slots pending ≡ first_below (unassigned h slots pending) h.seat.clients
unfolding unassigned
next_pending_by h slots pending = refl

-- what the values stand beside
pub forced_base : (h : Here) (forced : code.Forced) → (forced_by h forced).base ≡ forced.base
unfolding forced_by
forced_base h forced = refl

pub forced_held : (h : Here) (forced : code.Forced) → (forced_by h forced).held ≡ forced.held
unfolding forced_by
forced_held h forced = refl

pub forced_wanted : (h : Here) (forced : code.Forced) → (forced_by h forced).wanted ≡ forced.wanted
unfolding forced_by
forced_wanted h forced = refl

-- what unions force has a base of at least the executed count
pub executed_is_settled : (h : Here) (forced : code.Forced) (unions : Term → ℕ → Option Held) → forced_by h forced ≡ forced_of h unions → h.executed ≤ forced.base
unfolding forced_by forced_of
executed_is_settled h forced unions e =
    let is : forced.base ≡ base_of h unions = ap (λ (f : Forced). f.base) e in
    let most : h.executed ≤ base_of h unions = grind arith in
    subst (λ (b : ℕ). h.executed ≤ b) (sym is) most
