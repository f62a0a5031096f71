-- A step is carried out change by change, message by message, output by output.
use Rattle.std.proofs.Common.{◌≡◌, ◌≢◌, ◌∙◌, ap, sym, subst, ℕ, ◌+◌, ◌<◌, ◌≤◌, ◌-◌, ◌^◌, min, max, ◌&&◌, ◌||◌, Bool, true, false, cond, nat_eq, nat_lt, Option, Some, None, List, [], ◌∷◌, ◌++◌, length, IsTrue, IfSome, refl, arith, ◌%◌}
use Rattle.std.proofs.lemmas.Bool.{and_parts, and_from}
use Rattle.std.specs.List.{fold}
use Rattle.std.specs.Int.{to_be_bytes, w32}
use Rattle.st_words.specs.declared.deployment.TheConstants.{LAST_NUMBER}
use Rattle.st_words.specs.declared.ids.ClientId.{ClientId}
use Rattle.st_words.specs.declared.ids.Number.{Number}
use Rattle.st_words.specs.declared.value.Update.{Update}
use Rattle.st_words.specs.declared.value.Value.{Value}
use Rattle.st_words.specs.declared.value.Value.TheVariants as values
use Rattle.st_words.specs.declared.statement.Statement.{Statement}
use Rattle.st_message.specs.declared.change.Change.{Change}
use Rattle.st_message.specs.declared.change.Change.TheVariants.{EnterLocal, EnterGlobal, Made, Prepared, Accepted, Union, Executed}
use Rattle.st_message.specs.declared.change.Heard.{Heard}
use Rattle.st_message.specs.declared.event.Scope.{Scope}
use Rattle.st_message.specs.declared.message.Proof.{Proof}
use Rattle.st_message.specs.declared.step.Form.{Form}
use Rattle.st_message.specs.declared.step.Form.TheVariants as forms
use Rattle.st_message.specs.declared.step.Out.TheVariants.{Make}
use Rattle.st_protocol.specs.Words.{to_client_at}
use Rattle.st_protocol.specs.Keeping.{given}
use Rattle.st_protocol.specs.State.{Here, Answers, Sealing, Seat}
use Rattle.st_protocol.specs.Growth.{here_after}
use Rattle.st_protocol.specs.Duty.{Course, Pen, records, emits, makes, replies, carries_change, carries_changes}
use Rattle.st_state.specs.Placed.{is_placed, is_taken, all_placed, all_executed, all_taken, here_after_all}
use Rattle.st_live.specs.declared.live.Live.{Live}
use Rattle.st_live.specs.LiveView.{place_here, IsLive, asked}
use Rattle.st_live.specs.Service.{kept_count, list_serve}
use Rattle.st_live.proofs.LiveLaws.{here_is}
use Rattle.st_server.specs.declared.draft.Draft.{Draft}
use Rattle.st_server.specs.Bounds.{is_low, is_low_message, all_low, all_low_heard}
use Rattle.st_server.specs.Ready.{may_record, may_keep, is_ready, are_ready, IsAlike}
use Rattle.st_server.specs.Replying.{reply_by, is_replied, next_reply}
use Rattle.st_server.specs.LiveReplies.{live_replies}
use Rattle.st_server.specs.Draw.{Draws, IsDrawn}

-- ---- a statement is made

pub makes_is : (made : ℕ → Option Sealing) (draft : Draft) (way : Course) (pen : Pen) (leaf : ℕ) (s : Statement) (form : Form) (to : Scope) → Draws made draft way
    → leaf ≡ draft.live.here.leaf → emits pen (records way (Made leaf s)) (Make s form to) ≡ makes pen way s form to
unfolding makes
makes_is made draft way pen leaf s form to draws is =
    ap (λ (k : ℕ). emits pen (records way (Made k s)) (Make s form to)) (is ∙ ap (λ (h : Here). h.leaf) (here_is draft.live way.now draws.now))

-- ---- a change is carried out

-- an execution is followed by its Reply
pub replies_by : (pen : Pen) (was : Answers) (v : Value) (way : Course) → replies pen was v way ≡ given (reply_by was v) way (λ r. makes pen way r.1 forms.Reply (to_client_at r.0.0))
unfolding replies
replies_by pen was values.Noop way = refl
replies_by pen was (values.Update u) way = by (is_replied was u)
  where
    by : (b : Bool) → cond b (makes pen way (next_reply was u) forms.Reply (to_client_at u.client.0)) way
        ≡ given (cond b (Some (u.client, next_reply was u)) None) way (λ (r : ClientId × Statement). makes pen way r.1 forms.Reply (to_client_at r.0.0))
    by true = refl
    by false = refl

pub carried_execution : (pen : Pen) (way : Course) (n : Number) (p : Proof) (reply : Option (ClientId × Statement)) → reply ≡ reply_by way.now p.value
    → given reply (records way (Executed n p)) (λ r. makes pen (records way (Executed n p)) r.1 forms.Reply (to_client_at r.0.0)) ≡ carries_change pen way (Executed n p)
unfolding carries_change
carried_execution pen way n p reply is =
    ap (λ (x : Option (ClientId × Statement)). given x (records way (Executed n p)) (λ r. makes pen (records way (Executed n p)) r.1 forms.Reply (to_client_at r.0.0))) is
    ∙ sym (replies_by pen way.now p.value (records way (Executed n p)))

-- no other change is followed by anything
pub carried_alone : (pen : Pen) (h : Here) (way : Course) (x : Change) → IsTrue (may_record h x) → ((n : Number) (p : Proof) → x ≢ Executed n p) → records way x ≡ carries_change pen way x
unfolding carries_change
carried_alone pen h way (Made k s) may never = refl
carried_alone pen h way (Prepared s q) may never = refl
carried_alone pen h way (Accepted s q) may never = refl
carried_alone pen h way (Union s q) may never = refl
carried_alone pen h way (Executed n p) may never = absurd (never n p refl)
carried_alone pen h way (EnterLocal y q) may never = absurd (let fails : false ≡ true = may in cc)
carried_alone pen h way (EnterGlobal y ws) may never = absurd (let fails : false ≡ true = may in cc)

-- ---- what may be recorded next

alike_executed : (h k : Here) → h.executed ≡ k.executed → (xs : List Change) → all_executed h xs ≡ all_executed k xs
alike_executed h k same [] = refl
alike_executed h k same (Executed n p ∷ xs) =
    ap (λ (e : ℕ). nat_eq n.0 (e + 1) && all_executed (record h { executed = h.executed + 1 }) xs) same
    ∙ ap (λ (b : Bool). nat_eq n.0 (k.executed + 1) && b) (alike_executed (record h { executed = h.executed + 1 }) (record k { executed = k.executed + 1 }) (ap (λ e. e + 1) same) xs)
alike_executed h k same (EnterLocal y q ∷ xs) = refl
alike_executed h k same (EnterGlobal y ws ∷ xs) = refl
alike_executed h k same (Made j s ∷ xs) = refl
alike_executed h k same (Prepared s q ∷ xs) = refl
alike_executed h k same (Accepted s q ∷ xs) = refl
alike_executed h k same (Union s q ∷ xs) = refl

or_same : (a : Bool) → (a || a) ≡ true → a ≡ true
or_same true e = e
or_same false e = e

or_false : (a : Bool) → (a || false) ≡ true → a ≡ true
or_false true e = e
or_false false e = e

or_first : (a b : Bool) → a ≡ true → (a || b) ≡ true
or_first a b e = rw e refl

or_second : (a b : Bool) → b ≡ true → (a || b) ≡ true
or_second true b e = refl
or_second false b e = e

-- a change that isn't an execution comes where it is placed
first_placed : (h : Here) (x : Change) (rest : List Change) → all_placed h (x ∷ rest) ≡ (is_placed h x && all_placed (here_after x h) rest) → all_executed h (x ∷ rest) ≡ false
    → IsTrue (is_ready h (x ∷ rest)) → IsTrue (may_record h x)
first_placed h x rest placed_is executed_is ready =
    let both = and_parts (all_placed h (x ∷ rest) || all_executed h (x ∷ rest)) (all_low (x ∷ rest)) ready in
    let whole = or_false (all_placed h (x ∷ rest)) (ap (λ b. all_placed h (x ∷ rest) || b) (sym executed_is) ∙ both.0) in
    let placed = and_parts (is_placed h x) (all_placed (here_after x h) rest) (sym placed_is ∙ whole) in
    let low = and_parts (is_low x) (all_low rest) both.1 in
    and_from (is_placed h x) (is_low x) placed.0 low.0

-- and leaves the rest where it leads
next_placed : (h : Here) (x : Change) (rest : List Change) → all_placed h (x ∷ rest) ≡ (is_placed h x && all_placed (here_after x h) rest) → all_executed h (x ∷ rest) ≡ false
    → IsTrue (is_ready h (x ∷ rest)) → IsTrue (is_ready (here_after x h) rest)
next_placed h x rest placed_is executed_is ready =
    let both = and_parts (all_placed h (x ∷ rest) || all_executed h (x ∷ rest)) (all_low (x ∷ rest)) ready in
    let whole = or_false (all_placed h (x ∷ rest)) (ap (λ b. all_placed h (x ∷ rest) || b) (sym executed_is) ∙ both.0) in
    let placed = and_parts (is_placed h x) (all_placed (here_after x h) rest) (sym placed_is ∙ whole) in
    let low = and_parts (is_low x) (all_low rest) both.1 in
    and_from (all_placed (here_after x h) rest || all_executed (here_after x h) rest) (all_low rest) (or_first (all_placed (here_after x h) rest) (all_executed (here_after x h) rest) placed.1) low.1

-- the parts of what may be recorded next
pub ready_first : (h : Here) (x : Change) (rest : List Change) → IsTrue (is_ready h (x ∷ rest)) → IsTrue (may_record h x)
ready_first h (Executed n p) rest ready =
    let both = and_parts (all_executed h (Executed n p ∷ rest) || all_executed h (Executed n p ∷ rest)) (all_low (Executed n p ∷ rest)) ready in
    let placed = and_parts (nat_eq n.0 (h.executed + 1)) (all_executed (here_after (Executed n p) h) rest) (or_same (all_executed h (Executed n p ∷ rest)) both.0) in
    let low = and_parts (is_low (Executed n p)) (all_low rest) both.1 in
    and_from (is_placed h (Executed n p)) (is_low (Executed n p)) placed.0 low.0
ready_first h (Made j s) rest ready = first_placed h (Made j s) rest refl refl ready
ready_first h (Prepared s q) rest ready = first_placed h (Prepared s q) rest refl refl ready
ready_first h (Accepted s q) rest ready = first_placed h (Accepted s q) rest refl refl ready
ready_first h (Union s q) rest ready = first_placed h (Union s q) rest refl refl ready
ready_first h (EnterLocal y q) rest ready = first_placed h (EnterLocal y q) rest refl refl ready
ready_first h (EnterGlobal y ws) rest ready = first_placed h (EnterGlobal y ws) rest refl refl ready

pub ready_executed : (h k : Here) (n : Number) (p : Proof) (rest : List Change) → IsAlike (here_after (Executed n p) h) k → IsTrue (is_ready h (Executed n p ∷ rest)) → IsTrue (is_ready k rest)
ready_executed h k n p rest alike ready =
    let both = and_parts (all_executed h (Executed n p ∷ rest) || all_executed h (Executed n p ∷ rest)) (all_low (Executed n p ∷ rest)) ready in
    let placed = and_parts (nat_eq n.0 (h.executed + 1)) (all_executed (here_after (Executed n p) h) rest) (or_same (all_executed h (Executed n p ∷ rest)) both.0) in
    let low = and_parts (is_low (Executed n p)) (all_low rest) both.1 in
    let goes_on : all_executed k rest ≡ true = sym (alike_executed (here_after (Executed n p) h) k alike.executed rest) ∙ placed.1 in
    and_from (all_placed k rest || all_executed k rest) (all_low rest) (or_second (all_placed k rest) (all_executed k rest) goes_on) low.1

pub ready_next : (h k : Here) (x : Change) (rest : List Change) → ((n : Number) (p : Proof) → x ≢ Executed n p) → k ≡ here_after x h → IsTrue (is_ready h (x ∷ rest)) → IsTrue (is_ready k rest)
ready_next h k x rest never is ready = subst (λ (j : Here). IsTrue (is_ready j rest)) (sym is) (by x never ready)
  where
    by : (y : Change) → ((n : Number) (p : Proof) → y ≢ Executed n p) → IsTrue (is_ready h (y ∷ rest)) → IsTrue (is_ready (here_after y h) rest)
    by (Executed n p) none r = absurd (none n p refl)
    by (Made j s) none r = next_placed h (Made j s) rest refl refl r
    by (Prepared s q) none r = next_placed h (Prepared s q) rest refl refl r
    by (Accepted s q) none r = next_placed h (Accepted s q) rest refl refl r
    by (Union s q) none r = next_placed h (Union s q) rest refl refl r
    by (EnterLocal y q) none r = next_placed h (EnterLocal y q) rest refl refl r
    by (EnterGlobal y ws) none r = next_placed h (EnterGlobal y ws) rest refl refl r

-- ---- alike places

pub alike_same : (h k : Here) → k ≡ h → IsAlike h k
alike_same h k is =
    record { seat = sym (ap (λ (j : Here). j.seat) is); view = sym (ap (λ (j : Here). j.view) is); local = sym (ap (λ (j : Here). j.local) is); executed = sym (ap (λ (j : Here). j.executed) is) }

-- a statement that is made leaves all but the leaf
pub alike_made : (h k m : Here) (leaf : ℕ) (s : Statement) → k ≡ h → m ≡ here_after (Made leaf s) k → IsAlike h m
alike_made h k m leaf s is made =
    record {
      seat = sym (ap (λ (j : Here). j.seat) made ∙ ap (λ (j : Here). j.seat) is);
      view = sym (ap (λ (j : Here). j.view) made ∙ ap (λ (j : Here). j.view) is);
      local = sym (ap (λ (j : Here). j.local) made ∙ ap (λ (j : Here). j.local) is);
      executed = sym (ap (λ (j : Here). j.executed) made ∙ ap (λ (j : Here). j.executed) is);
    }

pub alike_both : (h k m : Here) → IsAlike h k → IsAlike k m → IsAlike h m
alike_both h k m first second = record { seat = first.seat ∙ second.seat; view = first.view ∙ second.view; local = first.local ∙ second.local; executed = first.executed ∙ second.executed }

-- a change leads alike places to alike places
pub alike_after : (h k : Here) (x : Change) → IsAlike h k → IsAlike (here_after x h) (here_after x k)
alike_after h k (EnterLocal y q) alike = record { seat = alike.seat; view = alike.view; local = ap (λ l. max l y.0) alike.local; executed = alike.executed }
alike_after h k (EnterGlobal y ws) alike = record { seat = alike.seat; view = ap (λ g. max g y.0) alike.view; local = alike.local; executed = alike.executed }
alike_after h k (Made j s) alike = record { seat = alike.seat; view = alike.view; local = alike.local; executed = alike.executed }
alike_after h k (Prepared s q) alike = alike
alike_after h k (Accepted s q) alike = alike
alike_after h k (Union s q) alike = alike
alike_after h k (Executed n p) alike = record { seat = alike.seat; view = alike.view; local = alike.local; executed = ap (λ e. e + 1) alike.executed }

-- ---- the service's answer

kept_more : (n : ℕ) → min (kept_count n + 1) (2 ^ 32 - 1) ≡ kept_count (n + 1)
kept_more n = omega arith

pub serve_is : (live : Live) (q : Answers) (op : List ℕ) (next : ℕ) → IsLive live q → next ≡ min (live.ran + 1) (2 ^ 32 - 1) → to_be_bytes w32 next ≡ q.here.seat.serve q.log.run.ran op
unfolding list_serve
serve_is live q op next stands is =
    let serve : list_serve ≡ q.here.seat.serve = ap (λ (h : Here). h.seat.serve) (here_is live q stands) in
    ap (to_be_bytes w32) (is ∙ (ap (λ k. min (k + 1) (2 ^ 32 - 1)) stands.ran ∙ kept_more (length q.log.run.ran)))
    ∙ ap (λ (f : List (List ℕ) → List ℕ → List ℕ). f q.log.run.ran op) serve

-- ---- over lists

pub changes_none : (pen : Pen) (way : Course) → carries_changes pen way [] ≡ way
changes_none pen way = refl

-- a fold over a list that grows at its end
pub fold_more : {S X : Type 0} (f : S → X → S) (s : S) (xs : List X) (x : X) → fold f s (xs ++ x ∷ []) ≡ f (fold f s xs) x
fold_more f s [] x = refl
fold_more f s (y ∷ ys) x = fold_more f (f s y) ys x

pub after_all_more : (h : Here) (xs : List Change) (x : Change) → here_after_all h (xs ++ x ∷ []) ≡ here_after x (here_after_all h xs)
after_all_more h [] x = refl
after_all_more h (y ∷ ys) x = after_all_more (here_after y h) ys x

pub kept_first : (h : Here) (m : Heard) (ms : List Heard) → IsTrue (are_ready h (m ∷ ms)) → IsTrue (may_keep h m) × IsTrue (are_ready h ms)
kept_first h m ms ready =
    let both = and_parts (is_taken h m && all_taken h ms) (is_low_message m.message && all_low_heard ms) ready in
    let taken = and_parts (is_taken h m) (all_taken h ms) both.0 in
    let low = and_parts (is_low_message m.message) (all_low_heard ms) both.1 in
    (and_from (is_taken h m) (is_low_message m.message) taken.0 low.0, and_from (all_taken h ms) (all_low_heard ms) taken.1 low.1)

-- ---- what a draft knows of its place

pub sites_known : (made : ℕ → Option Sealing) (draft : Draft) → IsDrawn made draft → 0 < draft.live.here.sites
sites_known made draft drawn = subst (λ (h : Here). 0 < h.seat.sites) (sym (here_is draft.live drawn.way.now drawn.draws.now)) drawn.bound.seat.sites

pub executed_known : (made : ℕ → Option Sealing) (draft : Draft) → IsDrawn made draft → draft.live.here.executed ≤ LAST_NUMBER
executed_known made draft drawn = subst (λ (h : Here). h.executed ≤ LAST_NUMBER) (sym (here_is draft.live drawn.way.now drawn.draws.now)) drawn.bound.executed

-- an execution leaves the next leaf
pub leaf_stays : (live new : Live) (n : Number) (p : Proof) → place_here new ≡ here_after (Executed n p) (place_here live) → new.here.leaf ≡ live.here.leaf
leaf_stays live new n p is = ap (λ (h : Here). h.leaf) is

seat_kept : (x : Change) (h : Here) → (here_after x h).seat ≡ h.seat
seat_kept (EnterLocal y q) h = refl
seat_kept (EnterGlobal y ws) h = refl
seat_kept (Made k s) h = refl
seat_kept (Prepared s q) h = refl
seat_kept (Accepted s q) h = refl
seat_kept (Union s q) h = refl
seat_kept (Executed n p) h = refl

-- a change leaves the key
pub capacity_stays : (x : Change) (live new : Live) → place_here new ≡ here_after x (place_here live) → new.here.capacity ≡ live.here.capacity
capacity_stays x live new is = ap (λ (h : Here). h.seat.capacity) is ∙ ap (λ (t : Seat). t.capacity) (seat_kept x (place_here live))

-- what holds of a value that is there
pub placed_of : {A : Type 0} (r : Option A) (x : A) (P : A → Type 0) → r ≡ Some x → IfSome r P → P x
placed_of r x P is holds = subst (λ o. IfSome o P) is holds

-- the short state says whether an update is replied to
pub replied_is : (live : Live) (q : Answers) (u : Update) → IsLive live q → live_replies live u ≡ is_replied q u
unfolding asked
replied_is live q u stands =
    let here = here_is live q stands in
    let last = ap (λ (a : Answers). a.log.run.last) stands.is in
    λ i. nat_lt ((last i) u.client.0) u.time && nat_eq (u.client.0 % (here i).seat.sites) (here i).seat.site && nat_lt (here i).leaf (here i).seat.capacity

pub reply_none : (q : Answers) (v : Value) (u : Update) → v ≡ values.Update u → is_replied q u ≡ false → None ≡ reply_by q v
reply_none q v u is none = ap (λ b. cond b (Some (u.client, next_reply q u)) None) (sym none) ∙ ap (reply_by q) (sym is)

pub reply_some : (q : Answers) (v : Value) (u : Update) (s : Statement) → v ≡ values.Update u → is_replied q u ≡ true → s ≡ next_reply q u → Some (u.client, s) ≡ reply_by q v
reply_some q v u s is some same =
    ap (λ (t : Statement). Some (u.client, t)) same ∙ (ap (λ b. cond b (Some (u.client, next_reply q u)) None) (sym some) ∙ ap (reply_by q) (sym is))
