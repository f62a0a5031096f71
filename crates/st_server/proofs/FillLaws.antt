-- The fill of a server that holds no union.
use Rattle.std.proofs.Common.{◌≡◌, ◌∙◌, ap, sym, subst, ℕ, ◌+◌, ◌*◌, ◌^◌, ◌<◌, ◌≤◌, ◌-◌, min, ◌&&◌, Bool, true, false, cond, nat_eq, nat_le, not, is_some, Option, Some, None, List, [], ◌∷◌, ◌++◌, refl, arith, zero, suc}
use Rattle.std.proofs.lemmas.Bool.{and_parts, and_from}
use Rattle.st_words.specs.declared.deployment.TheConstants.{WINDOW, LAST_NUMBER}
use Rattle.st_words.specs.declared.value.Value.{Value}
use Rattle.st_message.specs.declared.change.Change.{Change}
use Rattle.st_protocol.specs.Words.{Bytes}
use Rattle.st_protocol.specs.Keeping.{given}
use Rattle.st_protocol.specs.State.{Here, Answers, Pended, Sealing, Slots, AtPrepare}
use Rattle.st_protocol.specs.Step.{when, rep, leader}
use Rattle.st_protocol.specs.Forced as forced
use Rattle.st_protocol.specs.Forced.{forced_of, waits, base_of}
use Rattle.st_protocol.specs.Assigning.{Filling, fill, fills, fill_number, fill_value, fill_makes}
use Rattle.st_state.specs.declared.forced.Forced.{Forced}
use Rattle.st_state.specs.ForcedView.{forced_by, no_unions}
use Rattle.st_state.specs.SlotsView.{slots_of}
use Rattle.st_state.specs.ClientsView.{last_of, pending_of}
use Rattle.st_live.specs.declared.live.Live.{Live}
use Rattle.st_live.specs.LiveView.{place_here, IsLive, asked}
use Rattle.st_live.proofs.LiveLaws.{here_is}
use Rattle.st_shares.specs.Known.{IsKnown}
use Rattle.st_server.specs.declared.draft.Draft.{Draft}
use Rattle.st_server.specs.Bounds.{IsBound, IsLowStep, is_low, all_low, all_low_heard}
use Rattle.st_server.specs.Draw.{IsDrawn}

-- ---- what the fill makes executes nothing

all_low_more : (xs ys : List Change) → all_low xs ≡ true → all_low ys ≡ true → all_low (xs ++ ys) ≡ true
all_low_more [] ys low more = more
all_low_more (x ∷ xs) ys low more = let both = and_parts (is_low x) (all_low xs) low in and_from (is_low x) (all_low (xs ++ ys)) both.0 (all_low_more xs ys both.1 more)

-- a filling so far
record IsLowFilling (f : Filling) : Type 0 where
  low : all_low f.step.changes ≡ true
  heard : f.step.heard ≡ []

made_low : (here : Here) (f : Filling) (n : ℕ) (x : Value × Bytes) → IsLowFilling f → IsLowFilling (fill_makes here f n x)
made_low here f n x low = record { low = all_low_more f.step.changes _ low.low refl; heard = ap (λ hs. hs ++ []) low.heard }

number_low : (here : Here) (pending : ℕ → Option Pended) (force : forced.Forced) (f g : Filling) (n : ℕ) → IsLowFilling f → fill_number here pending force f n ≡ Some g → IsLowFilling g
unfolding fill_number
number_low here pending force f g n low e = by_made (is_some (f.slots.made (AtPrepare here.view here.local n))) e
  where
    by_value : (v : Option (Value × Bytes)) → given v None (λ x. Some (fill_makes here f n x)) ≡ Some g → IsLowFilling g
    by_value None r = absurd (let fails : None ≡ Some g = r in cc)
    by_value (Some x) r = let same : fill_makes here f n x ≡ g = cc in subst IsLowFilling same (made_low here f n x low)

    by_leaf : (b : Bool) → cond b None (given (fill_value here f.slots pending force n) None (λ x. Some (fill_makes here f n x))) ≡ Some g → IsLowFilling g
    by_leaf true r = absurd (let fails : None ≡ Some g = r in cc)
    by_leaf false r = by_value (fill_value here f.slots pending force n) r

    by_made : (b : Bool) → cond b (Some f) (cond (nat_le here.seat.capacity f.leaf) None (given (fill_value here f.slots pending force n) None (λ x. Some (fill_makes here f n x)))) ≡ Some g → IsLowFilling g
    by_made true r = let same : f ≡ g = cc in subst IsLowFilling same low
    by_made false r = by_leaf (nat_le here.seat.capacity f.leaf) r

by_number : (here : Here) (pending : ℕ → Option Pended) (force : forced.Forced) (k n : ℕ) (f : Filling) → IsLowFilling f → ((g : Filling) → IsLowFilling g → IsLowFilling (fills here pending force k (n + 1) g))
    → (r : Option Filling) → fill_number here pending force f n ≡ r → IsLowFilling (given r f (fills here pending force k (n + 1)))
by_number here pending force k n f low more None e = low
by_number here pending force k n f low more (Some g) e = more g (number_low here pending force f g n low e)

fills_low : (here : Here) (pending : ℕ → Option Pended) (force : forced.Forced) (k n : ℕ) (f : Filling) → IsLowFilling f → IsLowFilling (fills here pending force k n f)
unfolding fills
fills_low here pending force zero n f low = low
fills_low here pending force (suc k) n f low =
    by_number here pending force k n f low (λ (g : Filling) (so : IsLowFilling g). fills_low here pending force k (n + 1) g so) (fill_number here pending force f n) refl

pub fill_low : (here : Here) (slots : Slots) (pending : ℕ → Option Pended) (force : forced.Forced) → IsLowStep (fill here slots pending force)
unfolding fill
fill_low here slots pending force = by (nat_eq here.seat.index (rep here) && nat_eq here.seat.site (leader here) && not (waits force))
  where
    begun : Filling
    begun = record { step = record { changes = []; heard = []; out = [] }; leaf = here.leaf; slots = slots }

    done : Filling
    done = fills here pending force (min (here.executed + WINDOW) LAST_NUMBER - force.base) (force.base + 1) begun

    low : IsLowFilling done
    low = fills_low here pending force _ _ begun (record { low = refl; heard = refl })

    by : (b : Bool) → IsLowStep (when b done.step)
    by true = record { changes = low.low; heard = subst (λ hs. all_low_heard hs ≡ true) (sym low.heard) refl }
    by false = record { changes = refl; heard = refl }

-- ---- the fill of the code is the fill of the answers

pub fill_is : (live : Live) (q : Answers) (f : Forced) → IsLive live q → forced_by (place_here live) f ≡ forced_of (place_here live) no_unions
    → fill (place_here live) (slots_of (place_here live) live.slots) (pending_of (last_of live.clients) live.pending) (forced_by (place_here live) f)
    ≡ fill q.here q.slots q.pending (forced_of q.here q.unions)
unfolding asked
fill_is live q f stands is =
    ap (fill (place_here live) (slots_of (place_here live) live.slots) (pending_of (last_of live.clients) live.pending)) is
    ∙ ap (λ (a : Answers). fill a.here a.slots a.pending (forced_of a.here a.unions)) stands.is

-- nothing is settled below the executed count
pub forced_base : (live : Live) (f : Forced) → forced_by (place_here live) f ≡ forced_of (place_here live) no_unions → live.here.executed ≤ f.base
unfolding forced_by forced_of
forced_base live f is = let base = ap (λ (x : forced.Forced). x.base) is in omega (arith, base)

-- ---- what the parts ask to know

pub known_is : (live : Live) (q : Answers) → IsLive live q → IsBound q → IsKnown live.here
known_is live q stands bound =
    let here = here_is live q stands in
    let servers = ap (λ (h : Here). h.seat.f) here in
    let executed = ap (λ (h : Here). h.executed) here in
    let leaf = ap (λ (h : Here). h.leaf) here in
    let capacity = ap (λ (h : Here). h.seat.capacity) here in
    let low = bound.executed in
    let few = stands.few in
    record {
      servers = subst (λ (h : Here). 3 * h.seat.f < 256) (sym here) bound.seat.servers;
      sites = subst (λ (h : Here). 0 < h.seat.sites) (sym here) bound.seat.sites;
      executed = omega (arith, executed, low);
      leaf = omega (arith, leaf, capacity, few);
      capacity = subst (λ (h : Here). h.seat.capacity ≤ 2 ^ 20) (sym here) bound.seat.capacity;
    }

pub known_here : (made : ℕ → Option Sealing) (draft : Draft) → IsDrawn made draft → IsKnown draft.live.here
known_here made draft drawn = known_is draft.live drawn.way.now drawn.draws.now drawn.bound
