-- A draft goes on being the course of its event.
use Rattle.std.proofs.Common.{◌≡◌, ◌∙◌, ap, sym, subst, ℕ, ◌<◌, Option, Some, None, List, [], ◌∷◌, ◌++◌, IsTrue, refl, arith}
use Rattle.std.proofs.lemmas.Bool.{and_parts}
use Rattle.st_words.specs.declared.statement.Statement.{Statement}
use Rattle.st_message.specs.declared.change.Change.{Change}
use Rattle.st_message.specs.declared.change.Heard.{Heard}
use Rattle.st_message.specs.declared.event.Output.{Output}
use Rattle.st_protocol.specs.Keeping.{or_else, first_of}
use Rattle.st_protocol.specs.State.{Here, Answers, Sealing, Making, Term, at_reply}
use Rattle.st_protocol.specs.Questions.{sealing_in}
use Rattle.st_protocol.specs.Growth.{here_after, after, hears}
use Rattle.st_protocol.specs.Duty.{Course, begins, records, keeps, puts, sealing_of}
use Rattle.st_protocol.proofs.FieldLaws.{here_after_change, here_hears, making_after_change, making_hears}
use Rattle.st_state.specs.Placed.{is_taken}
use Rattle.st_live.specs.declared.live.Live.{Live}
use Rattle.st_state.specs.SlotsView.{slots_of}
use Rattle.st_live.specs.LiveView.{place_here, asked, IsLive, IsSealed}
use Rattle.st_live.proofs.LiveLaws.{here_is}
use Rattle.st_server.specs.declared.draft.Draft.{Draft}
use Rattle.st_server.specs.Bounds.{IsSound, is_low_message}
use Rattle.st_server.specs.Ready.{may_record, may_keep}
use Rattle.st_server.specs.Draw.{Draws, IsDrawn}
use Rattle.st_server.proofs.FirstLaws.{first_of_none, first_of_more, or_else_assoc}
use Rattle.st_server.proofs.BoundLaws.{bound_after, bound_hears}

-- ---- where the short state stands

pub here_noted : (live new : Live) (x : Change) → IsSound live → ((q : Answers) → IsLive live q → IsLive new (after q x)) → place_here new ≡ here_after x (place_here live)
here_noted live new x sound step =
    here_is new (after sound.answers x) (step sound.answers sound.stands)
    ∙ (here_after_change sound.answers x ∙ ap (here_after x) (sym (here_is live sound.answers sound.stands)))

pub here_heard : (live new : Live) (m : Heard) → IsSound live → ((q : Answers) → IsLive live q → IsLive new (hears q m)) → place_here new ≡ place_here live
here_heard live new m sound step =
    here_is new (hears sound.answers m) (step sound.answers sound.stands)
    ∙ (here_hears sound.answers m ∙ sym (here_is live sound.answers sound.stands))

pub sound_heard : (live new : Live) (m : Heard) → IsTrue (may_keep (place_here live) m) → IsSound live → ((q : Answers) → IsLive live q → IsLive new (hears q m)) → IsSound new
sound_heard live new m may sound step =
    record {
      answers = hears sound.answers m;
      stands = step sound.answers sound.stands;
      bound = bound_hears sound.answers m (and_parts (is_taken (place_here live) m) (is_low_message m.message) may).1 sound.bound;
    }

pub drawn_sound : (made : ℕ → Option Sealing) (draft : Draft) → IsDrawn made draft → IsSound draft.live
drawn_sound made draft drawn = record { answers = drawn.way.now; stands = drawn.draws.now; bound = drawn.bound }

-- ---- one thing more

or_else_none : {A : Type 0} (x : Option A) → x ≡ or_else x None
or_else_none None = refl
or_else_none (Some a) = refl

pub draws_begin : (made : ℕ → Option Sealing) (draft : Draft) (q : Answers) → IsLive draft.live q → draft.changes ≡ [] → draft.heard ≡ [] → draft.outputs ≡ []
    → ((n : ℕ) → q.making.reply n ≡ made n) → Draws made draft (begins q)
unfolding begins
draws_begin made draft q stands changes heard outputs replies =
    record {
      now = stands;
      changes = changes;
      heard = heard;
      outputs = outputs;
      replies = λ n. replies n ∙ (or_else_none (made n) ∙ sym (ap (or_else (made n)) (first_of_none (sealing_in (at_reply n)))));
    }

pub draws_record : (made : ℕ → Option Sealing) (old new : Draft) (way : Course) (x : Change) → Draws made old way → IsLive new.live (after way.now x)
    → new.changes ≡ old.changes ++ x ∷ [] → new.heard ≡ old.heard → new.outputs ≡ old.outputs → Draws made new (records way x)
unfolding records
draws_record made old new way x draws stands changes heard outputs =
    record {
      now = stands;
      changes = changes ∙ ap (λ (xs : List Change). xs ++ x ∷ []) draws.changes;
      heard = heard ∙ draws.heard;
      outputs = outputs ∙ draws.outputs;
      replies = λ n.
          ap (λ (m : Making). m.reply n) (making_after_change way.now x)
          ∙ (ap (λ (r : Option Sealing). or_else r (sealing_in (at_reply n) x)) (draws.replies n)
          ∙ (or_else_assoc (made n) (first_of (sealing_in (at_reply n)) way.changes) (sealing_in (at_reply n) x)
          ∙ ap (or_else (made n)) (sym (first_of_more (sealing_in (at_reply n)) way.changes x))));
    }

pub draws_keep : (made : ℕ → Option Sealing) (old new : Draft) (way : Course) (m : Heard) → Draws made old way → IsLive new.live (hears way.now m)
    → new.changes ≡ old.changes → new.heard ≡ old.heard ++ m ∷ [] → new.outputs ≡ old.outputs → Draws made new (keeps way m)
unfolding keeps
draws_keep made old new way m draws stands changes heard outputs =
    record {
      now = stands;
      changes = changes ∙ draws.changes;
      heard = heard ∙ ap (λ (ms : List Heard). ms ++ m ∷ []) draws.heard;
      outputs = outputs ∙ draws.outputs;
      replies = λ n. ap (λ (k : Making). k.reply n) (making_hears way.now m) ∙ draws.replies n;
    }

pub draws_put : (made : ℕ → Option Sealing) (old new : Draft) (way : Course) (o : Output) → Draws made old way → new.live ≡ old.live
    → new.changes ≡ old.changes → new.heard ≡ old.heard → new.outputs ≡ old.outputs ++ o ∷ [] → Draws made new (puts way o)
unfolding puts
draws_put made old new way o draws live changes heard outputs =
    record {
      now = subst (λ (l : Live). IsLive l way.now) (sym live) draws.now;
      changes = changes ∙ draws.changes;
      heard = heard ∙ draws.heard;
      outputs = outputs ∙ ap (λ (os : List Output). os ++ o ∷ []) draws.outputs;
      replies = draws.replies;
    }

-- ---- and all stays within its bounds

pub drawn_record : (made : ℕ → Option Sealing) (old new : Draft) (x : Change) → IsTrue (may_record (place_here old.live) x)
    → ((way : Course) → Draws made old way → Draws made new (records way x)) → IsDrawn made old → IsDrawn made new
unfolding records
drawn_record made old new x may step drawn =
    record {
      way = records drawn.way x;
      draws = step drawn.way drawn.draws;
      bound = bound_after drawn.way.now x (subst (λ (h : Here). IsTrue (may_record h x)) (here_is old.live drawn.way.now drawn.draws.now) may) drawn.bound;
    }

pub drawn_keep : (made : ℕ → Option Sealing) (old new : Draft) (m : Heard) → IsTrue (may_keep (place_here old.live) m)
    → ((way : Course) → Draws made old way → Draws made new (keeps way m)) → IsDrawn made old → IsDrawn made new
unfolding keeps
drawn_keep made old new m may step drawn =
    record {
      way = keeps drawn.way m;
      draws = step drawn.way drawn.draws;
      bound = bound_hears drawn.way.now m (and_parts (is_taken (place_here old.live) m) (is_low_message m.message) may).1 drawn.bound;
    }

pub drawn_put : (made : ℕ → Option Sealing) (old new : Draft) (o : Course → Output)
    → ((way : Course) → Draws made old way → Draws made new (puts way (o way))) → IsDrawn made old → IsDrawn made new
unfolding puts
drawn_put made old new o step drawn = record { way = puts drawn.way (o drawn.way); draws = step drawn.way drawn.draws; bound = drawn.bound }

-- ---- the leaves of what was made are below the key's capacity

pub made_below : (made : ℕ → Option Sealing) (draft : Draft) (way : Course) (s : Statement) (m : Sealing) → Draws made draft way → sealing_of way.now s ≡ Some m → m.leaf < draft.live.here.capacity
unfolding IsSealed
made_below made draft way s m draws found =
    let below = draws.now.sealed s m found in
    let few = draws.now.few in
    let capacity = ap (λ (h : Here). h.seat.capacity) (here_is draft.live way.now draws.now) in
    omega (arith, below, few, capacity)

-- ---- the groups of answers that a short state gives

pub slots_is : (live : Live) (q : Answers) → IsLive live q → slots_of (place_here live) live.slots ≡ q.slots
unfolding asked
slots_is live q stands = ap (λ (a : Answers). a.slots) stands.is

pub no_vc : (live : Live) (q : Answers) → IsLive live q → (t : Term) → q.making.vc t ≡ None
unfolding asked
no_vc live q stands t = sym (ap (λ (a : Answers). a.making.vc t) stands.is)

pub no_report : (live : Live) (q : Answers) → IsLive live q → (t : Term) → q.making.report t ≡ None
unfolding asked
no_report live q stands t = sym (ap (λ (a : Answers). a.making.report t) stands.is)

pub no_union : (live : Live) (q : Answers) → IsLive live q → (t : Term) → q.making.union t ≡ None
unfolding asked
no_union live q stands t = sym (ap (λ (a : Answers). a.making.union t) stands.is)
