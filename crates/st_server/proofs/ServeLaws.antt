-- A server that settles a plan stands for the longer lists.
use Rattle.std.proofs.Common.{◌≡◌, ◌∙◌, ap, sym, subst, ℕ, ◌+◌, ◌<◌, ◌≤◌, true, false, cond, length, take, get_or, Option, Some, None, List, [], ◌∷◌, ◌++◌, refl}
use Rattle.std.proofs.lemmas.List.{append-nil}
use Rattle.st_words.specs.declared.deployment.TheConstants.{LAST_NUMBER}
use Rattle.st_message.specs.declared.change.Change.{Change}
use Rattle.st_message.specs.declared.change.Heard.{Heard}
use Rattle.st_message.specs.declared.event.Plan.{Plan}
use Rattle.st_message.specs.declared.message.Message.{Message}
use Rattle.st_message.specs.declared.message.Proof.{Proof}
use Rattle.st_message.specs.declared.step.Step.{Step}
use Rattle.st_tables.specs.Entries.{entry}
use Rattle.st_protocol.specs.Keeping.{given, or_else, first_of, joined}
use Rattle.st_protocol.specs.State.{Seat, Here, Hand, Answers, Sealing, Word, at_reply}
use Rattle.st_protocol.specs.Questions.{questions, answers_by, here_of, sealing_in}
use Rattle.st_message.specs.declared.reason.Reason.{Reason}
use Rattle.st_message.specs.declared.reason.Reason.TheVariants.{Unknown}
use Rattle.st_protocol.specs.Step.{Answer}
use Rattle.st_protocol.specs.Duty.{Course, Pen, Clean, Faulty, begins, carries, fills_up, course, did, ignored, plan_by, plan_of, of_reading, of_message}
use Rattle.st_protocol.proofs.GatherLaws.{firsts, gathered-append, joined-push}
use Rattle.st_protocol.proofs.CourseLaws.{Follows, course_follows}
use Rattle.st_live.specs.declared.live.Live.{Live}
use Rattle.st_live.specs.LiveView.{place_here, IsLive, asked}
use Rattle.st_live.proofs.LiveLaws.{here_is}
use Rattle.st_server.specs.declared.draft.Draft.{Draft}
use Rattle.st_server.specs.declared.server.Server.{Server}
use Rattle.st_server.specs.Bounds.{IsSeat, IsBound}
use Rattle.st_server.specs.Draw.{Draws, IsDrawn}
use Rattle.st_server.specs.Serving.{seat_by, Stands, Leads, knows_sender, plan_by_message}
use Rattle.st_server.proofs.FirstLaws.{first_of_none, first_of_more, or_else_assoc}
use Rattle.st_server.proofs.LoopLaws.{taken_next}

-- ---- one short state has one hand

hand_same : (live : Live) (q r : Answers) → IsLive live q → IsLive live r → q.hand ≡ r.hand
unfolding asked
hand_same live q r one other = sym (ap (λ (a : Answers). a.hand) one.is) ∙ ap (λ (a : Answers). a.hand) other.is

here_same : (live : Live) (q r : Answers) → IsLive live q → IsLive live r → q.here ≡ r.here
here_same live q r one other = sym (here_is live q one) ∙ here_is live r other

pub bound_same : (live : Live) (q r : Answers) → IsLive live q → IsLive live r → IsBound q → IsBound r
bound_same live q r one other bound =
    let hand = hand_same live q r one other in
    let here = here_same live q r one other in
    record {
      seat = subst (λ (h : Here). IsSeat h.seat) here bound.seat;
      executed = subst (λ (h : Here). h.executed ≤ LAST_NUMBER) here bound.executed;
      words = subst (λ (h : Hand). (n s : ℕ) (w : Word) → h.word n s ≡ Some w → n ≤ LAST_NUMBER) hand bound.words;
      proofs = subst (λ (h : Hand). (n : ℕ) (p : Proof) → h.proof n ≡ Some p → n ≤ LAST_NUMBER) hand bound.proofs;
    }

-- ---- the plan is the course of the step

pub did_is : (made : ℕ → Option Sealing) (draft : Draft) (pen : Pen) (q : Answers) (step : Step) (plan : Plan) → Draws made draft (fills_up pen (carries pen (begins q) step))
    → plan.changes ≡ draft.changes → plan.heard ≡ draft.heard → plan.outputs ≡ draft.outputs → plan.outcome ≡ (did (course pen q step)).outcome → plan ≡ did (course pen q step)
unfolding course
did_is made draft pen q step plan draws changes heard outputs outcome =
    λ i. record { changes = (changes ∙ draws.changes) i; heard = (heard ∙ draws.heard) i; outputs = (outputs ∙ draws.outputs) i; outcome = outcome i }

-- ---- and leads where the longer lists do

pub leads_is : (made : ℕ → Option Sealing) (draft : Draft) (pen : Pen) (server : Server) (records : List (List Change)) (heard : List Heard) (step : Step)
    → Draws made draft (fills_up pen (carries pen (begins (questions (seat_by server) records heard)) step)) → IsDrawn made draft
    → Leads (Some draft.live) server (questions (seat_by server) (records ++ draft.changes ∷ []) (heard ++ draft.heard))
unfolding course Follows
leads_is made draft pen server records heard step draws drawn =
    let way : Course = fills_up pen (carries pen (begins (questions (seat_by server) records heard)) step) in
    let follows : way.now ≡ questions (seat_by server) (records ++ way.changes ∷ []) (heard ++ way.heard) = course_follows (seat_by server) records heard pen step in
    let same : questions (seat_by server) (records ++ way.changes ∷ []) (heard ++ way.heard) ≡ questions (seat_by server) (records ++ draft.changes ∷ []) (heard ++ draft.heard) =
    λ i. questions (seat_by server) (records ++ (sym draws.changes i) ∷ []) (heard ++ (sym draws.heard i)) in
    let live : IsLive draft.live (questions (seat_by server) (records ++ draft.changes ∷ []) (heard ++ draft.heard)) = subst (IsLive draft.live) (follows ∙ same) draws.now in
    record { live = live; bound = bound_same draft.live drawn.way.now _ drawn.draws.now live drawn.bound }

-- answers look at the changes that the records join to
pub same_joined : (seat : Seat) (rs ts : List (List Change)) (hs : List Heard) → joined rs ≡ joined ts → questions seat rs hs ≡ questions seat ts hs
unfolding questions
same_joined seat rs ts hs e = ap (λ (xs : List Change). answers_by (here_of seat xs) seat xs hs) e

-- nothing more is nothing else
pub no_more : (seat : Seat) (records : List (List Change)) (heard : List Heard) → questions seat (records ++ [] ∷ []) (heard ++ []) ≡ questions seat records heard
no_more seat records heard =
    ap (λ (hs : List Heard). questions seat (records ++ [] ∷ []) hs) (append-nil heard) ∙ same_joined seat (records ++ [] ∷ []) records heard (joined-push records [] ∙ append-nil (joined records))

pub leads_still : (server : Server) (records : List (List Change)) (heard : List Heard) → Stands server records heard → Leads None server (questions (seat_by server) (records ++ [] ∷ []) (heard ++ []))
leads_still server records heard stands =
    record {
      live = subst (IsLive server.live) (sym (no_more (seat_by server) records heard)) stands.answers.live;
      bound = subst IsBound (sym (no_more (seat_by server) records heard)) stands.answers.bound;
    }

questions_seat : (seat : Seat) (records : List (List Change)) (heard : List Heard) → (questions seat records heard).here.seat ≡ seat
unfolding questions here_of
questions_seat seat records heard = refl

-- ---- and once it is settled the server stands for them

replies_more : (seat : Seat) (records : List (List Change)) (body : List Change) (heard others : List Heard) (n : ℕ)
    → (questions seat (records ++ body ∷ []) others).making.reply n ≡ or_else ((questions seat records heard).making.reply n) (first_of (sealing_in (at_reply n)) body)
unfolding questions
replies_more seat records body heard others n =
    ap (first_of (sealing_in (at_reply n))) (joined-push records body) ∙ gathered-append firsts (sealing_in (at_reply n)) (joined records) body

pub settled : (old new : Server) (records : List (List Change)) (heard others : List Heard) (body : List Change) (next : Option Live) → Stands old records heard
    → Leads next old (questions (seat_by old) (records ++ body ∷ []) (heard ++ others))
    → new.live ≡ given next old.live (λ l. l) → new.entries ≡ (questions (seat_by old) (records ++ body ∷ []) (heard ++ others)).log.run.entries
    → ((n : ℕ) → entry new.replies n ≡ or_else (entry old.replies n) (first_of (sealing_in (at_reply n)) body))
    → Stands new (records ++ body ∷ []) (heard ++ others)
settled old new records heard others body next stands leads live entries replies =
    record {
      answers =
          record {
            live = subst (λ (s : Seat). IsLive new.live (questions s (records ++ body ∷ []) (heard ++ others))) seat (subst (λ (l : Live). IsLive l (questions (seat_by old) (records ++ body ∷ []) (heard ++ others))) (sym live) leads.live);
            bound = subst (λ (s : Seat). IsBound (questions s (records ++ body ∷ []) (heard ++ others))) seat leads.bound;
            replies = λ n.
                ap (λ (s : Seat). (questions s (records ++ body ∷ []) (heard ++ others)).making.reply n) (sym seat)
                ∙ (replies_more (seat_by old) records body heard (heard ++ others) n
                ∙ (ap (λ (r : Option Sealing). or_else r (first_of (sealing_in (at_reply n)) body)) (stands.answers.replies n) ∙ sym (replies n)));
          };
      entries = entries ∙ ap (λ (s : Seat). (questions s (records ++ body ∷ []) (heard ++ others)).log.run.entries) seat;
    }
  where
    seat : seat_by old ≡ seat_by new
    seat =
        sym (ap (λ (h : Here). h.seat) (here_is new.live (questions (seat_by old) (records ++ body ∷ []) (heard ++ others)) (subst (λ (l : Live). IsLive l (questions (seat_by old) (records ++ body ∷ []) (heard ++ others))) (sym live) leads.live))
        ∙ questions_seat (seat_by old) (records ++ body ∷ []) (heard ++ others))

-- ---- at first

pub begun : (made : ℕ → Option Sealing) (draft : Draft) (q : Answers) → Draws made draft (begins q) → IsBound q → IsDrawn made draft
unfolding begins
begun made draft q draws bound = record { way = begins q; draws = draws; bound = bound }

-- ---- what a message comes to

pub unknown_plan : (seat : Seat) (pen : Pen) (q : Answers) (m : Message) → knows_sender seat m ≡ false → ignored Unknown ≡ plan_by_message seat pen q m
unfolding plan_of
unknown_plan seat pen q m is = ap (λ b. plan_by pen q (of_reading q (cond b (Clean m) (Faulty Unknown)))) (sym is)

pub known_plan : (seat : Seat) (pen : Pen) (q : Answers) (m : Message) (answer : Answer) → knows_sender seat m ≡ true → of_message q m ≡ answer → plan_by pen q answer ≡ plan_by_message seat pen q m
unfolding plan_of
known_plan seat pen q m answer is same = ap (plan_by pen q) (sym same) ∙ ap (λ b. plan_by pen q (of_reading q (cond b (Clean m) (Faulty Unknown)))) (sym is)

-- ---- Replies, one change more

pub replies_begin : (x : Option Sealing) (n : ℕ) → x ≡ or_else x (first_of (sealing_in (at_reply n)) [])
replies_begin x n = or_none x ∙ ap (or_else x) (sym (first_of_none (sealing_in (at_reply n))))
  where
    or_none : (y : Option Sealing) → y ≡ or_else y None
    or_none None = refl
    or_none (Some a) = refl

pub replies_next : (n : ℕ) (first old new : Option Sealing) (xs : List Change) (i : ℕ) (x : Change) → i < length xs → x ≡ get_or xs i x → new ≡ or_else old (sealing_in (at_reply n) x)
    → old ≡ or_else first (first_of (sealing_in (at_reply n)) (take i xs)) → new ≡ or_else first (first_of (sealing_in (at_reply n)) (take (i + 1) xs))
replies_next n first old new xs i x below is step so =
    step
    ∙ (ap (λ (r : Option Sealing). or_else r (sealing_in (at_reply n) x)) so
    ∙ (or_else_assoc first (first_of (sealing_in (at_reply n)) (take i xs)) (sealing_in (at_reply n) x)
    ∙ ap (or_else first) (sym (first_of_more (sealing_in (at_reply n)) (take i xs) x) ∙ ap (first_of (sealing_in (at_reply n))) (sym (taken_next xs i x below is)))))

-- an ignored message leaves the short state
pub ignored_leads : (server : Server) (records : List (List Change)) (heard : List Heard) (plan : Plan) (next : Option Live) (reason : Reason) → plan ≡ ignored reason → next ≡ None → Stands server records heard
    → Leads next server (questions (seat_by server) (records ++ plan.changes ∷ []) (heard ++ plan.heard))
ignored_leads server records heard plan next reason is none stands =
    subst (λ (p : Plan). Leads next server (questions (seat_by server) (records ++ p.changes ∷ []) (heard ++ p.heard))) (sym is)
    (subst (λ (n : Option Live). Leads n server (questions (seat_by server) (records ++ [] ∷ []) (heard ++ []))) (sym none) (leads_still server records heard stands))

-- a short state that comes next is of the same seat
pub seat_stays : (old : Server) (live : Live) (records : List (List Change)) (heard : List Heard) (next : Option Live) → Leads next old (questions (seat_by old) records heard) → live ≡ given next old.live (λ l. l) → (place_here live).seat ≡ seat_by old
seat_stays old live records heard next leads is =
    ap (λ (h : Here). h.seat) (here_is live (questions (seat_by old) records heard) (subst (λ (l : Live). IsLive l (questions (seat_by old) records heard)) (sym is) leads.live)) ∙ questions_seat (seat_by old) records heard
