-- A server that did nothing yet stands for empty lists.
use Rattle.std.proofs.Common.{◌≡◌, ◌∙◌, ap, sym, subst, ℕ, ◌≤◌, Some, None, [], refl, arith}
use Rattle.st_protocol.specs.State.{Seat, Answers}
use Rattle.st_protocol.specs.Keeping.{joined}
use Rattle.st_protocol.specs.Questions.{questions}
use Rattle.st_protocol.specs.Growth.{nothing, grown, cuts, fresh_here}
use Rattle.st_protocol.proofs.QuestionLaws.{questions_grow}
use Rattle.st_state.specs.HereView.{seat_of}
use Rattle.st_state.specs.SlotsView.{slots_of, no_slots}
use Rattle.st_state.specs.HandView.{hand_of, no_hand}
use Rattle.st_state.specs.OwnView.{own_of, no_own}
use Rattle.st_state.specs.ClientsView.{last_of, place_of, pending_of}
use Rattle.st_live.specs.declared.live.Live.{Live}
use Rattle.st_live.specs.LiveView.{place_here, past_of, asked}
use Rattle.st_live.specs.Service.{list_serve}
use Rattle.st_live.proofs.SealedLaws.{sealed_nothing}
use Rattle.st_live.proofs.CutLaws.{asked_cut}
use Rattle.st_tables.specs.Entries.{entry}
use Rattle.st_server.specs.declared.server.Server.{Server}
use Rattle.st_server.specs.Bounds.{IsSeat}
use Rattle.st_server.specs.Fresh.{IsFresh}
use Rattle.st_server.specs.Serving.{seat_by, StandsBy, Stands}

-- what the empty lists answer
questions_of_nothing : (seat : Seat) → cuts (nothing seat) ≡ nothing seat → questions seat [] [] ≡ nothing seat
unfolding grown joined
questions_of_nothing seat cut = questions_grow seat [] [] ∙ cut

place_fresh : (live : Live) → IsFresh live.here → place_here live ≡ fresh_here (seat_of live.pending.clients list_serve live.here)
place_fresh live fresh =
    λ i. record { seat = seat_of live.pending.clients list_serve live.here; view = fresh.view i; local = fresh.local i; executed = fresh.executed i; leaf = fresh.leaf i }

-- a short state of which all groups are empty
pub asked_nothing : (live : Live) (seat : Seat) → seat ≡ seat_of live.pending.clients list_serve live.here → IsFresh live.here
    → slots_of (place_here live) live.slots ≡ no_slots → ((c : ℕ) → last_of live.clients c ≡ 0) → ((c : ℕ) → place_of live.clients c ≡ 0)
    → pending_of (last_of live.clients) live.pending ≡ (λ c. None) → hand_of (place_here live) live.hand ≡ no_hand → own_of (place_here live) live.own ≡ no_own
    → asked (past_of (nothing seat)) live ≡ nothing seat
unfolding asked nothing
asked_nothing live seat same fresh slots last place pending hand own =
    λ i. record {
      here = (place_fresh live fresh ∙ ap fresh_here (sym same)) i;
      slots = slots i;
      making = (nothing seat).making;
      log = record { run = record { last = λ c. last c i; place = λ c. place c i; entries = []; ran = [] }; proof = λ n. None };
      pending = pending i;
      votes = (nothing seat).votes;
      unions = (nothing seat).unions;
      reports = (nothing seat).reports;
      hand = hand i;
      words = (nothing seat).words;
      own = own i;
    }

pub stands_fresh : (server : Server) → IsFresh server.live.here → IsSeat (seat_by server)
    → slots_of (place_here server.live) server.live.slots ≡ no_slots → ((c : ℕ) → last_of server.live.clients c ≡ 0) → ((c : ℕ) → place_of server.live.clients c ≡ 0)
    → pending_of (last_of server.live.clients) server.live.pending ≡ (λ c. None) → hand_of (place_here server.live) server.live.hand ≡ no_hand → own_of (place_here server.live) server.live.own ≡ no_own
    → server.live.ran ≡ 0 → server.entries ≡ [] → ((n : ℕ) → entry server.replies n ≡ None) → Stands server [] []
unfolding nothing
stands_fresh server fresh known slots last place pending hand own ran entries replies =
    record {
      answers = subst (StandsBy server) (sym (questions_of_nothing (seat_by server) cut)) by_nothing;
      entries = entries ∙ sym (ap (λ (q : Answers). q.log.run.entries) (questions_of_nothing (seat_by server) cut));
    }
  where
    is : asked (past_of (nothing (seat_by server))) server.live ≡ nothing (seat_by server)
    is = asked_nothing server.live (seat_by server) refl fresh slots last place pending hand own

    cut : cuts (nothing (seat_by server)) ≡ nothing (seat_by server)
    cut = ap cuts (sym is) ∙ (asked_cut (past_of (nothing (seat_by server))) server.live ∙ is)

    by_nothing : StandsBy server (nothing (seat_by server))
    by_nothing =
        record {
          live =
              record {
                is = is;
                entries = fresh.executed;
                ran = ran;
                sealed = sealed_nothing (seat_by server);
                few = let none : 0 ≤ server.live.here.capacity = omega arith in none;
              };
          bound =
              record {
                seat = known;
                executed = omega arith;
                words = λ n s w e. absurd (let fails : None ≡ Some w = e in cc);
                proofs = λ n p e. absurd (let fails : None ≡ Some p = e in cc);
              };
          replies = λ n. sym (replies n);
        }
