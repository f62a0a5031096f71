-- A change of the short state is the change of its answers.
use Rattle.std.proofs.Common.{◌≡◌, ◌∙◌, ap, sym, subst, ℕ, ◌+◌, ◌<◌, ◌≤◌, nat_eq, nat_lt, ◌&&◌, length, arith, Bool, true, false, cond, Some, None, refl}
use Rattle.std.proofs.lemmas.Bool.{ltb-true}
use Rattle.st_words.specs.declared.ids.Number.{Number}
use Rattle.st_words.specs.declared.value.Value.{Value}
use Rattle.st_words.specs.declared.value.Value.TheVariants as values
use Rattle.st_words.specs.declared.statement.Statement.{Statement}
use Rattle.st_message.specs.declared.change.Change.{Change}
use Rattle.st_message.specs.declared.change.Change.TheVariants.{Made, Prepared, Accepted, Executed}
use Rattle.st_message.specs.declared.message.Proof.{Proof}
use Rattle.st_protocol.specs.Words.{Quorum}
use Rattle.st_protocol.specs.Keeping.{open_if, or_else}
use Rattle.st_protocol.specs.State.{Here, Sealing, Term, Answers, at_vc, at_report, at_union, open_vc, open_term}
use Rattle.st_protocol.specs.Questions.{runs, runs_for, last_after}
use Rattle.st_protocol.specs.Growth.{after, notes, cuts, slots_notes, slots_cuts, hand_cuts, own_cuts, pending_cuts}
use Rattle.st_protocol.proofs.DropLaws.{made_drops_nothing, prepared_drops_nothing, accepted_drops_nothing}
use Rattle.st_state.specs.declared.slots.Slots.{Slots}
use Rattle.st_state.specs.declared.clients.Clients.{Clients}
use Rattle.st_state.specs.declared.hand.Hand.{Hand}
use Rattle.st_state.specs.declared.own.Own.{Own}
use Rattle.st_state.specs.ClientsView.{last_of, place_of, pending_of}
use Rattle.st_state.specs.SlotsView.{slots_of}
use Rattle.st_state.specs.HandView.{hand_of}
use Rattle.st_state.specs.OwnView.{own_of}
use Rattle.st_state.proofs.HandLaws.{open_none}
use Rattle.st_state.proofs.CutLaws.{pending_risen}
use Rattle.st_live.specs.declared.live.Live.{Live}
use Rattle.st_live.specs.LiveView.{Past, past_of, place_here, no_votes, asked}
use Rattle.st_live.proofs.CutLaws.{asked_cut}

-- nothing is made where the test isn't passed
none_made : (b test : Bool) (x : Sealing) → test ≡ false → None ≡ open_if b (or_else None (cond test (Some x) None))
none_made b test x fails = rw fails (sym (open_none b))

-- the live state once a statement is made
abbrev pub with_made : Live → Slots → Live
with_made live slots = record live { here = record live.here { leaf = live.here.leaf + 1 }; slots = slots }

abbrev after_leaf : Live → Here
after_leaf live = record (place_here live) { leaf = live.here.leaf + 1 }

-- a statement is made that asks for no view, and is no report and no union
made_noted : (past : Past) (live : Live) (slots : Slots) (leaf : ℕ) (s : Statement)
    → ((t : Term) → at_vc t s ≡ false) → ((t : Term) → at_report t s ≡ false) → ((t : Term) → at_union t s ≡ false)
    → slots_of (after_leaf live) slots ≡ slots_notes (after_leaf live) (Made leaf s) (slots_of (place_here live) live.slots)
    → asked (past_of (notes (asked past live) (Made leaf s))) (with_made live slots) ≡ notes (asked past live) (Made leaf s)
unfolding asked notes hand_of own_of
made_noted past live slots leaf s vc report union made =
    λ i. record {
      here = after_leaf live;
      slots = made i;
      making =
          record {
            vc = λ t. (none_made (open_vc (after_leaf live) t) (at_vc t s) (record { leaf = leaf; statement = s }) (vc t)) i;
            report = λ t. (none_made (open_term (after_leaf live) t) (at_report t s) (record { leaf = leaf; statement = s }) (report t)) i;
            union = λ t. (none_made (open_term (after_leaf live) t) (at_union t s) (record { leaf = leaf; statement = s }) (union t)) i;
            reply = (notes (asked past live) (Made leaf s)).making.reply;
          };
      log = (asked past live).log;
      pending = (asked past live).pending;
      votes = no_votes;
      unions = λ t k. (sym (open_none (open_term (after_leaf live) t))) i;
      reports = λ t k. None;
      hand = hand_of (after_leaf live) live.hand;
      words = (asked past live).words;
      own = own_of (after_leaf live) live.own;
    }

-- the answers after a change that drops nothing
noted_after : (past : Past) (live new : Live) (x : Change) → after (asked past live) x ≡ notes (asked past live) x
    → asked (past_of (notes (asked past live) x)) new ≡ notes (asked past live) x
    → asked (past_of (after (asked past live) x)) new ≡ after (asked past live) x
noted_after past live new x drops noted = subst (λ (q : Answers). asked (past_of q) new ≡ q) (sym drops) noted

-- a statement is made that asks for no view, and is no report and no union
pub live_made : (past : Past) (live : Live) (slots : Slots) (leaf : ℕ) (s : Statement)
    → ((t : Term) → at_vc t s ≡ false) → ((t : Term) → at_report t s ≡ false) → ((t : Term) → at_union t s ≡ false)
    → slots_of (after_leaf live) slots ≡ slots_notes (after_leaf live) (Made leaf s) (slots_of (place_here live) live.slots)
    → asked (past_of (after (asked past live) (Made leaf s))) (with_made live slots) ≡ after (asked past live) (Made leaf s)
live_made past live slots leaf s vc report union made =
    noted_after past live (with_made live slots) (Made leaf s) (made_drops_nothing (asked past live) leaf s (asked_cut past live))
    (made_noted past live slots leaf s vc report union made)

-- the short state once an item is noted
abbrev pub with_slots : Live → Slots → Live
with_slots live slots = record live { slots = slots }

prepared_noted : (past : Past) (live : Live) (slots : Slots) (s : Statement) (q : Quorum)
    → slots_of (place_here live) slots ≡ slots_notes (place_here live) (Prepared s q) (slots_of (place_here live) live.slots)
    → asked (past_of (notes (asked past live) (Prepared s q))) (with_slots live slots) ≡ notes (asked past live) (Prepared s q)
unfolding asked notes
prepared_noted past live slots s q noted =
    λ i. record {
      here = place_here live;
      slots = noted i;
      making =
          record {
            vc = λ t. (sym (open_none (open_vc (place_here live) t))) i;
            report = λ t. (sym (open_none (open_term (place_here live) t))) i;
            union = λ t. (sym (open_none (open_term (place_here live) t))) i;
            reply = (notes (asked past live) (Prepared s q)).making.reply;
          };
      log = (asked past live).log;
      pending = (asked past live).pending;
      votes = no_votes;
      unions = λ t k. (sym (open_none (open_term (place_here live) t))) i;
      reports = λ t k. None;
      hand = (asked past live).hand;
      words = (asked past live).words;
      own = (asked past live).own;
    }

-- a Prepare was prepared
pub live_prepared : (past : Past) (live : Live) (slots : Slots) (s : Statement) (q : Quorum)
    → slots_of (place_here live) slots ≡ slots_notes (place_here live) (Prepared s q) (slots_of (place_here live) live.slots)
    → asked (past_of (after (asked past live) (Prepared s q))) (with_slots live slots) ≡ after (asked past live) (Prepared s q)
live_prepared past live slots s q noted =
    noted_after past live (with_slots live slots) (Prepared s q) (prepared_drops_nothing (asked past live) s q (asked_cut past live))
    (prepared_noted past live slots s q noted)

accepted_noted : (past : Past) (live : Live) (slots : Slots) (s : Statement) (q : Quorum)
    → slots_of (place_here live) slots ≡ slots_notes (place_here live) (Accepted s q) (slots_of (place_here live) live.slots)
    → asked (past_of (notes (asked past live) (Accepted s q))) (with_slots live slots) ≡ notes (asked past live) (Accepted s q)
unfolding asked notes
accepted_noted past live slots s q noted =
    λ i. record {
      here = place_here live;
      slots = noted i;
      making =
          record {
            vc = λ t. (sym (open_none (open_vc (place_here live) t))) i;
            report = λ t. (sym (open_none (open_term (place_here live) t))) i;
            union = λ t. (sym (open_none (open_term (place_here live) t))) i;
            reply = (notes (asked past live) (Accepted s q)).making.reply;
          };
      log = (asked past live).log;
      pending = (asked past live).pending;
      votes = no_votes;
      unions = λ t k. (sym (open_none (open_term (place_here live) t))) i;
      reports = λ t k. None;
      hand = (asked past live).hand;
      words = (asked past live).words;
      own = (asked past live).own;
    }

-- a Proposal was accepted
pub live_accepted : (past : Past) (live : Live) (slots : Slots) (s : Statement) (q : Quorum)
    → slots_of (place_here live) slots ≡ slots_notes (place_here live) (Accepted s q) (slots_of (place_here live) live.slots)
    → asked (past_of (after (asked past live) (Accepted s q))) (with_slots live slots) ≡ after (asked past live) (Accepted s q)
live_accepted past live slots s q noted =
    noted_after past live (with_slots live slots) (Accepted s q) (accepted_drops_nothing (asked past live) s q (asked_cut past live))
    (accepted_noted past live slots s q noted)

-- ---- a number is executed

abbrev after_number : Live → Here
after_number live = record (place_here live) { executed = live.here.executed + 1 }

-- the live state once a number is executed
abbrev pub with_executed : Live → ℕ → Clients → Slots → Hand → Own → Live
with_executed live ran clients slots hand own =
    record live { here = record live.here { executed = live.here.executed + 1 }; ran = ran; clients = clients; slots = slots; hand = hand; own = own }

-- a client's last time never falls
last_rises : (last : ℕ → ℕ) (v : Value) (c : ℕ) → last c ≤ last_after last v c
last_rises last values.Noop c = omega arith
last_rises last (values.Update u) c = by_test (nat_lt (last c) u.time) refl (nat_eq u.client.0 c)
  where
    by_test : (b : Bool) → nat_lt (last c) u.time ≡ b → (d : Bool) → last c ≤ cond (d && b) u.time (last c)
    by_test true eb true = let below : last c < u.time = ltb-true (last c) u.time eb in omega (arith, below)
    by_test true eb false = omega arith
    by_test false eb true = omega arith
    by_test false eb false = omega arith

pub live_executed : (past : Past) (live : Live) (ran : ℕ) (clients : Clients) (slots : Slots) (hand : Hand) (own : Own) (n : Number) (p : Proof)
    → ((c : ℕ) → last_of clients c ≡ last_after (last_of live.clients) p.value c)
    → ((c : ℕ) → place_of clients c ≡ cond (runs_for (last_of live.clients) p.value c) (length past.entries + 1) (place_of live.clients c))
    → slots_of (after_number live) slots ≡ slots_cuts (after_number live) (slots_notes (after_number live) (Executed n p) (slots_of (place_here live) live.slots))
    → hand_of (after_number live) hand ≡ hand_cuts (after_number live) (hand_of (place_here live) live.hand)
    → own_of (after_number live) own ≡ own_cuts (after_number live) (own_of (place_here live) live.own)
    → asked (past_of (after (asked past live) (Executed n p))) (with_executed live ran clients slots hand own) ≡ after (asked past live) (Executed n p)
unfolding asked after notes cuts runs
live_executed past live ran clients slots hand own n p last place slots_up hand_up own_up =
    λ i. record {
      here = after_number live;
      slots = slots_up i;
      making =
          record {
            vc = λ t. (sym (open_none (open_vc (after_number live) t))) i;
            report = λ t. (sym (open_none (open_term (after_number live) t))) i;
            union = λ t. (sym (open_none (open_term (after_number live) t))) i;
            reply = (after (asked past live) (Executed n p)).making.reply;
          };
      log =
          record {
            run =
                record {
                  last = λ c. (last c) i;
                  place = λ c. (place c) i;
                  entries = (after (asked past live) (Executed n p)).log.run.entries;
                  ran = (after (asked past live) (Executed n p)).log.run.ran;
                };
            proof = (after (asked past live) (Executed n p)).log.proof;
          };
      pending = pending_by i;
      votes = record { local = λ k. None; global = λ k. None; unions = λ t k. (sym (open_none (open_term (after_number live) t))) i; asked = λ k. None };
      unions = λ t k. (sym (open_none (open_term (after_number live) t))) i;
      reports = λ t k. (sym (open_none (open_term (after_number live) t))) i;
      hand = hand_up i;
      words = (asked past live).words;
      own = own_up i;
    }
  where
    pending_by : pending_of (last_of clients) live.pending ≡ pending_cuts (last_after (last_of live.clients) p.value) (pending_of (last_of live.clients) live.pending)
    pending_by =
        ap (λ (f : ℕ → ℕ). pending_of f live.pending) (λ i c. (last c) i)
        ∙ sym (pending_risen (last_of live.clients) (last_after (last_of live.clients) p.value) live.pending (last_rises (last_of live.clients) p.value))
