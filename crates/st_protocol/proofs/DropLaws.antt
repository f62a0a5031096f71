-- What is dropped once is dropped; and which changes drop nothing.
use Rattle.std.proofs.Common.{◌≡◌, ℕ, ◌+◌, Bool, true, false, cond, List, refl, sym, ◌∙◌, ap, arith}
use Rattle.std.specs.Prelude.{Option, Some, None}
use Rattle.std.proofs.lemmas.Bool.Decides.{nat_tests}
use Rattle.st_words.specs.declared.statement.Statement.{Statement}
use Rattle.st_message.specs.declared.change.Change.{Change}
use Rattle.st_message.specs.declared.change.Change.TheVariants.{Made, Prepared, Accepted, Union}
use Rattle.st_message.specs.declared.change.Heard.{Heard}
use Rattle.st_protocol.specs.Words.{Quorum}
use Rattle.st_protocol.specs.Keeping.{open_if, from, joined}
use Rattle.st_protocol.specs.State.{Place, AtPrepare, AtProposal, AtAccept, Term, OfLocal, OfGlobal, Seat, Here, Answers, pended_time, vote_view, asked_view, word_height, completed_view, open_place, open_term, open_number, open_at}
use Rattle.st_protocol.specs.Questions.{questions}
use Rattle.st_protocol.specs.Growth.{here_after, notes, cuts, nothing, notes_all, takes_all, grown, after}
use Rattle.st_protocol.proofs.QuestionLaws.{questions_grow}

-- what is dropped by a test is dropped
again : {A : Type 0} (b : Bool) (x : Option A) → open_if b (open_if b x) ≡ open_if b x
again true x = refl
again false x = refl

-- what is below a key is dropped
from-again : {A : Type 0} (key : A → ℕ) (n : ℕ) (x : Option A) → from key n (from key n x) ≡ from key n x
from-again key n None = refl
from-again key n (Some x) = grind (arith, nat_tests)

-- words below the highest view are dropped
words-again : {A : Type 0} (b : Bool) (key : A → ℕ) (top : ℕ) (x : Option A) → open_if b (from key (cond b top 0) (open_if b (from key top x))) ≡ open_if b (from key top x)
words-again false key top x = refl
words-again true key top x = from-again key top x

-- so is the highest view
top-again : (b : Bool) (top : ℕ) → cond b (cond b top 0) 0 ≡ cond b top 0
top-again true top = refl
top-again false top = refl

-- What was dropped once is dropped.
pub cut_twice : (q : Answers) → cuts (cuts q) ≡ cuts q
unfolding cuts
cut_twice q = λ i.
    record {
      here = q.here;
      slots = record q.slots { shares = λ p j. again (open_place q.here p) (q.slots.shares p j) i };
      making = q.making;
      log = q.log;
      pending = λ c. from-again pended_time (q.log.run.last c + 1) (q.pending c) i;
      votes =
          record {
            local = λ j. from-again vote_view (q.here.local + 1) (q.votes.local j) i;
            global = λ j. from-again vote_view (q.here.view + 1) (q.votes.global j) i;
            unions = λ t j. again (open_term q.here t) (q.votes.unions t j) i;
            asked = λ s. from-again asked_view (q.here.view + 1) (q.votes.asked s) i;
          };
      unions = q.unions;
      reports = λ t j. again (open_term q.here t) (q.reports t j) i;
      hand =
          record {
            highest = λ n. top-again (open_number q.here n) (q.hand.highest n) i;
            word = λ n s. words-again (open_number q.here n) word_height (q.hand.highest n) (q.hand.word n s) i;
            proof = λ n. again (open_number q.here n) (q.hand.proof n) i;
          };
      words = q.words;
      own =
          record {
            report = λ t. again (open_term q.here t) (q.own.report t) i;
            vc = from-again completed_view (q.here.view + 1) q.own.vc i;
            union = λ t. again (open_term q.here t) (q.own.union t) i;
            proposal = λ g n. again (open_at q.here g n) (q.own.proposal g n) i;
            accept = λ g n. again (open_at q.here g n) (q.own.accept g n) i;
          };
    }

-- Of the answers nothing is left to drop.
pub questions_cut : (seat : Seat) (records : List (List Change)) (heard : List Heard) → cuts (questions seat records heard) ≡ questions seat records heard
unfolding grown
questions_cut seat records heard =
    ap cuts (questions_grow seat records heard)
    ∙ cut_twice (takes_all (notes_all (nothing seat) (joined records)) heard)
    ∙ sym (questions_grow seat records heard)

-- the next leaf opens and drops no slot
place-leaf : (k : ℕ) (s : Statement) (h : Here) (p : Place) → open_place (here_after (Made k s) h) p ≡ open_place h p
place-leaf k s h (AtPrepare g l n) = refl
place-leaf k s h (AtProposal g l n) = refl
place-leaf k s h (AtAccept g n) = refl

-- nor a term
term-leaf : (k : ℕ) (s : Statement) (h : Here) (t : Term) → open_term (here_after (Made k s) h) t ≡ open_term h t
term-leaf k s h (OfLocal x) = refl
term-leaf k s h (OfGlobal y) = refl

-- What is noted of a statement that is made, and what is dropped, don't touch.
made_apart : (q : Answers) (k : ℕ) (s : Statement) → after q (Made k s) ≡ notes (cuts q) (Made k s)
unfolding after notes cuts
made_apart q k s = λ i.
    record {
      here = here_after (Made k s) q.here;
      slots = record (notes q (Made k s)).slots { shares = λ p j. open_if (place-leaf k s q.here p i) (q.slots.shares p j) };
      making = (notes q (Made k s)).making;
      log = q.log;
      pending = (cuts q).pending;
      votes = record (cuts q).votes { unions = λ t j. open_if (term-leaf k s q.here t i) (q.votes.unions t j) };
      unions = (notes q (Made k s)).unions;
      reports = λ t j. open_if (term-leaf k s q.here t i) (q.reports t j);
      hand = (cuts q).hand;
      words = q.words;
      own =
          record (cuts q).own {
            report = λ t. open_if (term-leaf k s q.here t i) (q.own.report t);
            union = λ t. open_if (term-leaf k s q.here t i) (q.own.union t);
          };
    }

-- A statement that is made drops nothing: what it notes is all.
pub made_drops_nothing : (q : Answers) (k : ℕ) (s : Statement) → cuts q ≡ q → after q (Made k s) ≡ notes q (Made k s)
made_drops_nothing q k s h = made_apart q k s ∙ ap (λ z. notes z (Made k s)) h

-- Nor does a Prepared.
pub prepared_drops_nothing : (q : Answers) (s : Statement) (w : Quorum) → cuts q ≡ q → after q (Prepared s w) ≡ notes q (Prepared s w)
unfolding after notes cuts
prepared_drops_nothing q s w h = ap (λ z. notes z (Prepared s w)) h

-- Nor does an Accepted.
pub accepted_drops_nothing : (q : Answers) (s : Statement) (w : Quorum) → cuts q ≡ q → after q (Accepted s w) ≡ notes q (Accepted s w)
unfolding after notes cuts
accepted_drops_nothing q s w h = ap (λ z. notes z (Accepted s w)) h

-- Nor does a Union.
pub union_drops_nothing : (q : Answers) (s : Statement) (w : Quorum) → cuts q ≡ q → after q (Union s w) ≡ notes q (Union s w)
unfolding after notes cuts
union_drops_nothing q s w h = ap (λ z. notes z (Union s w)) h
