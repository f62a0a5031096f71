-- What holds of the reports and certificates that a server itself sent holds of what its state answers of them.
use Rattle.std.proofs.Common.{◌≡◌, ℕ, ◌+◌, Bool, true, false, cond, List, [], refl}
use Rattle.std.specs.Prelude.{Option, None}
use Rattle.std.specs.Option.{IfSome}
use Rattle.st_words.specs.declared.statement.Statement.{Statement}
use Rattle.st_message.specs.declared.message.ReportBody.{ReportBody}
use Rattle.st_message.specs.declared.message.Message.{Message}
use Rattle.st_message.specs.declared.message.Message.TheVariants as messages
use Rattle.st_message.specs.declared.change.Change.{Change}
use Rattle.st_message.specs.declared.change.Heard.{Heard}
use Rattle.st_protocol.specs.Words.{Quorum}
use Rattle.st_protocol.specs.State.{Term, Seat, Here, Completed, Own, Answers, at_report, at_union, completed_view, completed_local, open_term, open_at}
use Rattle.st_protocol.specs.Keeping.{gathered}
use Rattle.st_protocol.specs.Questions.{if_own, own_report_in, completed_in, is_global_vc, is_proposal_at, is_accept_at, questions}
use Rattle.st_protocol.specs.Growth.{here_after, own_takes, own_cuts, notes, takes, cuts, after, hears}
use Rattle.st_frame_laws.proofs.ChoiceLaws.{when_has, open_has, from_has, first_has, last_has, greatest_last_has}

-- R of the reports, K of the certificates.
pub record OwnHas (R : ReportBody → Type 0) (K : Completed → Type 0) (own : Own) : Type 0 where
  pub report : (t : Term) → IfSome (own.report t) R
  pub vc : IfSome own.vc K
  pub union : (t : Term) → IfSome (own.union t) K
  pub proposal : (g n : ℕ) → IfSome (own.proposal g n) K
  pub accept : (g n : ℕ) → IfSome (own.accept g n) K

module _ (R : ReportBody → Type 0) (K : Completed → Type 0) (M : Message → Type 0) (give : (r : ReportBody) → M (messages.Report r) → R r)
    (certify : (s : Statement) (q : Quorum) → M (messages.Certificate s q) → K (record { statement = s; quorum = q })) where
  own_has : {A : Type 0} (G : A → Type 0) (m : Heard) (pick : Message → Option A) → (m.own ≡ true → M m.message) → (M m.message → IfSome (pick m.message) G) → IfSome (if_own m pick) G
  own_has G m pick h lift = by m.own refl
    where
      by : (b : Bool) → m.own ≡ b → IfSome (cond b (pick m.message) None) G
      by true e = lift (h e)
      by false e = tt

  report_has : (t : Term) (m : Message) → M m → IfSome (own_report_in t m) R
  report_has t (messages.Report r) h = when_has R (at_report t r.statement) r (λ yes. give r h)
  report_has t _ h = tt

  certificate_has : (is : Statement → Bool) (m : Message) → M m → IfSome (completed_in is m) K
  certificate_has is (messages.Certificate s q) h = when_has K (is s) (record { statement = s; quorum = q }) (λ yes. certify s q h)
  certificate_has is _ h = tt

  takes_has : (m : Heard) (own : Own) → OwnHas R K own → (m.own ≡ true → M m.message) → OwnHas R K (own_takes m own)
  takes_has m own s h =
      record {
        report = λ t. first_has R (own.report t) _ (s.report t) (own_has R m (own_report_in t) h (report_has t m.message));
        vc = greatest_last_has K completed_view own.vc _ s.vc (own_has K m (completed_in is_global_vc) h (certificate_has is_global_vc m.message));
        union = λ t. last_has K (own.union t) _ (s.union t) (own_has K m (completed_in (at_union t)) h (certificate_has (at_union t) m.message));
        proposal = λ g n. greatest_last_has K completed_local (own.proposal g n) _ (s.proposal g n) (own_has K m (completed_in (is_proposal_at g n)) h (certificate_has (is_proposal_at g n) m.message));
        accept = λ g n. last_has K (own.accept g n) _ (s.accept g n) (own_has K m (completed_in (is_accept_at g n)) h (certificate_has (is_accept_at g n) m.message));
      }

  cuts_has : (here : Here) (own : Own) → OwnHas R K own → OwnHas R K (own_cuts here own)
  cuts_has here own s =
      record {
        report = λ t. open_has R (open_term here t) (own.report t) (s.report t);
        vc = from_has K completed_view (here.view + 1) own.vc s.vc;
        union = λ t. open_has K (open_term here t) (own.union t) (s.union t);
        proposal = λ g n. open_has K (open_at here g n) (own.proposal g n) (s.proposal g n);
        accept = λ g n. open_has K (open_at here g n) (own.accept g n) (s.accept g n);
      }

  -- After one change more, and after one thing heard more.
  pub own_after : (state : Answers) (x : Change) → OwnHas R K state.own → OwnHas R K (after state x).own
  unfolding after notes cuts
  own_after state x s = cuts_has (here_after x state.here) state.own s

  pub own_hears : (state : Answers) (m : Heard) → OwnHas R K state.own → (m.own ≡ true → M m.message) → OwnHas R K (hears state m).own
  unfolding hears takes cuts
  own_hears state m s h = cuts_has state.here (own_takes m state.own) (takes_has m state.own s h)

  -- Of a server that heard nothing.
  pub own_nothing : (seat : Seat) (records : List (List Change)) → OwnHas R K (questions seat records []).own
  unfolding questions gathered
  own_nothing seat records =
      record {
        report = λ t. open_has R _ None tt;
        vc = tt;
        union = λ t. open_has K _ None tt;
        proposal = λ g n. open_has K _ None tt;
        accept = λ g n. open_has K _ None tt;
      }
