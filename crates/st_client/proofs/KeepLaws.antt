-- What a client is once it keeps a server's answer.
use Rattle.std.proofs.Common.{◌≡◌, ◌∙◌, ap, ℕ, ◌+◌, ◌*◌, ◌<◌, ◌≤◌, Bool, true, false, cond, nat_eq, nat_lt, Option, Some, None, List, refl, arith}
use Rattle.std.specs.Prelude.{◌&&◌}
use Rattle.std.proofs.lemmas.Bool.{eqb-true, eq-eqb}
use Rattle.st_words.specs.declared.ids.Number.{Number}
use Rattle.st_tables.specs.Entries.{entry}
use Rattle.st_protocol.specs.Words.{Bytes}
use Rattle.st_protocol.specs.Keeping.{given}
use Rattle.st_protocol.specs.Step.{count_below}
use Rattle.st_protocol.specs.World.{Answered, agree_on, with_reply, same_answered}
use Rattle.st_client.specs.declared.replies.Answer.{Answer}
use Rattle.st_client.specs.declared.client.Client.{Client}
use Rattle.st_client.specs.Rows.{entry_in, answer_by, same_answer, says}
use Rattle.st_client.specs.Customers.{answered_of, customer_of}
use Rattle.st_client.specs.Replying.{with_f, kept_or_answered}

-- what an answer says
abbrev said : Number → Bytes → Answered
said number replied = record { number = number.0; result = replied }

-- the row has this answer of a server's, and its others as before
abbrev Keeps : Client → ℕ → ℕ → Number → Bytes → List (Option Answer) → Type 0
Keeps client site index number replied row =
    (i : ℕ) → entry row i ≡ cond (nat_eq index i) (Some (answer_by number replied)) (entry_in (entry_in client.replies site) i)

-- an answer agrees as a row's entry exactly where it does as a reply
agrees : (f : ℕ) (number : Number) (replied : Bytes) (old : Option Answer)
    → given (answered_of old) false (same_answered (with_f f) (said number replied)) ≡ given old false (same_answer (answer_by number replied))
agrees f number replied None = refl
agrees f number replied (Some x) = refl

-- so many servers of the site answered so
agreeing_by_row : (f : ℕ) (client : Client) (site index : ℕ) (number : Number) (replied : Bytes) (row : List (Option Answer))
    → Keeps client site index number replied row
    → agree_on (with_f f) (with_reply (with_f f) (customer_of client) site index (said number replied)) site (said number replied)
    ≡ count_below (says (answer_by number replied) row) (3 * f + 1)
unfolding customer_of says
agreeing_by_row f client site index number replied row keeps =
    ap (λ (test : ℕ → Bool). count_below test (3 * f + 1)) (λ j i. point i j)
  where
    by_test : (b : Bool) (old : Option Answer) (now : Option Answer) → now ≡ cond b (Some (answer_by number replied)) old
        → given (cond b (Some (said number replied)) (answered_of old)) false (same_answered (with_f f) (said number replied))
        ≡ given now false (same_answer (answer_by number replied))
    by_test true old now is = rw is refl
    by_test false old now is = rw is (agrees f number replied old)

    point : (i : ℕ) → given (cond (nat_eq site site && nat_eq index i) (Some (said number replied)) (answered_of (entry_in (entry_in client.replies site) i))) false (same_answered (with_f f) (said number replied))
        ≡ given (entry row i) false (same_answer (answer_by number replied))
    point i = rw (eq-eqb site site refl) (by_test (nat_eq index i) (entry_in (entry_in client.replies site) i) (entry row i) (keeps i))

-- with f+1 equal answers the client has its result
pub has_result : (f : ℕ) (client : Client) (site index : ℕ) (number : Number) (replied : Bytes) (result : Answer) (row : List (Option Answer))
    → Keeps client site index number replied row
    → f < count_below (says (answer_by number replied) row) (3 * f + 1)
    → result ≡ answer_by number replied
    → customer_of (record { time = client.time; waits = false; replies = None; result = Some result })
    ≡ kept_or_answered f (customer_of client) site index (said number replied)
unfolding customer_of kept_or_answered
has_result f client site index number replied result row keeps enough same =
    let count = agreeing_by_row f client site index number replied row keeps in
    let test : nat_lt f (agree_on (with_f f) (with_reply (with_f f) (customer_of client) site index (said number replied)) site (said number replied)) ≡ true =
    rw count (grind (arith, enough)) in
    rw test (rw same refl)

-- with fewer it keeps this one too
pub keeps_on : (f : ℕ) (client : Client) (site index : ℕ) (number : Number) (replied : Bytes) (row : List (Option Answer)) (rows : List (Option (List (Option Answer))))
    → Keeps client site index number replied row
    → count_below (says (answer_by number replied) row) (3 * f + 1) ≤ f
    → ((s : ℕ) → entry rows s ≡ cond (nat_eq site s) (Some row) (entry_in client.replies s))
    → customer_of (record { time = client.time; waits = client.waits; replies = Some rows; result = client.result })
    ≡ kept_or_answered f (customer_of client) site index (said number replied)
unfolding customer_of kept_or_answered
keeps_on f client site index number replied row rows keeps few put =
    let count = agreeing_by_row f client site index number replied row keeps in
    let test : nat_lt f (agree_on (with_f f) (with_reply (with_f f) (customer_of client) site index (said number replied)) site (said number replied)) ≡ false =
    rw count (grind (arith, few)) in
    rw test (λ j. record { time = client.time; waits = client.waits; replies = λ s i. (point s i) j; result = answered_of client.result })
  where
    kept_entry : (b : Bool) (old now : Option Answer) → now ≡ cond b (Some (answer_by number replied)) old
        → answered_of now ≡ cond b (Some (said number replied)) (answered_of old)
    kept_entry true old now is = ap answered_of is
    kept_entry false old now is = ap answered_of is

    by_site : (s i : ℕ) (b : Bool) → nat_eq site s ≡ b → entry rows s ≡ cond b (Some row) (entry_in client.replies s)
        → answered_of (entry_in (entry rows s) i) ≡ cond (b && nat_eq index i) (Some (said number replied)) (answered_of (entry_in (entry_in client.replies s) i))
    by_site s i true e is =
        let same : site ≡ s = eqb-true site s e in
        let row_is : entry_in (entry rows s) i ≡ entry row i = ap (λ (o : Option (List (Option Answer))). entry_in o i) is in
        let old : entry_in (entry_in client.replies site) i ≡ entry_in (entry_in client.replies s) i = ap (λ t. entry_in (entry_in client.replies t) i) same in
        let at : Option Answer → Option Answer = λ o. cond (nat_eq index i) (Some (answer_by number replied)) o in
        kept_entry (nat_eq index i) (entry_in (entry_in client.replies s) i) (entry_in (entry rows s) i) (row_is ∙ (keeps i ∙ ap at old))
    by_site s i false e is = ap (λ (o : Option (List (Option Answer))). answered_of (entry_in o i)) is

    point : (s i : ℕ) → answered_of (entry_in (entry rows s) i) ≡ cond (nat_eq site s && nat_eq index i) (Some (said number replied)) (answered_of (entry_in (entry_in client.replies s) i))
    point s i = by_site s i (nat_eq site s) refl (put s)
