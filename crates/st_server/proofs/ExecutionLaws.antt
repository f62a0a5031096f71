-- The log is run on, change by change.
use Rattle.std.proofs.Common.{◌≡◌, ◌∙◌, ap, sym, subst, ℕ, ◌+◌, ◌-◌, ◌^◌, ◌<◌, min, cond, List, [], ◌∷◌, ◌++◌, length, take, get_or, refl, arith}
use Rattle.std.specs.Int.{to_be_bytes, w32}
use Rattle.std.proofs.lemmas.Bool.{lt-ltb}
use Rattle.std.proofs.lemmas.List.{append-nil, length-append}
use Rattle.std.proofs.lemmas.List.Sums.{fold-append}
use Rattle.std.proofs.lemmas.Grind.{flat_map-append}
use Rattle.st_words.specs.declared.value.Update.{Update}
use Rattle.st_words.specs.declared.value.Value.{Value}
use Rattle.st_words.specs.declared.value.Value.TheVariants as values
use Rattle.st_message.specs.declared.change.Change.{Change}
use Rattle.st_message.specs.declared.change.Heard.{Heard}
use Rattle.st_message.specs.declared.log.Entry.{Entry}
use Rattle.st_message.specs.declared.log.Ran.{Ran}
use Rattle.st_message.specs.declared.log.Ran.TheVariants as outcomes
use Rattle.st_protocol.specs.Words.{Bytes}
use Rattle.st_protocol.specs.Keeping.{joined}
use Rattle.st_protocol.specs.State.{Seat, Run, Answers}
use Rattle.st_protocol.specs.Questions.{questions, values_by, executed_in, last_after, ops_of, ran_by, runs, run_on, no_run}
use Rattle.st_protocol.proofs.GatherLaws.{joined-push}
use Rattle.st_state.specs.ClientsView.{last_of}
use Rattle.st_live.specs.declared.live.Live.{Live}
use Rattle.st_live.specs.LiveView.{IsLive, asked}
use Rattle.st_live.specs.Service.{kept_count, list_serve}
use Rattle.st_server.specs.Execution.{Executes}
use Rattle.st_server.proofs.LoopLaws.{taken_next}

-- ---- one value

-- a value is run, and its entry is put last
pub executes_more : (live new : Live) (entries more : List Entry) (run : Run) (value : Value) (ran : Ran) → ((c : ℕ) → last_of new.clients c ≡ last_after (last_of live.clients) value c)
    → ((ops : List (List ℕ)) → live.ran ≡ kept_count (length ops) → new.ran ≡ kept_count (length (ops ++ ops_of (last_of live.clients) value)))
    → (last_of live.clients ≡ run.last → live.ran ≡ kept_count (length run.ran) → ran ≡ ran_by list_serve run value)
    → more ≡ entries ++ record { value = value; ran = ran } ∷ [] → Executes live entries run → Executes new more (runs list_serve run value)
unfolding runs
executes_more live new entries more run value ran last kept gives put so =
    record {
      last = λ i c. (last c ∙ ap (λ (f : ℕ → ℕ). last_after f value c) so.last) i;
      kept = kept run.ran so.kept ∙ ap (λ (f : ℕ → ℕ). kept_count (length (run.ran ++ ops_of f value))) so.last;
      log = put ∙ (λ i. so.log i ++ record { value = value; ran = gives so.last so.kept i } ∷ []);
    }

-- one operation more is kept
kept_more : (n : ℕ) → min (kept_count n + 1) (2 ^ 32 - 1) ≡ kept_count (n + 1)
kept_more n = omega arith

-- an update whose time is above its client's last gives what the service answers
pub update_ran : (run : Run) (value : Value) (update : Update) (result : Bytes) (next kept : ℕ) → value ≡ values.Update update → kept ≡ kept_count (length run.ran)
    → next ≡ min (kept + 1) (2 ^ 32 - 1) → result ≡ to_be_bytes w32 next → run.last update.client.0 < update.time → outcomes.Ran result ≡ ran_by list_serve run value
unfolding list_serve
update_ran run value update result next kept is same next_is bytes above =
    ap outcomes.Ran (bytes ∙ ap (to_be_bytes w32) (next_is ∙ (ap (λ k. min (k + 1) (2 ^ 32 - 1)) same ∙ kept_more (length run.ran))))
    ∙ (ap (λ b. cond b (outcomes.Ran (list_serve run.ran update.op)) (outcomes.Skipped (run.last update.client.0))) (sym (lt-ltb (run.last update.client.0) update.time above))
    ∙ ap (ran_by list_serve run) (sym is))

-- ---- change by change

pub executes_none : (live : Live) (entries : List Entry) (run : Run) → Executes live entries run → Executes live entries (run_on list_serve run (executed_in []))
unfolding executed_in
executes_none live entries run so = so

-- the run of one change more
run_next : (run : Run) (xs : List Change) (x : Change) → run_on list_serve (run_on list_serve run (executed_in xs)) (values_by x) ≡ run_on list_serve run (executed_in (xs ++ x ∷ []))
unfolding executed_in
run_next run xs x =
    sym (fold-append (runs list_serve) run (executed_in xs) (values_by x))
    ∙ ap (run_on list_serve run) (ap (λ (vs : List Value). executed_in xs ++ vs) (sym (append-nil (values_by x))) ∙ sym (flat_map-append values_by xs (x ∷ [])))

pub executes_next : (live : Live) (entries : List Entry) (run : Run) (xs : List Change) (i : ℕ) (x : Change) → i < length xs → x ≡ get_or xs i x
    → Executes live entries (run_on list_serve (run_on list_serve run (executed_in (take i xs))) (values_by x)) → Executes live entries (run_on list_serve run (executed_in (take (i + 1) xs)))
executes_next live entries run xs i x below is so =
    subst (λ (ys : List Change). Executes live entries (run_on list_serve run (executed_in ys))) (sym (taken_next xs i x below is)) (subst (Executes live entries) (run_next run (take i xs) x) so)

-- ---- a body more

-- the log of longer records is run on
run_longer : (seat : Seat) (records : List (List Change)) (body : List Change) (heard others : List Heard)
    → (questions seat (records ++ body ∷ []) others).log.run ≡ run_on seat.serve (questions seat records heard).log.run (executed_in body)
unfolding questions executed_in
run_longer seat records body heard others =
    ap (λ (xs : List Change). run_on seat.serve no_run (executed_in xs)) (joined-push records body)
    ∙ (ap (run_on seat.serve no_run) (flat_map-append values_by (joined records) body) ∙ fold-append (runs seat.serve) no_run (executed_in (joined records)) (executed_in body))

-- the short state and the log of the answers
pub executes_now : (live : Live) (entries : List Entry) (q : Answers) → IsLive live q → entries ≡ q.log.run.entries → Executes live entries q.log.run
unfolding asked
executes_now live entries q stands same = record { last = ap (λ (a : Answers). a.log.run.last) stands.is; kept = stands.ran; log = same }

pub entries_longer : (live : Live) (entries : List Entry) (seat : Seat) (records : List (List Change)) (body : List Change) (heard others : List Heard) → seat.serve ≡ list_serve
    → Executes live entries (run_on list_serve (questions seat records heard).log.run (executed_in body)) → entries ≡ (questions seat (records ++ body ∷ []) others).log.run.entries
entries_longer live entries seat records body heard others service so =
    so.log
    ∙ ((λ i. (run_on (sym service i) (questions seat records heard).log.run (executed_in body)).entries) ∙ ap (λ (r : Run). r.entries) (sym (run_longer seat records body heard others)))

-- ---- nothing more

-- an entry for each value
run_length : (serve : List Bytes → Bytes → Bytes) (run : Run) (xs : List Value) → length (run_on serve run xs).entries ≡ length run.entries + length xs
unfolding runs
run_length serve run [] = omega arith
run_length serve run (x ∷ xs) =
    let one : length (runs serve run x).entries ≡ length run.entries + 1 = length-append run.entries (record { value = x; ran = ran_by serve run x } ∷ []) in
    run_length serve (runs serve run x) xs ∙ omega (arith, one)

-- as many entries as before are those of before
run_nothing : (serve : List Bytes → Bytes → Bytes) (run : Run) (xs : List Value) → length run.entries ≡ length (run_on serve run xs).entries → run.entries ≡ (run_on serve run xs).entries
run_nothing serve run [] same = refl
run_nothing serve run (x ∷ xs) same = let more = run_length serve run (x ∷ xs) in absurd (omega (arith, same, more))

-- a short state that stands for the longer lists too executed nothing
pub entries_still : (live : Live) (entries : List Entry) (seat : Seat) (records : List (List Change)) (body : List Change) (heard others : List Heard) → IsLive live (questions seat records heard)
    → IsLive live (questions seat (records ++ body ∷ []) others) → entries ≡ (questions seat records heard).log.run.entries → entries ≡ (questions seat (records ++ body ∷ []) others).log.run.entries
entries_still live entries seat records body heard others before after same =
    let run = (questions seat records heard).log.run in
    let longer = run_longer seat records body heard others in
    let length_same : length run.entries ≡ length (run_on seat.serve run (executed_in body)).entries =
    sym before.entries ∙ (after.entries ∙ ap (λ (r : Run). length r.entries) longer) in
    same ∙ (run_nothing seat.serve run (executed_in body) length_same ∙ ap (λ (r : Run). r.entries) (sym longer))
