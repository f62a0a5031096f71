-- A line that is printed is read back: its words are its words again, and each says what it was printed for.
use Rattle.std.proofs.Common.{◌≡◌, ◌∙◌, ℕ, ◌+◌, ◌-◌, ◌%◌, ◌*◌, ◌^◌, ◌≤◌, ◌<◌, ◌==◌, Bool, true, false, cond, not, suc, List, [], ◌∷◌, ◌++◌, length, drop, Some, None, refl, sym, ap, subst, arith, codes}
use Rattle.std.specs.Prelude.{nat_eq, nat_le, option_and_then}
use Rattle.std.specs.Fmt.{decimal}
use Rattle.std.specs.List.{All, list_any, join_with_byte, position_or_len, before_first, after_first}
use Rattle.std.specs.Option.{option_map}
use Rattle.std.specs.Result.{result_ok}
use Rattle.std.proofs.lemmas.Bool.{cond-true, false_from_ne_true, eqb-true, le-leb, or_parts}
use Rattle.std.proofs.lemmas.Fmt.{decimal_by_steps, decimal_nonempty}
use Rattle.std.proofs.lemmas.List.{take_at}
use Rattle.std.proofs.lemmas.List.Elements.{All-nil, All-cons, All-head, All-tail, All-append, All-weaker}
use Rattle.std.proofs.lemmas.List.Splits.{slice_split_none, slice_split_at}
use Rattle.hex.specs.Hex.{IsBytes, encode_lower, lower_digits, is_hex_digit}
use Rattle.hex.proofs.HexLemmas.{decode_of-encode_lower, decode_of-ok, length-encode_with}
use Rattle.st_fields.proofs.Wholes.{whole_again}
use Rattle.st_words.specs.declared.ids.ServerId.{ServerId}
use Rattle.st_words.specs.declared.statement.Statement.{Statement}
use Rattle.st_words.specs.Ranges.{FitsStatement}
use Rattle.st_words.specs.Spelling.{core_spelling}
use Rattle.st_words.proofs.Cores.{core_field}
use Rattle.st_texts.specs.Numbers.{number_in}
use Rattle.st_texts.specs.Hexadecimal.{hex_bytes, hex_text}
use Rattle.st_texts.specs.Parts.{after_front}
use Rattle.st_texts.proofs.NumberLaws.{number_in-some}
use Rattle.st_texts.proofs.HexadecimalLaws.{hex_bytes-hex_text}
use Rattle.st_schedule.specs.declared.line.Dest.{Dest}
use Rattle.st_schedule.specs.declared.line.Dest.TheVariants as dests
use Rattle.st_schedule.specs.declared.line.Line.{Line}
use Rattle.st_schedule.specs.declared.line.Line.TheVariants as lines
use Rattle.st_schedule.specs.declared.limits.TheConstants.{MOST_OPERATION, MOST_FLOW, MOST_CALL}
use Rattle.st_schedule.specs.Lines.{words, short_in, number_of, server_of, dest_by, dest_of, choice_of, pair_of, sealed_kinds, bare, statement_of, flow_event, client_event, timeout_event, stop_event, restart_event, seal_event, raw_event, event_of_two, event_of_three, event_of, Event, event_or_bad, line_of}
use Rattle.st_schedule.specs.Ranges.{KeepsSealed, KeepsLine, FitsServer, FitsDest, FitsLine}
use Rattle.st_schedule.proofs.KindLaws.{kind_of_servers}
use Rattle.st_schedule.specs.Spelling.{server_text, dest_text, view_word, crash_word, line_words, line_spelling}

-- ---- bytes that a word doesn't hold

-- not this byte
abbrev IsOther : ℕ → ℕ → Type 0
IsOther c b = (b == c) ≡ false

-- a digit of a number
abbrev IsDigit : ℕ → Type 0
IsDigit b = (48 ≤ b) × (b ≤ 57)

-- a word without this byte
abbrev Without : ℕ → List ℕ → Type 0
Without c word = All (IsOther c) word

-- a number is written in digits
digits : (n : ℕ) → n < 2 ^ 64 → All IsDigit (decimal n)
digits =
    decimal_by_steps (λ m ds. All IsDigit ds) (λ m less. All-cons IsDigit (48 + m) [] (omega arith, omega arith) (All-nil IsDigit))
    (λ m ds less h. All-append IsDigit ds ((48 + m % 10) ∷ []) h (All-cons IsDigit (48 + m % 10) [] (omega arith, omega arith) (All-nil IsDigit)))

-- a digit is no other byte
digit_other : (c : ℕ) → c < 48 → (b : ℕ) → IsDigit b → IsOther c b
digit_other c low b digit = false_from_ne_true (b == c) (λ e. let same = eqb-true b c e in let least = digit.0 in omega (arith, same, least))

-- a number holds no byte below its digits
decimal_without : (c n : ℕ) → c < 48 → n < 2 ^ 64 → Without c (decimal n)
decimal_without c n low fits = All-weaker IsDigit (IsOther c) (digit_other c low) (decimal n) (digits n fits)

-- a blank is no hexadecimal digit
blank : is_hex_digit 32 ≡ true → ⊥
blank e = absurd (let no : false ≡ true = e in cc)

-- a hexadecimal digit is no blank
hex_other : (b : ℕ) → is_hex_digit b ≡ true → IsOther 32 b
hex_other b digit = false_from_ne_true (b == 32) (λ e. let wrong : is_hex_digit 32 ≡ true = rw (eqb-true b 32 e) at digit in absurd (blank wrong))

-- bytes are written without a blank
hex_without : (bytes : List ℕ) → IsBytes bytes → Without 32 (hex_text bytes)
unfolding hex_text
hex_without [] each = All-cons (IsOther 32) 45 [] refl (All-nil (IsOther 32))
hex_without (b ∷ bs) each =
    All-weaker (λ x. is_hex_digit x ≡ true) (IsOther 32) hex_other (encode_lower (b ∷ bs)) (decode_of-ok (encode_lower (b ∷ bs)) (b ∷ bs) (decode_of-encode_lower (b ∷ bs) each)).1

-- ---- words

-- each word lacks the blank
abbrev AreWords : List (List ℕ) → Type 0
AreWords [] = Unit {0}
AreWords (w ∷ ws) = Without 32 w × AreWords ws

-- words with a blank between each two are these words
words_again : (w : List ℕ) (ws : List (List ℕ)) → AreWords (w ∷ ws) → words (join_with_byte 32 (w ∷ ws)) ≡ w ∷ ws
words_again w [] h = slice_split_none (λ b. b == 32) w h.0
words_again w (v ∷ ws) h =
    slice_split_at (λ b. b == 32) w 32 (join_with_byte 32 (v ∷ ws)) h.0 refl ∙ ap (λ (l : List (List ℕ)). w ∷ l) (words_again v ws h.1)

-- ---- what a word says

-- a site, an index or a client
short_again : (n : ℕ) → n < 2 ^ 8 → short_in (decimal n) ≡ Some n
short_again n fits = number_in-some 0 255 n (decimal n) (omega arith) refl (omega arith) (omega arith)

-- another number
number_again : (n : ℕ) → n < 2 ^ 32 → number_of (decimal n) ≡ Some n
number_again n fits = number_in-some 0 (2 ^ 32 - 1) n (decimal n) (omega arith) refl (omega arith) (omega arith)

-- the first dot stands behind a word without one
dot_behind : (xs ys : List ℕ) → Without 46 xs → position_or_len (λ b. b == 46) (xs ++ 46 ∷ ys) ≡ length xs
dot_behind [] ys h = refl
dot_behind (x ∷ xs) ys h =
    ap (λ b. cond (not b) (1 + position_or_len (λ b. b == 46) (xs ++ 46 ∷ ys)) 0) (All-head (IsOther 46) x xs h)
    ∙ (let more = dot_behind xs ys (All-tail (IsOther 46) x xs h) in omega (arith, more))

-- what stands behind it
behind : (xs ys : List ℕ) (k : ℕ) → k ≡ length xs → drop (k + 1) (xs ++ 46 ∷ ys) ≡ ys
behind xs ys k long = ap (λ n. drop (n + 1) (xs ++ 46 ∷ ys)) long ∙ by xs
  where
    by : (zs : List ℕ) → drop (length zs + 1) (zs ++ 46 ∷ ys) ≡ ys
    by [] = refl
    by (z ∷ zs) = let next : suc (length zs) + 1 ≡ suc (length zs + 1) = omega arith in ap (λ n. drop n (z ∷ (zs ++ 46 ∷ ys))) next ∙ by zs

-- a server
server_again : (s : ServerId) → FitsServer s → server_of (server_text s) ≡ Some s
unfolding server_of server_text
server_again s fits =
    let site : List ℕ = decimal s.site in
    let index : List ℕ = decimal s.index in
    let at = dot_behind site index (decimal_without 46 s.site (omega arith) (let f = fits.0 in omega arith)) in
    let front : before_first (λ b. b == 46) (site ++ 46 ∷ index) ≡ site = take_at site (46 ∷ index) _ (sym at) in
    let back : after_first (λ b. b == 46) (site ++ 46 ∷ index) ≡ index = behind site index _ at in
    let a = short_again s.site fits.0 in
    let b = short_again s.index fits.1 in
    rw (front, back, a, b) refl

-- a number begins with no `c`
no_client : (word rest : List ℕ) → 0 < length word → All IsDigit word → after_front (codes "c") (word ++ rest) ≡ None
unfolding after_front
no_client [] rest some h = absurd (omega arith)
no_client (x ∷ xs) rest some h =
    let digit = All-head IsDigit x xs h in
    let other : nat_eq 99 x ≡ false = false_from_ne_true (nat_eq 99 x) (λ e. let same = eqb-true 99 x e in let most = digit.1 in omega (arith, same, most)) in
    rw other refl

-- nor does a server's word
no_client_server : (s : ServerId) → FitsServer s → after_front (codes "c") (server_text s) ≡ None
unfolding server_text
no_client_server s fits = no_client (decimal s.site) (46 ∷ decimal s.index) (decimal_nonempty s.site (let f = fits.0 in omega arith)) (digits s.site (let f = fits.0 in omega arith))

-- a destination
dest_again : (to : Dest) → FitsDest to → dest_of (dest_text to) ≡ Some to
unfolding dest_of dest_text after_front
dest_again (dests.Client c) fits = ap (option_map (λ n. dests.Client (record { 0 = n }))) (short_again c.0 fits)
dest_again (dests.Server s) fits = ap (dest_by (server_text s)) (no_client_server s fits) ∙ ap (option_map dests.Server) (server_again s fits)

-- a message's number and a destination
pair_again : (m : ℕ) (to : Dest) → m < 2 ^ 32 → FitsDest to → pair_of (decimal m) (dest_text to) ≡ Some (m, to)
unfolding pair_of
pair_again m to small fits =
    ap (option_and_then (λ number. option_map (λ d. (number, d)) (dest_of (dest_text to)))) (number_again m small) ∙ ap (option_map (λ d. (m, d))) (dest_again to fits)

-- which timeout
view_again : (global : Bool) → choice_of (codes "global") (codes "local") (view_word global) ≡ Some global
unfolding choice_of
view_again true = refl
view_again false = refl

-- what a crash leaves
crash_again : (kept : Bool) → choice_of (codes "kept") (codes "lost") (crash_word kept) ≡ Some kept
unfolding choice_of
crash_again true = refl
crash_again false = refl

-- a faulty server's statement
statement_again : (s : Statement) → KeepsSealed s → FitsStatement s → statement_of (core_spelling s) ≡ Some s
unfolding statement_of
statement_again s keeps fits =
    ap (λ r. option_and_then bare (result_ok r)) (whole_again (core_field sealed_kinds) s (kind_of_servers s keeps.1, (keeps.0, fits)))
    ∙ ap (λ b. cond b (Some s) None) keeps.2

-- an operation's text is short enough
hex_short : (op : List ℕ) → length op ≤ MOST_OPERATION → length (hex_text op) ≤ 2 * MOST_OPERATION
unfolding hex_text
hex_short [] few = omega arith
hex_short (b ∷ bs) few = let long = length-encode_with lower_digits (b ∷ bs) in omega (arith, long, few)

-- ---- what the words of a line say

-- the words of each kind of line say the line
event_again : (line : Line) → KeepsLine line → FitsLine line → event_of (line_words line) ≡ Some line
unfolding event_of_two event_of_three flow_event client_event timeout_event stop_event restart_event seal_event raw_event
event_again (lines.Client client op) keeps fits =
    cond-true (nat_le (length (hex_text op)) (2 * MOST_OPERATION)) _ None (le-leb (length (hex_text op)) (2 * MOST_OPERATION) (hex_short op keeps))
    ∙ ap (option_and_then (λ c. option_map (lines.Client (record { 0 = c })) (hex_bytes (hex_text op)))) (short_again client.0 fits.0)
    ∙ ap (option_map (lines.Client client)) (hex_bytes-hex_text op fits.1)
event_again (lines.Deliver m to) keeps fits = ap (option_map (λ p. lines.Deliver p.0 p.1)) (pair_again m to fits.0 fits.1)
event_again (lines.Drop m to) keeps fits = ap (option_map (λ p. lines.Drop p.0 p.1)) (pair_again m to fits.0 fits.1)
event_again (lines.Lose to) keeps fits = ap (option_map lines.Lose) (dest_again to fits)
event_again (lines.Flow pairs) keeps fits =
    let least = keeps.0 in let most = keeps.1 in
    ap (option_map lines.Flow) (number_in-some 1 MOST_FLOW pairs (decimal pairs) (omega arith) refl keeps.0 keeps.1)
event_again (lines.Timeout server global) keeps fits =
    ap (option_and_then (λ s. option_map (lines.Timeout s) (choice_of (codes "global") (codes "local") (view_word global)))) (server_again server fits) ∙ ap (option_map (lines.Timeout server)) (view_again global)
event_again (lines.Tick server) keeps fits = ap (option_map lines.Tick) (server_again server fits)
event_again (lines.Stop server call) keeps fits =
    let least = keeps.0 in let most = keeps.1 in
    ap (option_and_then (λ s. option_map (lines.Stop s) (number_in 1 MOST_CALL (decimal call)))) (server_again server fits)
    ∙ ap (option_map (lines.Stop server)) (number_in-some 1 MOST_CALL call (decimal call) (omega arith) refl keeps.0 keeps.1)
event_again (lines.Restart server kept) keeps fits =
    ap (option_and_then (λ s. option_map (lines.Restart s) (choice_of (codes "kept") (codes "lost") (crash_word kept)))) (server_again server fits) ∙ ap (option_map (lines.Restart server)) (crash_again kept)
event_again (lines.Seal server s) keeps fits =
    ap (option_and_then (λ x. option_map (lines.Seal x) (option_and_then statement_of (hex_bytes (hex_text (core_spelling s)))))) (server_again server fits.0)
    ∙ ap (λ x. option_map (lines.Seal server) (option_and_then statement_of x)) (hex_bytes-hex_text (core_spelling s) fits.2)
    ∙ ap (option_map (lines.Seal server)) (statement_again s keeps fits.1)
event_again (lines.Raw to bytes) keeps fits =
    ap (option_and_then (λ d. option_map (lines.Raw d) (hex_bytes (hex_text bytes)))) (dest_again to fits.0) ∙ ap (option_map (lines.Raw to)) (hex_bytes-hex_text bytes fits.1)
event_again (lines.Show m) keeps fits = ap (option_map lines.Show) (number_again m fits)

-- ---- the words of a line are words

-- a server's
server_without : (s : ServerId) → FitsServer s → Without 32 (server_text s)
unfolding server_text
server_without s fits =
    let site = fits.0 in let index = fits.1 in
    All-append (IsOther 32) (decimal s.site) (46 ∷ decimal s.index) (decimal_without 32 s.site (omega arith) (omega arith))
    (All-cons (IsOther 32) 46 (decimal s.index) refl (decimal_without 32 s.index (omega arith) (omega arith)))

-- a destination's
dest_without : (to : Dest) → FitsDest to → Without 32 (dest_text to)
unfolding dest_text
dest_without (dests.Server s) fits = server_without s fits
dest_without (dests.Client c) fits = All-cons (IsOther 32) 99 (decimal c.0) refl (decimal_without 32 c.0 (omega arith) (omega (arith, fits)))

-- a word by the test that it lacks the blank
lacks : (word : List ℕ) → list_any (λ b. b == 32) word ≡ false → Without 32 word
lacks [] e = All-nil (IsOther 32)
lacks (x ∷ xs) e = All-cons (IsOther 32) x xs (or_parts (x == 32) (list_any (λ b. b == 32) xs) e).0 (lacks xs (or_parts (x == 32) (list_any (λ b. b == 32) xs) e).1)

-- a number's
number_without : (n : ℕ) → n < 2 ^ 64 → Without 32 (decimal n)
number_without n fits = decimal_without 32 n (omega arith) fits

view_without : (global : Bool) → Without 32 (view_word global)
view_without true = lacks (codes "global") refl
view_without false = lacks (codes "local") refl

crash_without : (kept : Bool) → Without 32 (crash_word kept)
crash_without true = lacks (codes "kept") refl
crash_without false = lacks (codes "lost") refl

-- all of them
are_words : (line : Line) → KeepsLine line → FitsLine line → AreWords (line_words line)
are_words (lines.Client client op) keeps fits = (lacks (codes "client") refl, (number_without client.0 (let f = fits.0 in omega arith), (hex_without op fits.1, tt)))
are_words (lines.Deliver m to) keeps fits = (lacks (codes "deliver") refl, (number_without m (let f = fits.0 in omega arith), (dest_without to fits.1, tt)))
are_words (lines.Drop m to) keeps fits = (lacks (codes "drop") refl, (number_without m (let f = fits.0 in omega arith), (dest_without to fits.1, tt)))
are_words (lines.Lose to) keeps fits = (lacks (codes "lose") refl, (dest_without to fits, tt))
are_words (lines.Flow pairs) keeps fits = (lacks (codes "flow") refl, (number_without pairs (let most = keeps.1 in omega arith), tt))
are_words (lines.Timeout server global) keeps fits = (lacks (codes "timeout") refl, (server_without server fits, (view_without global, tt)))
are_words (lines.Tick server) keeps fits = (lacks (codes "tick") refl, (server_without server fits, tt))
are_words (lines.Stop server call) keeps fits = (lacks (codes "stop") refl, (server_without server fits, (number_without call (let most = keeps.1 in omega arith), tt)))
are_words (lines.Restart server kept) keeps fits = (lacks (codes "restart") refl, (server_without server fits, (crash_without kept, tt)))
are_words (lines.Seal server s) keeps fits = (lacks (codes "seal") refl, (server_without server fits.0, (hex_without (core_spelling s) fits.2, tt)))
are_words (lines.Raw to bytes) keeps fits = (lacks (codes "raw") refl, (dest_without to fits.0, (hex_without bytes fits.1, tt)))
are_words (lines.Show m) keeps fits = (lacks (codes "show") refl, (number_without m (omega (arith, fits)), tt))

-- ---- lines

-- a text that begins with no `#` is an event line
not_skipped : (c : ℕ) (rest : List ℕ) → (c == 35) ≡ false → line_of (c ∷ rest) ≡ event_or_bad (event_of (words (c ∷ rest)))
unfolding line_of
not_skipped c rest e =
    let some : (length (c ∷ rest) == 0) ≡ false = false_from_ne_true (length (c ∷ rest) == 0) (λ no. let none = eqb-true (length (c ∷ rest)) 0 no in omega (arith, none)) in
    rw (some, e) refl

-- a text of these words that begins so is the line
line_by : (line : Line) (c : ℕ) (rest w : List ℕ) (ws : List (List ℕ)) → line_words line ≡ w ∷ ws → join_with_byte 32 (w ∷ ws) ≡ c ∷ rest → (c == 35) ≡ false
    → KeepsLine line → FitsLine line → line_of (line_spelling line) ≡ Event line
unfolding line_spelling
line_by line c rest w ws parts text begins keeps fits =
    let same : join_with_byte 32 (line_words line) ≡ c ∷ rest = ap (join_with_byte 32) parts ∙ text in
    let are : AreWords (w ∷ ws) = subst AreWords parts (are_words line keeps fits) in
    let again : words (c ∷ rest) ≡ line_words line = ap words (sym text) ∙ words_again w ws are ∙ sym parts in
    ap line_of same ∙ not_skipped c rest begins ∙ ap event_or_bad (ap event_of again ∙ event_again line keeps fits)

-- Its text is read as the line.
pub line_again : (line : Line) → KeepsLine line → FitsLine line → line_of (line_spelling line) ≡ Event line
line_again (lines.Client client op) = line_by (lines.Client client op) 99 _ _ _ refl refl refl
line_again (lines.Deliver m to) = line_by (lines.Deliver m to) 100 _ _ _ refl refl refl
line_again (lines.Drop m to) = line_by (lines.Drop m to) 100 _ _ _ refl refl refl
line_again (lines.Lose to) = line_by (lines.Lose to) 108 _ _ _ refl refl refl
line_again (lines.Flow pairs) = line_by (lines.Flow pairs) 102 _ _ _ refl refl refl
line_again (lines.Timeout server global) = line_by (lines.Timeout server global) 116 _ _ _ refl refl refl
line_again (lines.Tick server) = line_by (lines.Tick server) 116 _ _ _ refl refl refl
line_again (lines.Stop server call) = line_by (lines.Stop server call) 115 _ _ _ refl refl refl
line_again (lines.Restart server kept) = line_by (lines.Restart server kept) 114 _ _ _ refl refl refl
line_again (lines.Seal server s) = line_by (lines.Seal server s) 115 _ _ _ refl refl refl
line_again (lines.Raw to bytes) = line_by (lines.Raw to bytes) 114 _ _ _ refl refl refl
line_again (lines.Show m) = line_by (lines.Show m) 115 _ _ _ refl refl refl
