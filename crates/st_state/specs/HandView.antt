-- What is in hand, as the answers that it gives.
use Rattle.std.specs.Prelude.{ℕ, ◌≡◌, ◌+◌, max, false, cond, nat_eq, Option, Some, None}
use Rattle.st_words.specs.declared.ids.SiteId.{SiteId}
use Rattle.st_words.specs.declared.ids.View.{View}
use Rattle.st_words.specs.declared.ids.Number.{Number}
use Rattle.st_words.specs.declared.value.Value.{Value}
use Rattle.st_words.specs.declared.statement.Statement.TheVariants.{Accept}
use Rattle.st_message.specs.declared.change.Heard.{Heard}
use Rattle.st_message.specs.declared.message.Message.TheVariants as messages
use Rattle.st_tables.specs.Entries.{entry}
use Rattle.st_tables.specs.Window.{kept}
use Rattle.st_protocol.specs.Words.{Quorum}
use Rattle.st_protocol.specs.Keeping.{from, greatest}
use Rattle.st_protocol.specs.State as state
use Rattle.st_protocol.specs.State.{Here, Word, word_view, word_height}
use Rattle.st_state.specs.declared.hand.Named.{Named}
use Rattle.st_state.specs.declared.hand.Words.{Words}
use Rattle.st_state.specs.declared.hand.Hand.{Hand}

-- the highest view of a number, and 1; 0 where nothing is kept
abbrev pub height_of : Option Words → ℕ
height_of None = 0
height_of (Some words) = words.view + 1

-- a site's word at a view
abbrev pub word_by : ℕ → Option Named → Option Word
word_by view None = None
word_by view (Some named) = Some (record { view = view; value = named.value; quorum = named.quorum })

abbrev pub word_of : Option Words → ℕ → Option Word
word_of None s = None
word_of (Some words) s = word_by words.view (entry words.sites s)

-- no order proof is kept yet
unfoldable pub hand_of : Here → Hand → state.Hand
hand_of here hand =
    record {
      highest = λ n. height_of (kept here.executed hand.numbers n);
      word = λ n s. word_of (kept here.executed hand.numbers n) s;
      proof = λ n. None;
    }

abbrev pub no_hand : state.Hand
no_hand = record { highest = λ n. 0; word = λ n s. None; proof = λ n. None }

-- an Accept certificate is heard
abbrev pub heard_accept : SiteId → View → Number → Value → Quorum → Heard
heard_accept site view number value quorum = record { own = false; message = messages.Certificate (Accept site view number value) quorum }

-- what is kept of a number once a site's word is heard; where `new` is None it stays
abbrev pub then_kept : Option Words → Option Words → Option Words
then_kept old None = old
then_kept old (Some words) = Some words

-- the highest view is the greater, and at it each site's first word stays
pub record Keeps (old new : Option Words) (site view : ℕ) (named : Named) : Type 0 where
  pub height : height_of (then_kept old new) ≡ max (height_of old) (view + 1)
  pub words : (s : ℕ) → word_of (then_kept old new) s ≡ from word_height (max (height_of old) (view + 1)) (greatest word_view (word_of old s) (cond (nat_eq site s) (word_by view (Some named)) None))
