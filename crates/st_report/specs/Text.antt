-- The exact text of a report. Each line ends with a newline.
use Rattle.std.specs.Prelude.{ℕ, zero, suc, ◌+◌, Option, Some, None, List, [], ◌∷◌, ◌++◌, codes}
use Rattle.std.specs.Fmt.{decimal}
use Rattle.std.specs.List.{flat_map}
use Rattle.st_texts.specs.Hexadecimal.{hex_text}
use Rattle.st_words.specs.declared.ids.Number.{Number}
use Rattle.st_words.specs.declared.value.Value.{Value}
use Rattle.st_words.specs.declared.value.Value.TheVariants as values
use Rattle.st_message.specs.declared.log.Ran.{Ran}
use Rattle.st_message.specs.declared.log.Ran.TheVariants as ran
use Rattle.st_message.specs.Words.{reason_words}
use Rattle.st_report.specs.declared.rows.Header.{Header}
use Rattle.st_report.specs.declared.rows.DoneWords.{DoneWords}
use Rattle.st_report.specs.declared.rows.DoneWords.TheVariants as done
use Rattle.st_report.specs.declared.rows.DoneRow.{DoneRow}
use Rattle.st_report.specs.declared.rows.StateWord.{StateWord}
use Rattle.st_report.specs.declared.rows.StateWord.TheVariants as states
use Rattle.st_report.specs.declared.rows.LogRow.{LogRow}
use Rattle.st_report.specs.declared.rows.ServerRow.{ServerRow}
use Rattle.st_report.specs.declared.rows.ClientRow.{ClientRow}
use Rattle.st_report.specs.declared.rows.Rows.{Rows}

unfoldable pub deployment_word : List ℕ
deployment_word = codes "deployment "

unfoldable pub deployment_words : Header → List ℕ
deployment_words h = deployment_word ++ decimal h.id ++ codes " sites " ++ decimal h.sites

unfoldable pub faults_words : Header → List ℕ
faults_words h = codes " f " ++ decimal h.f ++ codes " clients " ++ decimal h.clients ++ codes "\n"

unfoldable pub header_line : Header → List ℕ
header_line h = deployment_words h ++ faults_words h

unfoldable pub done_words : DoneWords → List ℕ
done_words (done.Sent m) = codes "sent " ++ decimal m
done_words (done.SealsSpent used) = codes "ignored seals-spent " ++ decimal used
done_words done.Did = codes "did"
done_words (done.Ignored reason) = codes "ignored " ++ reason_words reason
done_words done.Stopped = codes "stopped"
done_words done.Full = codes "full"
done_words done.Faulty = codes "faulty"
done_words (done.Flowed pairs did ignored) = codes "flow " ++ decimal pairs ++ codes " did " ++ decimal did ++ codes " ignored " ++ decimal ignored
done_words (done.Dropped pairs) = codes "dropped " ++ decimal pairs
done_words done.Set = codes "set"
done_words done.Running = codes "running"
done_words (done.Shown bytes) = codes "show " ++ hex_text bytes

unfoldable pub done_line : DoneRow → List ℕ
done_line row = codes "line " ++ decimal row.line ++ codes " " ++ done_words row.words ++ codes "\n"

unfoldable pub state_word : StateWord → List ℕ
state_word states.Running = codes "running"
state_word states.Stopped = codes "stopped"
state_word states.Full = codes "full"

unfoldable pub server_line : ServerRow → List ℕ
server_line row =
    codes "server " ++ decimal row.who.site ++ codes "." ++ decimal row.who.index ++ codes " " ++ state_word row.state ++ codes " view " ++ decimal row.view.0 ++ codes " local " ++ decimal row.local.0
    ++ codes " executed " ++ decimal row.executed ++ codes " leaf " ++ decimal row.leaf ++ codes "\n"

-- what running a value gave
unfoldable pub ran_words : Ran → List ℕ
ran_words (ran.Ran result) = codes " ran " ++ hex_text result
ran_words (ran.Skipped last) = codes " skipped " ++ decimal last
ran_words ran.Nothing = []

unfoldable pub value_words : Value → List ℕ
value_words values.Noop = codes "noop"
value_words (values.Update u) = codes "update " ++ decimal u.client.0 ++ codes " " ++ decimal u.time ++ codes " " ++ hex_text u.op

unfoldable pub number_line : ℕ → LogRow → List ℕ
number_line n row = codes "number " ++ decimal n ++ codes " " ++ value_words row.value ++ ran_words row.ran ++ codes "\n"

-- the lines of a log whose first row is number n
unfoldable pub number_lines : ℕ → List LogRow → List ℕ
number_lines n [] = []
number_lines n (row ∷ rows) = number_line n row ++ number_lines (n + 1) rows

unfoldable pub server_lines : ServerRow → List ℕ
server_lines row = server_line row ++ number_lines 1 row.log

-- what a client of this last time has
unfoldable pub client_words : ℕ → Option (Number × List ℕ) → List ℕ
client_words time (Some r) = codes " number " ++ decimal (r.0).0 ++ codes " result " ++ hex_text r.1
client_words zero None = codes " idle"
client_words (suc time) None = codes " waiting"

unfoldable pub client_line : ClientRow → List ℕ
client_line row = codes "client " ++ decimal row.client.0 ++ codes " time " ++ decimal row.time ++ client_words row.time row.result ++ codes "\n"

unfoldable pub counts_line : ℕ → ℕ → List ℕ
counts_line sent undelivered = codes "sent " ++ decimal sent ++ codes " undelivered " ++ decimal undelivered ++ codes "\n"

-- The report.
unfoldable pub report : Rows → List ℕ
report rows =
    header_line rows.header ++ flat_map done_line rows.done ++ flat_map server_lines rows.servers ++ flat_map client_line rows.clients ++ counts_line rows.sent rows.undelivered
