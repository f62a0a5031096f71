-- By the words and by what was read.
use Rattle.std.proofs.Common.{◌∙◌, ◌≤◌, Some, length, ap, sym, subst, arith}
use Rattle.std.specs.Prelude.{codes}
use Rattle.std.proofs.lemmas.List.{drop_all}
use Rattle.st_run.specs.declared.answer.Answer.{Answer}
use Rattle.st_run.specs.Answers.{bytes_answer}
use Rattle.st_run.specs.Promised.{IsPromised}
use Rattle.st_run.proofs.AnswerLaws.{usage_answered, never_ok_usage, never_ok_too_large, too_large_replay, too_large_is, bytes_replay, of_replay, of_many_bytes, words_answer, replayed_answer}
use Rattle.st_run.proofs.program.answer.Goals as goal

pub returns-then-not-is_replay-clause-answers : goal.returns-then-not-is_replay-clause-answers
returns-then-not-is_replay-clause-answers g c = rw c.in_ok-usage.ensures usage_answered

pub returns-then-not-is_replay-clause-told : goal.returns-then-not-is_replay-clause-told
returns-then-not-is_replay-clause-told g c = λ answer is. c.in_ok-usage.ensures ∙ words_answer _ _ answer (sym c.is_replay.ensures ∙ c.if-not-is_replay.true) is

pub returns-in_ok-bytes_answer-in-Ok-clause-told : goal.returns-in_ok-bytes_answer-in-Ok-clause-told
returns-in_ok-bytes_answer-in-Ok-clause-told g c = λ answer is.
    let test = sym c.is_replay.ensures ∙ c.if-not-is_replay.false in
    replayed_answer _ _ answer c.in_ok-bytes_answer-in-Ok.field-0 test is
    (λ input told. c.in_ok-bytes_answer-in-Ok.ensures.answer ∙ (ap bytes_answer (c.as_slice.ensures ∙ (c.in-Ok.ensures.told input told).0) ∙ sym (of_replay _ input test)))

pub returns-in_ok-bytes_answer-in-Ok-clause-answers : goal.returns-in_ok-bytes_answer-in-Ok-clause-answers
returns-in_ok-bytes_answer-in-Ok-clause-answers g c = rw c.in_ok-bytes_answer-in-Ok.ensures.answer (bytes_replay c.as_slice.result.now).answered

pub returns-in_ok-too_large-in-Err-TooLong-clause-told : goal.returns-in_ok-too_large-in-Err-TooLong-clause-told
returns-in_ok-too_large-in-Err-TooLong-clause-told g c = λ answer is.
    let test = sym c.is_replay.ensures ∙ c.if-not-is_replay.false in
    replayed_answer _ _ answer c.in_ok-too_large-in-Err-TooLong.field-0 test is
    (λ input told. c.in_ok-too_large-in-Err-TooLong.ensures ∙ sym (of_many_bytes _ input test (rw c.in-Err-TooLong.field-0-is at (c.in-Err-TooLong.ensures.told input told)).0))

pub returns-in_ok-too_large-in-Err-TooLong-clause-answers : goal.returns-in_ok-too_large-in-Err-TooLong-clause-answers
returns-in_ok-too_large-in-Err-TooLong-clause-answers g c = rw c.in_ok-too_large-in-Err-TooLong.ensures (too_large_replay (codes "input")).answered

pub returns-in_ok-bytes_answer-in-Ok-clause-rest : goal.returns-in_ok-bytes_answer-in-Ok-clause-rest
returns-in_ok-bytes_answer-in-Ok-clause-rest g c = λ test input told.
    let few : length input ≤ 67108864 = (c.in-Ok.ensures.told input told).1 in
    (c.in-Ok.ensures.told input told).2 ∙ ap Some (sym (drop_all 67108865 input (omega arith)))

pub returns-in_ok-too_large-in-Err-TooLong-clause-rest : goal.returns-in_ok-too_large-in-Err-TooLong-clause-rest
returns-in_ok-too_large-in-Err-TooLong-clause-rest g c = λ test input told. (rw c.in-Err-TooLong.field-0-is at (c.in-Err-TooLong.ensures.told input told)).1

pub returns-in_ok-too_large-in-Err-TooLong-clause-whole : goal.returns-in_ok-too_large-in-Err-TooLong-clause-whole
returns-in_ok-too_large-in-Err-TooLong-clause-whole g c = λ other. absurd (other (ap (λ (a : Answer). a.status) c.in_ok-too_large-in-Err-TooLong.ensures ∙ too_large_is (codes "input")))

pub returns-then-not-is_replay-clause-promised : goal.returns-then-not-is_replay-clause-promised
returns-then-not-is_replay-clause-promised g c = λ bytes told ok. absurd (never_ok_usage _ c.in_ok-usage.ensures ok)

pub returns-in_ok-bytes_answer-in-Ok-clause-promised : goal.returns-in_ok-bytes_answer-in-Ok-clause-promised
returns-in_ok-bytes_answer-in-Ok-clause-promised g c =
    λ bytes told ok. subst IsPromised (c.as_slice.ensures ∙ (c.in-Ok.ensures.told bytes told).0) (c.in_ok-bytes_answer-in-Ok.ensures.promised ok)

pub returns-in_ok-too_large-in-Err-TooLong-clause-promised : goal.returns-in_ok-too_large-in-Err-TooLong-clause-promised
returns-in_ok-too_large-in-Err-TooLong-clause-promised g c = λ bytes told ok. absurd (never_ok_too_large (codes "input") _ c.in_ok-too_large-in-Err-TooLong.ensures ok)

pub returns-in_ok-bytes_answer-in-Ok-clause-usage : goal.returns-in_ok-bytes_answer-in-Ok-clause-usage
returns-in_ok-bytes_answer-in-Ok-clause-usage g c = λ is.
    absurd ((bytes_replay c.as_slice.result.now).no_usage (sym (ap (λ (a : Answer). a.status) c.in_ok-bytes_answer-in-Ok.ensures.answer) ∙ is))

pub returns-in_ok-bytes_answer-in-Ok-clause-replayed : goal.returns-in_ok-bytes_answer-in-Ok-clause-replayed
returns-in_ok-bytes_answer-in-Ok-clause-replayed g c = λ test. rw c.in_ok-bytes_answer-in-Ok.ensures.answer (bytes_replay c.as_slice.result.now).ends

pub returns-in_ok-too_large-in-Err-TooLong-clause-usage : goal.returns-in_ok-too_large-in-Err-TooLong-clause-usage
returns-in_ok-too_large-in-Err-TooLong-clause-usage g c = λ is.
    absurd ((too_large_replay (codes "input")).no_usage (sym (ap (λ (a : Answer). a.status) c.in_ok-too_large-in-Err-TooLong.ensures) ∙ is))

pub returns-in_ok-too_large-in-Err-TooLong-clause-replayed : goal.returns-in_ok-too_large-in-Err-TooLong-clause-replayed
returns-in_ok-too_large-in-Err-TooLong-clause-replayed g c = λ test. rw c.in_ok-too_large-in-Err-TooLong.ensures (too_large_replay (codes "input")).ends
