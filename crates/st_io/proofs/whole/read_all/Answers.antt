-- What was read so far grows by one piece, and is all at the end.
use Rattle.std.proofs.Common.{ℕ, length, length-take, arith, ap, ◌∙◌, sym}
use Rattle.std.proofs.lemmas.Result.{err_from_is_err_and}
use Rattle.std.specs.Prelude.{Err}
use Rattle.st_io.proofs.StreamLaws.{read_on, read_end, read_past, lost_few, lost_none, reads_all_lost}
use Rattle.st_io.proofs.whole.read_all.Goals as goal

pub returns-in_err-count-clause-told : goal.returns-in_err-count-clause-told
returns-in_err-count-clause-told g c = λ all told.
    let error = err_from_is_err_and c.from_residual.result c.from_residual.ensures.1 in
    let read = c.loop-buffer.invariant.told all told in
    let clauses = c.in_err-count.ensures in
    rw error.1 (reads_all_lost all c.args.limit error.0 _
    (λ e. clauses.short (ap Err (sym error.2 ∙ e)))
    (lost_few all _ _ _ _ _ read clauses.gone (omega (arith, length-take {A = ℕ})))
    (λ e. lost_none all _ _ _ c.args.limit read (clauses.kept (ap Err (sym error.2 ∙ e))) (omega arith)))

pub returns-then-count-eq0-clause-told : goal.returns-then-count-eq0-clause-told
returns-then-count-eq0-clause-told g c = λ all told.
    let same = c.in_ok-count.ensures.long in
    let end = read_end all _ _ _ _ (c.loop-buffer.invariant.told all told) c.in_ok-count.ensures.told (omega arith) in
    let long = ap length end.0 in
    (c.from_vec.ensures ∙ end.0, omega arith, end.1)

pub loop-buffer-preserved : goal.loop-buffer-preserved
loop-buffer-preserved g c = record {
  few = omega (arith, length-take {A = ℕ}, c.in_ok-count.ensures.long, c.in_ok-count.ensures.few);
  told = λ all told. read_on all _ _ _ _ (c.loop-buffer.invariant.told all told) c.in_ok-count.ensures.told;
  no_fault = c.in_ok-count.ensures.no_fault ∙ c.loop-buffer.invariant.no_fault;
}

pub returns-clause-told : goal.returns-clause-told
returns-clause-told g c = λ all told. read_past all _ _ _ (c.loop-buffer.invariant.told all told) (omega (arith, c.loop-buffer.invariant.few))
