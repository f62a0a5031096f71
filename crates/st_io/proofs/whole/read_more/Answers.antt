-- What came is the first of what was left.
use Rattle.std.proofs.Common.{arith, rules}
use Rattle.std.proofs.lemmas.Result.{err_from_is_err_and}
use Rattle.st_io.proofs.StreamLaws.{given_some, given_few}
use Rattle.st_io.proofs.whole.read_more.Goals as goal

pub returns-in_err-extend_from_slice-clause-gone : goal.returns-in_err-extend_from_slice-clause-gone
returns-in_err-extend_from_slice-clause-gone g c =
    let error = err_from_is_err_and c.from_residual-in_err-extend_from_slice.result c.from_residual-in_err-extend_from_slice.ensures.1 in
    rw error.1 (λ left told. given_few left _ _ c.in_ok-count.count _ (c.in_ok-count.ensures.given left told) (omega (arith, c.in_ok-count.ensures.bound)))

pub returns-clause-told : goal.returns-clause-told
returns-clause-told g c = λ left told. given_some left _ _ _ _ _ (c.in_ok-count.ensures.given left told) (omega arith) (search rules)
