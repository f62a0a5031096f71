-- What was added grows by the bytes of one write, and is all at the end.
use Rattle.std.proofs.Common.{length, sym, ◌∙◌}
use Rattle.std.proofs.lemmas.Bool.{eqb-true}
use Rattle.st_io.proofs.StreamLaws.{adds_on, adds_front_on, adds_none}
use Rattle.st_io.proofs.whole.write_all.Goals as goal

pub loop-rest-preserved : goal.loop-rest-preserved
loop-rest-preserved g c =
    let some = c.in_ok-rest.ensures.some in
    record {
      all = λ last added. c.loop-rest.invariant.all last (adds_on _ _ last _ _ some added);
      front = λ last added. c.loop-rest.invariant.front last (adds_front_on _ _ last _ _ some added);
      no_fault = c.in_ok-rest.ensures.no_fault ∙ c.loop-rest.invariant.no_fault;
    }

pub returns-clause-all : goal.returns-clause-all
returns-clause-all g c = c.loop-rest.invariant.all (g.K.Sink.taken c.loop-rest.sink) (adds_none _ _ (eqb-true (length c.loop-rest.rest.now) 0 (sym c.is_empty.ensures ∙ c.loop-rest-test.false)))
