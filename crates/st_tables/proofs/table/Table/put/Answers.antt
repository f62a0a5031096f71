-- The entry is put last, where the table ends at its key.
use Rattle.std.proofs.Common.{◌≡◌, ◌≢◌, ◌∙◌, ◌++◌, ◌∷◌, [], length, sym, arith}
use Rattle.st_tables.proofs.EntriesLaws.{entry_of_last, entry_of_others}
use Rattle.st_tables.proofs.table.Table.put.Goals as goal

pub returns-clause-sets : goal.returns-clause-sets
returns-clause-sets g c =
    let xs = c.loop-key.self-inside.entries in
    let put : c.push-2.new.self ≡ xs ++ c.loop-key.item-1 ∷ [] = c.in_ok-push-2.ensures.ok in
    let same : c.args.key ≡ length xs = omega (arith, c.loop-key.invariant.0, c.loop-key-test.false, c.loop-key.auto) in
    record {
      here = rw put (rw same (entry_of_last xs c.loop-key.item-1 ∙ c.loop-key.invariant.1));
      others = λ k other. rw put (entry_of_others xs c.loop-key.item-1 k (λ e. other (e ∙ sym same)) ∙ c.loop-key.invariant.2 k);
    }
