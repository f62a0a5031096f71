-- Client by client.
use Rattle.std.proofs.Common.{◌≡◌, ◌∙◌, ap, suc, ◌+◌, [], ◌∷◌, ◌++◌, ℕ, arith}
use Rattle.st_report.specs.declared.rows.ClientRow.{ClientRow}
use Rattle.st_protocol.specs.Step.{all_below}
use Rattle.st_protocol.specs.Report.{client_row}
use Rattle.st_replay.proofs.RowLaws.{clients_all}
use Rattle.st_replay.proofs.clients.client_rows.Goals as goal

pub loop-client-init : goal.loop-client-init
unfolding all_below
loop-client-init c = λ d m stands all. c.new-rows.ensures

pub loop-client-preserved : goal.loop-client-preserved
unfolding all_below
loop-client-preserved c =
    λ d m stands all.
    let below = c.loop-client-test.true in
    c.in_ok-push.ensures.ok
    ∙ ((λ i. c.loop-client.invariant d m stands all i ++ c.in_ok-row.ensures.row d m stands (omega (arith, below, all)) i ∷ [])
    ∙ next c.loop-client.client (λ n. client_row n (m.customers n)))
  where
    next : (n : ℕ) (row : ℕ → ClientRow) → all_below (λ k. row k ∷ []) n ++ row n ∷ [] ≡ all_below (λ k. row k ∷ []) (n + 1)
    next n row = let one : suc n ≡ n + 1 = omega arith in ap (all_below (λ k. row k ∷ [])) one

pub returns-clause-rows : goal.returns-clause-rows
returns-clause-rows c =
    λ d m stands all.
    let last : c.loop-client.client ≡ c.args.clients = omega (arith, c.loop-client-test.false, c.loop-client.auto.client-end) in
    clients_all d m _ c.loop-client.client (c.loop-client.invariant d m stands all) (last ∙ all)
