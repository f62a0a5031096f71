-- By computing the worlds.
use Rattle.std.proofs.Common.{◌≡◌, ℕ, List, [], refl}
use Rattle.st_protocol.specs.World.{BadReference}
use Rattle.st_run.specs.Example.{idle_rows, rows_passed, small_deployment, small_input, small_lines, small_rows}
use Rattle.st_protocol.specs.Assigning.{fill, fill_number, fills}
use Rattle.st_protocol.specs.Collecting.{best_found, most, union}
use Rattle.st_protocol.specs.Duty.{begins, carries, carries_change, course, emits, fills_up, keeps, makes, plan_of, plan_of_message, puts, records, replies, reports, reports_as, tick_out}
use Rattle.st_protocol.specs.Forced.{forced_of, greatest_base, highest_item, item_at, sites_held}
use Rattle.st_protocol.specs.Growth.{after, cuts, grown, hears, notes, nothing, takes}
use Rattle.st_protocol.specs.Keeping.{gathered, joined}
use Rattle.st_protocol.specs.Ordering.{executions, in_hand}
use Rattle.st_protocol.specs.Questions.{executed_in, executed_values, here_of, proofs_in, questions, runs}
use Rattle.st_protocol.specs.Report.{came_from, client_row, client_rows, done_words, rows_of, server_row, server_rows}
use Rattle.st_protocol.specs.Schedule.{dones, drops, flows, flows_first, has_pair, seals, step, submits, then_assigns, without}
use Rattle.st_protocol.specs.Step.{agreeing, all_below, complete, count_below, first_below, quorum_of, some_below}
use Rattle.st_protocol.specs.Words.{same_items, same_statement}
use Rattle.st_protocol.specs.World.{comes_to, delivers, empty, ends, first_bad, fresh_customer, fresh_node, hands, hands_one, has_handed, has_made, is_listed, notes_seal, on_checked_reply, pairs_to, sends_to, sent_size, serves, uses_leaf, with_customer, with_node, with_waiting}
use Rattle.st_live.specs.Service.{list_serve}
use Rattle.st_server.specs.Deployed.{keyed_seals, world_deployment}
use Rattle.st_deployment.specs.Deployed as bytes
use Rattle.st_replay.specs.Ends.{end_from}
use Rattle.st_replay.specs.Replay.{Ended, replay_of}
use Rattle.st_run.proofs.example.a_small_world.Goals as goal

comes_to_rows : (id : ℕ) (seed : List ℕ) → rows_passed (small_deployment id seed) (small_lines 0) ≡ small_rows id
unfolding fill fill_number fills best_found most union begins carries carries_change course emits fills_up keeps makes plan_of plan_of_message puts records replies reports reports_as tick_out forced_of greatest_base highest_item item_at sites_held after cuts grown hears notes nothing takes gathered joined executions in_hand executed_in executed_values here_of proofs_in questions runs came_from client_row client_rows done_words rows_of server_row server_rows dones drops flows flows_first has_pair seals step submits then_assigns without agreeing all_below complete count_below first_below quorum_of some_below same_items same_statement comes_to delivers empty ends first_bad fresh_customer fresh_node hands hands_one has_handed has_made is_listed notes_seal on_checked_reply pairs_to sends_to sent_size serves uses_leaf with_customer with_node with_waiting list_serve keyed_seals world_deployment
comes_to_rows id seed = refl

comes_to_rest : (id : ℕ) (seed : List ℕ) → rows_passed (small_deployment id seed) [] ≡ idle_rows id
unfolding fill fill_number fills best_found most union begins carries carries_change course emits fills_up keeps makes plan_of plan_of_message puts records replies reports reports_as tick_out forced_of greatest_base highest_item item_at sites_held after cuts grown hears notes nothing takes gathered joined executions in_hand executed_in executed_values here_of proofs_in questions runs came_from client_row client_rows done_words rows_of server_row server_rows dones drops flows flows_first has_pair seals step submits then_assigns without agreeing all_below complete count_below first_below quorum_of some_below same_items same_statement comes_to delivers empty ends first_bad fresh_customer fresh_node hands hands_one has_handed has_made is_listed notes_seal on_checked_reply pairs_to sends_to sent_size serves uses_leaf with_customer with_node with_waiting list_serve keyed_seals world_deployment
comes_to_rest id seed = refl

-- (in the world of bytes)
ends_world : (id : ℕ) (seed : List ℕ) → replay_of (small_input id seed 1) ≡ Ended 9 BadReference
unfolding empty ends step end_from replay_of bytes.world_deployment
ends_world id seed = refl

pub returns-clause-runs : goal.returns-clause-runs
returns-clause-runs c = comes_to_rows

pub returns-clause-rests : goal.returns-clause-rests
returns-clause-rests c = comes_to_rest

pub returns-clause-ends : goal.returns-clause-ends
returns-clause-ends c = ends_world
