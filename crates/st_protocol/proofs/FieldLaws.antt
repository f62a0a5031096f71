-- What each step leaves of its record's fields, for those who keep the step closed.
use Rattle.std.proofs.Common.{◌≡◌, ℕ, ◌+◌, cond, nat_eq, List, [], ◌∷◌, ◌++◌, length, refl}
use Rattle.std.specs.Prelude.{◌&&◌, Option}
use Rattle.st_words.specs.declared.ids.Who.{Who}
use Rattle.st_words.specs.declared.statement.Statement.{Statement}
use Rattle.st_message.specs.declared.event.Scope.{Scope}
use Rattle.st_message.specs.declared.event.Output.{Output}
use Rattle.st_message.specs.declared.change.Change.{Change}
use Rattle.st_message.specs.declared.change.Change.TheVariants.{Made}
use Rattle.st_message.specs.declared.change.Heard.{Heard}
use Rattle.st_message.specs.declared.step.Form.{Form}
use Rattle.st_message.specs.declared.step.Out.{Out}
use Rattle.st_schedule.specs.declared.line.Dest.{Dest}
use Rattle.st_protocol.specs.Keeping.{or_else}
use Rattle.st_protocol.specs.State.{Answers}
use Rattle.st_protocol.specs.Growth.{here_after, log_after, making_notes, unions_notes, words_after, slots_notes, slots_takes, slots_cuts, pending_takes, pending_cuts, notes, takes, cuts, after, hears}
use Rattle.st_protocol.specs.Duty.{Pen, Course, begins, records, keeps, puts, emits, makes, sealed}
use Rattle.st_protocol.specs.World.{Deployment, Fault, Node, Pair, Customer, World, has_handed, pairs_to, with_node, with_customer, with_waiting, uses_leaf, ends, hands, send_fault, sends_to}

-- ---- the course of an event

pub now_begins : (state : Answers) → (begins state).now ≡ state
unfolding begins
now_begins state = refl

pub changes_begins : (state : Answers) → (begins state).changes ≡ []
unfolding begins
changes_begins state = refl

pub heard_begins : (state : Answers) → (begins state).heard ≡ []
unfolding begins
heard_begins state = refl

pub outputs_begins : (state : Answers) → (begins state).outputs ≡ []
unfolding begins
outputs_begins state = refl

pub now_records : (way : Course) (x : Change) → (records way x).now ≡ after way.now x
unfolding records
now_records way x = refl

pub changes_records : (way : Course) (x : Change) → (records way x).changes ≡ way.changes ++ x ∷ []
unfolding records
changes_records way x = refl

pub heard_records : (way : Course) (x : Change) → (records way x).heard ≡ way.heard
unfolding records
heard_records way x = refl

pub outputs_records : (way : Course) (x : Change) → (records way x).outputs ≡ way.outputs
unfolding records
outputs_records way x = refl

pub now_keeps : (way : Course) (m : Heard) → (keeps way m).now ≡ hears way.now m
unfolding keeps
now_keeps way m = refl

pub changes_keeps : (way : Course) (m : Heard) → (keeps way m).changes ≡ way.changes
unfolding keeps
changes_keeps way m = refl

pub heard_keeps : (way : Course) (m : Heard) → (keeps way m).heard ≡ way.heard ++ m ∷ []
unfolding keeps
heard_keeps way m = refl

pub outputs_keeps : (way : Course) (m : Heard) → (keeps way m).outputs ≡ way.outputs
unfolding keeps
outputs_keeps way m = refl

pub now_puts : (way : Course) (o : Output) → (puts way o).now ≡ way.now
unfolding puts
now_puts way o = refl

pub changes_puts : (way : Course) (o : Output) → (puts way o).changes ≡ way.changes
unfolding puts
changes_puts way o = refl

pub heard_puts : (way : Course) (o : Output) → (puts way o).heard ≡ way.heard
unfolding puts
heard_puts way o = refl

pub outputs_puts : (way : Course) (o : Output) → (puts way o).outputs ≡ way.outputs ++ o ∷ []
unfolding puts
outputs_puts way o = refl

pub now_emits : (pen : Pen) (way : Course) (o : Out) → (emits pen way o).now ≡ way.now
unfolding emits puts
now_emits pen way o = refl

pub changes_emits : (pen : Pen) (way : Course) (o : Out) → (emits pen way o).changes ≡ way.changes
unfolding emits puts
changes_emits pen way o = refl

pub heard_emits : (pen : Pen) (way : Course) (o : Out) → (emits pen way o).heard ≡ way.heard
unfolding emits puts
heard_emits pen way o = refl

pub outputs_emits : (pen : Pen) (way : Course) (o : Out) → (emits pen way o).outputs ≡ way.outputs ++ sealed pen way.now o ∷ []
unfolding emits puts
outputs_emits pen way o = refl

pub now_makes : (pen : Pen) (way : Course) (s : Statement) (form : Form) (to : Scope) → (makes pen way s form to).now ≡ after way.now (Made way.now.here.leaf s)
unfolding makes emits puts records
now_makes pen way s form to = refl

pub changes_makes : (pen : Pen) (way : Course) (s : Statement) (form : Form) (to : Scope) → (makes pen way s form to).changes ≡ way.changes ++ Made way.now.here.leaf s ∷ []
unfolding makes emits puts records
changes_makes pen way s form to = refl

pub heard_makes : (pen : Pen) (way : Course) (s : Statement) (form : Form) (to : Scope) → (makes pen way s form to).heard ≡ way.heard
unfolding makes emits puts records
heard_makes pen way s form to = refl

pub ruleset course_parts = (now_begins, changes_begins, heard_begins, outputs_begins, now_records, changes_records, heard_records, outputs_records, now_keeps, changes_keeps, heard_keeps, outputs_keeps, now_puts, changes_puts, heard_puts, outputs_puts, now_emits, changes_emits, heard_emits, outputs_emits, now_makes, changes_makes, heard_makes)

-- ---- a change more, and something heard more

pub here_after_change : (state : Answers) (x : Change) → (after state x).here ≡ here_after x state.here
unfolding after notes cuts
here_after_change state x = refl

pub log_after_change : (state : Answers) (x : Change) → (after state x).log ≡ log_after x state.here state.log
unfolding after notes cuts
log_after_change state x = refl

pub making_after_change : (state : Answers) (x : Change) → (after state x).making ≡ making_notes (here_after x state.here) x state.making
unfolding after notes cuts
making_after_change state x = refl

pub unions_after_change : (state : Answers) (x : Change) → (after state x).unions ≡ unions_notes (here_after x state.here) x state.unions
unfolding after notes cuts
unions_after_change state x = refl

pub words_after_change : (state : Answers) (x : Change) → (after state x).words ≡ words_after x state.here state.words
unfolding after notes cuts
words_after_change state x = refl

pub slots_after_change : (state : Answers) (x : Change) → (after state x).slots ≡ slots_cuts (here_after x state.here) (slots_notes (here_after x state.here) x state.slots)
unfolding after notes cuts
slots_after_change state x = refl

pub pending_after_change : (state : Answers) (x : Change) → (after state x).pending ≡ pending_cuts (log_after x state.here state.log).run.last state.pending
unfolding after notes cuts
pending_after_change state x = refl

pub here_hears : (state : Answers) (m : Heard) → (hears state m).here ≡ state.here
unfolding hears takes cuts
here_hears state m = refl

pub log_hears : (state : Answers) (m : Heard) → (hears state m).log ≡ state.log
unfolding hears takes cuts
log_hears state m = refl

pub making_hears : (state : Answers) (m : Heard) → (hears state m).making ≡ state.making
unfolding hears takes cuts
making_hears state m = refl

pub unions_hears : (state : Answers) (m : Heard) → (hears state m).unions ≡ state.unions
unfolding hears takes cuts
unions_hears state m = refl

pub words_hears : (state : Answers) (m : Heard) → (hears state m).words ≡ state.words
unfolding hears takes cuts
words_hears state m = refl

pub slots_hears : (state : Answers) (m : Heard) → (hears state m).slots ≡ slots_cuts state.here (slots_takes m state.slots)
unfolding hears takes cuts
slots_hears state m = refl

pub pending_hears : (state : Answers) (m : Heard) → (hears state m).pending ≡ pending_cuts state.log.run.last (pending_takes m state.pending)
unfolding hears takes cuts
pending_hears state m = refl

pub ruleset answers_parts = (here_after_change, log_after_change, making_after_change, unions_after_change, words_after_change, slots_after_change, pending_after_change, here_hears, log_hears, making_hears, unions_hears, words_hears, slots_hears, pending_hears)

-- ---- one field of a world changed

module _ {Wire : Type 0} where
  pub nodes_with_node : (world : World Wire) (site index : ℕ) (node : Node) → (with_node world site index node).nodes ≡ (λ s i. cond (nat_eq site s && nat_eq index i) node (world.nodes s i))
  unfolding with_node
  nodes_with_node world site index node = refl

  pub sent_with_node : (world : World Wire) (site index : ℕ) (node : Node) → (with_node world site index node).sent ≡ world.sent
  unfolding with_node
  sent_with_node world site index node = refl

  pub waiting_with_node : (world : World Wire) (site index : ℕ) (node : Node) → (with_node world site index node).waiting ≡ world.waiting
  unfolding with_node
  waiting_with_node world site index node = refl

  pub made_with_node : (world : World Wire) (site index : ℕ) (node : Node) → (with_node world site index node).made ≡ world.made
  unfolding with_node
  made_with_node world site index node = refl

  pub customers_with_node : (world : World Wire) (site index : ℕ) (node : Node) → (with_node world site index node).customers ≡ world.customers
  unfolding with_node
  customers_with_node world site index node = refl

  pub leaves_with_node : (world : World Wire) (site index : ℕ) (node : Node) → (with_node world site index node).leaves ≡ world.leaves
  unfolding with_node
  leaves_with_node world site index node = refl

  pub ended_with_node : (world : World Wire) (site index : ℕ) (node : Node) → (with_node world site index node).ended ≡ world.ended
  unfolding with_node
  ended_with_node world site index node = refl

  pub nodes_with_customer : (world : World Wire) (client : ℕ) (customer : Customer) → (with_customer world client customer).nodes ≡ world.nodes
  unfolding with_customer
  nodes_with_customer world client customer = refl

  pub sent_with_customer : (world : World Wire) (client : ℕ) (customer : Customer) → (with_customer world client customer).sent ≡ world.sent
  unfolding with_customer
  sent_with_customer world client customer = refl

  pub waiting_with_customer : (world : World Wire) (client : ℕ) (customer : Customer) → (with_customer world client customer).waiting ≡ world.waiting
  unfolding with_customer
  waiting_with_customer world client customer = refl

  pub made_with_customer : (world : World Wire) (client : ℕ) (customer : Customer) → (with_customer world client customer).made ≡ world.made
  unfolding with_customer
  made_with_customer world client customer = refl

  pub customers_with_customer : (world : World Wire) (client : ℕ) (customer : Customer) → (with_customer world client customer).customers ≡ (λ c. cond (nat_eq client c) customer (world.customers c))
  unfolding with_customer
  customers_with_customer world client customer = refl

  pub leaves_with_customer : (world : World Wire) (client : ℕ) (customer : Customer) → (with_customer world client customer).leaves ≡ world.leaves
  unfolding with_customer
  leaves_with_customer world client customer = refl

  pub ended_with_customer : (world : World Wire) (client : ℕ) (customer : Customer) → (with_customer world client customer).ended ≡ world.ended
  unfolding with_customer
  ended_with_customer world client customer = refl

  pub nodes_with_waiting : (world : World Wire) (pairs : List Pair) → (with_waiting world pairs).nodes ≡ world.nodes
  unfolding with_waiting
  nodes_with_waiting world pairs = refl

  pub sent_with_waiting : (world : World Wire) (pairs : List Pair) → (with_waiting world pairs).sent ≡ world.sent
  unfolding with_waiting
  sent_with_waiting world pairs = refl

  pub waiting_with_waiting : (world : World Wire) (pairs : List Pair) → (with_waiting world pairs).waiting ≡ pairs
  unfolding with_waiting
  waiting_with_waiting world pairs = refl

  pub made_with_waiting : (world : World Wire) (pairs : List Pair) → (with_waiting world pairs).made ≡ world.made
  unfolding with_waiting
  made_with_waiting world pairs = refl

  pub customers_with_waiting : (world : World Wire) (pairs : List Pair) → (with_waiting world pairs).customers ≡ world.customers
  unfolding with_waiting
  customers_with_waiting world pairs = refl

  pub leaves_with_waiting : (world : World Wire) (pairs : List Pair) → (with_waiting world pairs).leaves ≡ world.leaves
  unfolding with_waiting
  leaves_with_waiting world pairs = refl

  pub ended_with_waiting : (world : World Wire) (pairs : List Pair) → (with_waiting world pairs).ended ≡ world.ended
  unfolding with_waiting
  ended_with_waiting world pairs = refl

  pub nodes_uses_leaf : (world : World Wire) (site index : ℕ) → (uses_leaf world site index).nodes ≡ world.nodes
  unfolding uses_leaf
  nodes_uses_leaf world site index = refl

  pub sent_uses_leaf : (world : World Wire) (site index : ℕ) → (uses_leaf world site index).sent ≡ world.sent
  unfolding uses_leaf
  sent_uses_leaf world site index = refl

  pub waiting_uses_leaf : (world : World Wire) (site index : ℕ) → (uses_leaf world site index).waiting ≡ world.waiting
  unfolding uses_leaf
  waiting_uses_leaf world site index = refl

  pub made_uses_leaf : (world : World Wire) (site index : ℕ) → (uses_leaf world site index).made ≡ world.made
  unfolding uses_leaf
  made_uses_leaf world site index = refl

  pub customers_uses_leaf : (world : World Wire) (site index : ℕ) → (uses_leaf world site index).customers ≡ world.customers
  unfolding uses_leaf
  customers_uses_leaf world site index = refl

  pub leaves_uses_leaf : (world : World Wire) (site index : ℕ) → (uses_leaf world site index).leaves ≡ (λ s i. cond (nat_eq site s && nat_eq index i) (world.leaves site index + 1) (world.leaves s i))
  unfolding uses_leaf
  leaves_uses_leaf world site index = refl

  pub ended_uses_leaf : (world : World Wire) (site index : ℕ) → (uses_leaf world site index).ended ≡ world.ended
  unfolding uses_leaf
  ended_uses_leaf world site index = refl

  pub nodes_ends : (world : World Wire) (fault : Option Fault) → (ends world fault).nodes ≡ world.nodes
  unfolding ends
  nodes_ends world fault = refl

  pub sent_ends : (world : World Wire) (fault : Option Fault) → (ends world fault).sent ≡ world.sent
  unfolding ends
  sent_ends world fault = refl

  pub waiting_ends : (world : World Wire) (fault : Option Fault) → (ends world fault).waiting ≡ world.waiting
  unfolding ends
  waiting_ends world fault = refl

  pub made_ends : (world : World Wire) (fault : Option Fault) → (ends world fault).made ≡ world.made
  unfolding ends
  made_ends world fault = refl

  pub customers_ends : (world : World Wire) (fault : Option Fault) → (ends world fault).customers ≡ world.customers
  unfolding ends
  customers_ends world fault = refl

  pub leaves_ends : (world : World Wire) (fault : Option Fault) → (ends world fault).leaves ≡ world.leaves
  unfolding ends
  leaves_ends world fault = refl

  pub ended_ends : (world : World Wire) (fault : Option Fault) → (ends world fault).ended ≡ or_else world.ended fault
  unfolding ends
  ended_ends world fault = refl

  pub nodes_hands : (world : World Wire) (who : Who) (leaf : ℕ) (s : Statement) → (hands world who leaf s).nodes ≡ world.nodes
  unfolding hands
  nodes_hands world who leaf s = refl

  pub sent_hands : (world : World Wire) (who : Who) (leaf : ℕ) (s : Statement) → (hands world who leaf s).sent ≡ world.sent
  unfolding hands
  sent_hands world who leaf s = refl

  pub waiting_hands : (world : World Wire) (who : Who) (leaf : ℕ) (s : Statement) → (hands world who leaf s).waiting ≡ world.waiting
  unfolding hands
  waiting_hands world who leaf s = refl

  pub made_hands : (world : World Wire) (who : Who) (leaf : ℕ) (s : Statement) → (hands world who leaf s).made ≡ cond (has_handed world.made who leaf s) world.made (world.made ++ record { who = who; leaf = leaf; statement = s } ∷ [])
  unfolding hands
  made_hands world who leaf s = refl

  pub customers_hands : (world : World Wire) (who : Who) (leaf : ℕ) (s : Statement) → (hands world who leaf s).customers ≡ world.customers
  unfolding hands
  customers_hands world who leaf s = refl

  pub leaves_hands : (world : World Wire) (who : Who) (leaf : ℕ) (s : Statement) → (hands world who leaf s).leaves ≡ world.leaves
  unfolding hands
  leaves_hands world who leaf s = refl

  pub ended_hands : (world : World Wire) (who : Who) (leaf : ℕ) (s : Statement) → (hands world who leaf s).ended ≡ world.ended
  unfolding hands
  ended_hands world who leaf s = refl

  pub nodes_sends_to : (d : Deployment Wire) (world : World Wire) (wire : Wire) (to : List Dest) → (sends_to d world wire to).nodes ≡ world.nodes
  unfolding sends_to
  nodes_sends_to d world wire to = refl

  pub sent_sends_to : (d : Deployment Wire) (world : World Wire) (wire : Wire) (to : List Dest) → (sends_to d world wire to).sent ≡ world.sent ++ wire ∷ []
  unfolding sends_to
  sent_sends_to d world wire to = refl

  pub waiting_sends_to : (d : Deployment Wire) (world : World Wire) (wire : Wire) (to : List Dest) → (sends_to d world wire to).waiting ≡ world.waiting ++ pairs_to (length world.sent) to
  unfolding sends_to
  waiting_sends_to d world wire to = refl

  pub made_sends_to : (d : Deployment Wire) (world : World Wire) (wire : Wire) (to : List Dest) → (sends_to d world wire to).made ≡ world.made
  unfolding sends_to
  made_sends_to d world wire to = refl

  pub customers_sends_to : (d : Deployment Wire) (world : World Wire) (wire : Wire) (to : List Dest) → (sends_to d world wire to).customers ≡ world.customers
  unfolding sends_to
  customers_sends_to d world wire to = refl

  pub leaves_sends_to : (d : Deployment Wire) (world : World Wire) (wire : Wire) (to : List Dest) → (sends_to d world wire to).leaves ≡ world.leaves
  unfolding sends_to
  leaves_sends_to d world wire to = refl

  pub ended_sends_to : (d : Deployment Wire) (world : World Wire) (wire : Wire) (to : List Dest) → (sends_to d world wire to).ended ≡ or_else world.ended (send_fault d world wire)
  unfolding sends_to
  ended_sends_to d world wire to = refl

pub ruleset world_parts = (nodes_with_node, sent_with_node, waiting_with_node, made_with_node, customers_with_node, leaves_with_node, ended_with_node, nodes_with_customer, sent_with_customer, waiting_with_customer, made_with_customer, customers_with_customer, leaves_with_customer, ended_with_customer, nodes_with_waiting, sent_with_waiting, waiting_with_waiting, made_with_waiting, customers_with_waiting, leaves_with_waiting, ended_with_waiting, nodes_uses_leaf, sent_uses_leaf, waiting_uses_leaf, made_uses_leaf, customers_uses_leaf, leaves_uses_leaf, ended_uses_leaf, nodes_ends, sent_ends, waiting_ends, made_ends, customers_ends, leaves_ends, ended_ends, nodes_hands, sent_hands, waiting_hands, made_hands, customers_hands, leaves_hands, ended_hands, nodes_sends_to, sent_sends_to, waiting_sends_to, made_sends_to, customers_sends_to, leaves_sends_to, ended_sends_to)
