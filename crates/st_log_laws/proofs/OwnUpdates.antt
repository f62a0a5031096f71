-- Clients' seals over updates are over their own, each with the leaf of the update's time; and what is an update of the
-- plain world its client handed out.
use Rattle.std.proofs.Common.{◌≡◌, ◌∙◌, ap, sym, subst, ℕ, ◌-◌, Bool, true, false, cond, nat_eq, ◌⊎◌, inl, inr, List, [], ◌∷◌, ◌++◌, refl, arith}
use Rattle.std.proofs.lemmas.Bool.{and_from, or_left, eq-eqb}
use Rattle.std.specs.Prelude.{◌&&◌, ◌||◌, Option, Some, None}
use Rattle.std.specs.List.{AllByRecursion as Each}
use Rattle.st_words.specs.declared.ids.Who.{Who}
use Rattle.st_words.specs.declared.ids.Who.TheVariants as parties
use Rattle.st_words.specs.declared.value.Update.{Update}
use Rattle.st_words.specs.declared.value.Value.{Value}
use Rattle.st_words.specs.declared.value.Value.TheVariants as values
use Rattle.st_words.specs.declared.statement.Statement.{Statement}
use Rattle.st_words.specs.declared.statement.Statement.TheVariants.{ClientUpdate}
use Rattle.st_message.specs.declared.event.Output.{Output}
use Rattle.st_message.specs.declared.event.Plan.{Plan}
use Rattle.st_message.specs.declared.made.MadeSeal.{MadeSeal}
use Rattle.st_schedule.specs.declared.line.Line.{Line}
use Rattle.st_counts.specs.Counts.{Has}
use Rattle.st_agreement.specs.Worlds.{IsOwn}
use Rattle.st_log_laws.specs.Handed.{was_handed, comes_from_client}
use Rattle.st_protocol.specs.Words.{server_at, client_at, same_who, same_statement}
use Rattle.st_protocol.specs.Keeping.{given}
use Rattle.st_protocol.specs.World.{Deployment, World, Node, empty, has_handed, handed, with_node, with_customer, with_waiting, ends, hands, sends_to, notes_seal, hands_one, hands_out, settled, plan_at}
use Rattle.st_protocol.specs.Schedule.{steps}
use Rattle.st_protocol.proofs.SameLaws.{same_who-Decides, same_statement-Decides}
use Rattle.st_frame_laws.proofs.ChoiceLaws.{append_all, each_any}
use Rattle.st_frame_laws.specs.Events.{IsKeptByEvents}
use Rattle.st_frame_laws.proofs.NodeFrame.{seals_made}
use Rattle.st_frame_laws.proofs.WorldFrame.{steps_kept}
use Rattle.st_answer_laws.specs.Plain.{with_update_of, updates_of, plain_of}

-- a client's seal over an update is over its own, with the leaf of its time
abbrev pub IsOwnUpdate : Who → ℕ → Statement → Type 0
IsOwnUpdate (parties.Client c) leaf (ClientUpdate u) = (c.0 ≡ u.client.0) × (leaf ≡ u.time - 1)
IsOwnUpdate (parties.Client c) leaf _ = Unit {0}
IsOwnUpdate (parties.Server s) leaf t = Unit {0}

abbrev pub IsOwnSeal : MadeSeal → Type 0
IsOwnSeal x = IsOwnUpdate x.who x.leaf x.statement

module _ {Wire : Type 0} where
  -- so of all that was handed out
  abbrev pub OwnUpdates : World Wire → Type 0
  OwnUpdates world = Each IsOwnSeal world.made

  hands_own : (world : World Wire) (who : Who) (leaf : ℕ) (s : Statement) → IsOwnUpdate who leaf s → OwnUpdates world → OwnUpdates (hands world who leaf s)
  unfolding hands
  hands_own world who leaf s own h = by (has_handed world.made who leaf s)
    where
      by : (b : Bool) → Each IsOwnSeal (cond b world.made (world.made ++ record { who = who; leaf = leaf; statement = s } ∷ []))
      by true = h
      by false = append_all IsOwnSeal world.made (record { who = who; leaf = leaf; statement = s } ∷ []) h (own, tt)

  module _ (d : Deployment Wire) where
    notes_own : (site index : ℕ) (world : World Wire) (o : Output) → OwnUpdates world → OwnUpdates (notes_seal d site index world o)
    unfolding notes_seal
    notes_own site index world o h = by o.leaf (handed site o.message)
      where
        by : (leaf : Option ℕ) (x : Option Statement) → OwnUpdates (given leaf world (λ n. given x world (λ s. hands world (server_at site index) n s)))
        by None x = h
        by (Some n) None = h
        by (Some n) (Some s) = hands_own world (server_at site index) n s tt h

    one_own : (site index : ℕ) (world : World Wire) (o : Output) → OwnUpdates world → OwnUpdates (hands_one d site index world o)
    unfolding hands_one sends_to
    one_own site index world o h = notes_own site index world o h

    out_own : (site index : ℕ) (world : World Wire) (outputs : List Output) → OwnUpdates world → OwnUpdates (hands_out d site index world outputs)
    out_own site index world [] h = h
    out_own site index world (o ∷ os) h = out_own site index (hands_one d site index world o) os (one_own site index world o h)

    node_own : (world : World Wire) (site index : ℕ) (node : Node) → OwnUpdates world → OwnUpdates (with_node world site index node)
    unfolding with_node
    node_own world site index node h = h

    -- Every event keeps it.
    pub own_is_kept : (L : Line → Type 0) → IsKeptByEvents d OwnUpdates (λ world wire. Unit {0}) L
    unfolding with_customer with_waiting sends_to ends
    own_is_kept L =
        record {
          sent = λ world n wire h e. tt;
          outside = λ world to bytes l fair h. tt;
          settles = λ world site index event correct runs e room goes h.
              let plan : Plan = plan_at d world site index event in
              let node : Node = settled d (world.nodes site index) plan in
              out_own site index (with_node world site index node) plan.outputs (node_own world site index node h);
          fills = λ world site index correct h. node_own world site index _ h;
          stops = λ world site index event correct runs e stop h. node_own world site index _ h;
          setting = λ world site index call correct h. node_own world site index _ h;
          restarting = λ world site index again correct h. node_own world site index _ h;
          submitting = λ world client op l known left h. hands_own _ (client_at client) (world.customers client).time _ (refl, omega arith) h;
          answering = λ world client wire site to time number result signed e reads mine good waits new h. h;
          sealing = λ world site index s l there faulty may left h. subst (Each IsOwnSeal) (sym (seals_made d world site index s)) h;
          waiting = λ world pairs few h. h;
          ending = λ world fault h. h;
        }

    empty_own : OwnUpdates empty
    unfolding empty
    empty_own = tt

    -- So it is in the world of any lines.
    pub updates_own : (all : List Line) → OwnUpdates (steps d empty all)
    updates_own all = steps_kept d OwnUpdates (λ world wire. Unit {0}) (λ (line : Line). Unit {0}) (own_is_kept (λ line. Unit {0})) empty all (each_any all) empty_own

-- ---- what the plain world has

or_rest : (a b : Bool) → b ≡ true → (a || b) ≡ true
or_rest true b e = refl
or_rest false b e = e

-- an update of the plain world is among these, or was handed out
updates_handed : (made : List MadeSeal) (us : List Update) (u : Update) → Each IsOwnSeal made → Has u (updates_of made us) → Has u us ⊎ (was_handed made u ≡ true)
unfolding updates_of has_handed
updates_handed [] us u own has = inl has
updates_handed (x ∷ xs) us u own has = by (updates_handed xs (with_update_of x.who x.statement us) u own.1 has)
  where
    test : Who → ℕ → Statement → Bool
    test who leaf s = same_who who (client_at u.client.0) && nat_eq leaf (u.time - 1) && same_statement s (ClientUpdate u)

    at : (who : Who) (leaf : ℕ) (s : Statement) → IsOwnUpdate who leaf s → Has u (with_update_of who s us) → Has u us ⊎ (test who leaf s ≡ true)
    at (parties.Client c) leaf (ClientUpdate v) h (inl same) =
        let mine : v ≡ u = sym same in
        inr
        (and_from (same_who (parties.Client c) (client_at u.client.0) && nat_eq leaf (u.time - 1)) (same_statement (ClientUpdate v) (ClientUpdate u))
        (and_from (same_who (parties.Client c) (client_at u.client.0)) (nat_eq leaf (u.time - 1))
        ((same_who-Decides (parties.Client c) (client_at u.client.0)).1 (λ i. parties.Client (record { 0 = (h.0 ∙ ap (λ (y : Update). y.client.0) mine) i })))
        (eq-eqb leaf (u.time - 1) (h.1 ∙ ap (λ (y : Update). y.time - 1) mine)))
        ((same_statement-Decides (ClientUpdate v) (ClientUpdate u)).1 (λ i. ClientUpdate (mine i))))
    at (parties.Client c) leaf (ClientUpdate v) h (inr among) = inl among
    at (parties.Client c) leaf _ h among = inl among
    at (parties.Server s) leaf t h among = inl among

    by : Has u (with_update_of x.who x.statement us) ⊎ (was_handed xs u ≡ true) → Has u us ⊎ (was_handed (x ∷ xs) u ≡ true)
    by (inr e) = inr (or_rest (test x.who x.leaf x.statement) (was_handed xs u) e)
    by (inl among) = first (at x.who x.leaf x.statement own.0 among)
      where
        first : Has u us ⊎ (test x.who x.leaf x.statement ≡ true) → Has u us ⊎ (was_handed (x ∷ xs) u ≡ true)
        first (inl h) = inl h
        first (inr e) = inr (or_left (test x.who x.leaf x.statement) (was_handed xs u) e)

-- A value that is a client's own in the plain world comes from its client.
pub own_comes : {Wire : Type 0} (d : Deployment Wire) (world : World Wire) (v : Value) → OwnUpdates world → IsOwn (plain_of d world) v → comes_from_client world.made v ≡ true
own_comes d world values.Noop own h = refl
own_comes d world (values.Update u) own h = by (updates_handed world.made [] u own h)
  where
    by : Has u [] ⊎ (was_handed world.made u ≡ true) → was_handed world.made u ≡ true
    by (inl none) = absurd none
    by (inr e) = e
