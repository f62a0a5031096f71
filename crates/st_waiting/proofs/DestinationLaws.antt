-- Two destinations have one number exactly where they are the same.
use Rattle.std.proofs.Common.{◌≡◌, ◌≢◌, ap, ℕ, zero, suc, ◌+◌, ◌*◌, ◌<◌, Bool, true, false, cond, nat_eq, replicate, refl, arith}
use Rattle.std.specs.Prelude.{◌&&◌, nat_lt}
use Rattle.std.proofs.lemmas.Bool.{eqb-true, ltb-true, eq-eqb, ne_eqb, and_parts, both_ways}
use Rattle.st_words.specs.declared.ids.ClientId.{ClientId}
use Rattle.st_words.specs.declared.ids.ServerId.{ServerId}
use Rattle.st_schedule.specs.declared.line.Dest.{Dest}
use Rattle.st_schedule.specs.declared.line.Dest.TheVariants as dests
use Rattle.st_protocol.specs.World.{same_dest}
use Rattle.st_protocol.proofs.SameLaws.{same_server-Decides}
use Rattle.st_waiting.specs.Destinations.{key_of, no_mark, mark_at}

-- a client's number
client_key : (c : ClientId) → key_of (dests.Client c) < 65792 → (c.0 < 256) × (key_of (dests.Client c) ≡ c.0)
unfolding key_of
client_key c small = by_test (nat_lt c.0 256) refl small
  where
    by_test : (b : Bool) → nat_lt c.0 256 ≡ b → cond b c.0 65792 < 65792 → (c.0 < 256) × (cond b c.0 65792 ≡ c.0)
    by_test true e l = (ltb-true c.0 256 e, refl)
    by_test false e l = absurd (omega (arith, l))

-- a server's number
server_key : (s : ServerId) → key_of (dests.Server s) < 65792
    → (s.site < 256) × (s.index < 256) × (key_of (dests.Server s) ≡ (s.site + 1) * 256 + s.index)
unfolding key_of
server_key s small = by_test (nat_lt s.site 256 && nat_lt s.index 256) refl small
  where
    by_test : (b : Bool) → (nat_lt s.site 256 && nat_lt s.index 256) ≡ b → cond b ((s.site + 1) * 256 + s.index) 65792 < 65792
        → (s.site < 256) × (s.index < 256) × (cond b ((s.site + 1) * 256 + s.index) 65792 ≡ (s.site + 1) * 256 + s.index)
    by_test true e l =
        let parts = and_parts (nat_lt s.site 256) (nat_lt s.index 256) e in
        (ltb-true s.site 256 parts.0, ltb-true s.index 256 parts.1, refl)
    by_test false e l = absurd (omega (arith, l))

pub same_key : (a b : Dest) → same_dest a b ≡ true → key_of a ≡ key_of b
unfolding key_of
same_key (dests.Server a) (dests.Server b) e = ap (λ (s : ServerId). key_of (dests.Server s)) ((same_server-Decides a b).0 e)
same_key (dests.Client a) (dests.Client b) e = ap (λ (n : ℕ). cond (nat_lt n 256) n 65792) (eqb-true a.0 b.0 e)
same_key (dests.Server a) (dests.Client b) e = cc
same_key (dests.Client a) (dests.Server b) e = cc

key_same : (a b : Dest) → key_of b < 65792 → key_of a ≡ key_of b → same_dest a b ≡ true
key_same (dests.Server a) (dests.Server b) small e =
    let at_a = server_key a (rw e small) in
    let at_b = server_key b small in
    let sites : a.site ≡ b.site = omega (arith, e, at_a.0, at_a.1, at_a.2, at_b.0, at_b.1, at_b.2) in
    let indices : a.index ≡ b.index = omega (arith, sites, e, at_a.2, at_b.2) in
    (same_server-Decides a b).1 (λ i. record { site = sites i; index = indices i })
key_same (dests.Client a) (dests.Client b) small e =
    let at_a = client_key a (rw e small) in
    let at_b = client_key b small in
    eq-eqb a.0 b.0 (omega (arith, e, at_a.1, at_b.1))
key_same (dests.Server a) (dests.Client b) small e =
    let at_a = server_key a (rw e small) in
    let at_b = client_key b small in
    absurd (omega (arith, e, at_a.2, at_b.0, at_b.1))
key_same (dests.Client a) (dests.Server b) small e =
    let at_a = client_key a (rw e small) in
    let at_b = server_key b small in
    absurd (omega (arith, e, at_a.0, at_a.1, at_b.2))

pub other_key : (a b : Dest) → key_of b < 65792 → same_dest a b ≡ false → key_of a ≢ key_of b
other_key a b small e same = both_ways (same_dest a b) e (key_same a b small same)

pub key_test : (a b : Dest) → key_of b < 65792 → nat_eq (key_of a) (key_of b) ≡ same_dest a b
key_test a b small = by_test (same_dest a b) refl
  where
    by_test : (t : Bool) → same_dest a b ≡ t → nat_eq (key_of a) (key_of b) ≡ t
    by_test true e = eq-eqb (key_of a) (key_of b) (same_key a b e)
    by_test false e = ne_eqb (key_of a) (key_of b) (other_key a b small e)

-- where nothing was noted, nothing is there
pub mark_of_none : (n k : ℕ) → mark_at (replicate n no_mark) k ≡ no_mark
unfolding mark_at
mark_of_none zero k = refl
mark_of_none (suc n) zero = refl
mark_of_none (suc n) (suc k) = mark_of_none n k
