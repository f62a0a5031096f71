-- The places of a rack of disks in memory.
use Rattle.std.proofs.Common.{◌≡◌, ◌≤◌, ◌&&◌, ℕ, replicate, arith}
use Rattle.std.specs.Prelude.{IsTrue, nat_lt}
use Rattle.std.proofs.lemmas.Bool.{and_parts, and_from, ltb-true, lt-ltb}
use Rattle.std.proofs.lemmas.List.{get_or-replicate}
use Rattle.st_words.specs.declared.ids.ServerId.{ServerId}
use Rattle.st_disk.specs.Racks.{place_of, has_place, count_of}

-- a server of a rack has no fault yet
pub new_count : (who : ServerId) → IsTrue (has_place who) → count_of (replicate 49 0) who ≡ 0
new_count who has =
    let parts = and_parts (nat_lt who.site 7) (nat_lt who.index 7) has in
    let site = ltb-true who.site 7 parts.0 in
    let index = ltb-true who.index 7 parts.1 in
    rw (lt-ltb who.site 7 site) (rw (lt-ltb who.index 7 index) (get_or-replicate 49 (place_of who) 0 0 (omega arith)))

-- a server of few sites with few servers each has a place
pub few_have_places : (who : ServerId) (sites servers : ℕ) → sites ≤ 7 → servers ≤ 7 → IsTrue (nat_lt who.site sites && nat_lt who.index servers) → IsTrue (has_place who)
few_have_places who sites servers few each has =
    let parts = and_parts (nat_lt who.site sites) (nat_lt who.index servers) has in
    let site = ltb-true who.site sites parts.0 in
    let index = ltb-true who.index servers parts.1 in
    and_from (nat_lt who.site 7) (nat_lt who.index 7) (lt-ltb who.site 7 (omega arith)) (lt-ltb who.index 7 (omega arith))
