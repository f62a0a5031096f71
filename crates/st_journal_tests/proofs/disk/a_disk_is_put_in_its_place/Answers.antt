use Rattle.st_journal_tests.proofs.disk.a_disk_is_put_in_its_place.Goals as goal

pub put-requires-clause-server : goal.put-requires-clause-server
put-requires-clause-server g c = c.in_ok-rack.ensures.servers (record { site = 0; index = 0 })

pub put-requires-clause-inside : goal.put-requires-clause-inside
put-requires-clause-inside g c = c.in_ok-rack.ensures.inside (record { site = 0; index = 0 })
