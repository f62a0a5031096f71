-- One item more.
use Rattle.std.proofs.Common.{◌≡◌, ◌+◌, ◌++◌, length, take, arith}
use Rattle.std.specs.List.{flat_map}
use Rattle.std.proofs.lemmas.List.{length-append}
use Rattle.st_words.specs.Spelling.{item_spelling}
use Rattle.st_wire.proofs.Laying.{each_more}
use Rattle.st_wire.proofs.Sizes.{item_length}
use Rattle.st_wire.proofs.size.item_list_size.Goals as goal

pub loop-item-preserved : goal.loop-item-preserved
loop-item-preserved c =
    let before = flat_map item_spelling (take c.loop-item.item-index c.args.items.now) in
    rw (each_more item_spelling c.args.items.now c.loop-item.item-index c.item-item.result c.loop-item-test.true c.item-item.is)
    (omega (arith, length-append before (item_spelling c.item-item.result), item_length c.item-item.result, c.value_size.ensures.size, c.loop-item.invariant.0), omega (arith, c.value_size.ensures.most, c.loop-item.invariant.1))
