-- Equality of values, as a test.
use Rattle.std.specs.Prelude.{◌==◌, ◌&&◌, Bool, true, false, bytes_eq}
use Rattle.st_words.specs.declared.value.Update.{Update}
use Rattle.st_words.specs.declared.value.Value.{Value}
use Rattle.st_words.specs.declared.value.Value.TheVariants as values

-- the same client, time and operation
abbrev pub update_eq : Update → Update → Bool
update_eq a b = a.client.0 == b.client.0 && a.time == b.time && bytes_eq a.op b.op

-- both no update, or the same update
abbrev pub value_eq : Value → Value → Bool
value_eq values.Noop values.Noop = true
value_eq (values.Update a) (values.Update b) = update_eq a b
value_eq _ _ = false
