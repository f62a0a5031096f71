-- A server that did nothing yet.
use Rattle.std.specs.Prelude.{◌≡◌}
use Rattle.st_message.specs.declared.here.Here.{Here}

-- in view and local view 0, with nothing executed and no leaf used
pub record IsFresh (here : Here) : Type 0 where
  pub view : here.view.0 ≡ 0
  pub local : here.local.0 ≡ 0
  pub executed : here.executed ≡ 0
  pub leaf : here.leaf ≡ 0
