-- Place by place.
use Rattle.std.proofs.Common.{◌≡◌, ◌∙◌, ap, sym, subst, length, arith}
use Rattle.st_sealers.specs.Keeping.{AreOwn}
use Rattle.st_sealers.proofs.PlaceLaws.{own_nowhere, own_more, length_more}
use Rattle.st_sealers.proofs.sealers.ClientSealers.new.Goals as goal

pub loop-client-init : goal.loop-client-init
loop-client-init c = (ap length c.new-places.ensures.items, λ s. subst (AreOwn s) (sym c.new-places.ensures.items) (own_nowhere s))

pub loop-client-preserved : goal.loop-client-preserved
loop-client-preserved c = (
  ap length c.in_ok-push.ensures.items ∙ length_more c.loop-client.places.items c.loop-client._client c.loop-client.invariant.0,
  λ s. subst (AreOwn s) (sym c.in_ok-push.ensures.items) (own_more s c.loop-client.places.items (c.loop-client.invariant.1 s)),
)

pub returns-clause-keeps : goal.returns-clause-keeps
returns-clause-keeps c =
    λ s same.
    let last : c.loop-client._client ≡ c.args.clients = omega (arith, c.loop-client-test.false, c.loop-client.auto._client-end) in
    record { clients = c.loop-client.invariant.0 ∙ (last ∙ sym same); own = c.loop-client.invariant.1 s }
