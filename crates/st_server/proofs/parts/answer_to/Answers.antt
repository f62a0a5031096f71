-- What the short state stands for says where the server stands.
use Rattle.st_server.proofs.FillLaws.{known_is}
use Rattle.st_server.proofs.parts.answer_to.Goals as goal

pub answer_assign-requires : goal.answer_assign-requires
answer_assign-requires c = known_is c.args.live.now c.requires.sound.answers c.requires.sound.stands c.requires.sound.bound

pub answer_share-requires-clause-here : goal.answer_share-requires-clause-here
answer_share-requires-clause-here c = known_is c.args.live.now c.requires.sound.answers c.requires.sound.stands c.requires.sound.bound

pub answer_certificate-requires-clause-here : goal.answer_certificate-requires-clause-here
answer_certificate-requires-clause-here c = known_is c.args.live.now c.requires.sound.answers c.requires.sound.stands c.requires.sound.bound
