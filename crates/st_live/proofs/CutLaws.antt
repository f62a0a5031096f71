-- What a server's short state answers is cut already: nothing more is dropped of it.
use Rattle.std.proofs.Common.{◌≡◌, None}
use Rattle.st_protocol.specs.State.{open_term}
use Rattle.st_protocol.specs.Growth.{cuts}
use Rattle.st_state.specs.ClientsView.{last_of}
use Rattle.st_state.proofs.HandLaws.{open_none}
use Rattle.st_state.proofs.CutLaws.{slots_cut, hand_cut, own_cut, pending_cut}
use Rattle.st_live.specs.declared.live.Live.{Live}
use Rattle.st_live.specs.LiveView.{Past, place_here, asked}

pub asked_cut : (past : Past) (live : Live) → cuts (asked past live) ≡ asked past live
unfolding asked cuts
asked_cut past live =
    λ i. record {
      here = place_here live;
      slots = slots_cut (place_here live) live.slots i;
      making = (asked past live).making;
      log = (asked past live).log;
      pending = pending_cut (last_of live.clients) live.pending i;
      votes = record { local = λ k. None; global = λ k. None; unions = λ t k. (open_none (open_term (place_here live) t)) i; asked = λ k. None };
      unions = (asked past live).unions;
      reports = λ t k. (open_none (open_term (place_here live) t)) i;
      hand = hand_cut (place_here live) live.hand i;
      words = (asked past live).words;
      own = own_cut (place_here live) live.own i;
    }
